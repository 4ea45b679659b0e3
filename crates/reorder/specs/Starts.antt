-- How a part keeps the starts of its bytes: as runs of neighbours with one start.
use Rattle.std.specs.Prelude.{◌≡◌, ⊤, ℕ, ◌+◌, ◌-◌, cond, nat_lt, min, List, [], ◌∷◌, ◌++◌, length, take, drop, ℤ}
use Rattle.overpolicy.specs.Winner.{wins}
use Rattle.reorder.specs.declared.start_run.StartRun.{StartRun}
use Rattle.reorder.specs.declared.over.Over.{Over}
use Rattle.reorder.specs.Frags.{Cell, Frag, cells_of, cells_with, bytes_in}

-- how many bytes runs have
abbrev pub run_bytes : List StartRun → ℕ
run_bytes [] = 0
run_bytes (r ∷ rs) = r.len + run_bytes rs

-- bytes with the starts of runs
abbrev pub cells_in : List StartRun → List ℕ → List Cell
cells_in [] bytes = []
cells_in (r ∷ rs) bytes = cells_of r.start (take r.len bytes) ++ cells_in rs (drop r.len bytes)

-- a run, if it has a byte
abbrev pub piece : ℕ → ℤ → List StartRun
piece len start = cond (nat_lt 0 len) (record { len = len; start = start } ∷ []) []

-- The places in a run, which stands from a position on, between which a later segment's bytes win.
abbrev pub first_taken : Over → ℕ → StartRun → ℕ
first_taken over at r = cond (wins over.policy r.start over.start) (min (over.from - at) r.len) 0

abbrev pub end_taken : Over → ℕ → StartRun → ℕ
end_taken over at r = cond (wins over.policy r.start over.start) (min (over.to - at) r.len) 0

-- a run, and runs, behind it
abbrev pub run_with : Over → ℕ → StartRun → List StartRun
run_with over at r = piece (first_taken over at r) r.start ++ (piece (end_taken over at r - first_taken over at r) over.start ++ piece (r.len - end_taken over at r) r.start)

abbrev pub runs_with : Over → ℕ → List StartRun → List StartRun
runs_with over at [] = []
runs_with over at (r ∷ rs) = run_with over at r ++ runs_with over (at + r.len) rs

-- the bytes of a run, and of runs, with those that win
abbrev pub run_bytes_with : Over → List ℕ → ℕ → StartRun → List ℕ → List ℕ
run_bytes_with over later at r bytes =
    take (first_taken over at r) bytes
    ++ (take (end_taken over at r - first_taken over at r) (drop (at + first_taken over at r - over.from) later)
    ++ take (r.len - end_taken over at r) (drop (end_taken over at r) bytes))

abbrev pub bytes_with : Over → List ℕ → ℕ → List StartRun → List ℕ → List ℕ
bytes_with over later at [] bytes = []
bytes_with over later at (r ∷ rs) bytes = run_bytes_with over later at r bytes ++ bytes_with over later (at + r.len) rs (drop r.len bytes)

-- bytes of which so many, from a place on, are others
abbrev pub written : List ℕ → ℕ → List ℕ → ℕ → List ℕ
written bytes place others n = take place bytes ++ take n others ++ drop (place + n) bytes

-- runs that have, of the bytes of a part with those of a later segment that win, the starts that these have
pub record AreSettled {C : Type 0} (over : Over) (f : Frag C) (rs : List StartRun) : Type 0 where
  pub counted : run_bytes rs ≡ length f.cells
  pub starts : (later : List ℕ) → over.to ≡ over.from + length later
      → cells_in rs (bytes_in (cells_with over.policy over.start over.from later f.at f.cells)) ≡ cells_with over.policy over.start over.from later f.at f.cells

-- of parts, one after the other
abbrev pub AllSettled : {C : Type 0} → Over → List (Frag C) → List (List StartRun) → Type 0
AllSettled over fs [] = ⊤
AllSettled over [] (rs ∷ more) = ⊥
AllSettled over (f ∷ fs) (rs ∷ more) = AreSettled over f rs × AllSettled over fs more
