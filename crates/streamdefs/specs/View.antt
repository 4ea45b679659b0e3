-- What a prefix of a history makes of one direction: the front, the bytes held past it, and the flow of bytes passed.
use Rattle.std.specs.Prelude.{ℕ, suc, ◌-◌, Bool, true, false, cond, ◌||◌, ◌==◌, nat_lt, nat_le, List, [], ◌∷◌, ◌++◌, length, drop, Option, Some, None, filter}
use Rattle.histbook.specs.declared.look_entry.LookEntry.{LookEntry}
use Rattle.streamdefs.specs.Reorder.{Charge, Placed, stands_in, stretches}

-- The held bytes stand by ascending position, all at or past the front. A position below the front that isn't in the flow
-- was passed without a byte.
pub record View : Type 0 where
  pub front : ℕ
  pub held : List Placed
  pub flow : List Placed

-- before any entry
abbrev pub opening : View
opening = record { front = 0; held = []; flow = [] }

-- What becomes of a segment's byte, from the view before the segment. `Shown` and `Kept` are duplicates: the position has
-- been passed with a byte, or is held. `Wanted` is taken or shed.
pub data Fate : Type 0 where
  Late : Fate
  Shown : Fate
  Cut : Fate
  Kept : Fate
  Wanted : Fate

-- whether a position is at or past a cutoff
abbrev pub is_past : Option ℕ → ℕ → Bool
is_past None position = false
is_past (Some cutoff) position = nat_le cutoff position

-- the fate of a byte at a position, with the cutoff in force: the first that fits
abbrev pub fate : View → Option ℕ → ℕ → Fate
fate view cutoff position =
    cond (nat_lt position view.front) (cond (stands_in view.flow position) Shown Late)
    (cond (is_past cutoff position) Cut (cond (stands_in view.held position) Kept Wanted))

-- whether two fates are the same
abbrev pub is_fate : Fate → Fate → Bool
is_fate Late Late = true
is_fate Shown Shown = true
is_fate Cut Cut = true
is_fate Kept Kept = true
is_fate Wanted Wanted = true
is_fate _ _ = false

-- the runs of a segment: the stretches of its wanted bytes
abbrev pub runs : View → Option ℕ → List Placed → List (List Placed)
runs view cutoff bytes = stretches (filter (λ p. is_fate Wanted (fate view cutoff p.at)) bytes)

-- an ask of so many bytes; that for a run also has its first position
pub record Ask : Type 0 where
  pub bytes : ℕ
  pub from : Option ℕ

-- a run is asked for as a whole
abbrev pub ask_for_run : List Placed → Ask
ask_for_run [] = record { bytes = 0; from = None }
ask_for_run (p ∷ ps) = record { bytes = suc (length ps); from = Some p.at }

-- The asks for these runs by ascending position, up to the first that is refused, given the looks so far: those that have
-- their look, and the next one.
abbrev pub run_asks : List (List Placed) → List LookEntry → List Ask
run_asks [] looks = []
run_asks (run ∷ rest) [] = ask_for_run run ∷ []
run_asks (run ∷ rest) (look ∷ looks) = ask_for_run run ∷ cond look.granted (run_asks rest looks) []

-- the charge of a granted look
abbrev pub charge_of : LookEntry → Charge
charge_of look = record { bytes = look.asked; stamp = look.look.stamp }

-- a run with the charge of its look at its first byte
abbrev pub charged : LookEntry → List Placed → List Placed
charged look [] = []
charged look (p ∷ ps) = record p { charge = Some (charge_of look) } ∷ ps

-- the granted runs, each with its charge: those before the first that is refused
abbrev pub granted : List (List Placed) → List LookEntry → List (List Placed)
granted [] looks = []
granted (run ∷ rest) [] = []
granted (run ∷ rest) (look ∷ looks) = cond look.granted (charged look run ∷ granted rest looks) []

-- The held bytes that move to the flow, from the front on: without a break always, and across a hole where `jumps` holds of
-- the number of bytes behind it.
abbrev pub passed : (ℕ → Bool) → ℕ → List Placed → List Placed
passed jumps front [] = []
passed jumps front (h ∷ hs) =
    let jump = jumps (suc (length hs)) in
    cond ((h.at == front) || jump) (h ∷ passed jumps (suc h.at) hs) []

-- where the front stands once these were passed: behind the last one
abbrev pub front_after : ℕ → List Placed → ℕ
front_after front [] = front
front_after front (p ∷ ps) = front_after (suc p.at) ps

-- the view once these of the held bytes were passed, which are the first ones
abbrev pub after_passing : View → List Placed → List Placed → View
after_passing view held gone = record {
  front = front_after view.front gone;
  held = drop (length gone) held;
  flow = view.flow ++ gone;
}

-- no hole is jumped
abbrev pub never : ℕ → Bool
never behind = false

-- each hole is jumped
abbrev pub always : ℕ → Bool
always behind = true

-- a hole is jumped while more than so many bytes stand behind it
abbrev pub above : ℕ → ℕ → Bool
above most behind = nat_lt most behind

-- the front after one jump: the least held position
abbrev pub least : ℕ → List Placed → ℕ
least front [] = front
least front (h ∷ hs) = h.at

-- positions that were passed without a byte
pub record Gap : Type 0 where
  pub at : ℕ
  pub len : ℕ

-- the gaps of a flow that begins behind a position: between neighbours whose positions differ by more than one
abbrev pub gaps_from : ℕ → List Placed → List Gap
gaps_from front [] = []
gaps_from front (p ∷ ps) = cond (nat_lt front p.at) (record { at = front; len = p.at - front } ∷ gaps_from (suc p.at) ps) (gaps_from (suc p.at) ps)

-- the gaps of a direction, that before a first byte past 0 among them
abbrev pub gaps : View → List Gap
gaps view = gaps_from 0 view.flow
