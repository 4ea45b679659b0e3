-- A later segment's bytes over one part, run by run of its starts.
use Rattle.std.specs.Prelude.{◌≡◌, refl, ℕ, suc, ◌+◌, ◌-◌, ◌<◌, ◌≤◌, Bool, true, false, cond, nat_lt, nat_le, List, [], ◌∷◌, ◌++◌, length, take, drop, min, Option, Some, None, ℤ, slice_get}
use Prim.Native.Nat.{zero}
use Rattle.std.proofs.Common.{sym, ◌∙◌, ap, arith, append-nil, append_assoc, length-append, get_or, set}
use Rattle.std.proofs.Math.Seq.{drop-cons}
use Rattle.std.proofs.lemmas.Bool.Decides.{nat_tests}
use Rattle.std.proofs.lemmas.List.{length-set, take_all, take_at, drop_at, map-append, length-take-le, length-map, length-drop, take-append-drop, drop-drop, get_or-drop}
use Rattle.std.proofs.lemmas.List.Edits.{paste_none, paste_more}
use Rattle.overpolicy.specs.declared.policy.Policy.{Policy}
use Rattle.overpolicy.specs.Winner.{wins}
use Rattle.reorder.specs.declared.start_run.StartRun.{StartRun}
use Rattle.reorder.specs.declared.over.Over.{Over}
use Rattle.reorder.specs.Frags.{Cell, cells_of, bytes_in, byte_at, cell_with, cells_with}
use Rattle.reorder.specs.Starts.{run_bytes, cells_in, piece, first_taken, end_taken, run_with, runs_with, run_bytes_with, bytes_with, written}

-- Tests that are decided.
pub le_yes : (a b : ℕ) → a ≤ b → nat_le a b ≡ true
le_yes a b h = grind (arith, nat_tests)

pub le_no : (a b : ℕ) → b < a → nat_le a b ≡ false
le_no a b h = grind (arith, nat_tests)

pub lt_yes : (a b : ℕ) → a < b → nat_lt a b ≡ true
lt_yes a b h = grind (arith, nat_tests)

pub lt_no : (a b : ℕ) → b ≤ a → nat_lt a b ≡ false
lt_no a b h = grind (arith, nat_tests)

was_lt : (a b : ℕ) → nat_lt a b ≡ true → a < b
was_lt a b t = grind (arith, nat_tests)

was_not : (a b : ℕ) → nat_lt a b ≡ false → b ≤ a
was_not a b t = grind (arith, nat_tests)

-- Cells and runs.
length_in : (rs : List StartRun) (bytes : List ℕ) → run_bytes rs ≡ length bytes → length (cells_in rs bytes) ≡ length bytes
length_in [] bytes e = e
length_in (r ∷ rs) bytes e =
    let part : length (take r.len bytes) ≡ r.len = length-take-le r.len bytes (omega arith) in
    let rest : length (drop r.len bytes) ≡ length bytes - r.len = length-drop r.len bytes in
    let more : length (cells_in rs (drop r.len bytes)) ≡ length (drop r.len bytes) = length_in rs (drop r.len bytes) (omega arith) in
    let cells : length (cells_of r.start (take r.len bytes)) ≡ length (take r.len bytes) = length-map (take r.len bytes) (λ byte. record { byte = byte; start = r.start }) in
    omega (arith, length-append (cells_of r.start (take r.len bytes)) (cells_in rs (drop r.len bytes)), part, rest, more, cells)

bytes_of_cells : (start : ℤ) (bytes : List ℕ) → bytes_in (cells_of start bytes) ≡ bytes
bytes_of_cells start [] = refl
bytes_of_cells start (b ∷ bytes) = ap (λ bs. b ∷ bs) (bytes_of_cells start bytes)

nothing : (bytes : List ℕ) → 0 ≡ length bytes → [] ≡ bytes
nothing [] e = refl
nothing (b ∷ bytes) e = absurd (omega arith)

-- the bytes of a part are its cells'
pub bytes_are : (rs : List StartRun) (bytes : List ℕ) → run_bytes rs ≡ length bytes → bytes_in (cells_in rs bytes) ≡ bytes
bytes_are [] bytes e = nothing bytes e
bytes_are (r ∷ rs) bytes e =
    let rest : run_bytes rs ≡ length (drop r.len bytes) = omega (arith, length-drop r.len bytes) in
    map-append (λ (c : Cell). c.byte) (cells_of r.start (take r.len bytes)) (cells_in rs (drop r.len bytes))
    ∙ ap (λ bs. bs ++ bytes_in (cells_in rs (drop r.len bytes))) (bytes_of_cells r.start (take r.len bytes))
    ∙ ap (λ bs. take r.len bytes ++ bs) (bytes_are rs (drop r.len bytes) rest)
    ∙ take-append-drop r.len bytes

-- as many cells as bytes
pub cells_count : (rs : List StartRun) (bytes : List ℕ) → run_bytes rs ≡ length bytes → length bytes ≡ length (cells_in rs bytes)
cells_count rs bytes e = sym (length_in rs bytes e)

-- bytes of one start
pub one_run : (start : ℤ) (bytes : List ℕ) (n : ℕ) → n ≡ length bytes → cells_in (record { len = n; start = start } ∷ []) bytes ≡ cells_of start bytes
one_run start bytes n e = append-nil (cells_of start (take n bytes)) ∙ ap (cells_of start) (take_all n bytes (omega arith))

-- A later segment over cells.
missing : (bytes : List ℕ) (k : ℕ) → length bytes ≤ k → slice_get bytes k ≡ None
missing [] k h = refl
missing (b ∷ bytes) zero h = absurd (omega arith)
missing (b ∷ bytes) (suc k) h = missing bytes k (omega arith)

there : (bytes : List ℕ) (k : ℕ) → k < length bytes → slice_get bytes k ≡ Some (get_or bytes k 0)
there [] k h = absurd (omega arith)
there (b ∷ bytes) zero h = refl
there (b ∷ bytes) (suc k) h = there bytes k (omega arith)

with-append : (policy : Policy) (start : ℤ) (from : ℕ) (later : List ℕ) (at : ℕ) (xs ys : List Cell)
    → cells_with policy start from later at (xs ++ ys) ≡ cells_with policy start from later at xs ++ cells_with policy start from later (at + length xs) ys
with-append policy start from later at [] ys = ap (λ n. cells_with policy start from later n ys) (omega arith)
with-append policy start from later at (x ∷ xs) ys =
    ap (λ cs. cell_with policy start x (byte_at from later at) ∷ cs)
    (with-append policy start from later (suc at) xs ys
    ∙ ap (λ n. cells_with policy start from later (suc at) xs ++ cells_with policy start from later n ys) (omega arith))

kept_cell : (policy : Policy) (start : ℤ) (c : Cell) (brought : Option ℕ) → brought ≡ None → cell_with policy start c brought ≡ c
kept_cell policy start c brought e = ap (cell_with policy start c) e

-- cells before a segment, and behind it
pub with_before : (policy : Policy) (start : ℤ) (from : ℕ) (later : List ℕ) (at : ℕ) (cs : List Cell) → length cs ≤ from - at → cells_with policy start from later at cs ≡ cs
with_before policy start from later at [] h = refl
with_before policy start from later at (c ∷ cs) h =
    (λ i. kept_cell policy start c (byte_at from later at) none i ∷ with_before policy start from later (suc at) cs (omega arith) i)
  where
    none : byte_at from later at ≡ None
    none = ap (λ b. cond b (slice_get later (at - from)) None) (le_no from at (omega arith))

pub with_behind : (policy : Policy) (start : ℤ) (from : ℕ) (later : List ℕ) (at : ℕ) (cs : List Cell) → (0 < length cs → from + length later ≤ at) → cells_with policy start from later at cs ≡ cs
with_behind policy start from later at [] h = refl
with_behind policy start from later at (c ∷ cs) h =
    (λ i. kept_cell policy start c (byte_at from later at) (none (nat_le from at)) i ∷ with_behind policy start from later (suc at) cs (λ l. omega (arith, beyond)) i)
  where
    beyond : from + length later ≤ at
    beyond = h (omega arith)

    none : (b : Bool) → cond b (slice_get later (at - from)) None ≡ None
    none true = missing later (at - from) (omega (arith, h (omega arith)))
    none false = refl

-- cells of a start that stays
old_cell : (policy : Policy) (start : ℤ) (c : Cell) (brought : Option ℕ) → wins policy c.start start ≡ false → cell_with policy start c brought ≡ c
old_cell policy start c None e = refl
old_cell policy start c (Some byte) e = ap (λ b. cond b (record { byte = byte; start = start }) c) e

with_old : (policy : Policy) (start : ℤ) (from : ℕ) (later : List ℕ) (at : ℕ) (old : ℤ) (bytes : List ℕ) → wins policy old start ≡ false
    → cells_with policy start from later at (cells_of old bytes) ≡ cells_of old bytes
with_old policy start from later at old [] e = refl
with_old policy start from later at old (b ∷ bytes) e =
    (λ i. old_cell policy start (record { byte = b; start = old }) (byte_at from later at) e i ∷ with_old policy start from later (suc at) old bytes e i)

-- cells of a start that gives way
with_new : (policy : Policy) (start : ℤ) (from : ℕ) (later : List ℕ) (at d : ℕ) (old : ℤ) (bytes : List ℕ) → wins policy old start ≡ true
    → (0 < length bytes → (at ≡ from + d) × (d + length bytes ≤ length later))
    → cells_with policy start from later at (cells_of old bytes) ≡ cells_of start (take (length bytes) (drop d later))
with_new policy start from later at d old [] w h = refl
with_new policy start from later at d old (b ∷ bytes) w h =
    (λ i. changed (at_place (h (omega arith)).0 (omega (arith, (h (omega arith)).1))) i ∷ with_new policy start from later (suc at) (suc d) old bytes w (λ l. (omega (arith, (h (omega arith)).0), omega (arith, (h (omega arith)).1))) i)
    ∙ ap (λ bs. cells_of start (take (suc (length bytes)) bs)) (sym (drop-cons later d 0 (omega (arith, (h (omega arith)).1))))
  where
    rest : at ≡ from + d → at - from ≡ d
    rest e = omega arith

    at_place : at ≡ from + d → d < length later → byte_at from later at ≡ Some (get_or later d 0)
    at_place e l =
        ap (λ b. cond b (slice_get later (at - from)) None) (le_yes from at (omega arith))
        ∙ ap (slice_get later) (rest e)
        ∙ there later d l

    changed : byte_at from later at ≡ Some (get_or later d 0) → cell_with policy start (record { byte = b; start = old }) (byte_at from later at) ≡ record { byte = get_or later d 0; start = start }
    changed found =
        ap (cell_with policy start (record { byte = b; start = old })) found
        ∙ ap (λ b'. cond b' (record { byte = get_or later d 0; start = start }) (record { byte = b; start = old })) w

-- Pieces of runs.
in_piece : (n : ℕ) (start : ℤ) (rs : List StartRun) (xs ys : List ℕ) → length xs ≡ n → cells_in (piece n start ++ rs) (xs ++ ys) ≡ cells_of start xs ++ cells_in rs ys
in_piece n start rs [] ys e = ap (λ b. cells_in (cond b (record { len = n; start = start } ∷ []) [] ++ rs) ys) (lt_no 0 n (omega arith))
in_piece n start rs (x ∷ xs) ys e =
    ap (λ b. cells_in (cond b (record { len = n; start = start } ∷ []) [] ++ rs) (x ∷ xs ++ ys)) (lt_yes 0 n (omega arith))
    ∙ (λ i. cells_of start (take_at (x ∷ xs) ys n e i) ++ cells_in rs (drop_at (x ∷ xs) ys n e i))

in_pieces : (a b c : ℕ) (s t u : ℤ) (rs : List StartRun) (xs ys zs rest : List ℕ) → length xs ≡ a → length ys ≡ b → length zs ≡ c
    → cells_in ((piece a s ++ (piece b t ++ piece c u)) ++ rs) ((xs ++ (ys ++ zs)) ++ rest) ≡ (cells_of s xs ++ (cells_of t ys ++ cells_of u zs)) ++ cells_in rs rest
in_pieces a b c s t u rs xs ys zs rest e f g =
    (λ i. cells_in (runs i) (bytes i))
    ∙ in_piece a s (piece b t ++ (piece c u ++ rs)) xs (ys ++ (zs ++ rest)) e
    ∙ ap (λ cs. cells_of s xs ++ cs) (in_piece b t (piece c u ++ rs) ys (zs ++ rest) f)
    ∙ ap (λ cs. cells_of s xs ++ (cells_of t ys ++ cs)) (in_piece c u rs zs rest g)
    ∙ sym (append_assoc (cells_of s xs) (cells_of t ys ++ cells_of u zs) (cells_in rs rest) ∙ ap (λ cs. cells_of s xs ++ cs) (append_assoc (cells_of t ys) (cells_of u zs) (cells_in rs rest)))
  where
    runs : (piece a s ++ (piece b t ++ piece c u)) ++ rs ≡ piece a s ++ (piece b t ++ (piece c u ++ rs))
    runs = append_assoc (piece a s) (piece b t ++ piece c u) rs ∙ ap (λ rs. piece a s ++ rs) (append_assoc (piece b t) (piece c u) rs)

    bytes : (xs ++ (ys ++ zs)) ++ rest ≡ xs ++ (ys ++ (zs ++ rest))
    bytes = append_assoc xs (ys ++ zs) rest ∙ ap (λ bs. xs ++ bs) (append_assoc ys zs rest)

-- Bytes in three pieces.
take-add : (a m : ℕ) (xs : List ℕ) → take (a + m) xs ≡ take a xs ++ take m (drop a xs)
take-add zero m xs = let e : 0 + m ≡ m = omega arith in ap (λ (n : ℕ). take n xs) e
take-add (suc a) zero [] = let e : suc a + 0 ≡ suc a = omega arith in ap (λ (n : ℕ). take n []) e
take-add (suc a) (suc m) [] = let e : suc a + suc m ≡ suc (a + suc m) = omega arith in ap (λ (n : ℕ). take n []) e
take-add (suc a) m (x ∷ xs) = (let e : suc a + m ≡ suc (a + m) = omega arith in ap (λ (n : ℕ). take n (x ∷ xs)) e) ∙ ap (λ ys. x ∷ ys) (take-add a m xs)

three : (bytes : List ℕ) (a b n : ℕ) → a ≤ b → b ≤ n → take n bytes ≡ take a bytes ++ (take (b - a) (drop a bytes) ++ take (n - b) (drop b bytes))
three bytes a b n l h =
    ap (λ (k : ℕ). take k bytes) sum
    ∙ take-add a ((b - a) + (n - b)) bytes
    ∙ ap (λ bs. take a bytes ++ bs) (take-add (b - a) (n - b) (drop a bytes))
    ∙ ap (λ bs. take a bytes ++ (take (b - a) (drop a bytes) ++ take (n - b) bs)) (drop-drop (b - a) a bytes ∙ ap (λ (k : ℕ). drop k bytes) second)
  where
    sum : n ≡ a + ((b - a) + (n - b))
    sum = omega arith

    second : a + (b - a) ≡ b
    second = omega arith

cells-append : (start : ℤ) (xs ys : List ℕ) → cells_of start (xs ++ ys) ≡ cells_of start xs ++ cells_of start ys
cells-append start xs ys = map-append (λ byte. record { byte = byte; start = start }) xs ys

pub cells_length : (start : ℤ) (xs : List ℕ) → length (cells_of start xs) ≡ length xs
cells_length start xs = length-map xs (λ byte. record { byte = byte; start = start })

middle : (bytes : List ℕ) (a b : ℕ) → a ≤ b → b ≤ length bytes → length (take (b - a) (drop a bytes)) ≡ b - a
middle bytes a b l h = length-take-le (b - a) (drop a bytes) (omega (arith, length-drop a bytes))

-- the bytes of one run: before, within and behind those that are taken
taken_is : (policy : Policy) (start : ℤ) (from : ℕ) (later : List ℕ) (at : ℕ) (old : ℤ) (bytes : List ℕ) (a b n : ℕ) → wins policy old start ≡ true
    → a ≤ b → b ≤ n → n ≤ length bytes → a ≤ from - at → (b < n → from + length later ≤ at + b) → (a < b → (from ≤ at + a) × (at + b ≤ from + length later))
    → cells_with policy start from later at (cells_of old (take n bytes))
    ≡ cells_of old (take a bytes) ++ (cells_of start (take (b - a) (drop (at + a - from) later)) ++ cells_of old (take (n - b) (drop b bytes)))
taken_is policy start from later at old bytes a b n w ab bn nl before behind within =
    ap K (ap (cells_of old) (three bytes a b n ab bn) ∙ cells-append old xs (ys ++ zs) ∙ ap (λ cs. cells_of old xs ++ cs) (cells-append old ys zs))
    ∙ with-append policy start from later at (cells_of old xs) (cells_of old ys ++ cells_of old zs)
    ∙ ap (λ cs. K (cells_of old xs) ++ cs) (with-append policy start from later (at + length (cells_of old xs)) (cells_of old ys) (cells_of old zs))
    ∙ (λ i. with_before policy start from later at (cells_of old xs) (omega (arith, before, xs_is)) i
    ++ (with_new policy start from later (at + length (cells_of old xs)) (at + a - from) old ys w (λ l. let h = within (omega (arith, l, ys_is)) in (omega (arith, h.0, xs_is), omega (arith, h.0, h.1, ys_is))) i
    ++ with_behind policy start from later (at + length (cells_of old xs) + length (cells_of old ys)) (cells_of old zs) (λ l. let h = behind (omega (arith, l, zs_is)) in omega (arith, h, xs_is, ys'_is)) i))
    ∙ ap (λ (k : ℕ). cells_of old xs ++ (cells_of start (take k (drop (at + a - from) later)) ++ cells_of old zs)) ys_is
  where
    K : List Cell → List Cell
    K cs = cells_with policy start from later at cs

    xs : List ℕ
    xs = take a bytes

    ys : List ℕ
    ys = take (b - a) (drop a bytes)

    zs : List ℕ
    zs = take (n - b) (drop b bytes)

    xs_is : length (cells_of old (take a bytes)) ≡ a
    xs_is = cells_length old (take a bytes) ∙ length-take-le a bytes (omega arith)

    ys_is : length (take (b - a) (drop a bytes)) ≡ b - a
    ys_is = middle bytes a b ab (omega arith)

    ys'_is : length (cells_of old (take (b - a) (drop a bytes))) ≡ b - a
    ys'_is = cells_length old (take (b - a) (drop a bytes)) ∙ middle bytes a b ab (omega arith)

    zs_is : length (cells_of old (take (n - b) (drop b bytes))) ≡ n - b
    zs_is = cells_length old (take (n - b) (drop b bytes)) ∙ middle bytes b n bn nl

run_is : (over : Over) (later : List ℕ) (at : ℕ) (r : StartRun) (bytes : List ℕ) → over.to ≡ over.from + length later → r.len ≤ length bytes
    → cells_with over.policy over.start over.from later at (cells_of r.start (take r.len bytes))
    ≡ cells_of r.start (take (first_taken over at r) bytes)
    ++ (cells_of over.start (take (end_taken over at r - first_taken over at r) (drop (at + first_taken over at r - over.from) later))
    ++ cells_of r.start (take (r.len - end_taken over at r) (drop (end_taken over at r) bytes)))
run_is over later at r bytes e l = by (wins over.policy r.start over.start) refl
  where
    by : (w : Bool) → wins over.policy r.start over.start ≡ w
        → cells_with over.policy over.start over.from later at (cells_of r.start (take r.len bytes))
        ≡ cells_of r.start (take (cond w (min (over.from - at) r.len) 0) bytes)
        ++ (cells_of over.start (take (cond w (min (over.to - at) r.len) 0 - cond w (min (over.from - at) r.len) 0) (drop (at + cond w (min (over.from - at) r.len) 0 - over.from) later))
        ++ cells_of r.start (take (r.len - cond w (min (over.to - at) r.len) 0) (drop (cond w (min (over.to - at) r.len) 0) bytes)))
    by true w =
        taken_is over.policy over.start over.from later at r.start bytes (min (over.from - at) r.len) (min (over.to - at) r.len) r.len w
        (omega arith) (omega arith) l (omega arith) (λ h. omega arith) (λ h. (omega arith, omega arith))
    by false w = with_old over.policy over.start over.from later at r.start (take r.len bytes) w ∙ ap (λ (k : ℕ). cells_of r.start (take k bytes)) (omega arith)

-- what is taken of a run lies within it and within the segment
pub taken_bounds : (over : Over) (at : ℕ) (r : StartRun) → over.from ≤ over.to → (first_taken over at r ≤ end_taken over at r) × (end_taken over at r ≤ r.len)
taken_bounds over at r h = by (wins over.policy r.start over.start)
  where
    by : (w : Bool) → (cond w (min (over.from - at) r.len) 0 ≤ cond w (min (over.to - at) r.len) 0) × (cond w (min (over.to - at) r.len) 0 ≤ r.len)
    by true = (omega arith, omega arith)
    by false = (omega arith, omega arith)

pub taken_within : (over : Over) (at : ℕ) (r : StartRun) → first_taken over at r < end_taken over at r → (over.from ≤ at + first_taken over at r) × (at + end_taken over at r ≤ over.to)
taken_within over at r = by (wins over.policy r.start over.start)
  where
    by : (w : Bool) → cond w (min (over.from - at) r.len) 0 < cond w (min (over.to - at) r.len) 0
        → (over.from ≤ at + cond w (min (over.from - at) r.len) 0) × (at + cond w (min (over.to - at) r.len) 0 ≤ over.to)
    by true h = (omega arith, omega arith)
    by false h = absurd (omega arith)

later_enough : (a b at from n : ℕ) → (a < b → (from ≤ at + a) × (at + b ≤ from + n)) → a ≤ b → (0 < b - a → (at + a - from) + (b - a) ≤ n)
later_enough a b at from n h l s = let k = h (omega arith) in omega (arith, k.0, k.1)

take_some : (d n : ℕ) (bytes : List ℕ) → (0 < n → d + n ≤ length bytes) → length (take n (drop d bytes)) ≡ n
take_some d zero bytes h = refl
take_some d (suc n) bytes h = length-take-le (suc n) (drop d bytes) (omega (arith, length-drop d bytes, h (omega arith)))

pub taken_length : (over : Over) (later : List ℕ) (at : ℕ) (r : StartRun) → over.to ≡ over.from + length later
    → length (take (end_taken over at r - first_taken over at r) (drop (at + first_taken over at r - over.from) later)) ≡ end_taken over at r - first_taken over at r
taken_length over later at r e =
    let bounds = taken_bounds over at r (omega arith) in
    take_some (at + first_taken over at r - over.from) (end_taken over at r - first_taken over at r) later
    (later_enough (first_taken over at r) (end_taken over at r) at over.from (length later)
    (λ h. let k = taken_within over at r h in (k.0, omega (arith, e, k.1))) bounds.0)

-- a later segment's bytes over the cells of a part
pub settled : (over : Over) (later : List ℕ) (at : ℕ) (rs : List StartRun) (bytes : List ℕ) → over.to ≡ over.from + length later → run_bytes rs ≡ length bytes
    → cells_in (runs_with over at rs) (bytes_with over later at rs bytes) ≡ cells_with over.policy over.start over.from later at (cells_in rs bytes)
settled over later at [] bytes e l = refl
settled over later at (r ∷ rs) bytes e l =
    let bounds = taken_bounds over at r (omega arith) in
    in_pieces a (b - a) (r.len - b) r.start over.start r.start (runs_with over (at + r.len) rs) (take a bytes) (take (b - a) (drop (at + a - over.from) later)) (take (r.len - b) (drop b bytes))
    (bytes_with over later (at + r.len) rs (drop r.len bytes))
    (length-take-le a bytes (omega (arith, bounds.0, bounds.1))) (taken_length over later at r e) (middle bytes b r.len bounds.1 (omega arith))
    ∙ (λ i. sym (run_is over later at r bytes e (omega arith)) i ++ settled over later (at + r.len) rs (drop r.len bytes) e (omega (arith, length-drop r.len bytes)) i)
    ∙ ap (λ (n : ℕ). K at (cells_of r.start (take r.len bytes)) ++ K n (cells_in rs (drop r.len bytes)))
    (omega (arith, cells_length r.start (take r.len bytes), length-take-le r.len bytes (omega arith)))
    ∙ sym (with-append over.policy over.start over.from later at (cells_of r.start (take r.len bytes)) (cells_in rs (drop r.len bytes)))
  where
    a : ℕ
    a = first_taken over at r

    b : ℕ
    b = end_taken over at r

    K : ℕ → List Cell → List Cell
    K n cs = cells_with over.policy over.start over.from later n cs

-- Sizes.
run_bytes-append : (rs qs : List StartRun) → run_bytes (rs ++ qs) ≡ run_bytes rs + run_bytes qs
run_bytes-append [] qs = omega arith
run_bytes-append (r ∷ rs) qs = omega (arith, run_bytes-append rs qs)

piece_bytes : (n : ℕ) (start : ℤ) → run_bytes (piece n start) ≡ n
piece_bytes n start = by (nat_lt 0 n) refl
  where
    by : (b : Bool) → nat_lt 0 n ≡ b → run_bytes (cond b (record { len = n; start = start } ∷ []) []) ≡ n
    by true e = omega arith
    by false e = grind (arith, nat_tests)

pieces_bytes : (a b c : ℕ) (s t u : ℤ) → run_bytes (piece a s ++ (piece b t ++ piece c u)) ≡ a + (b + c)
pieces_bytes a b c s t u =
    run_bytes-append (piece a s) (piece b t ++ piece c u)
    ∙ (λ i. piece_bytes a s i + (run_bytes-append (piece b t) (piece c u) ∙ (λ j. piece_bytes b t j + piece_bytes c u j)) i)

pub with_bytes : (over : Over) (at : ℕ) (rs : List StartRun) → over.from ≤ over.to → run_bytes (runs_with over at rs) ≡ run_bytes rs
with_bytes over at [] h = refl
with_bytes over at (r ∷ rs) h =
    let bounds = taken_bounds over at r h in
    run_bytes-append (run_with over at r) (runs_with over (at + r.len) rs)
    ∙ omega (arith, with_bytes over (at + r.len) rs h, bounds.0, bounds.1, pieces_bytes (first_taken over at r) (end_taken over at r - first_taken over at r) (r.len - end_taken over at r) r.start over.start r.start)

run_length : (over : Over) (later : List ℕ) (at : ℕ) (r : StartRun) (bytes : List ℕ) → over.to ≡ over.from + length later → r.len ≤ length bytes → length (run_bytes_with over later at r bytes) ≡ r.len
run_length over later at r bytes e l =
    let bounds = taken_bounds over at r (omega arith) in
    length-append (take a bytes) (ys ++ zs)
    ∙ ap (λ (n : ℕ). length (take a bytes) + n) (length-append ys zs)
    ∙ omega (arith, length-take-le a bytes (omega (arith, bounds.0, bounds.1)), taken_length over later at r e, middle bytes b r.len bounds.1 l, bounds.0, bounds.1)
  where
    a : ℕ
    a = first_taken over at r

    b : ℕ
    b = end_taken over at r

    ys : List ℕ
    ys = take (end_taken over at r - first_taken over at r) (drop (at + first_taken over at r - over.from) later)

    zs : List ℕ
    zs = take (r.len - end_taken over at r) (drop (end_taken over at r) bytes)

pub with_length : (over : Over) (later : List ℕ) (at : ℕ) (rs : List StartRun) (bytes : List ℕ) → over.to ≡ over.from + length later → run_bytes rs ≡ length bytes
    → length (bytes_with over later at rs bytes) ≡ length bytes
with_length over later at [] bytes e l = l
with_length over later at (r ∷ rs) bytes e l =
    length-append (run_bytes_with over later at r bytes) (bytes_with over later (at + r.len) rs (drop r.len bytes))
    ∙ omega (arith, l, run_length over later at r bytes e (omega arith), length-drop r.len bytes, with_length over later (at + r.len) rs (drop r.len bytes) e (omega (arith, length-drop r.len bytes)))

-- One step of each loop over the runs of a part.
pub runs_more : (over : Over) (made made' : List StartRun) (next : ℕ) (r : StartRun) (left rest all : List StartRun) → left ≡ r ∷ rest → made' ≡ made ++ run_with over next r
    → made ++ runs_with over next left ≡ all → made' ++ runs_with over (next + r.len) rest ≡ all
runs_more over made made' next r left rest all e f h =
    ap (λ rs. rs ++ runs_with over (next + r.len) rest) f
    ∙ append_assoc made (run_with over next r) (runs_with over (next + r.len) rest)
    ∙ ap (λ rs. made ++ runs_with over next rs) (sym e)
    ∙ h

pub count_more : (next n : ℕ) (r : StartRun) (left rest : List StartRun) → left ≡ r ∷ rest → next + run_bytes left ≡ n → (next + r.len) + run_bytes rest ≡ n
count_more next n r left rest e h = omega (arith, h, ap run_bytes e)

written_run : (d s : List ℕ) (place a b n : ℕ) → a ≤ b → b ≤ n → place + n ≤ length d
    → written d (place + a) s (b - a) ≡ (take place d ++ (take a (drop place d) ++ (take (b - a) s ++ take (n - b) (drop b (drop place d))))) ++ drop (place + n) d
written_run d s place a b n l h w =
    ap (λ xs. xs ++ m ++ drop (place + a + (b - a)) d) (take-add place a d)
    ∙ ap (λ xs. (take place d ++ take a (drop place d)) ++ m ++ xs) (rest ∙ sym (take-append-drop (n - b) (drop b (drop place d))) ∙ ap (λ xs. take (n - b) (drop b (drop place d)) ++ xs) last)
    ∙ five (take place d) (take a (drop place d)) m (take (n - b) (drop b (drop place d))) (drop (place + n) d)
  where
    m : List ℕ
    m = take (b - a) s

    behind : place + a + (b - a) ≡ place + b
    behind = omega arith

    end : place + b + (n - b) ≡ place + n
    end = omega arith

    rest : drop (place + a + (b - a)) d ≡ drop b (drop place d)
    rest = ap (λ (k : ℕ). drop k d) behind ∙ sym (drop-drop b place d)

    last : drop (n - b) (drop b (drop place d)) ≡ drop (place + n) d
    last = ap (drop (n - b)) (drop-drop b place d) ∙ drop-drop (n - b) (place + b) d ∙ ap (λ (k : ℕ). drop k d) end

    five : (v w x y z : List ℕ) → (v ++ w) ++ x ++ (y ++ z) ≡ (v ++ (w ++ (x ++ y))) ++ z
    five v w x y z = append_assoc (v ++ w) x (y ++ z) ∙ append_assoc v w (x ++ (y ++ z)) ∙ ap (λ ks. v ++ (w ++ ks)) (sym (append_assoc x y z)) ∙ ap (λ ks. v ++ ks) (sym (append_assoc w (x ++ y) z)) ∙ sym (append_assoc v (w ++ (x ++ y)) z)

front_length : (d s : List ℕ) (place a b n : ℕ) → a ≤ b → b ≤ n → place + n ≤ length d → length (take (b - a) s) ≡ b - a
    → length (take place d ++ (take a (drop place d) ++ (take (b - a) s ++ take (n - b) (drop b (drop place d))))) ≡ place + n
front_length d s place a b n l h w m =
    length-append (take place d) (take a (drop place d) ++ (take (b - a) s ++ take (n - b) (drop b (drop place d))))
    ∙ ap (λ (k : ℕ). length (take place d) + k) (length-append (take a (drop place d)) (take (b - a) s ++ take (n - b) (drop b (drop place d))))
    ∙ ap (λ (k : ℕ). length (take place d) + (length (take a (drop place d)) + k)) (length-append (take (b - a) s) (take (n - b) (drop b (drop place d))))
    ∙ omega (arith, m, length-take-le place d (omega arith), length-take-le a (drop place d) (omega (arith, length-drop place d)), middle (drop place d) b n h (omega (arith, length-drop place d)))

pub bytes_more : (over : Over) (later : List ℕ) (at place : ℕ) (r : StartRun) (left rest : List StartRun) (d d' all : List ℕ) → over.to ≡ over.from + length later → place + r.len ≤ length d → left ≡ r ∷ rest
    → d' ≡ written d (place + first_taken over (at + place) r) (drop (at + place + first_taken over (at + place) r - over.from) later) (end_taken over (at + place) r - first_taken over (at + place) r)
    → take place d ++ bytes_with over later (at + place) left (drop place d) ≡ all
    → (take (place + r.len) d' ++ bytes_with over later (at + (place + r.len)) rest (drop (place + r.len) d') ≡ all) × (length d' ≡ length d)
bytes_more over later at place r left rest d d' all e l f w h = (
  (λ i. front_is i ++ bytes_with over later (position i) rest (rest_is i))
      ∙ append_assoc (take place d) (run_bytes_with over later (at + place) r (drop place d)) (bytes_with over later (at + place + r.len) rest (drop r.len (drop place d)))
      ∙ ap (λ rs. take place d ++ bytes_with over later (at + place) rs (drop place d)) (sym f)
      ∙ h,
  ap length whole ∙ length-append X (drop (place + r.len) d) ∙ omega (arith, X_is, length-drop (place + r.len) d),
)
  where
    a : ℕ
    a = first_taken over (at + place) r

    b : ℕ
    b = end_taken over (at + place) r

    s : List ℕ
    s = drop (at + place + first_taken over (at + place) r - over.from) later

    X : List ℕ
    X = take place d ++ run_bytes_with over later (at + place) r (drop place d)

    whole : d' ≡ X ++ drop (place + r.len) d
    whole = w ∙ written_run d s place a b r.len (taken_bounds over (at + place) r (omega arith)).0 (taken_bounds over (at + place) r (omega arith)).1 l

    X_is : length X ≡ place + r.len
    X_is = front_length d s place a b r.len (taken_bounds over (at + place) r (omega arith)).0 (taken_bounds over (at + place) r (omega arith)).1 l (taken_length over later (at + place) r e)

    front_is : take (place + r.len) d' ≡ X
    front_is =
        ap (take (place + r.len)) (w ∙ written_run d s place a b r.len (taken_bounds over (at + place) r (omega arith)).0 (taken_bounds over (at + place) r (omega arith)).1 l)
        ∙ take_at X (drop (place + r.len) d) (place + r.len) (front_length d s place a b r.len (taken_bounds over (at + place) r (omega arith)).0 (taken_bounds over (at + place) r (omega arith)).1 l (taken_length over later (at + place) r e))

    rest_is : drop (place + r.len) d' ≡ drop r.len (drop place d)
    rest_is =
        ap (drop (place + r.len)) (w ∙ written_run d s place a b r.len (taken_bounds over (at + place) r (omega arith)).0 (taken_bounds over (at + place) r (omega arith)).1 l)
        ∙ drop_at X (drop (place + r.len) d) (place + r.len) (front_length d s place a b r.len (taken_bounds over (at + place) r (omega arith)).0 (taken_bounds over (at + place) r (omega arith)).1 l (taken_length over later (at + place) r e))
        ∙ sym (drop-drop r.len place d)

    position : at + (place + r.len) ≡ at + place + r.len
    position = omega arith

pub bytes_first : (over : Over) (later : List ℕ) (at : ℕ) (r : StartRun) (rest : List StartRun) (d d' : List ℕ) → over.to ≡ over.from + length later → r.len ≤ length d
    → d' ≡ written d (0 + first_taken over at r) (drop (at + first_taken over at r - over.from) later) (end_taken over at r - first_taken over at r)
    → (take r.len d' ++ bytes_with over later (at + r.len) rest (drop r.len d') ≡ bytes_with over later at (r ∷ rest) d) × (length d' ≡ length d)
bytes_first over later at r rest d d' e l w = ((λ i. take (none i) d' ++ bytes_with over later (at + none i) rest (drop (none i) d')) ∙ step.0, step.1)
  where
    none : r.len ≡ 0 + r.len
    none = omega arith

    here : at ≡ at + 0
    here = omega arith

    step : (take (0 + r.len) d' ++ bytes_with over later (at + (0 + r.len)) rest (drop (0 + r.len) d') ≡ bytes_with over later at (r ∷ rest) d) × (length d' ≡ length d)
    step =
        bytes_more over later at 0 r (r ∷ rest) rest d d' (bytes_with over later at (r ∷ rest) d) e (omega arith) refl
        (w ∙ (λ i. written d (0 + first_taken over (here i) r) (drop (here i + first_taken over (here i) r - over.from) later) (end_taken over (here i) r - first_taken over (here i) r)))
        (λ i. bytes_with over later (sym here i) (r ∷ rest) d)

pub run_fits : (place n : ℕ) (r : StartRun) (left rest : List StartRun) → left ≡ r ∷ rest → place + run_bytes left ≡ n → place + r.len ≤ n
run_fits place n r left rest e h = omega (arith, h, ap run_bytes e)

-- One step of the loop over the bytes of a run.
pub written_none : (d s : List ℕ) (p n : ℕ) → n ≡ 0 → d ≡ written d p s n
written_none d s p n e = paste_none d p s ∙ ap (λ (k : ℕ). written d p s k) (sym e)

reached : (from at a i : ℕ) → from ≤ at + i → (a < i → from ≤ at + a) → a ≤ i → (t : Bool) → nat_lt a i ≡ t → from ≤ at + a
reached from at a i f h l true q = h (was_lt a i q)
reached from at a i f h l false q = let k : i ≤ a = was_not a i q in omega arith

pub written_more : (d part later : List ℕ) (place at from a i byte : ℕ) → a ≤ i → from ≤ at + i → (a < i → from ≤ at + a) → at + i - from < length later → place + i < length d → byte ≡ get_or later (at + i - from) 0
    → part ≡ written d (place + a) (drop (at + a - from) later) (i - a) → set part (place + i) byte ≡ written d (place + a) (drop (at + a - from) later) (i + 1 - a)
written_more d part later place at from a i byte l f h n m b e =
    (λ j. set (e j) (there_is j) (byte_is j))
    ∙ paste_more d (place + a) (drop (at + a - from) later) (i - a) 0 (omega arith) (omega (arith, length-drop (at + a - from) later, begun))
    ∙ ap (λ (k : ℕ). written d (place + a) (drop (at + a - from) later) k) next
  where
    begun : from ≤ at + a
    begun = reached from at a i f h l (nat_lt a i) refl

    there_is : place + i ≡ place + a + (i - a)
    there_is = omega arith

    sum : at + i - from ≡ at + a - from + (i - a)
    sum = let k : from ≤ at + a = reached from at a i f h l (nat_lt a i) refl in omega arith

    byte_is : byte ≡ get_or (drop (at + a - from) later) (i - a) 0
    byte_is = b ∙ ap (λ (k : ℕ). get_or later k 0) sum ∙ sym (get_or-drop (at + a - from) later (i - a) 0)

    next : i - a + 1 ≡ i + 1 - a
    next = omega arith

pub write_start : {C : Type 0} (part : List ℕ × C) (s : List ℕ) (p low a : ℕ) → low ≡ a → (part.1 ≡ part.1) × (length part.0 ≡ length part.0) × (part.0 ≡ written part.0 p s (low - a))
write_start part s p low a e = (refl, refl, written_none part.0 s p (low - a) (omega arith))

pub write_step : {C : Type 0} (over : Over) (d : List ℕ) (charge : C) (later : List ℕ) (at place i : ℕ) (r : StartRun) (part part' : List ℕ × C) → over.to ≡ over.from + length later → place + r.len ≤ length d
    → first_taken over at r ≤ i → i < end_taken over at r → part' ≡ (set part.0 (place + i) (get_or later (at + i - over.from) 0), part.1) → part.1 ≡ charge → length part.0 ≡ length d
    → part.0 ≡ written d (place + first_taken over at r) (drop (at + first_taken over at r - over.from) later) (i - first_taken over at r)
    → (part'.1 ≡ charge) × (length part'.0 ≡ length d) × (part'.0 ≡ written d (place + first_taken over at r) (drop (at + first_taken over at r - over.from) later) (i + 1 - first_taken over at r))
write_step over d charge later at place i r part part' e l low high w c n b =
    let bounds = taken_bounds over at r (omega arith) in
    let within = taken_within over at r (omega arith) in (
      ap (λ q. q.1) w ∙ c,
      ap (λ q. length q.0) w ∙ length-set part.0 (place + i) (get_or later (at + i - over.from) 0) ∙ n,
      ap (λ q. q.0) w
          ∙ written_more d part.0 later place at over.from (first_taken over at r) i (get_or later (at + i - over.from) 0) low (omega (arith, within.0, low)) (λ _. within.0) (omega (arith, e, high, within.1, within.0, low)) (omega (arith, l, high, bounds.1)) refl b,
    )
