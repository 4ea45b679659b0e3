-- What a held part and a store keep.
use Rattle.std.specs.Prelude.{◌≡◌, ℕ, suc, ◌+◌, ◌-◌, ◌<◌, ◌≤◌, ◌^◌, List, [], ◌∷◌, ◌++◌, length, map, take, drop, min, Result, Ok, Err, OnOk, OnErr, ℤ}
use Rattle.std.specs.List.{insert}
use Rattle.std.proofs.Common.{sym, ◌∙◌, ap, subst, arith, get_or}
use Prim.Native.Nat.{zero}
use Rattle.std.proofs.lemmas.List.{drop-drop}
use Rattle.overpolicy.specs.declared.policy.Policy.{Policy}
use Rattle.reorder.specs.declared.run.Run.{Run}
use Rattle.reorder.specs.declared.start_run.StartRun.{StartRun}
use Rattle.reorder.specs.declared.over.Over.{Over}
use Rattle.reorder.specs.Frags.{Frag, end_of, size, bytes_in, cells_of, cells_with, overlaid_one, overlaid, weight_in, Ascends, EndBy, IsClear, AreClear, free, range_for, put}
use Rattle.reorder.specs.Starts.{run_bytes, cells_in, runs_with, bytes_with, AreSettled, AllSettled}
use Rattle.reorder.specs.Search.{EndsBehind, StandsAt}
use Rattle.reorder.specs.StoreParts.{StoreParts, AreHeld}
use Rattle.reorder.proofs.Settling.{cells_count, bytes_are, cells_length, settled, with_bytes, with_length}
use Rattle.reorder.proofs.Spread.{lower, put_ascends, free_clear}
use Rattle.reorder.proofs.Places.{stands, put_at, put_ends, put_size, size_fits, front_overlaid, front_left, front_cut, over_cut, front_ascends, front_ends, front_size, front_weight}

pub len_is : {C : Type 0} (at : ℕ) (rs : List StartRun) (bytes : List ℕ) (charge : C) (f : Frag C) (shown : List ℕ) → shown ≡ bytes → run_bytes rs ≡ length bytes
    → record { at = at; cells = cells_in rs bytes; charge = charge } ≡ f → length shown ≡ length f.cells
len_is at rs bytes charge f shown b e v = ap (λ (bs : List ℕ). length bs) b ∙ cells_count rs bytes e ∙ ap (λ f. length f.cells) v

pub part_is : {C : Type 0} (at : ℕ) (rs : List StartRun) (part : List ℕ × C) (f : Frag C) → run_bytes rs ≡ length part.0 → record { at = at; cells = cells_in rs part.0; charge = part.1 } ≡ f
    → part ≡ (bytes_in f.cells, f.charge)
part_is at rs part f e v = (λ i. (sym (bytes_are rs part.0 e) i, part.1)) ∙ ap (λ f. (bytes_in f.cells, f.charge)) v

-- without its first part
pub held_rest : {C : Type 0} (count n : ℕ) (all : List (Frag C)) (f : Frag C) (rest : List (Frag C)) → all ≡ f ∷ rest → n ≡ length f.cells → AreHeld count all → AreHeld (count - n) rest
held_rest count n all f rest e m kept =
    let a : Ascends 0 (f ∷ rest) = subst (Ascends 0) e kept.ascends in
    let b : EndBy (2 ^ 62) (f ∷ rest) = subst (EndBy (2 ^ 62)) e kept.ends in
    let c : count ≡ size (f ∷ rest) = kept.counted ∙ ap size e in
    record { ascends = lower 0 (end_of f) rest (omega arith) a.2; ends = b.1; counted = omega (arith, c, m) }

-- with one part more
pub held_more : {C : Type 0} (count n : ℕ) (fs : List (Frag C)) (f : Frag C) → n ≡ length f.cells → 0 < length f.cells → IsClear f.at (end_of f) fs → end_of f ≤ 2 ^ 62 → AreHeld count fs → AreHeld (count + n) (put f fs)
held_more count n fs f e s c b kept = record {
  ascends = put_ascends 0 f fs kept.ascends s (omega arith) c;
  ends = put_ends (2 ^ 62) f fs kept.ends b;
  counted = omega (arith, put_size f fs, e, kept.counted);
}

-- no more bytes than there are positions
pub held_fits : {C : Type 0} (count : ℕ) (fs : List (Frag C)) → AreHeld count fs → count ≤ 2 ^ 62
held_fits count fs kept = omega (arith, kept.counted, size_fits 0 (2 ^ 62) fs (omega arith) kept.ascends kept.ends)

-- what a call that cannot fail leaves
pub surely : {T E P Q : Type 0} (r : Result T E) → OnOk r P → OnErr r Q → (Q → ⊥) → P
surely (Ok x) p q n = p
surely (Err x) p q n = absurd (n q)

-- a part that is put where bisection finds its place
pub put_is_insert : {C : Type 0} (count i at : ℕ) (start : ℤ) (part : List ℕ × C) (held : Frag C) (fs new : List (Frag C)) → held ≡ record { at = at; cells = cells_of start part.0; charge = part.1 }
    → AreHeld count fs → 0 < length part.0 → IsClear at (at + length part.0) fs → i ≤ length fs → EndBy at (take i fs) → EndsBehind at (drop i fs) → new ≡ insert fs i held
    → new ≡ put (record { at = at; cells = cells_of start part.0; charge = part.1 }) fs
put_is_insert {C = C} count i at start part held fs new e kept s c l b a n =
    n
    ∙ ap (insert fs i) e
    ∙ sym (put_at 0 f fs i kept.ascends (subst (λ (k : ℕ). 0 < k) (sym size_is) s) (subst (λ (k : ℕ). IsClear at (at + k) fs) (sym size_is) c) b a l)
  where
    f : Frag C
    f = record { at = at; cells = cells_of start part.0; charge = part.1 }

    size_is : length (cells_of start part.0) ≡ length part.0
    size_is = cells_length start part.0

pub held_put : {C : Type 0} (count n at : ℕ) (start : ℤ) (part : List ℕ × C) (held : Frag C) (fs new : List (Frag C)) → held ≡ record { at = at; cells = cells_of start part.0; charge = part.1 }
    → AreHeld count fs → 0 < length part.0 → IsClear at (at + length part.0) fs → at + length part.0 ≤ 2 ^ 62 → n ≡ length held.cells
    → new ≡ put (record { at = at; cells = cells_of start part.0; charge = part.1 }) fs → AreHeld (count + n) new
held_put {C = C} count n at start part held fs new e kept s c w m p =
    subst (AreHeld (count + n)) (sym p)
    (held_more count n fs f (m ∙ ap (λ f. length f.cells) e) (subst (λ (k : ℕ). 0 < k) (sym size_is) s) (subst (λ (k : ℕ). IsClear at (at + k) fs) (sym size_is) c) (subst (λ (k : ℕ). at + k ≤ 2 ^ 62) (sym size_is) w) kept)
  where
    f : Frag C
    f = record { at = at; cells = cells_of start part.0; charge = part.1 }

    size_is : length (cells_of start part.0) ≡ length part.0
    size_is = cells_length start part.0

-- The new starts of a part, and the part once it has them.
with_is : (over : Over) (later : List ℕ) (at : ℕ) (first : StartRun) (more : List StartRun) (bytes : List ℕ) → over.to ≡ over.from + length later → run_bytes (first ∷ more) ≡ length bytes
    → bytes_in (cells_with over.policy over.start over.from later at (cells_in (first ∷ more) bytes)) ≡ bytes_with over later at (first ∷ more) bytes
with_is over later at first more bytes e n =
    ap bytes_in (sym (settled over later at (first ∷ more) bytes e n))
    ∙ bytes_are (runs_with over at (first ∷ more)) (bytes_with over later at (first ∷ more) bytes)
    (with_bytes over at (first ∷ more) (omega arith) ∙ n ∙ sym (with_length over later at (first ∷ more) bytes e n))

pub are_settled : {C : Type 0} (over : Over) (at : ℕ) (first : StartRun) (more more₁ made : List StartRun) (part : List ℕ × C) (f : Frag C) → over.from ≤ over.to
    → more₁ ≡ more → made ≡ runs_with over at (first ∷ more₁) → run_bytes (first ∷ more) ≡ length part.0 → record { at = at; cells = cells_in (first ∷ more) part.0; charge = part.1 } ≡ f
    → AreSettled over f made
are_settled {C = C} over at first more more₁ made part f h g m n v =
    subst (λ (x : Frag C). AreSettled over x made) v (record {
      counted = ap run_bytes made_is ∙ with_bytes over at (first ∷ more) h ∙ n ∙ cells_count (first ∷ more) part.0 n;
      starts = λ later e.
          ap (cells_in made) (with_is over later at first more part.0 e n)
          ∙ ap (λ rs. cells_in rs (bytes_with over later at (first ∷ more) part.0)) made_is
          ∙ settled over later at (first ∷ more) part.0 e n;
    })
  where
    made_is : made ≡ runs_with over at (first ∷ more)
    made_is = m ∙ ap (λ rs. runs_with over at (first ∷ rs)) g

pub settle_kept : {C : Type 0} (over : Over) (later : List ℕ) (at : ℕ) (first : StartRun) (more more₁ made : List StartRun) (part part' : List ℕ × C) (f : Frag C) → over.to ≡ over.from + length later
    → more₁ ≡ more → part'.0 ≡ bytes_with over later at (first ∷ more₁) part.0 → run_bytes (first ∷ more) ≡ length part.0 → at + length part.0 ≤ 2 ^ 62
    → record { at = at; cells = cells_in (first ∷ more) part.0; charge = part.1 } ≡ f → AreSettled over f made
    → (0 + run_bytes made ≡ length part'.0) × (at + length part'.0 ≤ 2 ^ 62)
settle_kept over later at first more more₁ made part part' f e g b n l v s = (omega (arith, s.counted, cells, bytes), omega (arith, bytes, l))
  where
    bytes : length part'.0 ≡ length part.0
    bytes = ap (λ (bs : List ℕ). length bs) (b ∙ ap (λ rs. bytes_with over later at (first ∷ rs) part.0) g) ∙ with_length over later at (first ∷ more) part.0 e n

    cells : length part.0 ≡ length f.cells
    cells = cells_count (first ∷ more) part.0 n ∙ ap (λ f. length f.cells) v

pub settle_is : {C : Type 0} (over : Over) (later : List ℕ) (at : ℕ) (first : StartRun) (more more₁ made : List StartRun) (part part' : List ℕ × C) (start : ℤ) (f : Frag C) → over.to ≡ over.from + length later
    → more₁ ≡ more → part'.0 ≡ bytes_with over later at (first ∷ more₁) part.0 → part'.1 ≡ part.1 → run_bytes (first ∷ more) ≡ length part.0
    → record { at = at; cells = cells_in (first ∷ more) part.0; charge = part.1 } ≡ f → AreSettled over f made
    → record { at = at; cells = cells_in (record { len = 0; start = start } ∷ made) part'.0; charge = part'.1 } ≡ overlaid_one over.policy over.start over.from later f
settle_is {C = C} over later at first more more₁ made part part' start f e g b k n v s =
    (λ i. record { at = at; cells = cells i; charge = k i })
    ∙ ap (overlaid_one over.policy over.start over.from later) v
  where
    kept : AreSettled over (record { at = at; cells = cells_in (first ∷ more) part.0; charge = part.1 }) made
    kept = subst (λ (x : Frag C). AreSettled over x made) (sym v) s

    cells : cells_in made part'.0 ≡ cells_with over.policy over.start over.from later at (cells_in (first ∷ more) part.0)
    cells =
        ap (cells_in made) (b ∙ ap (λ rs. bytes_with over later at (first ∷ rs) part.0) g ∙ sym (with_is over later at first more part.0 e n))
        ∙ kept.starts later e

-- One part's new starts more.
pub settled_more : {C : Type 0} (over : Over) (fs : List (Frag C)) (made : List (List StartRun)) (f : Frag C) (rest : List (Frag C)) (rs : List StartRun)
    → AllSettled over fs made → drop (length made) fs ≡ f ∷ rest → AreSettled over f rs → AllSettled over fs (made ++ rs ∷ [])
settled_more over [] [] f rest rs a e s = absurd cc
settled_more {C = C} over (g ∷ gs) [] f rest rs a e s =
    let first : g ≡ f = cc in
    (subst (λ (x : Frag C). AreSettled over x rs) (sym first) s, tt)
settled_more over [] (m ∷ ms) f rest rs a e s = absurd a
settled_more over (g ∷ gs) (m ∷ ms) f rest rs a e s = (a.0, settled_more over gs ms f rest rs a.1 e s)

-- The first new starts are those of a part, and the others of those behind it.
some_left : {C : Type 0} (over : Over) (n : ℕ) (fs : List (Frag C)) (rs : List StartRun) (made : List (List StartRun)) → AllSettled over (drop n fs) (rs ∷ made) → n < length fs
some_left over zero [] rs made a = absurd a
some_left over zero (f ∷ fs) rs made a = omega arith
some_left over (suc n) [] rs made a = absurd a
some_left over (suc n) (f ∷ fs) rs made a = omega (arith, some_left over n fs rs made a)

others_left : {C : Type 0} (over : Over) (n : ℕ) (fs : List (Frag C)) (rs : List StartRun) (made : List (List StartRun)) → AllSettled over (drop n fs) (rs ∷ made) → AllSettled over (drop (suc n) fs) made
others_left over zero [] rs made a = absurd a
others_left over zero (f ∷ fs) rs made a = a.1
others_left over (suc n) [] rs made a = absurd a
others_left over (suc n) (f ∷ fs) rs made a = others_left over n fs rs made a

pub settled_place : {C : Type 0} (over : Over) (later : List ℕ) (n : ℕ) (fs items : List (Frag C)) (all : List (List StartRun)) (rs : List StartRun) (made : List (List StartRun)) → all ≡ rs ∷ made
    → items ≡ front_overlaid over.policy over.start over.from later n fs → AllSettled over (drop n fs) all → n < length fs
settled_place over later n fs items all rs made m e a = some_left over n fs rs made (subst (AllSettled over (drop n fs)) m a)

pub settled_inside : {C : Type 0} (over : Over) (later : List ℕ) (n : ℕ) (fs items : List (Frag C)) (all : List (List StartRun)) (rs : List StartRun) (made : List (List StartRun)) → all ≡ rs ∷ made
    → items ≡ front_overlaid over.policy over.start over.from later n fs → AllSettled over (drop n fs) all → n < length items
settled_inside {C = C} over later n fs items all rs made m e a =
    some_left over n items rs made
    (subst (λ (gs : List (Frag C)). AllSettled over gs (rs ∷ made)) (sym (ap (drop n) e ∙ front_left over.policy over.start over.from later n fs)) (subst (AllSettled over (drop n fs)) m a))

pub settled_first : {C : Type 0} (over : Over) (later : List ℕ) (n : ℕ) (fs items : List (Frag C)) (all : List (List StartRun)) (rs : List StartRun) (made : List (List StartRun)) (x : Frag C) → all ≡ rs ∷ made
    → items ≡ front_overlaid over.policy over.start over.from later n fs → AllSettled over (drop n fs) all → x ≡ get_or items n x → AreSettled over x rs
settled_first {C = C} over later n fs items all rs made x m e a h =
    let inside : n < length items = settled_inside over later n fs items all rs made m e a in
    let left : drop n fs ≡ x ∷ drop (suc n) items = sym (ap (drop n) e ∙ front_left over.policy over.start over.from later n fs) ∙ stands items n x inside h in
    let both : AllSettled over (x ∷ drop (suc n) items) (rs ∷ made) = subst (λ (gs : List (Frag C)). AllSettled over gs (rs ∷ made)) left (subst (AllSettled over (drop n fs)) m a) in
    both.0

pub settled_others : {C : Type 0} (over : Over) (n n' : ℕ) (fs : List (Frag C)) (all : List (List StartRun)) (rs : List StartRun) (made : List (List StartRun)) → n' ≡ suc n → all ≡ rs ∷ made
    → AllSettled over (drop n fs) all → AllSettled over (drop n' fs) made
settled_others over n n' fs all rs made s m a = subst (λ (k : ℕ). AllSettled over (drop k fs) made) (sym s) (others_left over n fs rs made (subst (AllSettled over (drop n fs)) m a))

-- no part is longer than there are positions
pub fits_more : {C : Type 0} (count n at : ℕ) (start : ℤ) (part : List ℕ × C) (held : Frag C) (fs : List (Frag C)) → held ≡ record { at = at; cells = cells_of start part.0; charge = part.1 }
    → AreHeld count fs → at + length part.0 ≤ 2 ^ 62 → n ≡ length held.cells → count + n ≤ 2 ^ 63
fits_more count n at start part held fs e kept w m = omega (arith, held_fits count fs kept, w, m ∙ ap (λ f. length f.cells) e ∙ cells_length start part.0)

-- One part more, put at its place.
pub put_new : {C T E Full : Type 0} (count i at room : ℕ) (start start' : ℤ) (part : List ℕ × C) (held : Frag C) (fs new : List (Frag C)) (s : StoreParts C) (r : Result T E)
    → record { frags = fs; room = room } ≡ s → held ≡ record { at = at; cells = cells_of start' part.0; charge = part.1 } → start' ≡ start → AreHeld count fs → 0 < length part.0
    → IsClear at (at + length part.0) s.frags → i ≤ length fs → EndBy at (take i fs) → EndsBehind at (drop i fs) → OnOk r (new ≡ insert fs i held) → OnErr r Full → (Full → ⊥)
    → new ≡ put (record { at = at; cells = cells_of start part.0; charge = part.1 }) s.frags
put_new {C = C} count i at room start start' part held fs new s r v e z kept n c l b a ok full never =
    put_is_insert count i at start' part held fs new e kept n (subst (IsClear at (at + length part.0)) (sym (frags_are v)) c) l b a (surely r ok full never)
    ∙ (λ j. put (record { at = at; cells = cells_of (z j) part.0; charge = part.1 }) (frags_are v j))
  where
    frags_are : record { frags = fs; room = room } ≡ s → fs ≡ s.frags
    frags_are p = ap (λ t. t.frags) p

pub put_kept : {C : Type 0} (count n at room : ℕ) (start start' : ℤ) (part : List ℕ × C) (held : Frag C) (fs new : List (Frag C)) (s : StoreParts C)
    → record { frags = fs; room = room } ≡ s → held ≡ record { at = at; cells = cells_of start' part.0; charge = part.1 } → start' ≡ start → AreHeld count fs → 0 < length part.0
    → IsClear at (at + length part.0) s.frags → at + length part.0 ≤ 2 ^ 62 → n ≡ length held.cells
    → new ≡ put (record { at = at; cells = cells_of start part.0; charge = part.1 }) s.frags → AreHeld (count + n) new
put_kept {C = C} count n at room start start' part held fs new s v e z kept m c w k p =
    held_put count n at start part held fs new (e ∙ (λ j. record { at = at; cells = cells_of (z j) part.0; charge = part.1 })) kept m (subst (IsClear at (at + length part.0)) (sym (frags_are v)) c) w k
    (p ∙ (λ j. put (record { at = at; cells = cells_of start part.0; charge = part.1 }) (sym (frags_are v) j)))
  where
    frags_are : record { frags = fs; room = room } ≡ s → fs ≡ s.frags
    frags_are q = ap (λ t. t.frags) q

pub room_is : {C : Type 0} (fs : List (Frag C)) (room : ℕ) (s : StoreParts C) → record { frags = fs; room = room } ≡ s → 0 < s.room → 0 < room
room_is fs room s v h = subst (λ (k : ℕ). 0 < k) (sym (ap (λ t. t.room) v)) h

-- Parts of which those in front were settled with a segment that was cut at the end of all positions.
pub record Fronts {C : Type 0} (policy : Policy) (start : ℤ) (from : ℕ) (bytes : List ℕ) (fs new : List (Frag C)) : Type 0 where
  pub count : ℕ
  pub is : new ≡ overlaid policy start from bytes (take count fs) ++ drop count fs

pub fronts : {C : Type 0} (policy : Policy) (start start' : ℤ) (from : ℕ) (bytes short : List ℕ) (n room : ℕ) (fs new : List (Frag C)) (s : StoreParts C) → record { frags = fs; room = room } ≡ s → start' ≡ start → short ≡ take n bytes
    → n ≡ min (2 ^ 62 - from) (length bytes) → EndBy (2 ^ 62) fs → (k : ℕ) × (new ≡ overlaid policy start' from short (take k fs) ++ drop k fs) → Fronts policy start from bytes s.frags new
fronts policy start start' from bytes short n room fs new s v z f m h some = record {
  count = some.0;
  is = front_cut policy start start' from bytes short n some.0 fs new z f m h some.1 ∙ ap (λ t. front_overlaid policy start from bytes some.0 t.frags) v;
}

pub fronts_held : {C : Type 0} (policy : Policy) (start : ℤ) (from : ℕ) (bytes : List ℕ) (count : ℕ) (fs new : List (Frag C)) → Fronts policy start from bytes fs new → AreHeld count fs → AreHeld count new
fronts_held policy start from bytes count fs new f kept =
    subst (AreHeld count) (sym f.is) (record {
      ascends = front_ascends policy start from bytes f.count 0 fs kept.ascends;
      ends = front_ends policy start from bytes f.count (2 ^ 62) fs kept.ends;
      counted = kept.counted ∙ sym (front_size policy start from bytes f.count fs);
    })

pub fronts_weight : {C : Type 0} (w : C → ℕ) (policy : Policy) (start : ℤ) (from : ℕ) (bytes : List ℕ) (fs new : List (Frag C)) → Fronts policy start from bytes fs new → weight_in w new ≡ weight_in w fs
fronts_weight w policy start from bytes fs new f = ap (weight_in w) f.is ∙ front_weight w policy start from bytes f.count fs

pub fronts_ascends : {C : Type 0} (policy : Policy) (start : ℤ) (from : ℕ) (bytes : List ℕ) (low : ℕ) (fs new : List (Frag C)) → Fronts policy start from bytes fs new → Ascends low fs → Ascends low new
fronts_ascends policy start from bytes low fs new f a = subst (Ascends low) (sym f.is) (front_ascends policy start from bytes f.count low fs a)

pub fronts_ends : {C : Type 0} (policy : Policy) (start : ℤ) (from : ℕ) (bytes : List ℕ) (most : ℕ) (fs new : List (Frag C)) → Fronts policy start from bytes fs new → EndBy most fs → EndBy most new
fronts_ends policy start from bytes most fs new f e = subst (EndBy most) (sym f.is) (front_ends policy start from bytes f.count most fs e)

pub fronts_size : {C : Type 0} (policy : Policy) (start : ℤ) (from : ℕ) (bytes : List ℕ) (fs new : List (Frag C)) → Fronts policy start from bytes fs new → size new ≡ size fs
fronts_size policy start from bytes fs new f = ap size f.is ∙ front_size policy start from bytes f.count fs

-- what follows at a success, and at a refusal
pub at_success : {T E P Q : Type 0} (r : Result T E) → OnOk r P → (P → Q) → OnOk r Q
at_success (Ok x) p f = f p
at_success (Err x) p f = tt

pub on_refusal : {T E P Q : Type 0} (r : Result T E) → OnErr r P → (P → Q) → OnErr r Q
on_refusal (Ok x) p f = tt
on_refusal (Err x) p f = f p

-- a store of the same parts with the same room
pub unchanged : {C : Type 0} (fs new : List (Frag C)) (room room' : ℕ) (s : StoreParts C) → record { frags = fs; room = room } ≡ s → new ≡ fs → room' ≡ room → record { frags = new; room = room' } ≡ s
unchanged {C = C} fs new room room' s v e r = (λ i. record { frags = e i; room = r i }) ∙ v

-- the parts of a store
pub shown : {C : Type 0} (room count : ℕ) (fs : List (Frag C)) (s : StoreParts C) → record { frags = fs; room = room } ≡ s → AreHeld count fs → AreHeld count s.frags
shown room count fs s v kept = subst (AreHeld count) (ap (λ t. t.frags) v) kept

pub all_cut : {C : Type 0} (policy : Policy) (start start' : ℤ) (from : ℕ) (bytes short : List ℕ) (n room : ℕ) (fs new : List (Frag C)) (s : StoreParts C) → record { frags = fs; room = room } ≡ s → start' ≡ start → short ≡ take n bytes
    → n ≡ min (2 ^ 62 - from) (length bytes) → EndBy (2 ^ 62) fs → new ≡ overlaid policy start' from short fs → new ≡ overlaid policy start from bytes s.frags
all_cut policy start start' from bytes short n room fs new s v z f m h w = w ∙ over_cut policy start start' from bytes short n fs z f m h ∙ ap (λ t. overlaid policy start from bytes t.frags) v

-- a range whose one uncovered run is the whole of it
pub whole_is_clear : {C : Type 0} (from len : ℕ) (run : Run) (rs : List Run) (fs : List (Frag C)) → Ascends 0 fs → rs ≡ run ∷ [] → map range_for rs ≡ free from (from + len) fs → run.at ≡ from → run.len ≡ len → IsClear from (from + len) fs
whole_is_clear from len run rs fs a e f g h =
    let c : AreClear from fs (range_for run ∷ []) = subst (AreClear from fs) (sym f ∙ ap (map range_for) e) (free_clear 0 from (from + len) fs a) in
    subst (λ (k : ℕ). IsClear k (k + len) fs) g (subst (λ (k : ℕ). IsClear run.at (run.at + k) fs) h c.2)

-- the same from a place on
pub settled_step : {C : Type 0} (over : Over) (first place : ℕ) (fs : List (Frag C)) (made new : List (List StartRun)) (f : Frag C) (rs : List StartRun) → place ≡ first + length made → AllSettled over (drop first fs) made
    → StandsAt fs place f → AreSettled over f rs → new ≡ made ++ rs ∷ [] → AllSettled over (drop first fs) new
settled_step over first place fs made new f rs p a at s n =
    subst (AllSettled over (drop first fs)) (sym n)
    (settled_more over (drop first fs) made f (drop (suc place) fs) rs a (drop-drop (length made) first fs ∙ ap (λ (k : ℕ). drop k fs) (sym p) ∙ at) s)
