-- A moment that is due goes on.
use Rattle.std.proofs.Common.{rules, ◌≡◌, refl, sym, ◌∙◌, ap, subst, ℕ, zero, suc, ◌+◌, ◌-◌, ◌<◌, ◌≤◌, Bool, true, false, cond, List, [], ◌∷◌, ◌++◌, drop, length, length-append, Option, Some, None, arith}
use Rattle.std.specs.Prelude.{slice_get}
use Rattle.histbook.specs.declared.look_entry.LookEntry.{LookEntry}
use Rattle.prio_budget.specs.declared.free.Free.{Free}
use Rattle.streamdefs.specs.Terms.{Terms}
use Rattle.streamdefs.specs.Reorder.{Charge}
use Rattle.streamdefs.specs.View.{Ask}
use Rattle.streamdefs.specs.Direction.{Direction, Kind, Next, asks_by, pieces_by, spares_by, gives_at, next_by}
use Rattle.streamdefs.specs.Direction.Next.{Asks, Gives, Rests}
use Rattle.streamdefs.specs.Direction.Deed.{Falls_due}
use Rattle.streamdefs.specs.Convo.{Convo, kind_of}
use Rattle.streamdefs.specs.Convo.Act.{Time}
use Rattle.streamdefs.specs.Want.{or_next, next_move}
use Rattle.convo.specs.Timings.{asks_due, pieces_due, spares_due}
use Rattle.convo.proofs.DefSteps.{or_rests, gives_none}
use Rattle.convo.proofs.GivesSteps.{gives_in, gives_past}

-- what hangs not on the looks
pub asks_same : (t : Terms) (kind : Kind) (d : Direction) (m : ℕ) (looks : List LookEntry) → asks_by t kind d (Falls_due m looks) ≡ asks_due t kind d m
asks_same t kind d m looks = search rules

pub pieces_same : (t : Terms) (kind : Kind) (d : Direction) (m : ℕ) (looks : List LookEntry) → pieces_by t kind d (Falls_due m looks) ≡ pieces_due t kind d m
pieces_same t kind d m looks = refl

pub spares_same : (t : Terms) (kind : Kind) (d : Direction) (m : ℕ) (looks : List LookEntry) → spares_by t kind d (Falls_due m looks) ≡ spares_due t kind d m
spares_same t kind d m looks = refl

get_in : (xs : List Ask) (n : ℕ) (a : Ask) → slice_get xs n ≡ Some a → n < length xs
get_in [] n a e = absurd (cc)
get_in (x ∷ xs) zero a e = omega arith
get_in (x ∷ xs) (suc n) a e = let h = get_in xs n a e in omega arith

get_out : (xs : List Ask) (n : ℕ) → slice_get xs n ≡ None → length xs ≤ n
get_out [] n e = omega arith
get_out (x ∷ xs) zero e = absurd (cc)
get_out (x ∷ xs) (suc n) e = let h = get_out xs n e in omega arith

get_over : (xs : List Ask) (n : ℕ) → length xs ≤ n → slice_get xs n ≡ None
get_over [] n h = search rules
get_over (x ∷ xs) zero h = absurd (omega arith)
get_over (x ∷ xs) (suc n) h = get_over xs n (omega arith)

-- what a direction wants at a moment, by its next ask
next_asks : (t : Terms) (kind : Kind) (d : Direction) (m : ℕ) (looks : List LookEntry) (n : ℕ) (a : Ask) → slice_get (asks_by t kind d (Falls_due m looks)) (length looks) ≡ Some a → next_by t kind d (Falls_due m looks) n ≡ Asks a
next_asks t kind d m looks n a e = rw e refl

next_gives : (t : Terms) (kind : Kind) (d : Direction) (m : ℕ) (looks : List LookEntry) (n : ℕ) → slice_get (asks_by t kind d (Falls_due m looks)) (length looks) ≡ None
    → next_by t kind d (Falls_due m looks) n ≡ gives_at (spares_due t kind d m) n
next_gives t kind d m looks n e = rw e refl

-- an ask stands within the asks; a direction that rests had a look for each of its asks, and gave back all spare charges
pub ask_within : (t : Terms) (kind : Kind) (d : Direction) (m : ℕ) (looks : List LookEntry) (n : ℕ) (a : Ask) → next_by t kind d (Falls_due m looks) n ≡ Asks a → length looks < length (asks_due t kind d m)
ask_within t kind d m looks n a e = subst (λ xs. length looks < length xs) (asks_same t kind d m looks) (by (slice_get (asks_by t kind d (Falls_due m looks)) (length looks)) refl)
  where
    no_ask : (xs : List Charge) (n : ℕ) → gives_at xs n ≡ Asks a → ⊥
    no_ask [] n e = cc
    no_ask (x ∷ xs) zero e = cc
    no_ask (x ∷ xs) (suc n) e = no_ask xs n e

    by : (s : Option Ask) → slice_get (asks_by t kind d (Falls_due m looks)) (length looks) ≡ s → length looks < length (asks_by t kind d (Falls_due m looks))
    by None s = absurd (no_ask (spares_due t kind d m) n (sym (next_gives t kind d m looks n s) ∙ e))
    by (Some b) s = get_in (asks_by t kind d (Falls_due m looks)) (length looks) b s

pub rest_behind : (t : Terms) (kind : Kind) (d : Direction) (m : ℕ) (looks : List LookEntry) (n : ℕ) → next_by t kind d (Falls_due m looks) n ≡ Rests
    → (length (asks_due t kind d m) ≤ length looks) × (length (spares_due t kind d m) ≤ n)
rest_behind t kind d m looks n e = by (slice_get (asks_by t kind d (Falls_due m looks)) (length looks)) refl
  where
    by : (s : Option Ask) → slice_get (asks_by t kind d (Falls_due m looks)) (length looks) ≡ s → (length (asks_due t kind d m) ≤ length looks) × (length (spares_due t kind d m) ≤ n)
    by None s = (
      subst (λ xs. length xs ≤ length looks) (asks_same t kind d m looks) (get_out (asks_by t kind d (Falls_due m looks)) (length looks) s),
      gives_past (spares_due t kind d m) n (sym (next_gives t kind d m looks n s) ∙ e),
    )
    by (Some b) s = let h = next_asks t kind d m looks n b s in absurd (cc)

gives_over : (xs : List Charge) (n : ℕ) → length xs ≤ n → gives_at xs n ≡ Rests
gives_over [] n h = gives_none n
gives_over (x ∷ xs) zero h = absurd (omega arith)
gives_over (x ∷ xs) (suc n) h = gives_over xs n (omega arith)

pub rests_over : (t : Terms) (kind : Kind) (d : Direction) (m : ℕ) (looks : List LookEntry) (n : ℕ) → length (asks_due t kind d m) ≤ length looks → length (spares_due t kind d m) ≤ n
    → next_by t kind d (Falls_due m looks) n ≡ Rests
rests_over t kind d m looks n a b =
    next_gives t kind d m looks n (get_over (asks_by t kind d (Falls_due m looks)) (length looks) (subst (λ xs. length xs ≤ length looks) (sym (asks_same t kind d m looks)) a)) ∙ gives_over (spares_due t kind d m) n b

-- a release stands behind all asks
pub gives_within_due : (t : Terms) (kind : Kind) (d : Direction) (m : ℕ) (looks : List LookEntry) (n : ℕ) (c : Charge) → next_by t kind d (Falls_due m looks) n ≡ Gives c → n < length (spares_due t kind d m)
gives_within_due t kind d m looks n c e = by (slice_get (asks_by t kind d (Falls_due m looks)) (length looks)) refl
  where
    by : (s : Option Ask) → slice_get (asks_by t kind d (Falls_due m looks)) (length looks) ≡ s → n < length (spares_due t kind d m)
    by None s = gives_in (spares_due t kind d m) n c (sym (next_gives t kind d m looks n s) ∙ e)
    by (Some b) s = let h = next_asks t kind d m looks n b s in absurd (cc)

-- the moves at a moment
pub time_move : (t : Terms) (c : Convo) (m : ℕ) (looks : List LookEntry) (frees : List Free)
    → next_move t c (Time m looks frees) ≡ or_next (next_by t (kind_of t c) c.directions.fore (Falls_due m looks) (length frees))
    (next_by t (kind_of t c) c.directions.back (Falls_due m (drop (length (asks_by t (kind_of t c) c.directions.fore (Falls_due m looks))) looks)) (length frees - length (spares_due t (kind_of t c) c.directions.fore m ++ [])))
time_move t c m looks frees =
    let n : ℕ = length frees in
    let sf : List Charge = spares_due t (kind_of t c) c.directions.fore m in
    let sb : List Charge = spares_due t (kind_of t c) c.directions.back m in
    let f : Next = next_by t (kind_of t c) c.directions.fore (Falls_due m looks) n in
    let b : Next = next_by t (kind_of t c) c.directions.back (Falls_due m (drop (length (asks_by t (kind_of t c) c.directions.fore (Falls_due m looks))) looks)) (n - length (sf ++ [])) in
    ap (λ x. or_next x (or_next (or_next b (gives_at [] (n - length (sf ++ []) - length sb))) Rests)) (ap (or_next f) (gives_none (n - length sf)) ∙ or_rests f)
    ∙ ap (λ x. or_next f x) (or_rests (or_next b (gives_at [] (n - length (sf ++ []) - length sb))) ∙ (ap (or_next b) (gives_none (n - length (sf ++ []) - length sb)) ∙ or_rests b))

drop_front : {X : Type 0} (n : ℕ) (xs ys : List X) → n ≡ length xs → drop n (xs ++ ys) ≡ ys
drop_front zero [] ys e = refl
drop_front (suc n) [] ys e = absurd (omega arith)
drop_front zero (x ∷ xs) ys e = absurd (omega arith)
drop_front (suc n) (x ∷ xs) ys e = drop_front n xs ys (omega arith)

pub own_looks : (t : Terms) (c : Convo) (m : ℕ) (first more : List LookEntry) → length first ≡ length (asks_due t (kind_of t c) c.directions.fore m)
    → drop (length (asks_by t (kind_of t c) c.directions.fore (Falls_due m (first ++ more)))) (first ++ more) ≡ more
own_looks t c m first more e =
    drop_front (length (asks_by t (kind_of t c) c.directions.fore (Falls_due m (first ++ more)))) first more (ap length (asks_same t (kind_of t c) c.directions.fore m (first ++ more)) ∙ sym e)

-- behind the first direction's moves those of the other come
pub back_move : (t : Terms) (c : Convo) (m : ℕ) (first more : List LookEntry) (frees : List Free) (n : ℕ) → length first ≡ length (asks_due t (kind_of t c) c.directions.fore m)
    → length frees ≡ length (spares_due t (kind_of t c) c.directions.fore m) + n
    → next_move t c (Time m (first ++ more) frees) ≡ next_by t (kind_of t c) c.directions.back (Falls_due m more) n
back_move t c m first more frees n a f =
    let kd : Kind = kind_of t c in
    let sf : List Charge = spares_due t kd c.directions.fore m in
    let looks : List LookEntry = first ++ more in
    let len = length-append first more in
    let nil = length-append sf [] in
    time_move t c m looks frees
    ∙ ap (λ x. or_next x (next_by t kd c.directions.back (Falls_due m (drop (length (asks_by t kd c.directions.fore (Falls_due m looks))) looks)) (length frees - length (sf ++ []))))
    (rests_over t kd c.directions.fore m looks (length frees) (omega arith) (omega arith))
    ∙ ap (λ l. next_by t kd c.directions.back (Falls_due m l) (length frees - length (sf ++ []))) (own_looks t c m first more a)
    ∙ ap (λ k. next_by t kd c.directions.back (Falls_due m more) k) (omega arith)

-- looks behind its own change nothing in a direction
pub cut_same : {X : Type 0} (a b : Bool) (ask : Ask) (x y none last : X) → length (cond a (cond b (ask ∷ []) []) []) ≤ 0 → cond a (cond b x none) last ≡ cond a (cond b y none) last
cut_same true true ask x y none last h = absurd (omega arith)
cut_same true false ask x y none last h = refl
cut_same false b ask x y none last h = refl
