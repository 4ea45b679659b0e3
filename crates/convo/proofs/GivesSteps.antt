-- Charges that are given back one after the other.
use Rattle.std.proofs.Common.{◌≡◌, refl, ◌∙◌, ap, ℕ, zero, suc, ◌+◌, ◌-◌, ◌<◌, ◌≤◌, List, [], ◌∷◌, ◌++◌, drop, length, length-append, arith}
use Rattle.evring.specs.declared.reason.Reason.{Reason}
use Rattle.histbook.specs.declared.look_entry.LookEntry.{LookEntry}
use Rattle.prio_budget.specs.declared.free.Free.{Free}
use Rattle.streamdefs.specs.Terms.{Terms}
use Rattle.streamdefs.specs.Reorder.{Charge}
use Rattle.streamdefs.specs.Direction.{gives_at}
use Rattle.streamdefs.specs.Direction.Next.{Gives, Rests}
use Rattle.streamdefs.specs.Convo.{Convo}
use Rattle.streamdefs.specs.Convo.Act.{End}
use Rattle.streamdefs.specs.Want.{or_next, next_move}
use Rattle.convo.specs.Endings.{spares_fore, spares_back, unshown_fore, unshown_back}
use Rattle.convo.proofs.DefSteps.{or_rests}

pub gives_front : (xs ys : List Charge) (n : ℕ) (c : Charge) → gives_at xs n ≡ Gives c → gives_at (xs ++ ys) n ≡ Gives c
gives_front [] ys n c e = absurd (cc)
gives_front (x ∷ xs) ys zero c e = e
gives_front (x ∷ xs) ys (suc n) c e = gives_front xs ys n c e

pub gives_behind : (xs ys : List Charge) (n m : ℕ) → n ≡ length xs + m → gives_at (xs ++ ys) n ≡ gives_at ys m
gives_behind [] ys n m e = ap (λ n. gives_at ys n) (omega arith)
gives_behind (x ∷ xs) ys zero m e = absurd (omega arith)
gives_behind (x ∷ xs) ys (suc n) m e = gives_behind xs ys n m (omega arith)

pub gives_in : (xs : List Charge) (n : ℕ) (c : Charge) → gives_at xs n ≡ Gives c → n < length xs
gives_in [] n c e = absurd (cc)
gives_in (x ∷ xs) zero c e = omega arith
gives_in (x ∷ xs) (suc n) c e = let h = gives_in xs n c e in omega arith

pub gives_past : (xs : List Charge) (n : ℕ) → gives_at xs n ≡ Rests → length xs ≤ n
gives_past [] n e = omega arith
gives_past (x ∷ xs) zero e = absurd (cc)
gives_past (x ∷ xs) (suc n) e = let h = gives_past xs n e in omega arith

pub gives_head : (n : ℕ) (xs : List Charge) (c : Charge) (rest : List Charge) → drop n xs ≡ c ∷ rest → (gives_at xs n ≡ Gives c) × (drop (suc n) xs ≡ rest)
gives_head zero [] c rest e = absurd (cc)
gives_head (suc n) [] c rest e = absurd (cc)
gives_head zero (x ∷ xs) c rest e = (ap Gives (cc), cc)
gives_head (suc n) (x ∷ xs) c rest e = gives_head n xs c rest e

pub gives_end : (n : ℕ) (xs : List Charge) → drop n xs ≡ [] → gives_at xs n ≡ Rests
gives_end zero [] e = refl
gives_end (suc n) [] e = refl
gives_end zero (x ∷ xs) e = absurd (cc)
gives_end (suc n) (x ∷ xs) e = gives_end n xs e

pub gives_within : (xs ys : List Charge) (n : ℕ) (c : Charge) → n < length xs → gives_at (xs ++ ys) n ≡ Gives c → gives_at xs n ≡ Gives c
gives_within [] ys n c h e = absurd (omega arith)
gives_within (x ∷ xs) ys zero c h e = e
gives_within (x ∷ xs) ys (suc n) c h e = gives_within xs ys n c (omega arith) e

pub gives_early : (xs ys zs : List Charge) (n : ℕ) (c : Charge) → n < length xs → gives_at ((xs ++ ys) ++ zs) n ≡ Gives c → gives_at xs n ≡ Gives c
gives_early xs ys zs n c h e = let len = length-append xs ys in gives_within xs ys n c h (gives_within (xs ++ ys) zs n c (omega arith) e)

or_gives : (xs ys : List Charge) (n : ℕ) → or_next (gives_at xs n) (gives_at ys (n - length xs)) ≡ gives_at (xs ++ ys) n
or_gives [] ys zero = ap (λ n. gives_at ys n) (omega arith)
or_gives [] ys (suc n) = ap (λ n. gives_at ys n) (omega arith)
or_gives (x ∷ xs) ys zero = refl
or_gives (x ∷ xs) ys (suc n) = ap (λ m. or_next (gives_at xs n) (gives_at ys m)) (omega arith) ∙ or_gives xs ys n

-- the moves of an End are the releases of its charges
pub end_move : (t : Terms) (c : Convo) (m : ℕ) (reason : Reason) (looks : List LookEntry) (frees : List Free)
    → next_move t c (End m reason looks frees) ≡ gives_at ((spares_fore t c m ++ unshown_fore t c m) ++ (spares_back t c m ++ unshown_back t c m)) (length frees)
end_move t c m reason looks frees =
    let n : ℕ = length frees in
    let sf : List Charge = spares_fore t c m in
    let uf : List Charge = unshown_fore t c m in
    let sb : List Charge = spares_back t c m in
    let ub : List Charge = unshown_back t c m in
    ap (λ x. or_next x (or_next (or_next (gives_at sb (n - length (sf ++ uf))) (gives_at ub (n - length (sf ++ uf) - length sb))) Rests)) (or_gives sf uf n)
    ∙ ap (λ x. or_next (gives_at (sf ++ uf) n) x) (or_rests (or_next (gives_at sb (n - length (sf ++ uf))) (gives_at ub (n - length (sf ++ uf) - length sb))) ∙ or_gives sb ub (n - length (sf ++ uf)))
    ∙ or_gives (sf ++ uf) (sb ++ ub) n
