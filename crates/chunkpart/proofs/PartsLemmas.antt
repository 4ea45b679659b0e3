use Rattle.std.proofs.Common.{◌≡◌, ℕ, ◌+◌, ◌-◌, List, [], ◌∷◌, length, refl, sym, ◌∙◌, ap, arith, length-append}
use Rattle.std.specs.Prelude.{All}
use Rattle.std.proofs.lemmas.List.Elements.{All-head, All-tail}
use Rattle.std.proofs.lemmas.List.Sums.{sum_by-cons}
use Rattle.chunkpart.specs.Parts.{AreKept, IsPaid, bytes_of, charged_bytes}

-- what a chunk keeps of its fresh parts once the first of them is gone
pub AreKept-rest : {C : Type 0} (amount : C → ℕ) (count n : ℕ) (all : List (List ℕ × C)) (part : List ℕ × C) (parts : List (List ℕ × C))
    → all ≡ part ∷ parts → n ≡ length part.0 → AreKept amount count all → AreKept amount (count - n) parts
AreKept-rest {C} amount count n all part parts e m kept =
    let whole : count ≡ length (bytes_of (part ∷ parts)) = kept.counted ∙ ap (λ (l : List (List ℕ × C)). length (bytes_of l)) e in
    let paid : All (IsPaid amount) (part ∷ parts) = rw e at kept.paid in
    record {
      counted = omega (arith, whole, m, length-append part.0 (bytes_of parts));
      paid = All-tail (IsPaid amount) part parts paid;
    }

-- the charges of paid parts add up to the bytes of the parts
pub charged_bytes-paid : {C : Type 0} (amount : C → ℕ) (parts : List (List ℕ × C)) → All (IsPaid amount) parts
    → charged_bytes amount parts ≡ length (bytes_of parts)
charged_bytes-paid amount [] paid = refl
charged_bytes-paid {C} amount (part ∷ parts) paid =
    let here : IsPaid amount part = All-head (IsPaid amount) part parts paid in
    let rest : charged_bytes amount parts ≡ length (bytes_of parts) = charged_bytes-paid amount parts (All-tail (IsPaid amount) part parts paid) in
    sum_by-cons (λ (p : List ℕ × C). amount p.1) part parts
    ∙ ap (λ (n : ℕ). n + charged_bytes amount parts) here
    ∙ ap (λ (n : ℕ). length part.0 + n) rest
    ∙ sym (length-append part.0 (bytes_of parts))
