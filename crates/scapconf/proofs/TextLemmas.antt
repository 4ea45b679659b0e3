-- What was appended piece by piece was appended in one.
use Rattle.std.proofs.Common.{◌≡◌, ℕ, List, ◌++◌, ap, ◌∙◌, append_assoc}
use Rattle.std.specs.Prelude.{Result, Ok, Err, OnOk}

pub three_joined : {T E : Type 0} (r : Result T E) (old a b c one two : List ℕ) → one ≡ old ++ a ++ b → OnOk r (two ≡ one ++ c)
    → OnOk r (two ≡ old ++ (a ++ b ++ c))
three_joined (Ok _) old a b c one two e h =
    h ∙ ap (λ (l : List ℕ). l ++ c) (e ∙ append_assoc old a b) ∙ append_assoc old (a ++ b) c
three_joined (Err _) old a b c one two e h = tt

pub four_joined : {T E : Type 0} (r : Result T E) (old a b c d one two three : List ℕ) → one ≡ old ++ a ++ b → two ≡ one ++ c
    → OnOk r (three ≡ two ++ d) → OnOk r (three ≡ old ++ (a ++ b ++ c ++ d))
four_joined r old a b c d one two three e f h =
    three_joined r old (a ++ b) c d two three (f ∙ ap (λ (l : List ℕ). l ++ c) (e ∙ append_assoc old a b)) h
