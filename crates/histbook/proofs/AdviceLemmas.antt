-- An advice is written part by part.
use Rattle.std.proofs.Common.{◌≡◌, ℕ, true, false, Bool, List, [], ◌∷◌, ◌++◌, Option, Some, None, refl, ap, sym, ◌∙◌, append_assoc}
use Rattle.std.specs.Prelude.{codes, flat_map, is_some, ◌||◌}
use Rattle.std.proofs.lemmas.List.{append-nil}
use Rattle.evring.specs.declared.advice.Advice.{Advice}
use Rattle.histbook.specs.JournalText.{part_if, part_of, advice_parts, or_dot, advice_word}
use Rattle.histbook.specs.Parts.{comma, flag_part, number_part, dot, has_flag, has_more, has_any}

-- parts, each behind a comma where others stand before
abbrev separated : Bool → List (List ℕ) → List ℕ
separated behind [] = []
separated behind (part ∷ parts) = comma behind ++ part ++ separated true parts

flag_first : (behind set : Bool) (label : List ℕ) (parts : List (List ℕ)) → separated behind (part_if set label ++ parts) ≡ flag_part behind set label ++ separated (behind || set) parts
flag_first true true label parts = refl
flag_first true false label parts = refl
flag_first false true label parts = refl
flag_first false false label parts = refl

number_first : (behind : Bool) (label : List ℕ) (number : Option ℕ) (parts : List (List ℕ)) → separated behind (part_of label number ++ parts) ≡ number_part behind label number ++ separated (behind || is_some number) parts
number_first true label (Some n) parts = refl
number_first true label None parts = refl
number_first false label (Some n) parts = refl
number_first false label None parts = refl

commas : (parts : List (List ℕ)) → separated true parts ≡ flat_map (λ next. codes "," ++ next) parts
commas [] = refl
commas (part ∷ parts) = ap (λ (l : List ℕ). codes "," ++ part ++ l) (commas parts)

abbrev are_some : List (List ℕ) → Bool
are_some [] = false
are_some (part ∷ parts) = true

written : (parts : List (List ℕ)) → separated false parts ++ dot (are_some parts) ≡ or_dot parts
written [] = refl
written (part ∷ parts) = append-nil (part ++ separated true parts) ∙ ap (λ (l : List ℕ). part ++ l) (commas parts)

some_parts : (keep discard : Bool) (cutoff priority : Option ℕ)
    → are_some (part_if keep (codes "k") ++ part_if discard (codes "d") ++ part_of (codes "c") cutoff ++ part_of (codes "p") priority)
    ≡ (((keep || discard) || is_some cutoff) || is_some priority)
some_parts true discard cutoff priority = refl
some_parts false true cutoff priority = refl
some_parts false false (Some c) priority = refl
some_parts false false None (Some p) = refl
some_parts false false None None = refl

parts_joined : (advice : Advice)
    → flag_part false advice.keep (codes "k") ++ (flag_part advice.keep advice.discard (codes "d") ++ (number_part (has_flag advice) (codes "c") advice.cutoff
    ++ (number_part (has_more advice) (codes "p") advice.priority ++ dot (has_any advice)))) ≡ or_dot (advice_parts advice)
parts_joined advice =
    let A = part_if advice.keep (codes "k") in
    let B = part_if advice.discard (codes "d") in
    let C = part_of (codes "c") advice.cutoff in
    let D = part_of (codes "p") advice.priority in
    let a = flag_part false advice.keep (codes "k") in
    let b = flag_part advice.keep advice.discard (codes "d") in
    let c = number_part (has_flag advice) (codes "c") advice.cutoff in
    let d = number_part (has_more advice) (codes "p") advice.priority in
    let regrouped : separated false (A ++ B ++ C ++ D) ≡ separated false (A ++ (B ++ (C ++ (D ++ [])))) =
    ap (λ (l : List (List ℕ)). separated false l)
    (append_assoc (A ++ B) C D ∙ append_assoc A B (C ++ D) ∙ ap (λ (l : List (List ℕ)). A ++ (B ++ (C ++ l))) (sym (append-nil D))) in
    let parts : separated false (A ++ B ++ C ++ D) ≡ a ++ (b ++ (c ++ d)) = regrouped
    ∙ flag_first false advice.keep (codes "k") (B ++ (C ++ (D ++ [])))
    ∙ ap (λ (l : List ℕ). a ++ l) (flag_first advice.keep advice.discard (codes "d") (C ++ (D ++ [])))
    ∙ ap (λ (l : List ℕ). a ++ (b ++ l)) (number_first (has_flag advice) (codes "c") advice.cutoff (D ++ []))
    ∙ ap (λ (l : List ℕ). a ++ (b ++ (c ++ l))) (number_first (has_more advice) (codes "p") advice.priority [] ∙ append-nil d) in
    let last : dot (has_any advice) ≡ dot (are_some (A ++ B ++ C ++ D)) = ap dot (sym (some_parts advice.keep advice.discard advice.cutoff advice.priority)) in
    let spread : (x : List ℕ) → a ++ (b ++ (c ++ d)) ++ x ≡ a ++ (b ++ (c ++ (d ++ x))) = λ x. simp append_assoc in
    ap (λ (l : List ℕ). a ++ (b ++ (c ++ (d ++ l)))) last ∙ sym (spread (dot (are_some (A ++ B ++ C ++ D))))
    ∙ ap (λ (l : List ℕ). l ++ dot (are_some (A ++ B ++ C ++ D))) (sym parts) ∙ written (A ++ B ++ C ++ D)

pub advice_written : (o a b c d e : List ℕ) (advice : Advice) (flag more any : Bool) (priority : Option ℕ)
    → a ≡ o ++ flag_part false advice.keep (codes "k") → b ≡ a ++ flag_part advice.keep advice.discard (codes "d")
    → c ≡ b ++ number_part flag (codes "c") advice.cutoff → d ≡ c ++ number_part more (codes "p") priority → e ≡ d ++ dot any
    → flag ≡ has_flag advice → more ≡ has_more advice → any ≡ has_any advice → priority ≡ advice.priority
    → e ≡ o ++ advice_word advice
unfolding advice_word
advice_written o a b c d e advice flag more any priority p q r s t is_flag is_more is_any is_priority =
    let all : e ≡ o ++ (flag_part false advice.keep (codes "k") ++ (flag_part advice.keep advice.discard (codes "d") ++ (number_part (has_flag advice) (codes "c") advice.cutoff
    ++ (number_part (has_more advice) (codes "p") advice.priority ++ dot (has_any advice))))) =
    t ∙ simp (s, r, q, p, is_flag, is_more, is_any, is_priority, append_assoc) in
    all ∙ ap (λ (l : List ℕ). o ++ l) (parts_joined advice)
