use Rattle.std.proofs.Common.{◌≡◌, ◌≤◌, ℕ, zero, suc, ◌+◌, List, [], ◌∷◌, length, drop, get_or, sym, ◌∙◌, ap, refl, arith, length-drop}
use Rattle.std.proofs.lemmas.List.{drop-drop, drop_all}
use Rattle.linewords.specs.Words.{Words}

-- A word of a line, and what stands behind it.

pub word_here : (ws : Words) (i : ℕ) (w : List ℕ) (r : Words) → drop i ws ≡ w ∷ r → get_or ws i [] ≡ w
word_here [] zero w r h = absurd (cc)
word_here [] (suc i) w r h = absurd (cc)
word_here (x ∷ xs) zero w r h = cc
word_here (x ∷ xs) (suc i) w r h = word_here xs i w r h

pub no_word_here : (ws : Words) (i : ℕ) → drop i ws ≡ [] → get_or ws i [] ≡ []
no_word_here [] zero h = refl
no_word_here [] (suc i) h = refl
no_word_here (x ∷ xs) zero h = absurd (cc)
no_word_here (x ∷ xs) (suc i) h = no_word_here xs i h

pub drop_next : (ws : Words) (i : ℕ) (w : List ℕ) (r : Words) → drop i ws ≡ w ∷ r → drop (i + 1) ws ≡ r
drop_next ws i w r h = sym (drop-drop 1 i ws) ∙ ap (drop 1) h

pub drop_none : (ws : Words) (i n : ℕ) → drop i ws ≡ [] → i ≤ n → drop n ws ≡ []
drop_none ws i n h le =
    let e : length (drop i ws) ≡ 0 = ap length h in
    let few : length ws ≤ n = omega (arith, length-drop i ws) in
    drop_all n ws few
