use Rattle.std.proofs.Common.{◌≡◌, ◌≤◌, ◌<◌, ℕ, zero, suc, ◌+◌, ◌-◌, Bool, true, false, not, cond, List, [], ◌∷◌, ◌++◌, length, take, drop, get_or, Some, None, sym, ◌∙◌, ap, refl, arith, ltb, nat_eq, subst, filter, length-take}
use Rattle.std.specs.List.{slice_split, position_or_len, position, before_first, after_first, onto_first}
use Rattle.std.proofs.lemmas.List.Splits.{slice_split_none, slice_split_first, slice_split-cons_yes}
use Rattle.std.proofs.lemmas.List.Sums.{fails_before_first, passes_at_first}
use Rattle.std.proofs.lemmas.Bool.Decides.{nat_tests}
use Rattle.std.proofs.lemmas.Grind.{common_steps}
use Rattle.linewords.specs.Words.{is_blank, is_some_word, words}

-- Words are parts of a line, between its blanks.

module _ {X : Type 0} (p : X → Bool) where
  past_all : (xs : List X) → (b : Bool) → ltb (position_or_len p xs) (length xs) ≡ b → cond b (Some (position_or_len p xs)) None ≡ None → length xs ≤ position_or_len p xs
  past_all xs true e h = absurd (cc)
  past_all xs false e h = grind (arith, nat_tests)

  -- no element passes
  pub none_passes : (xs : List X) → position p xs ≡ None → length xs ≤ position_or_len p xs
  none_passes xs h = past_all xs _ refl h

  found : (xs : List X) (i : ℕ) (b : Bool) → ltb (position_or_len p xs) (length xs) ≡ b → cond b (Some (position_or_len p xs)) None ≡ Some i
      → (position_or_len p xs ≡ i) × (i < length xs)
  found xs i true e h =
      let same : position_or_len p xs ≡ i = cc in
      (same, grind (arith, nat_tests))
  found xs i false e h = absurd (cc)

  -- the first element that passes
  pub first_passes : (xs : List X) (i : ℕ) → position p xs ≡ Some i → (position_or_len p xs ≡ i) × (i < length xs)
  first_passes xs i h = found xs i _ refl h

  pub passes_there : (xs : List X) (d : X) (i : ℕ) → position p xs ≡ Some i → p (get_or xs i d) ≡ true
  passes_there xs d i h =
      let at = first_passes xs i h in
      subst (λ (n : ℕ). p (get_or xs n d) ≡ true) at.0 (passes_at_first p xs d (omega (arith, at.0, at.1)))

  pub split_whole : (xs : List X) → position p xs ≡ None → slice_split p xs ≡ xs ∷ []
  split_whole xs h = let past = none_passes xs h in slice_split_none p xs (λ k d within. fails_before_first p xs k d (omega arith))

  pub split_first : (xs : List X) (d : X) (i : ℕ) → position p xs ≡ Some i → slice_split p xs ≡ take i xs ∷ slice_split p (drop (i + 1) xs)
  split_first xs d i h =
      let at = first_passes xs i h in
      let first : slice_split p xs ≡ before_first p xs ∷ slice_split p (after_first p xs) = slice_split_first p xs d (omega (arith, at.0, at.1)) in
      subst (λ (n : ℕ). slice_split p xs ≡ take n xs ∷ slice_split p (drop (n + 1) xs)) at.0 first

-- what is left of a list is all of it
pub rest_taken : (xs : List ℕ) (i : ℕ) → take (length xs - i) (drop i xs) ≡ drop i xs
rest_taken xs i = grind (arith, common_steps)

-- behind the end nothing is left
pub nothing_left : (xs : List ℕ) → take (length xs - length xs) (drop (length xs) xs) ≡ []
nothing_left xs = grind (arith, common_steps)

not_true : (b : Bool) → not b ≡ true → b ≡ false
not_true true h = absurd (cc)
not_true false h = refl

not_false : (b : Bool) → not b ≡ false → b ≡ true
not_false true h = refl
not_false false h = absurd (cc)

-- Words.

words_blank : (b : ℕ) (bs : List ℕ) → is_blank b ≡ true → words (b ∷ bs) ≡ words bs
unfolding words
words_blank b bs h = ap (filter is_some_word) (slice_split-cons_yes is_blank b bs h)

words_skip : (xs : List ℕ) (k : ℕ) → ((i : ℕ) → i < k → is_blank (get_or xs i 0) ≡ true) → words xs ≡ words (drop k xs)
words_skip xs zero h = refl
words_skip [] (suc k) h = refl
words_skip (x ∷ xs) (suc k) h = words_blank x xs (h 0 (omega arith)) ∙ words_skip xs k (λ i within. h (suc i) (omega arith))

words_empty : words [] ≡ []
unfolding words
words_empty = refl

drop_whole : (xs : List ℕ) → drop (length xs) xs ≡ []
drop_whole xs = grind (arith, common_steps)

drop_past : (xs : List ℕ) (k : ℕ) → length xs ≤ k → drop k xs ≡ []
drop_past xs k h = grind (arith, common_steps)

-- blanks alone are no words
pub no_words : (line : List ℕ) → position (λ b. not (is_blank b)) line ≡ None → words line ≡ []
no_words line h =
    let past = none_passes (λ b. not (is_blank b)) line h in
    words_skip line (position_or_len (λ b. not (is_blank b)) line) (λ i within. not_false _ (fails_before_first (λ b. not (is_blank b)) line i 0 within))
    ∙ ap words (drop_past line _ past) ∙ words_empty

-- blanks before a word
pub words_behind_blanks : (line : List ℕ) (at : ℕ) → position (λ b. not (is_blank b)) line ≡ Some at → words line ≡ words (take (length line - at) (drop at line))
words_behind_blanks line at h =
    let there = first_passes (λ b. not (is_blank b)) line at h in
    words_skip line at (λ i within. not_false _ (fails_before_first (λ b. not (is_blank b)) line i 0 (omega (arith, there.0))))
    ∙ ap words (sym (rest_taken line at))

get_front : (line : List ℕ) (at : ℕ) → at < length line → get_or (take (length line - at) (drop at line)) 0 0 ≡ get_or line at 0
get_front line at within = grind (arith, common_steps)

pub word_begins : (line : List ℕ) (at : ℕ) → position (λ b. not (is_blank b)) line ≡ Some at → is_blank (get_or (take (length line - at) (drop at line)) 0 0) ≡ false
word_begins line at h =
    let there = first_passes (λ b. not (is_blank b)) line at h in
    ap is_blank (get_front line at there.1) ∙ not_true _ (passes_there (λ b. not (is_blank b)) line 0 at h)

word_is_some : (w : List ℕ) → 0 < length w → is_some_word w ≡ true
word_is_some w some = grind (arith, nat_tests)

keeps_word : (w : List ℕ) (parts : List (List ℕ)) → 0 < length w → filter is_some_word (w ∷ parts) ≡ w ∷ filter is_some_word parts
keeps_word w parts some = ap (λ (b : Bool). cond b (w ∷ filter is_some_word parts) (filter is_some_word parts)) (word_is_some w some)

-- the last word
pub words_last : (text : List ℕ) → 0 < length text → position is_blank text ≡ None → words text ≡ text ∷ words (take (length text - length text) (drop (length text) text))
unfolding words
words_last text some h =
    ap (filter is_some_word) (split_whole is_blank text h) ∙ keeps_word text [] some ∙ ap (λ (rest : List ℕ). text ∷ filter is_some_word (slice_split is_blank rest)) (sym (nothing_left text))

here : (text : List ℕ) (i : ℕ) → i < length text → drop i text ≡ get_or text i 0 ∷ drop (i + 1) text
here text i within = grind (arith, common_steps)

not_first : (text : List ℕ) (at : ℕ) → is_blank (get_or text 0 0) ≡ false → is_blank (get_or text at 0) ≡ true → 0 < at
not_first text zero h g = absurd (cc)
not_first text (suc n) h g = omega arith

words_first_at : (text : List ℕ) (at : ℕ) → 0 < length (take at text) → slice_split is_blank text ≡ take at text ∷ slice_split is_blank (drop (at + 1) text) → words text ≡ take at text ∷ words (drop (at + 1) text)
unfolding words
words_first_at text at some h = ap (filter is_some_word) h ∙ keeps_word (take at text) (slice_split is_blank (drop (at + 1) text)) some

-- a word and what follows it
pub words_first : (text : List ℕ) (at : ℕ) → is_blank (get_or text 0 0) ≡ false → position is_blank text ≡ Some at → words text ≡ take at text ∷ words (take (length text - at) (drop at text))
words_first text at begins h =
    let there = first_passes is_blank text at h in
    let blank = passes_there is_blank text 0 at h in
    let behind = not_first text at begins blank in
    words_first_at text at (omega (arith, length-take at text, there.1, behind)) (split_first is_blank text 0 at h)
    ∙ ap (λ (ws : List (List ℕ)). take at text ∷ ws) (sym (words_blank (get_or text at 0) (drop (at + 1) text) blank) ∙ ap words (sym (here text at there.1)) ∙ ap words (sym (rest_taken text at)))

-- what follows a word is shorter than what begins with it
pub shorter_behind : (text : List ℕ) (at : ℕ) → is_blank (get_or text 0 0) ≡ false → position is_blank text ≡ Some at → length (take (length text - at) (drop at text)) < length text
shorter_behind text at begins h =
    let there = first_passes is_blank text at h in
    let behind = not_first text at begins (passes_there is_blank text 0 at h) in
    simp (rest_taken text at, Rattle.std.proofs.Common.length-drop) (omega arith)
