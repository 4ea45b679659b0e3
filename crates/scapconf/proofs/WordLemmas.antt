use Rattle.std.proofs.Common.{◌≡◌, ◌≤◌, ◌<◌, ◌&&◌, ℕ, zero, suc, ◌+◌, Bool, true, false, cond, List, [], ◌∷◌, ◌++◌, length, drop, get_or, sym, ◌∙◌, ap, refl, arith, filter, append_assoc, length-drop, subst}
use Rattle.std.specs.List.{slice_split, list_all, onto_first, flat_map}
use Rattle.std.specs.Str.{IsUtf8, IsAscii}
use Rattle.std.proofs.lemmas.List.{drop-drop, drop_all, append-nil}
use Rattle.std.proofs.lemmas.Str.{IsUtf8-from_ascii}
use Rattle.std.proofs.lemmas.Str.Ascii.{IsAscii-nil, IsAscii-cons}
use Rattle.std.proofs.lemmas.Bool.Decides.{nat_tests}
use Rattle.linewords.specs.Words.{is_blank, is_some_word, Words, words}
use Rattle.scapconf.specs.Lines.{is_text_byte, is_text, joined}

-- Words that are joined.

-- each word behind a space
abbrev pub spaced : Words → List ℕ
spaced = flat_map (λ w. 32 ∷ w)

join_from : (w : List ℕ) (ws : Words) → joined (w ∷ ws) ≡ w ++ spaced ws
join_from w [] = sym (append-nil w)
join_from w (y ∷ ws) = ap (λ (rest : List ℕ). w ++ (32 ∷ rest)) (join_from y ws)

pub joined_first : (all : Words) (w : List ℕ) (ws : Words) → all ≡ w ∷ ws → joined all ≡ w ++ spaced ws
joined_first all w ws h = ap joined h ∙ join_from w ws

pub joined_more : (all text w : List ℕ) (left behind : Words) → all ≡ text ++ spaced left → left ≡ w ∷ behind → all ≡ ((text ++ 32 ∷ []) ++ w) ++ spaced behind
joined_more all text w left behind h e =
    h ∙ ap (λ (ws : Words). text ++ spaced ws) e
    ∙ sym (append_assoc (text ++ 32 ∷ []) w (spaced behind) ∙ append_assoc text (32 ∷ []) (w ++ spaced behind))

pub joined_all : (all text : List ℕ) (left : Words) → all ≡ text ++ spaced left → left ≡ [] → all ≡ text
joined_all all text left h e = h ∙ ap (λ (ws : Words). text ++ spaced ws) e ∙ append-nil text

-- The bytes of words are bytes of their line.

and_left : (x y : Bool) → (x && y) ≡ true → x ≡ true
and_left true y h = refl
and_left false y h = h

and_right : (x y : Bool) → (x && y) ≡ true → y ≡ true
and_right true y h = h
and_right false y h = absurd (cc)

both : (x y : Bool) → x ≡ true → y ≡ true → (x && y) ≡ true
both x y h g = ap (λ (b : Bool). b && y) h ∙ g

module _ (p : ℕ → Bool) where
  onto_all : (x : ℕ) (parts : Words) → p x ≡ true → list_all (list_all p) parts ≡ true → list_all (list_all p) (onto_first x parts) ≡ true
  onto_all x [] h g = both (p x && true) true (both (p x) true h refl) refl
  onto_all x (part ∷ parts) h g = both (p x && list_all p part) (list_all (list_all p) parts) (both (p x) (list_all p part) h (and_left _ _ g)) (and_right (list_all p part) _ g)

  split_all : (q : ℕ → Bool) (xs : List ℕ) → list_all p xs ≡ true → list_all (list_all p) (slice_split q xs) ≡ true
  split_all q [] h = refl
  split_all q (x ∷ xs) h = by_test (q x) (split_all q xs (and_right (p x) _ h))
    where
      by_test : (b : Bool) → list_all (list_all p) (slice_split q xs) ≡ true → list_all (list_all p) (cond b ([] ∷ slice_split q xs) (onto_first x (slice_split q xs))) ≡ true
      by_test true g = g
      by_test false g = onto_all x (slice_split q xs) (and_left (p x) _ h) g

filter_all : (p q : List ℕ → Bool) (ws : Words) → list_all p ws ≡ true → list_all p (filter q ws) ≡ true
filter_all p q [] h = refl
filter_all p q (w ∷ ws) h = by_test (q w) (filter_all p q ws (and_right (p w) _ h))
  where
    by_test : (b : Bool) → list_all p (filter q ws) ≡ true → list_all p (cond b (w ∷ filter q ws) (filter q ws)) ≡ true
    by_test true g = both (p w) _ (and_left (p w) _ h) g
    by_test false g = g

drop_all_pass : (p : List ℕ → Bool) (ws : Words) (i : ℕ) → list_all p ws ≡ true → list_all p (drop i ws) ≡ true
drop_all_pass p ws zero h = h
drop_all_pass p [] (suc i) h = refl
drop_all_pass p (w ∷ ws) (suc i) h = drop_all_pass p ws i (and_right (p w) _ h)

text_is_ascii : (b : ℕ) → is_text_byte b ≡ true → b < 128
text_is_ascii b h = grind (arith, nat_tests)

ascii_front : (xs ys : List ℕ) → is_text xs ≡ true → IsAscii ys → IsAscii (xs ++ ys)
ascii_front [] ys h g = g
ascii_front (x ∷ xs) ys h g = IsAscii-cons x (xs ++ ys) (text_is_ascii x (and_left _ _ h)) (ascii_front xs ys (and_right (is_text_byte x) _ h) g)

spaced_ascii : (ws : Words) → list_all is_text ws ≡ true → IsAscii (spaced ws)
spaced_ascii [] h = IsAscii-nil
spaced_ascii (w ∷ ws) h = IsAscii-cons 32 (w ++ spaced ws) (omega arith) (ascii_front w (spaced ws) (and_left _ _ h) (spaced_ascii ws (and_right (is_text w) _ h)))

joined_ascii : (ws : Words) → list_all is_text ws ≡ true → IsAscii (joined ws)
joined_ascii [] h = IsAscii-nil
joined_ascii (w ∷ ws) h = subst (λ (t : List ℕ). IsAscii t) (sym (join_from w ws)) (ascii_front w (spaced ws) (and_left _ _ h) (spaced_ascii ws (and_right (is_text w) _ h)))

words_text : (line : List ℕ) → is_text line ≡ true → list_all is_text (words line) ≡ true
unfolding words
words_text line h = filter_all is_text is_some_word (slice_split is_blank line) (split_all is_text_byte is_blank line h)

-- an expression is text
pub joined_utf8 : (line text : List ℕ) (i : ℕ) (ws : Words) → is_text line ≡ true → ws ≡ drop i (words line) → text ≡ joined ws → IsUtf8 text
joined_utf8 line text i ws h e g =
    subst (λ (t : List ℕ). IsUtf8 t) (sym (g ∙ ap joined e)) (IsUtf8-from_ascii (joined (drop i (words line))) (joined_ascii (drop i (words line)) (drop_all_pass is_text (words line) i (words_text line h))))

pub line_utf8 : (line : List ℕ) → is_text line ≡ true → IsUtf8 line
line_utf8 line h = IsUtf8-from_ascii line (subst (λ (t : List ℕ). IsAscii t) (append-nil line) (ascii_front line [] h IsAscii-nil))
