use Rattle.std.proofs.Common.{◌≡◌, ◌<◌, ℕ, ◌+◌, true, false, List, [], ◌∷◌, ◌++◌, length, Some, sym, ◌∙◌, ap, refl, arith, subst, codes}
use Rattle.std.specs.List.{list_all}
use Rattle.std.specs.Fmt.{decimal}
use Rattle.std.proofs.lemmas.List.{append-nil}
use mathlib.Core.List.{append_assoc}
use Rattle.capfilter.specs.declared.word.Word.TheVariants as words
use Rattle.capfilter.specs.declared.end_test.EndTest.{EndTest}
use Rattle.capfilter.specs.declared.end_test.EndTest.TheVariants.{Host, Net, Port}
use Rattle.capfilter.specs.declared.end_test.Field.{Field}
use Rattle.capfilter.specs.declared.end_test.Field.TheVariants as fields
use Rattle.capfilter.specs.declared.prim.Side.TheVariants as sides
use Rattle.capfilter.specs.declared.prim.Primitive.{Primitive}
use Rattle.capfilter.specs.declared.prim.Primitive.TheVariants.{Tcp, Udp, Ip, Ip6, OfEnd}
use Rattle.capfilter.specs.Expr.{Expr, Test, Not, And, Or}
use Rattle.capfilter.specs.Words.{spelling}
use Rattle.capfilter.specs.Addresses.{address, version_4, version_6}
use Rattle.capfilter.specs.Ends.{end_test}
use Rattle.capfilter.specs.Tokens.{tokens, is_plain, begins_plain}
use Rattle.capfilter.specs.Grammar.{Tokens, side_words, field_word}
use Rattle.capfilter.specs.Faults.{bytes_of}
use Rattle.capfilter.specs.Canonical.{address_text, test_text, prim_text, canonical}
use Rattle.capfilter.specs.Fit.{IsFitTest, IsFitPrim, IsFit}
use Rattle.capfilter.proofs.TokenLemmas.{tokens-blank, tokens-bracket, tokens-run}
use Rattle.capfilter.proofs.EndTexts.{test_field, value_text, test-text, test_plain}

-- the tokens of canonical texts
abbrev pub prim_tokens : Primitive → Tokens
prim_tokens Tcp = spelling words.Tcp ∷ []
prim_tokens Udp = spelling words.Udp ∷ []
prim_tokens Ip = spelling words.Ip ∷ []
prim_tokens Ip6 = spelling words.Ip6 ∷ []
prim_tokens (OfEnd side t) = side_words side ++ spelling (field_word (test_field t)) ∷ value_text t ∷ []

abbrev pub expr_tokens : Expr → Tokens
expr_tokens (Test prim) = prim_tokens prim
expr_tokens (Not inner) = spelling words.Not ∷ expr_tokens inner
expr_tokens (And left right) = spelling words.Open ∷ ((expr_tokens left ++ spelling words.And ∷ expr_tokens right) ++ spelling words.Close ∷ [])
expr_tokens (Or left right) = spelling words.Open ∷ ((expr_tokens left ++ spelling words.Or ∷ expr_tokens right) ++ spelling words.Close ∷ [])

-- a text has these tokens, whatever stands behind it
abbrev Ends : List ℕ → Tokens → Type 0
Ends text ws = (at : ℕ) (rest : List ℕ) → (to : ℕ) × (bytes_of (tokens at (text ++ rest)) ≡ ws ++ bytes_of (tokens to rest))

-- the same, where no plain byte stands right behind it
pub record Goes (text : List ℕ) (ws : Tokens) : Type 0 where
  pub on : (at : ℕ) (rest : List ℕ) → begins_plain rest ≡ false → (to : ℕ) × (bytes_of (tokens at (text ++ rest)) ≡ ws ++ bytes_of (tokens to rest))

record Splits (text : List ℕ) (ws : Tokens) : Type 0 where
  on : Ends text ws

goes : (text : List ℕ) (ws : Tokens) → Splits text ws → Goes text ws
goes text ws h = record { on = λ at rest stops. h.on at rest }

then_goes : (x y : List ℕ) (ws vs : Tokens) → Splits x ws → Goes y vs → Goes (x ++ y) (ws ++ vs)
then_goes x y ws vs h g =
    record {
      on = λ at rest stops.
          let first = h.on at (y ++ rest) in
          let second = g.on first.0 rest stops in (
            second.0,
            ap (λ (l : List ℕ). bytes_of (tokens at l)) (append_assoc x y rest) ∙ first.1 ∙ ap (λ (l : Tokens). ws ++ l) second.1 ∙ sym (append_assoc ws vs (bytes_of (tokens second.0 rest))),
          );
    }

then_splits : (x y : List ℕ) (ws vs : Tokens) → Splits x ws → Splits y vs → Splits (x ++ y) (ws ++ vs)
then_splits x y ws vs h g =
    record {
      on = λ at rest.
          let first = h.on at (y ++ rest) in
          let second = g.on first.0 rest in (
            second.0,
            ap (λ (l : List ℕ). bytes_of (tokens at l)) (append_assoc x y rest) ∙ first.1 ∙ ap (λ (l : Tokens). ws ++ l) second.1 ∙ sym (append_assoc ws vs (bytes_of (tokens second.0 rest))),
          );
    }

-- behind a text that may go on stands one that begins with no plain byte
stopped_by : (x y : List ℕ) (ws vs : Tokens) → Goes x ws → ((rest : List ℕ) → begins_plain (y ++ rest) ≡ false) → Splits y vs → Splits (x ++ y) (ws ++ vs)
stopped_by x y ws vs h stops g =
    record {
      on = λ at rest.
          let first = h.on at (y ++ rest) (stops rest) in
          let second = g.on first.0 rest in (
            second.0,
            ap (λ (l : List ℕ). bytes_of (tokens at l)) (append_assoc x y rest) ∙ first.1 ∙ ap (λ (l : Tokens). ws ++ l) second.1 ∙ sym (append_assoc ws vs (bytes_of (tokens second.0 rest))),
          );
    }

-- a plain word
one_word : (w : List ℕ) → 0 < length w → list_all is_plain w ≡ true → Goes w (w ∷ [])
one_word w some plain = record { on = λ at rest stops. (at + length w, ap bytes_of (tokens-run w rest at some plain stops)) }

-- a blank
blank : Splits (32 ∷ []) []
blank = record { on = λ at rest. (at + 1, ap bytes_of (tokens-blank at 32 rest refl)) }

word_blank : (w : List ℕ) → 0 < length w → list_all is_plain w ≡ true → Splits (w ++ 32 ∷ []) (w ∷ [])
word_blank w some plain = stopped_by w (32 ∷ []) (w ∷ []) [] (one_word w some plain) (λ rest. refl) blank

blank_word_blank : (w : List ℕ) → 0 < length w → list_all is_plain w ≡ true → Splits ((32 ∷ []) ++ (w ++ 32 ∷ [])) (w ∷ [])
blank_word_blank w some plain = then_splits (32 ∷ []) (w ++ 32 ∷ []) [] (w ∷ []) blank (word_blank w some plain)

open_bracket : Splits (codes "(") (spelling words.Open ∷ [])
open_bracket = record { on = λ at rest. (at + 1, ap bytes_of (tokens-bracket at 40 rest refl refl)) }

close_bracket : Splits (codes ")") (spelling words.Close ∷ [])
close_bracket = record { on = λ at rest. (at + 1, ap bytes_of (tokens-bracket at 41 rest refl refl)) }

-- the text of a test is not empty
some_text : (field : Field) (text : List ℕ) (t : EndTest) → end_test field text ≡ Some t → 0 < length text
unfolding end_test address version_4 version_6
some_text fields.Host [] t h = absurd (cc)
some_text fields.Net [] t h = absurd (cc)
some_text fields.Port [] t h = absurd (cc)
some_text field (x ∷ xs) t h = omega arith

value_goes : (t : EndTest) → IsFitTest t → Goes (value_text t) (value_text t ∷ [])
value_goes t h = one_word (value_text t) (some_text (test_field t) (value_text t) t (test-text t h)) (test_plain t h)

test_goes : (t : EndTest) → IsFitTest t → Goes (test_text t) (spelling (field_word (test_field t)) ∷ value_text t ∷ [])
unfolding test_text
test_goes (Host a) h = then_goes (codes "host ") (address_text a) (spelling words.Host ∷ []) (address_text a ∷ []) (word_blank (codes "host") (omega arith) refl) (value_goes (Host a) h)
test_goes (Net a n) h =
    let same : ((codes "net " ++ address_text a) ++ codes "/") ++ decimal n ≡ codes "net " ++ (address_text a ++ (47 ∷ decimal n)) =
    append_assoc (codes "net " ++ address_text a) (codes "/") (decimal n) ∙ append_assoc (codes "net ") (address_text a) (codes "/" ++ decimal n) in
    subst (λ (l : List ℕ). Goes l (spelling words.Net ∷ value_text (Net a n) ∷ [])) (sym same)
    (then_goes (codes "net ") (value_text (Net a n)) (spelling words.Net ∷ []) (value_text (Net a n) ∷ []) (word_blank (codes "net") (omega arith) refl) (value_goes (Net a n) h))
test_goes (Port port) h = then_goes (codes "port ") (decimal port) (spelling words.Port ∷ []) (decimal port ∷ []) (word_blank (codes "port") (omega arith) refl) (value_goes (Port port) h)

prim_goes : (prim : Primitive) → IsFitPrim prim → Goes (prim_text prim) (prim_tokens prim)
prim_goes Tcp h = one_word (codes "tcp") (omega arith) refl
prim_goes Udp h = one_word (codes "udp") (omega arith) refl
prim_goes Ip h = one_word (codes "ip") (omega arith) refl
prim_goes Ip6 h = one_word (codes "ip6") (omega arith) refl
prim_goes (OfEnd sides.Either t) h = test_goes t h
prim_goes (OfEnd sides.Source t) h = then_goes (codes "src ") (test_text t) (spelling words.Source ∷ []) _ (word_blank (codes "src") (omega arith) refl) (test_goes t h)
prim_goes (OfEnd sides.Target t) h = then_goes (codes "dst ") (test_text t) (spelling words.Target ∷ []) _ (word_blank (codes "dst") (omega arith) refl) (test_goes t h)

-- two operands in brackets
join_goes : (x y word : List ℕ) (ws vs : Tokens) → 0 < length word → list_all is_plain word ≡ true → Goes x ws → Goes y vs
    → Goes (codes "(" ++ (x ++ (((32 ∷ []) ++ (word ++ 32 ∷ [])) ++ (y ++ codes ")")))) (spelling words.Open ∷ ((ws ++ word ∷ vs) ++ spelling words.Close ∷ []))
join_goes x y word ws vs some plain h g =
    let back = stopped_by y (codes ")") vs (spelling words.Close ∷ []) g (λ rest. refl) close_bracket in
    let middle = then_splits ((32 ∷ []) ++ (word ++ 32 ∷ [])) (y ++ codes ")") (word ∷ []) (vs ++ spelling words.Close ∷ []) (blank_word_blank word some plain) back in
    let inside = stopped_by x (((32 ∷ []) ++ (word ++ 32 ∷ [])) ++ (y ++ codes ")")) ws (word ∷ (vs ++ spelling words.Close ∷ [])) h (λ rest. refl) middle in
    let all = then_splits (codes "(") (x ++ (((32 ∷ []) ++ (word ++ 32 ∷ [])) ++ (y ++ codes ")"))) (spelling words.Open ∷ []) (ws ++ word ∷ (vs ++ spelling words.Close ∷ [])) open_bracket inside in
    let same : ws ++ word ∷ (vs ++ spelling words.Close ∷ []) ≡ (ws ++ word ∷ vs) ++ spelling words.Close ∷ [] = sym (append_assoc ws (word ∷ vs) (spelling words.Close ∷ [])) in
    subst (λ (l : Tokens). Goes (codes "(" ++ (x ++ (((32 ∷ []) ++ (word ++ 32 ∷ [])) ++ (y ++ codes ")")))) (spelling words.Open ∷ l)) same (goes _ _ all)

expr_goes : (e : Expr) → IsFit e → Goes (canonical e) (expr_tokens e)
expr_goes (Test prim) h = prim_goes prim h
expr_goes (Not inner) h = then_goes (codes "not ") (canonical inner) (spelling words.Not ∷ []) (expr_tokens inner) (word_blank (codes "not") (omega arith) refl) (expr_goes inner h)
expr_goes (And left right) h = join_goes (canonical left) (canonical right) (codes "and") (expr_tokens left) (expr_tokens right) (omega arith) refl (expr_goes left h.0) (expr_goes right h.1)
expr_goes (Or left right) h = join_goes (canonical left) (canonical right) (codes "or") (expr_tokens left) (expr_tokens right) (omega arith) refl (expr_goes left h.0) (expr_goes right h.1)

-- the tokens of a canonical text
pub canonical_tokens : (e : Expr) → IsFit e → bytes_of (tokens 0 (canonical e)) ≡ expr_tokens e
canonical_tokens e h =
    let whole = (expr_goes e h).on 0 [] refl in
    ap (λ (l : List ℕ). bytes_of (tokens 0 l)) (sym (append-nil (canonical e))) ∙ whole.1 ∙ append-nil (expr_tokens e)
