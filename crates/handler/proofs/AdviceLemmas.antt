use Rattle.std.proofs.Common.{◌≡◌, ◌<◌, ℕ, Bool, true, MatchOption, List, [], ◌∷◌, length, drop, Option, Some, None, refl, sym, ◌∙◌, ap, subst, arith}
use Rattle.evring.specs.declared.advice.Advice.{Advice}
use Rattle.evring.specs.Advice.{no_advice}
use Rattle.linewords.specs.Words.{Words, word_at}
use Rattle.handler.specs.declared.part.Part.{Part}
use Rattle.handler.specs.Parts.{is_fresh, part_words, with_part, with_parts}
use Rattle.handler.specs.Reader.{part}
use Rattle.handler.specs.Grammar.{AreParts, AreFresh, SaysAdvice, SaysSome}
use Rattle.handler.proofs.ReadLemmas.{part_is, part_read, part_there}

-- Parts of advice are read one after the other.

some_is : {A : Type 0} (x y : A) → Some x ≡ Some y → x ≡ y
some_is x y h = cc

module _ (of_data : Bool) where
  -- where no word is left, nothing more is advised
  pub says_nothing : (a : Advice) (ws : Words) → ws ≡ [] → SaysAdvice of_data a ws a
  says_nothing a ws h = record { parts = []; are = h; fresh = tt; is = refl }

  -- a part, and what the words behind it advise
  pub says_more : (a : Advice) (ws : Words) (p : Part) (advice : Advice) → part (word_at 0 ws) (word_at 1 ws) ≡ Some p → is_fresh of_data p a ≡ true
      → SaysAdvice of_data (with_part p a) (drop (part_words p) ws) advice → SaysAdvice of_data a ws advice
  says_more a ws p advice h fresh s = record {
    parts = p ∷ s.parts;
    are = (drop (part_words p) ws, part_is ws p h, s.are);
    fresh = (fresh, s.fresh);
    is = s.is;
  }

  nothing_there : {B : Type 0} (ws : Words) → 0 < length ws → ws ≡ [] → B
  nothing_there ws some h =
      let e : length ws ≡ 0 = ap length h in
      absurd (omega arith)

  -- words that advise begin with a part
  first_read : {B : Type 0} (a : Advice) (ws : Words) (advice : Advice) → 0 < length ws → SaysAdvice of_data a ws advice
      → ((p : Part) → part (word_at 0 ws) (word_at 1 ws) ≡ Some p → is_fresh of_data p a ≡ true → SaysAdvice of_data (with_part p a) (drop (part_words p) ws) advice → B) → B
  first_read {B} a ws advice some s then = by s.parts s.are s.fresh s.is
    where
      by : (ps : List Part) → AreParts ps ws → AreFresh of_data a ps → advice ≡ with_parts ps a → B
      by [] are fresh is = nothing_there ws some are
      by (p ∷ ps) are fresh is =
          let read = part_read p ws are.0 are.1 in
          then p read.0 fresh.0 (record { parts = ps; are = subst (AreParts ps) read.1 are.2; fresh = fresh.1; is = is })

  -- what is advised is advised by the first part and the words behind it
  pub says_less : (a : Advice) (ws : Words) (p : Part) (advice : Advice) → 0 < length ws → part (word_at 0 ws) (word_at 1 ws) ≡ Some p
      → SaysAdvice of_data a ws advice → (is_fresh of_data p a ≡ true) × SaysAdvice of_data (with_part p a) (drop (part_words p) ws) advice
  says_less a ws p advice some h s =
      first_read a ws advice some s (λ q read fresh more.
      subst (λ (u : Part). (is_fresh of_data u a ≡ true) × SaysAdvice of_data (with_part u a) (drop (part_words u) ws) advice) (some_is q p (sym read ∙ h)) (fresh, more))

  -- words that begin with no part advise nothing
  pub no_part : (a : Advice) (ws : Words) (advice : Advice) → 0 < length ws → part (word_at 0 ws) (word_at 1 ws) ≡ None → ¬ SaysAdvice of_data a ws advice
  no_part a ws advice some h s = first_read a ws advice some s (λ q read fresh more. let e : None ≡ Some q = sym h ∙ read in cc)

  -- a step of reading
  pub forth_step : (a b : Advice) (ws vs : Words) (p : Part) (n : ℕ) (x : Advice) → part (word_at 0 ws) (word_at 1 ws) ≡ Some p → is_fresh of_data p a ≡ true
      → b ≡ with_part p a → n ≡ part_words p → vs ≡ drop n ws → SaysAdvice of_data b vs x → SaysAdvice of_data a ws x
  forth_step a b ws vs p n x h fresh is_b is_n is_vs s =
      let behind : vs ≡ drop (part_words p) ws = is_vs ∙ ap (λ (k : ℕ). drop k ws) is_n in
      says_more a ws p x h fresh (subst (λ (v : Words). SaysAdvice of_data (with_part p a) v x) behind (subst (λ (c : Advice). SaysAdvice of_data c vs x) is_b s))

  pub back_step : (a b : Advice) (ws vs : Words) (p : Part) (n : ℕ) (x : Advice) → 0 < length ws → part (word_at 0 ws) (word_at 1 ws) ≡ Some p
      → b ≡ with_part p a → n ≡ part_words p → vs ≡ drop n ws → SaysAdvice of_data a ws x → SaysAdvice of_data b vs x
  back_step a b ws vs p n x some h is_b is_n is_vs s =
      let behind : vs ≡ drop (part_words p) ws = is_vs ∙ ap (λ (k : ℕ). drop k ws) is_n in
      let less = says_less a ws p x some h s in
      subst (λ (c : Advice). SaysAdvice of_data c vs x) (sym is_b) (subst (λ (v : Words). SaysAdvice of_data (with_part p a) v x) (sym behind) less.1)

-- a word and the one behind it
pub at_word : (ws behind : Words) (name value : List ℕ) (o : Option Part) → ws ≡ name ∷ behind → value ≡ word_at 0 behind → o ≡ part name value → o ≡ part (word_at 0 ws) (word_at 1 ws)
at_word ws behind name value o h v e = subst (λ (vs : Words). o ≡ part (word_at 0 vs) (word_at 1 vs)) (sym h) (e ∙ ap (λ (w : List ℕ). part name w) v)

pub some_word : (ws behind : Words) (name : List ℕ) → ws ≡ name ∷ behind → 0 < length ws
some_word ws behind name h = subst (λ (vs : Words). 0 < length vs) (sym h) (omega arith)

pub none_there : (ws vs : Words) → ws ≡ vs → ws ≡ [] → 0 < length vs → ⊥
none_there ws vs is_vs none some =
    let e : length vs ≡ 0 = ap length (sym is_vs ∙ none) in
    absurd (omega arith)

-- words that advise, of which there is one
pub with_some : (d e : Bool) (ws vs behind : Words) (name : List ℕ) (o : Option Advice) → d ≡ e → ws ≡ vs → ws ≡ name ∷ behind
    → MatchOption o ((x : Advice) → ¬ SaysAdvice d no_advice ws x) (SaysAdvice d no_advice ws) → MatchOption o ((x : Advice) → ¬ SaysSome e vs x) (SaysSome e vs)
with_some d e ws vs behind name o is_e is_vs there h =
    subst (λ (c : Bool). MatchOption o ((x : Advice) → ¬ SaysSome c vs x) (SaysSome c vs)) is_e
    (subst (λ (us : Words). MatchOption o ((x : Advice) → ¬ SaysSome d us x) (SaysSome d us)) is_vs (by o h))
  where
    by : (q : Option Advice) → MatchOption q ((x : Advice) → ¬ SaysAdvice d no_advice ws x) (SaysAdvice d no_advice ws) → MatchOption q ((x : Advice) → ¬ SaysSome d ws x) (SaysSome d ws)
    by None none = λ x says. none x says.says
    by (Some x) says = record { some = some_word ws behind name there; says = says }

-- words are parts in one way
same_parts : (ps qs : List Part) (ws : Words) → AreParts ps ws → AreParts qs ws → ps ≡ qs
same_parts [] [] ws h g = refl
same_parts [] (q ∷ qs) ws h g = absurd (part_there q ws g.0 g.1 h)
same_parts (p ∷ ps) [] ws h g = absurd (part_there p ws h.0 h.1 g)
same_parts (p ∷ ps) (q ∷ qs) ws h g =
    let one = part_read p ws h.0 h.1 in
    let other = part_read q ws g.0 g.1 in
    let first : p ≡ q = some_is p q (sym one.0 ∙ other.0) in
    let behind : g.0 ≡ h.0 = other.1 ∙ ap (λ (u : Part). drop (part_words u) ws) (sym first) ∙ sym one.1 in
    let more : ps ≡ qs = same_parts ps qs h.0 h.2 (subst (AreParts qs) behind g.2) in
    cc

-- words advise one thing
pub one_advice : (of_data : Bool) (a : Advice) (ws : Words) (x y : Advice) → SaysAdvice of_data a ws x → SaysAdvice of_data a ws y → x ≡ y
one_advice of_data a ws x y s t = s.is ∙ ap (λ (ps : List Part). with_parts ps a) (same_parts s.parts t.parts ws s.are t.are) ∙ sym t.is
