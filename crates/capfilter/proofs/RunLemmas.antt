use Rattle.std.proofs.Common.{◌≡◌, ◌≤◌, ℕ, suc, zero, ◌+◌, List, [], ◌∷◌, ◌++◌, Some, sym, ◌∙◌, ap, refl, arith, subst, ◌⊎◌, inl, inr}
use Rattle.std.specs.Option.{option_and_then, option_map}
use mathlib.Core.List.{append_assoc}
use Rattle.capfilter.specs.declared.word.Word.{Word}
use Rattle.capfilter.specs.declared.word.Word.TheVariants as words
use Rattle.capfilter.specs.declared.end_test.Field.{Field}
use Rattle.capfilter.specs.declared.end_test.Field.TheVariants as fields
use Rattle.capfilter.specs.declared.end_test.EndTest.{EndTest}
use Rattle.capfilter.specs.declared.prim.Side.{Side}
use Rattle.capfilter.specs.declared.prim.Side.TheVariants as sides
use Rattle.capfilter.specs.declared.prim.Primitive.{Primitive}
use Rattle.capfilter.specs.declared.prim.Primitive.TheVariants.{Tcp, Udp, Ip, Ip6, OfEnd}
use Rattle.capfilter.specs.Expr.{Expr, Test, Not, And, Or}
use Rattle.capfilter.specs.Words.{word, spelling}
use Rattle.capfilter.specs.Ends.{end_test}
use Rattle.capfilter.specs.Grammar.{Tokens, side_words, field_word, IsPrim, IsExpr, IsPrimTerm, IsNegation, IsBracketed, IsTerm, IsExprOf, Begins}
use Rattle.capfilter.specs.Parser.{IsFresh}
use Rattle.capfilter.specs.Reader.{Frame, NotFrame, OpenFrame, AndFrame, OrFrame, Next, Operand, Text_of_end, Operator, State, start, levels, completed, step}

-- the reader goes from one state to another over these tokens, with at most that many levels
abbrev pub Runs : ℕ → State → Tokens → State → Type 0
Runs most s [] u = s ≡ u
Runs most s (t ∷ ts) u = (m : State) × (step s.frames s.next t ≡ Some m) × (levels m.frames ≤ most) × Runs most m ts u

pub Runs-append : (most : ℕ) (s m u : State) (ts us : Tokens) → Runs most s ts m → Runs most m us u → Runs most s (ts ++ us) u
Runs-append most s m u [] us h g = subst (λ (x : State). Runs most x us u) (sym h) g
Runs-append most s m u (t ∷ ts) us h g = (h.0, h.1, h.2, Runs-append most h.0 m u ts us h.3 g)

pub Runs-split : (most : ℕ) (s u : State) (ts us : Tokens) → Runs most s (ts ++ us) u → (m : State) × Runs most s ts m × Runs most m us u
Runs-split most s u [] us h = (s, refl, h)
Runs-split most s u (t ∷ ts) us h =
    let rest = Runs-split most h.0 u ts us h.3 in
    (rest.0, (h.0, h.1, h.2, rest.1), rest.2)

pub Runs-more : (most more : ℕ) (s u : State) (ts : Tokens) → most ≤ more → Runs most s ts u → Runs more s ts u
Runs-more most more s u [] le h = h
Runs-more most more s u (t ∷ ts) le h = (h.0, h.1, omega (arith, h.2), Runs-more most more h.0 u ts le h.3)

pub Runs-same : (most more : ℕ) (s u v : State) (ts : Tokens) → Runs most s ts u → Runs more s ts v → u ≡ v
Runs-same most more s u v [] h g = sym h ∙ g
Runs-same most more s u v (t ∷ ts) h g =
    let same : h.0 ≡ g.0 = cc (sym h.1 ∙ g.1) in
    Runs-same most more g.0 u v ts (subst (λ (m : State). Runs most m ts u) same h.3) g.3

pub Runs-levels : (most : ℕ) (s u : State) (ts : Tokens) → levels s.frames ≤ most → Runs most s ts u → levels u.frames ≤ most
Runs-levels most s u [] le h = subst (λ (x : State). levels x.frames ≤ most) h le
Runs-levels most s u (t ∷ ts) le h = Runs-levels most h.0 u ts h.2 h.3

-- completing an operand opens no level
pub levels-completed : (frames : List Frame) (e : Expr) → levels (completed frames e).frames ≤ levels frames
levels-completed [] e = omega arith
levels-completed (NotFrame ∷ frames) e = let h = levels-completed frames (Not e) in omega (arith, h)
levels-completed (OpenFrame ∷ frames) e = omega arith
levels-completed (AndFrame left ∷ frames) e = levels-completed frames (And left e)
levels-completed (OrFrame left ∷ frames) e = levels-completed frames (Or left e)

pub completed_fresh : (frames : List Frame) (e : Expr) → IsFresh frames → completed frames e ≡ record { frames = frames; next = Operator e }
completed_fresh [] e h = refl
completed_fresh (NotFrame ∷ frames) e h = absurd h
completed_fresh (OpenFrame ∷ frames) e h = refl
completed_fresh (AndFrame left ∷ frames) e h = absurd h
completed_fresh (OrFrame left ∷ frames) e h = absurd h

-- each word is found by its spelling
pub word_spelled : (w : Word) → word (spelling w) ≡ Some w
unfolding word
word_spelled words.And = refl
word_spelled words.Or = refl
word_spelled words.Not = refl
word_spelled words.Open = refl
word_spelled words.Close = refl
word_spelled words.Tcp = refl
word_spelled words.Udp = refl
word_spelled words.Ip = refl
word_spelled words.Ip6 = refl
word_spelled words.Source = refl
word_spelled words.Target = refl
word_spelled words.Host = refl
word_spelled words.Net = refl
word_spelled words.Port = refl

abbrev pub at_next : List Frame → Next → State
at_next frames next = record { frames = frames; next = next }

module _ (most : ℕ) (frames : List Frame) (within : levels frames ≤ most) where
  over_single : (w : Word) (e : Expr) → step frames Operand (spelling w) ≡ Some (completed frames e) → Runs most (at_next frames Operand) (spelling w ∷ []) (completed frames e)
  over_single w e h = (completed frames e, h, omega (arith, levels-completed frames e), refl)

  over_text : (side : Side) (field : Field) (text : List ℕ) (t : EndTest) → end_test field text ≡ Some t
      → Runs most (at_next frames (Text_of_end side field)) (text ∷ []) (completed frames (Test (OfEnd side t)))
  over_text side field text t h =
      (completed frames (Test (OfEnd side t)), ap (option_map (λ t. completed frames (Test (OfEnd side t)))) h, omega (arith, levels-completed frames (Test (OfEnd side t))), refl)

  over_end : (side : Side) (field : Field) → Runs most (at_next frames Operand) (side_words side ++ spelling (field_word field) ∷ []) (at_next frames (Text_of_end side field))
  over_end sides.Either fields.Host = (_, ap (option_and_then _) (word_spelled words.Host), within, refl)
  over_end sides.Either fields.Net = (_, ap (option_and_then _) (word_spelled words.Net), within, refl)
  over_end sides.Either fields.Port = (_, ap (option_and_then _) (word_spelled words.Port), within, refl)
  over_end sides.Source fields.Host = (_, ap (option_and_then _) (word_spelled words.Source), within, (_, ap (option_and_then _) (word_spelled words.Host), within, refl))
  over_end sides.Source fields.Net = (_, ap (option_and_then _) (word_spelled words.Source), within, (_, ap (option_and_then _) (word_spelled words.Net), within, refl))
  over_end sides.Source fields.Port = (_, ap (option_and_then _) (word_spelled words.Source), within, (_, ap (option_and_then _) (word_spelled words.Port), within, refl))
  over_end sides.Target fields.Host = (_, ap (option_and_then _) (word_spelled words.Target), within, (_, ap (option_and_then _) (word_spelled words.Host), within, refl))
  over_end sides.Target fields.Net = (_, ap (option_and_then _) (word_spelled words.Target), within, (_, ap (option_and_then _) (word_spelled words.Net), within, refl))
  over_end sides.Target fields.Port = (_, ap (option_and_then _) (word_spelled words.Target), within, (_, ap (option_and_then _) (word_spelled words.Port), within, refl))

  pub over_prim : (ts : Tokens) (prim : Primitive) → IsPrim ts prim → Runs most (at_next frames Operand) ts (completed frames (Test prim))
  over_prim ts Tcp h = subst (λ (l : Tokens). Runs most (at_next frames Operand) l (completed frames (Test Tcp))) (sym h) (over_single words.Tcp (Test Tcp) (ap (option_and_then _) (word_spelled words.Tcp)))
  over_prim ts Udp h = subst (λ (l : Tokens). Runs most (at_next frames Operand) l (completed frames (Test Udp))) (sym h) (over_single words.Udp (Test Udp) (ap (option_and_then _) (word_spelled words.Udp)))
  over_prim ts Ip h = subst (λ (l : Tokens). Runs most (at_next frames Operand) l (completed frames (Test Ip))) (sym h) (over_single words.Ip (Test Ip) (ap (option_and_then _) (word_spelled words.Ip)))
  over_prim ts Ip6 h = subst (λ (l : Tokens). Runs most (at_next frames Operand) l (completed frames (Test Ip6))) (sym h) (over_single words.Ip6 (Test Ip6) (ap (option_and_then _) (word_spelled words.Ip6)))
  over_prim ts (OfEnd side t) (field, text, is, e) =
      let all = Runs-append most (at_next frames Operand) (at_next frames (Text_of_end side field)) (completed frames (Test (OfEnd side t)))
      (side_words side ++ spelling (field_word field) ∷ []) (text ∷ []) (over_end side field) (over_text side field text t is) in
      let regrouped : (side_words side ++ spelling (field_word field) ∷ []) ++ text ∷ [] ≡ side_words side ++ spelling (field_word field) ∷ text ∷ [] =
      append_assoc (side_words side) (spelling (field_word field) ∷ []) (text ∷ []) in
      subst (λ (l : Tokens). Runs most (at_next frames Operand) l (completed frames (Test (OfEnd side t)))) (regrouped ∙ sym e) all

over_prim_term : (most : ℕ) (frames : List Frame) → levels frames ≤ most → (ts : Tokens) (e : Expr) → IsPrimTerm ts e → Runs most (at_next frames Operand) ts (completed frames e)
over_prim_term most frames le ts (Test prim) h = over_prim most frames le ts prim h
over_prim_term most frames le ts (Not inner) h = absurd h
over_prim_term most frames le ts (And left right) h = absurd h
over_prim_term most frames le ts (Or left right) h = absurd h

-- what a term is read as
abbrev pub ReadsTerm : ℕ → ℕ → (Tokens → Expr → Type 0) → Type 0
ReadsTerm most room Term = (frames : List Frame) → levels frames + room ≤ most → (ts : Tokens) (e : Expr) → Term ts e → Runs most (at_next frames Operand) ts (completed frames e)

module _ (most room : ℕ) (Term : Tokens → Expr → Type 0) (reads : ReadsTerm most room Term) where
  over_join : (w : Word) (frame : Expr → Frame) (join : Expr → Expr → Expr)
      → ((fs : List Frame) (l : Expr) → step fs (Operator l) (spelling w) ≡ Some (at_next (frame l ∷ fs) Operand))
      → ((fs : List Frame) (l : Expr) → levels (frame l ∷ fs) ≡ levels fs)
      → ((fs : List Frame) (l r : Expr) → completed (frame l ∷ fs) r ≡ completed fs (join l r))
      → (frames : List Frame) → IsFresh frames → levels frames + room ≤ most → (ts front back : Tokens) (l r : Expr)
      → ts ≡ front ++ spelling w ∷ back → Runs most (at_next frames Operand) front (at_next frames (Operator l)) → Term back r
      → Runs most (at_next frames Operand) ts (at_next frames (Operator (join l r)))
  over_join w frame join goes same closes frames fresh le ts front back l r e h t =
      let deep : levels (frame l ∷ frames) + room ≤ most = omega (arith, same frames l, le) in
      let here : levels (frame l ∷ frames) ≤ most = omega arith in
      let rest = subst (λ (u : State). Runs most (at_next (frame l ∷ frames) Operand) back u) (closes frames l r ∙ completed_fresh frames (join l r) fresh) (reads (frame l ∷ frames) deep back r t) in
      subst (λ (x : Tokens). Runs most (at_next frames Operand) x (at_next frames (Operator (join l r)))) (sym e)
      (Runs-append most (at_next frames Operand) (at_next frames (Operator l)) (at_next frames (Operator (join l r))) front (spelling w ∷ back) h
      (at_next (frame l ∷ frames) Operand, goes frames l, here, rest))

  of_term : (frames : List Frame) → IsFresh frames → levels frames + room ≤ most → (ts : Tokens) (e : Expr) → Term ts e → Runs most (at_next frames Operand) ts (at_next frames (Operator e))
  of_term frames fresh le ts e t = subst (λ (u : State). Runs most (at_next frames Operand) ts u) (completed_fresh frames e fresh) (reads frames le ts e t)

  pub over_expr : (frames : List Frame) → IsFresh frames → levels frames + room ≤ most → (e : Expr) (ts : Tokens) → IsExpr Term ts e
      → Runs most (at_next frames Operand) ts (at_next frames (Operator e))
  over_expr frames fresh le (Test prim) ts h = of_term frames fresh le ts (Test prim) h
  over_expr frames fresh le (Not inner) ts h = of_term frames fresh le ts (Not inner) h
  over_expr frames fresh le (And left right) ts (inl t) = of_term frames fresh le ts (And left right) t
  over_expr frames fresh le (And left right) ts (inr (front, back, e, l, r)) =
      over_join words.And AndFrame And (λ fs l. ap (option_and_then _) (word_spelled words.And)) (λ fs l. refl) (λ fs l r. refl)
      frames fresh le ts front back left right e (over_expr frames fresh le left front l) r
  over_expr frames fresh le (Or left right) ts (inl t) = of_term frames fresh le ts (Or left right) t
  over_expr frames fresh le (Or left right) ts (inr (front, back, e, l, r)) =
      over_join words.Or OrFrame Or (λ fs l. ap (option_and_then _) (word_spelled words.Or)) (λ fs l. refl) (λ fs l r. refl)
      frames fresh le ts front back left right e (over_expr frames fresh le left front l) r

over_negation : (most n : ℕ) (Term : Tokens → Expr → Type 0) → ReadsTerm most n Term → (frames : List Frame) → levels frames + suc n ≤ most
    → (ts : Tokens) (e : Expr) → IsNegation Term ts e → Runs most (at_next frames Operand) ts (completed frames e)
over_negation most n Term reads frames le ts (Test prim) h = absurd h
over_negation most n Term reads frames le ts (Not inner) (rest, e, t) =
    let deep : levels (NotFrame ∷ frames) + n ≤ most = omega arith in
    let here : levels (NotFrame ∷ frames) ≤ most = omega arith in
    subst (λ (x : Tokens). Runs most (at_next frames Operand) x (completed frames (Not inner))) (sym e)
    (at_next (NotFrame ∷ frames) Operand, ap (option_and_then _) (word_spelled words.Not), here, reads (NotFrame ∷ frames) deep rest inner t)
over_negation most n Term reads frames le ts (And left right) h = absurd h
over_negation most n Term reads frames le ts (Or left right) h = absurd h

over_brackets : (most n : ℕ) (Term : Tokens → Expr → Type 0) → ReadsTerm most n Term → (frames : List Frame) → levels frames + suc n ≤ most
    → (ts : Tokens) (e : Expr) → IsBracketed Term ts e → Runs most (at_next frames Operand) ts (completed frames e)
over_brackets most n Term reads frames le ts e (inner, is, h) =
    let deep : levels (OpenFrame ∷ frames) + n ≤ most = omega arith in
    let here : levels (OpenFrame ∷ frames) ≤ most = omega arith in
    let end : levels (completed frames e).frames ≤ most = omega (arith, levels-completed frames e) in
    let close : Runs most (at_next (OpenFrame ∷ frames) (Operator e)) (spelling words.Close ∷ []) (completed frames e) =
    (completed frames e, ap (option_and_then _) (word_spelled words.Close), end, refl) in
    let inside = over_expr most n Term reads (OpenFrame ∷ frames) tt deep e inner h in
    subst (λ (x : Tokens). Runs most (at_next frames Operand) x (completed frames e)) (sym is) (
      at_next (OpenFrame ∷ frames) Operand,
      ap (option_and_then _) (word_spelled words.Open),
      here,
      Runs-append most (at_next (OpenFrame ∷ frames) Operand) (at_next (OpenFrame ∷ frames) (Operator e)) (completed frames e) inner (spelling words.Close ∷ []) inside close,
    )

over_cases : (most n : ℕ) (Term : Tokens → Expr → Type 0) → ReadsTerm most n Term → (frames : List Frame) → levels frames + suc n ≤ most
    → (ts : Tokens) (e : Expr) → IsPrimTerm ts e ⊎ IsNegation Term ts e ⊎ IsBracketed Term ts e → Runs most (at_next frames Operand) ts (completed frames e)
over_cases most n Term reads frames le ts e (inl h) = over_prim_term most frames (omega arith) ts e h
over_cases most n Term reads frames le ts e (inr (inl h)) = over_negation most n Term reads frames le ts e h
over_cases most n Term reads frames le ts e (inr (inr h)) = over_brackets most n Term reads frames le ts e h

-- each term is read as its tree
pub over_term : (most n : ℕ) → ReadsTerm most n (IsTerm n)
over_term most zero frames le ts e h = over_prim_term most frames (omega arith) ts e h
over_term most (suc n) frames le ts e h = over_cases most n (IsTerm n) (over_term most n) frames le ts e h

-- each expression is read as its tree
pub expr_runs : (n : ℕ) (ts : Tokens) (e : Expr) → IsExprOf n ts e → Runs n start ts (at_next [] (Operator e))
expr_runs n ts e h = over_expr n n (IsTerm n) (over_term n n) [] tt (omega arith) e ts h

-- and so is what it begins with
pub begins_runs : (n : ℕ) (ts : Tokens) → Begins n ts → (u : State) × Runs n start ts u
begins_runs n ts (more, e, h) =
    let both = Runs-split n start (at_next [] (Operator e)) ts more (expr_runs n (ts ++ more) e h) in
    (both.0, both.1)
