use Rattle.std.proofs.Common.{◌≡◌, ◌≤◌, ℕ, suc, zero, ◌+◌, max, ◌∷◌, ◌++◌, sym, refl, arith, subst, ◌⊎◌, inl, inr}
use Rattle.capfilter.specs.declared.word.Word.TheVariants as words
use Rattle.capfilter.specs.declared.prim.Primitive.{Primitive}
use Rattle.capfilter.specs.declared.prim.Primitive.TheVariants.{Tcp, Udp, Ip, Ip6, OfEnd}
use Rattle.capfilter.specs.Expr.{Expr, Test, Not, And, Or}
use Rattle.capfilter.specs.Words.{spelling}
use Rattle.capfilter.specs.Grammar.{Tokens, IsPrim, IsExpr, IsPrimTerm, IsNegation, IsBracketed, IsTerm, IsExprOf}
use Rattle.capfilter.specs.Faults.{Reads}
use Rattle.capfilter.specs.Canonical.{canonical}
use Rattle.capfilter.specs.Fit.{IsFitPrim, IsFit}
use Rattle.capfilter.specs.Laws.{depth, IsWithinLimits}
use Rattle.capfilter.proofs.EndTexts.{test_field, value_text, test-text}
use Rattle.capfilter.proofs.CanonicalTokens.{prim_tokens, expr_tokens, canonical_tokens}

-- what holds with some levels holds with more
expr_more : (Term Wider : Tokens → Expr → Type 0) → ((ts : Tokens) (e : Expr) → Term ts e → Wider ts e) → (e : Expr) (ts : Tokens) → IsExpr Term ts e → IsExpr Wider ts e
expr_more Term Wider wider (Test prim) ts h = wider ts (Test prim) h
expr_more Term Wider wider (Not inner) ts h = wider ts (Not inner) h
expr_more Term Wider wider (And left right) ts (inl h) = inl (wider ts (And left right) h)
expr_more Term Wider wider (And left right) ts (inr (front, back, e, l, r)) = inr (front, back, e, expr_more Term Wider wider left front l, wider back right r)
expr_more Term Wider wider (Or left right) ts (inl h) = inl (wider ts (Or left right) h)
expr_more Term Wider wider (Or left right) ts (inr (front, back, e, l, r)) = inr (front, back, e, expr_more Term Wider wider left front l, wider back right r)

negation_more : (Term Wider : Tokens → Expr → Type 0) → ((ts : Tokens) (e : Expr) → Term ts e → Wider ts e) → (e : Expr) (ts : Tokens) → IsNegation Term ts e → IsNegation Wider ts e
negation_more Term Wider wider (Test prim) ts h = absurd h
negation_more Term Wider wider (Not inner) ts (rest, e, h) = (rest, e, wider rest inner h)
negation_more Term Wider wider (And left right) ts h = absurd h
negation_more Term Wider wider (Or left right) ts h = absurd h

cases_more : (Term Wider : Tokens → Expr → Type 0) → ((ts : Tokens) (e : Expr) → Term ts e → Wider ts e) → (ts : Tokens) (e : Expr)
    → IsPrimTerm ts e ⊎ IsNegation Term ts e ⊎ IsBracketed Term ts e → IsPrimTerm ts e ⊎ IsNegation Wider ts e ⊎ IsBracketed Wider ts e
cases_more Term Wider wider ts e (inl h) = inl h
cases_more Term Wider wider ts e (inr (inl h)) = inr (inl (negation_more Term Wider wider e ts h))
cases_more Term Wider wider ts e (inr (inr (inner, is, h))) = inr (inr (inner, is, expr_more Term Wider wider e inner h))

term_more : (n m : ℕ) → n ≤ m → (ts : Tokens) (e : Expr) → IsTerm n ts e → IsTerm m ts e
term_more zero zero le ts e h = h
term_more zero (suc m) le ts e h = inl h
term_more (suc n) zero le ts e h = absurd (omega arith)
term_more (suc n) (suc m) le ts e h = cases_more (IsTerm n) (IsTerm m) (term_more n m (omega arith)) ts e h

expr_of : (n : ℕ) (ts : Tokens) (e : Expr) → IsTerm n ts e → IsExprOf n ts e
expr_of n ts (Test prim) h = h
expr_of n ts (Not inner) h = h
expr_of n ts (And left right) h = inl h
expr_of n ts (Or left right) h = inl h

prim_is : (prim : Primitive) → IsFitPrim prim → IsPrim (prim_tokens prim) prim
prim_is Tcp h = refl
prim_is Udp h = refl
prim_is Ip h = refl
prim_is Ip6 h = refl
prim_is (OfEnd side t) h = (test_field t, value_text t, test-text t h, refl)

-- the tokens of a canonical text are a term with its tree
term_is : (e : Expr) → IsFit e → IsTerm (depth e) (expr_tokens e) e
term_is (Test prim) h = prim_is prim h
term_is (Not inner) h = subst (λ (n : ℕ). IsTerm n (expr_tokens (Not inner)) (Not inner)) (one_more (depth inner)) (inr (inl (expr_tokens inner, refl, term_is inner h)))
  where
    one_more : (n : ℕ) → suc n ≡ 1 + n
    one_more n = omega arith
term_is (And left right) h =
    let n : ℕ = max (depth left) (depth right) in
    let l = term_more (depth left) n (omega arith) (expr_tokens left) left (term_is left h.0) in
    let r = term_more (depth right) n (omega arith) (expr_tokens right) right (term_is right h.1) in
    subst (λ (k : ℕ). IsTerm k (expr_tokens (And left right)) (And left right)) (one_more n)
    (inr (inr (expr_tokens left ++ spelling words.And ∷ expr_tokens right, refl, inr (expr_tokens left, expr_tokens right, refl, expr_of n (expr_tokens left) left l, r))))
  where
    one_more : (n : ℕ) → suc n ≡ 1 + n
    one_more n = omega arith
term_is (Or left right) h =
    let n : ℕ = max (depth left) (depth right) in
    let l = term_more (depth left) n (omega arith) (expr_tokens left) left (term_is left h.0) in
    let r = term_more (depth right) n (omega arith) (expr_tokens right) right (term_is right h.1) in
    subst (λ (k : ℕ). IsTerm k (expr_tokens (Or left right)) (Or left right)) (one_more n)
    (inr (inr (expr_tokens left ++ spelling words.Or ∷ expr_tokens right, refl, inr (expr_tokens left, expr_tokens right, refl, expr_of n (expr_tokens left) left l, r))))
  where
    one_more : (n : ℕ) → suc n ≡ 1 + n
    one_more n = omega arith

-- a canonical text within the limits reads as its tree
pub canonical_reads : (e : Expr) → IsFit e → IsWithinLimits e → Reads (canonical e) e
canonical_reads e fit within =
    let is = expr_of 64 (expr_tokens e) e (term_more (depth e) 64 within.shallow (expr_tokens e) e (term_is e fit)) in
    record { few = within.few; is = subst (λ (ts : Tokens). IsExprOf 64 ts e) (sym (canonical_tokens e fit)) is }
