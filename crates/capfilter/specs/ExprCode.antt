use Rattle.std.specs.Prelude.{◌≡◌, ℕ, zero, suc, List, [], ◌∷◌, ◌++◌, Option, Some, None, refl}
use Rattle.std.specs.Coded.{Coded, code_by, coded×, coded_ℕ, coded_list, coded_option}
use Rattle.std.proofs.Common.{◌∙◌, ap, sym}
use Rattle.std.proofs.lemmas.List.{append-nil}
use mathlib.Core.List.{append_assoc}
use Rattle.capfilter.specs.declared.prim.Primitive.{Primitive}
use Rattle.capfilter.specs.declared.prim.Primitive.TheVariants.{Tcp}
use Rattle.capfilter.specs.Expr.{Expr, Test, Not, And, Or}

-- An expression as a list, by which proofs tell expressions apart: operators stand behind what they join.

-- a primitive, or an operator by its number: 0 is `not`, 1 is `and`, 2 is `or`
abbrev pub Part : Type 0
Part = Option Primitive × ℕ

abbrev pub listed : Expr → List Part
listed (Test prim) = (Some prim, 0) ∷ []
listed (Not inner) = listed inner ++ (None, 0) ∷ []
listed (And left right) = listed left ++ (listed right ++ (None, 1) ∷ [])
listed (Or left right) = listed left ++ (listed right ++ (None, 2) ∷ [])

abbrev pub joined_by : ℕ → List Expr → List Expr
joined_by n [] = []
joined_by zero (e ∷ es) = Not e ∷ es
joined_by (suc n) (e ∷ []) = e ∷ []
joined_by (suc zero) (right ∷ left ∷ es) = And left right ∷ es
joined_by (suc (suc n)) (right ∷ left ∷ es) = Or left right ∷ es

abbrev pub taken : Option Primitive → ℕ → List Expr → List Expr
taken (Some prim) n es = Test prim ∷ es
taken None n es = joined_by n es

abbrev pub all_taken : List Part → List Expr → List Expr
all_taken [] es = es
all_taken (p ∷ ps) es = all_taken ps (taken p.0 p.1 es)

abbrev pub first_of_all : List Expr → Expr
first_of_all [] = Test Tcp
first_of_all (e ∷ es) = e

-- a list gives its expression back
pub listed_taken : (e : Expr) (ps : List Part) (es : List Expr) → all_taken (listed e ++ ps) es ≡ all_taken ps (e ∷ es)
listed_taken (Test prim) ps es = refl
listed_taken (Not inner) ps es =
    ap (λ (l : List Part). all_taken l es) (append_assoc (listed inner) ((None, 0) ∷ []) ps) ∙ listed_taken inner ((None, 0) ∷ ps) es
listed_taken (And left right) ps es =
    ap (λ (l : List Part). all_taken l es) (append_assoc (listed left) (listed right ++ (None, 1) ∷ []) ps)
    ∙ listed_taken left ((listed right ++ (None, 1) ∷ []) ++ ps) es
    ∙ ap (λ (l : List Part). all_taken l (left ∷ es)) (append_assoc (listed right) ((None, 1) ∷ []) ps)
    ∙ listed_taken right ((None, 1) ∷ ps) (left ∷ es)
listed_taken (Or left right) ps es =
    ap (λ (l : List Part). all_taken l es) (append_assoc (listed left) (listed right ++ (None, 2) ∷ []) ps)
    ∙ listed_taken left ((listed right ++ (None, 2) ∷ []) ++ ps) es
    ∙ ap (λ (l : List Part). all_taken l (left ∷ es)) (append_assoc (listed right) ((None, 2) ∷ []) ps)
    ∙ listed_taken right ((None, 2) ∷ ps) (left ∷ es)

pub listed_back : (e : Expr) → first_of_all (all_taken (listed e) []) ≡ e
listed_back e = ap (λ (l : List Part). first_of_all (all_taken l [])) (sym (append-nil (listed e))) ∙ ap first_of_all (listed_taken e [] [])

abbrev pub expr_code : Coded Primitive → Coded Expr
expr_code code = code_by (List Part) (coded_list (coded× (coded_option code) coded_ℕ)) listed (λ ps. first_of_all (all_taken ps [])) listed_back
