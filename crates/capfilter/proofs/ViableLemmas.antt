use Rattle.std.proofs.Common.{◌≡◌, ◌≤◌, ℕ, suc, zero, ◌-◌, List, [], ◌∷◌, ◌++◌, Some, sym, ◌∙◌, ap, refl, arith, subst, codes}
use Rattle.std.specs.Option.{option_and_then, option_map}
use mathlib.Core.List.{append_assoc}
use Rattle.std.proofs.lemmas.List.{append-nil}
use Rattle.streamkey.specs.declared.addr.Addr.TheVariants.{V4}
use Rattle.capfilter.specs.declared.word.Word.TheVariants as words
use Rattle.capfilter.specs.declared.end_test.Field.{Field}
use Rattle.capfilter.specs.declared.end_test.Field.TheVariants as fields
use Rattle.capfilter.specs.declared.end_test.EndTest.{EndTest}
use Rattle.capfilter.specs.declared.end_test.EndTest.TheVariants as tests
use Rattle.capfilter.specs.declared.prim.Side.{Side}
use Rattle.capfilter.specs.declared.prim.Primitive.TheVariants.{Tcp, OfEnd}
use Rattle.capfilter.specs.Expr.{Expr, Test, Not, And, Or}
use Rattle.capfilter.specs.Words.{spelling}
use Rattle.capfilter.specs.Ends.{end_test}
use Rattle.capfilter.specs.Addresses.{address, version_4}
use Rattle.capfilter.specs.Grammar.{Tokens, IsExprOf, Begins}
use Rattle.capfilter.specs.Reader.{Frame, NotFrame, OpenFrame, AndFrame, OrFrame, Next, Operand, Word_of_end, Text_of_end, Operator, State, start, levels, completed}
use Rattle.capfilter.proofs.RunLemmas.{Runs, at_next, levels-completed, word_spelled}
use Rattle.capfilter.proofs.ReachLemmas.{Leads, leads_step, leads_from_start}

pub begins_front : (n : ℕ) (ts more : Tokens) → Begins n (ts ++ more) → Begins n ts
begins_front n ts more (rest, e, h) = (more ++ rest, e, subst (λ (l : Tokens). IsExprOf n l e) (append_assoc ts more rest) h)

-- a completed operand is an operand
operator_of : (frames : List Frame) (e : Expr) → (fs : List Frame) × (x : Expr) × (completed frames e ≡ at_next fs (Operator x)) × (levels fs ≤ levels frames)
operator_of [] e = ([], e, refl, omega arith)
operator_of (NotFrame ∷ frames) e = let h = operator_of frames (Not e) in let le = h.3 in (h.0, h.1, h.2, omega (arith, le))
operator_of (OpenFrame ∷ frames) e = (OpenFrame ∷ frames, e, refl, omega arith)
operator_of (AndFrame left ∷ frames) e = operator_of frames (And left e)
operator_of (OrFrame left ∷ frames) e = operator_of frames (Or left e)

-- brackets that are open can be closed
close_all : (fuel most : ℕ) (frames : List Frame) (e : Expr) (ts : Tokens) → levels frames ≤ fuel → levels frames ≤ most → Leads most ts (at_next frames (Operator e)) → Begins most ts
close_all fuel most [] e ts enough le h =
    let room : most - levels [] ≡ most = omega arith in
    let same : ts ++ [] ≡ h.back = append-nil ts ∙ h.split ∙ ap (λ (l : Tokens). l ++ h.back) h.opens in
    ([], e, subst (λ (l : Tokens). IsExprOf most l e) (sym same) (subst (λ (n : ℕ). IsExprOf n h.back e) room h.stands.0))
close_all fuel most (NotFrame ∷ frames) e ts enough le h = absurd h.stands.1
close_all zero most (OpenFrame ∷ frames) e ts enough le h = absurd (omega arith)
close_all (suc fuel) most (OpenFrame ∷ frames) e ts enough le h =
    let done = operator_of frames e in
    let less : levels done.0 ≤ levels frames = done.3 in
    let room : levels (completed frames e).frames ≤ most = omega (arith, levels-completed frames e) in
    let next = leads_step most (OpenFrame ∷ frames) (Operator e) ts (spelling words.Close) (completed frames e) h (ap (option_and_then _) (word_spelled words.Close)) room in
    begins_front most ts (spelling words.Close ∷ [])
    (close_all fuel most done.0 done.1 (ts ++ spelling words.Close ∷ []) (omega arith) (omega arith) (subst (Leads most (ts ++ spelling words.Close ∷ [])) done.2 next))
close_all fuel most (AndFrame left ∷ frames) e ts enough le h = absurd h.stands.1
close_all fuel most (OrFrame left ∷ frames) e ts enough le h = absurd h.stands.1

completed_begins : (most : ℕ) (frames : List Frame) (e : Expr) (ts : Tokens) → levels frames ≤ most → Leads most ts (completed frames e) → Begins most ts
completed_begins most frames e ts le h =
    let done = operator_of frames e in
    let less : levels done.0 ≤ levels frames = done.3 in
    close_all most most done.0 done.1 ts (omega arith) (omega arith) (subst (Leads most ts) done.2 h)

-- a text for each field
pub sample : Field → List ℕ
sample fields.Host = codes "0.0.0.0"
sample fields.Net = codes "0.0.0.0/0"
sample fields.Port = codes "0"

pub sample_test : Field → EndTest
sample_test fields.Host = tests.Host (V4 (0 ∷ 0 ∷ 0 ∷ 0 ∷ []))
sample_test fields.Net = tests.Net (V4 (0 ∷ 0 ∷ 0 ∷ 0 ∷ [])) 0
sample_test fields.Port = tests.Port 0

pub sample_is : (field : Field) → end_test field (sample field) ≡ Some (sample_test field)
unfolding sample sample_test end_test address version_4
sample_is fields.Host = refl
sample_is fields.Net = refl
sample_is fields.Port = refl

text_begins : (most : ℕ) (frames : List Frame) (side : Side) (field : Field) (ts : Tokens) → levels frames ≤ most → Leads most ts (at_next frames (Text_of_end side field)) → Begins most ts
text_begins most frames side field ts le h =
    let e : Expr = Test (OfEnd side (sample_test field)) in
    let next = leads_step most frames (Text_of_end side field) ts (sample field) (completed frames e) h (ap (option_map (λ t. completed frames (Test (OfEnd side t)))) (sample_is field)) (omega (arith, levels-completed frames e)) in
    begins_front most ts (sample field ∷ []) (completed_begins most frames e (ts ++ sample field ∷ []) le next)

-- tokens that lead somewhere go on to an expression
pub leads_begins : (most : ℕ) (frames : List Frame) (next : Next) (ts : Tokens) → levels frames ≤ most → Leads most ts (at_next frames next) → Begins most ts
leads_begins most frames Operand ts le h =
    let next = leads_step most frames Operand ts (spelling words.Tcp) (completed frames (Test Tcp)) h (ap (option_and_then _) (word_spelled words.Tcp)) (omega (arith, levels-completed frames (Test Tcp))) in
    begins_front most ts (spelling words.Tcp ∷ []) (completed_begins most frames (Test Tcp) (ts ++ spelling words.Tcp ∷ []) le next)
leads_begins most frames (Word_of_end side) ts le h =
    let next = leads_step most frames (Word_of_end side) ts (spelling words.Port) (at_next frames (Text_of_end side fields.Port)) h (ap (option_and_then _) (word_spelled words.Port)) le in
    begins_front most ts (spelling words.Port ∷ []) (text_begins most frames side fields.Port (ts ++ spelling words.Port ∷ []) le next)
leads_begins most frames (Text_of_end side field) ts le h = text_begins most frames side field ts le h
leads_begins most frames (Operator e) ts le h = close_all most most frames e ts le le h

pub runs_begins : (most : ℕ) (u : State) (ts : Tokens) → levels u.frames ≤ most → Runs most start ts u → Begins most ts
runs_begins most u ts le run = leads_begins most u.frames u.next ts le (leads_from_start most u ts run)
