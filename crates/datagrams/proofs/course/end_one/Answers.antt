use Rattle.std.proofs.Common.{◌≡◌, refl, sym, subst, ap, ◌∙◌, arith, ℕ, suc, ◌<◌, [], ◌∷◌, List, length, take, get_or}
use Rattle.std.specs.List.{HoldsAt}
use Rattle.std.proofs.Math.ListN.{length-set}
use Rattle.std.proofs.Math.Seq.{take-suc-set}
use Rattle.streamdefs.specs.Lists.{Each}
use Rattle.evring.specs.declared.way.Way.TheVariants.{Fore, Back}
use Rattle.datagrams.specs.declared.conversation.Conversation.{Conversation}
use Rattle.datagrams.specs.Stands.{IsShut}
use Rattle.datagrams.specs.State.{State, answered_many, closed_half, with_end_at}
use Rattle.datagrams.proofs.EnterLemmas.{on_ok}
use Rattle.datagrams.proofs.PlaceLemmas.{an_element}
use Rattle.datagrams.proofs.RowLemmas.{each_append}
use Rattle.datagrams.proofs.CourseLemmas.{one_ended}
use Rattle.datagrams.proofs.StandsSteps.{many_take}
use Rattle.datagrams.proofs.course.end_one.Goals as goal

-- the state as the End begins
same_table : (s r : State) (n : ℕ) → r ≡ answered_many n s → r.table ≡ s.table
same_table s r n e = ap (λ (x : State). x.table) e ∙ (many_take n s).1

pub number_at-conv-requires : goal.number_at-conv-requires
number_at-conv-requires c = omega (arith, c.requires, ap (λ (l : List Conversation). length l) (same_table c.args.replay.now c.answer_many.new.replay c.saturating_sub-more.result c.in_ok-answer_many.ensures))

pub end_at-requires : goal.end_at-requires
end_at-requires c = omega (arith, c.requires, ap (λ (l : List Conversation). length l) (same_table c.args.replay.now c.answer_many.new.replay c.saturating_sub-more.result c.in_ok-answer_many.ensures))

pub returns-clause-as_many : goal.returns-clause-as_many
returns-clause-as_many c =
    let s : State = c.args.replay.now in
    let r : State = c.answer_many.new.replay in
    let within : c.args.place < length r.table = omega (arith, c.requires, ap (λ (l : List Conversation). length l) (same_table s r c.saturating_sub-more.result c.in_ok-answer_many.ensures)) in
    on_ok c.end_at.result
    (λ (h : HoldsAt (λ (k : Conversation). c.end_at.new.self ≡ with_end_at c.args.last r c.args.place c.number_at-conv.result k) r.table c.args.place).
    ap (λ (x : State). length x.table) (h (an_element r.table c.args.place within)) ∙ length-set r.table c.args.place _
    ∙ ap (λ (l : List Conversation). length l) (same_table s r c.saturating_sub-more.result c.in_ok-answer_many.ensures))
    c.end_at.ensures

pub returns-clause-shut : goal.returns-clause-shut
returns-clause-shut c shut =
    let s : State = c.args.replay.now in
    let r : State = c.answer_many.new.replay in
    let same : r.table ≡ s.table = same_table s r c.saturating_sub-more.result c.in_ok-answer_many.ensures in
    let within : c.args.place < length r.table = omega (arith, c.requires, ap (λ (l : List Conversation). length l) same) in
    on_ok c.end_at.result
    (λ (h : HoldsAt (λ (k : Conversation). c.end_at.new.self ≡ with_end_at c.args.last r c.args.place c.number_at-conv.result k) r.table c.args.place).
    let d : Conversation = an_element r.table c.args.place within in
    subst (Each IsShut) (sym (ap (λ (x : State). take (suc c.args.place) x.table) (h d) ∙ take-suc-set r.table c.args.place (closed_half Back (closed_half Fore (get_or r.table c.args.place d))) within))
    (each_append IsShut (take c.args.place r.table) (closed_half Back (closed_half Fore (get_or r.table c.args.place d)) ∷ []) (subst (λ (l : List Conversation). Each IsShut (take c.args.place l)) (sym same) shut) ((refl, refl), tt)))
    c.end_at.ensures

pub returns-clause-stands : goal.returns-clause-stands
returns-clause-stands c t first packets done stands until =
    let s : State = c.args.replay.now in
    let r : State = c.answer_many.new.replay in
    let within : c.args.place < length r.table = omega (arith, c.requires, ap (λ (l : List Conversation). length l) (same_table s r c.saturating_sub-more.result c.in_ok-answer_many.ensures)) in
    let d : Conversation = an_element r.table c.args.place within in
    on_ok c.end_at.result
    (λ (h : HoldsAt (λ (k : Conversation). c.end_at.new.self ≡ with_end_at c.args.last r c.args.place c.number_at-conv.result k) r.table c.args.place).
    one_ended t c.args.last first packets done s r c.end_at.new.self c.args.place c.saturating_sub-more.result c.number_at-conv.result d stands c.in_ok-answer_many.ensures (omega arith) within until (c.number_at-conv.ensures d) (h d))
    c.end_at.ensures
