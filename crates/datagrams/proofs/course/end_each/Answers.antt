use Rattle.std.proofs.Common.{◌≡◌, sym, subst, ap, ◌∙◌, arith, ℕ, List, length, take, add-one}
use Rattle.streamdefs.specs.Lists.{Each}
use Rattle.datagrams.specs.declared.conversation.Conversation.{Conversation}
use Rattle.datagrams.specs.Stands.{IsShut, Stands}
use Rattle.datagrams.specs.State.{State, answered_many}
use Rattle.datagrams.proofs.CourseLemmas.{all_passed}
use Rattle.datagrams.proofs.EnterLemmas.{on_ok}
use Rattle.datagrams.proofs.StandsSteps.{all_taken, many_take, stands_many}
use Rattle.datagrams.proofs.course.end_each.Goals as goal

pub loop-place-preserved : goal.loop-place-preserved
loop-place-preserved c = record {
  as_many = c.in_ok-end_one.ensures.as_many ∙ c.loop-place.invariant.as_many;
  shut = rw add-one (c.in_ok-end_one.ensures.shut c.loop-place.invariant.shut);
  stands = λ t first packets done stands until. rw add-one (c.in_ok-end_one.ensures.stands t first packets done (c.loop-place.invariant.stands t first packets done stands until) until);
}

pub returns-clause-calm : goal.returns-clause-calm
returns-clause-calm c =
    on_ok c.answer_many.result
    (λ (e : c.answer_many.new.replay ≡ answered_many c.waiting_len-waiting.result c.loop-place.replay).
    ap (λ (x : State). x.waiting) (e ∙ ap (λ (k : ℕ). answered_many k c.loop-place.replay) c.waiting_len-waiting.ensures) ∙ all_taken c.loop-place.replay)
    c.answer_many.ensures

pub returns-clause-shut : goal.returns-clause-shut
returns-clause-shut c =
    on_ok c.answer_many.result
    (λ (e : c.answer_many.new.replay ≡ answered_many c.waiting_len-waiting.result c.loop-place.replay).
    let same : c.answer_many.new.replay.table ≡ c.loop-place.replay.table = ap (λ (x : State). x.table) e ∙ (many_take c.waiting_len-waiting.result c.loop-place.replay).1 in
    let all : take c.loop-place.place c.loop-place.replay.table ≡ c.loop-place.replay.table = all_passed c.loop-place.replay.table c.loop-place.place (omega (arith, c.loop-place.invariant.as_many, c.conversations-place-end.ensures)) in
    subst (Each IsShut) (all ∙ sym same) c.loop-place.invariant.shut)
    c.answer_many.ensures

pub returns-clause-stands : goal.returns-clause-stands
returns-clause-stands c t first packets done stands until =
    on_ok c.answer_many.result
    (λ (e : c.answer_many.new.replay ≡ answered_many c.waiting_len-waiting.result c.loop-place.replay).
    let same : c.answer_many.new.replay.table ≡ c.loop-place.replay.table = ap (λ (x : State). x.table) e ∙ (many_take c.waiting_len-waiting.result c.loop-place.replay).1 in
    let behind : Stands t c.args.last first packets done c.loop-place.place c.answer_many.new.replay
    = subst (Stands t c.args.last first packets done c.loop-place.place) (sym e) (stands_many t c.args.last first packets done c.loop-place.place c.waiting_len-waiting.result c.loop-place.replay (c.loop-place.invariant.stands t first packets done stands until)) in
    let at_end : c.loop-place.place ≡ length c.answer_many.new.replay.table = omega (arith, ap (λ (l : List Conversation). length l) same, c.loop-place.invariant.as_many, c.conversations-place-end.ensures, c.loop-place-test.false, c.loop-place.auto.place-end) in
    subst (λ (n : ℕ). Stands t c.args.last first packets done n c.answer_many.new.replay) at_end behind)
    c.answer_many.ensures
