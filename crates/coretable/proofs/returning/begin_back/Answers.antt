use Rattle.flowdir.specs.Boundary.{charge_by}
use Rattle.coretable.specs.Held.{StandsFor}
use Rattle.std.proofs.Common.{◌∙◌, ap, suc, refl}
use Rattle.histbook.specs.declared.entry.Entry.TheVariants as E
use Rattle.convo.specs.declared.talk.Convo.{Convo}
use Rattle.coretable.specs.declared.active.Active.{Active}
use Rattle.coretable.specs.declared.desk.Desk.{Desk}
use Rattle.coretable.specs.declared.entry_kind.EntryKind.TheVariants as D
use Rattle.coretable.proofs.ReturnLemmas.{at_back}
use Rattle.convo.specs.Standing.{weight_of_convo}
use Rattle.convo.specs.Weights.{weight_of_chunks}
use Rattle.coretable.specs.Weighed.{weight_of_desk}
use Rattle.coretable.proofs.StepLemmas.{into_hand}
use Rattle.coretable.proofs.returning.begin_back.Goals as goal

pub returns-clause-turn : goal.returns-clause-turn
returns-clause-turn g c t last handler m told s e k next given returned =
    let active : Active (Convo g.row.C.Denot) = record {
      place = c.in-Some.waits.place;
      number = c.in-Ok.taken.number;
      clock = c.in-Ok.taken.clock;
      kind = D.Answer c.in-Some-next_answer.event c.args.answer.advice;
      looks = c.new.result;
      frees = c.into_vec.result;
      talk = c.in-Ok.taken.talk;
    } in
    at_back (charge_by g.C.Charge.amount g.C.Charge.stamp) (StandsFor (charge_by g.C.Charge.amount g.C.Charge.stamp) t) t last handler m told c.args.desk.now c.pop_event.new.desk c.take_out.new.desk active c.in-Some.waits c.in-Ok.taken.number c.in-Ok.taken.clock c.in-Ok.taken.talk
    c.args.answer.advice c.args.answer.frees c.args.answer.kept s e k next given returned c.in-Some.ensures.some c.pop_event.ensures.rest c.in-Ok.ensures.taken c.take_out.ensures.slots c.take_out.ensures.rest
    refl refl refl (λ i. E.Answer ((c.in-Some-next_answer.ensures ∙ ap suc (ap (λ (d : Desk (Convo g.row.C.Denot)). d.answered) c.pop_event.ensures.rest ∙ k.answered)) i) c.args.answer.advice (c.into_vec.ensures i)) refl

pub returns-clause-weight : goal.returns-clause-weight
returns-clause-weight g c = λ w.
    into_hand (weight_of_desk w c.take_out.new.desk) (weight_of_desk w c.pop_event.new.desk) (weight_of_desk w c.args.desk.now) (weight_of_convo w c.in-Ok.taken.talk) (weight_of_chunks w c.args.answer.kept)
    (c.in-Ok.ensures.size (weight_of_convo w)) (ap (λ (d : Desk (Convo g.row.C.Denot)). weight_of_desk w d) c.pop_event.ensures.rest)
