use Rattle.std.proofs.Common.{refl, ◌∙◌, ap}
use Rattle.flowdir.specs.Boundary.{weight_of}
use Rattle.coretable.specs.Weighed.{weight_of_slots}
use Rattle.coretable.proofs.DrainLemmas.{carried, none_left, takes_up}
use Rattle.coretable.proofs.draining.drain.Goals as goal

pub returns-in_err-talk-clause-weight : goal.returns-in_err-talk-clause-weight
returns-in_err-talk-clause-weight g c w =
    none_left _ _ _ _ _ _ _ (ap (weight_of_slots w) (c.in_err-talk.ensures.none refl).1) (ap (weight_of_slots w) (c.in_err-talk.ensures.none refl).0) (ap (weight_of w) c.from_residual.ensures) (c.in_default.ensures.weight w)
    (c.loop-charge.invariant.weight w)

pub returns-in_err-talk-clause-none : goal.returns-in_err-talk-clause-none
returns-in_err-talk-clause-none g c = λ none. (c.in_default.ensures.none refl, λ w. ap (weight_of_slots w) (c.in_err-talk.ensures.none refl).1)

pub loop-charge-preserved : goal.loop-charge-preserved
loop-charge-preserved g c = record {
  rest = c.pop_talk.ensures.rest ∙ (λ i. record (c.loop-charge.invariant.rest i) { slots = c.pop_talk.new.desk.slots });
  weight = λ w. carried _ _ _ _ _ _
      (takes_up w c.loop-charge.desk c.pop_talk.new.desk c.drain.new.self (record c.drain.new.self { talk = c.put_talk.new.at }) c.in_ok-talk.ensures.some.0 c.in_ok-talk.talk (c.in_default.ensures.none refl) c.in_ok-talk.ensures.some.1
      c.in_ok-talk.ensures.some.2 (λ i. record c.drain.new.self { talk = c.put_talk.ensures i }))
      (c.in_default.ensures.weight w) (c.loop-charge.invariant.weight w);
}
