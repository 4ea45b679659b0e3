use Rattle.std.proofs.Common.{sym, ◌∙◌, subst}
use Rattle.std.specs.Prelude.{IsSome}
use Rattle.flowdir.proofs.TrackSteps.{passed_weight, opened_some}
use Rattle.flowdir.proofs.passing.pass_one.Goals as goal

pub returns-in-Some-clause-weight : goal.returns-in-Some-clause-weight
returns-in-Some-clause-weight g c = λ w.
    passed_weight w c.args.at c.in-Some.part c.args.store.now.frags c.take_front.new.self.frags c.args.passed.now.lane c.make_room.new.self.lane c.append.new.self.lane
    c.in-Some.ensures.part c.append.ensures
    (subst (λ lane. IsSome lane.chunk) (sym (c.in_ok-make_room.ensures.same ∙ c.in_ok-open_at.ensures.ok)) (opened_some c.args.moment c.args.at c.args.passed.now.lane))
    (c.in_ok-make_room.ensures.weight w ∙ c.in_ok-open_at.ensures.weight w)
