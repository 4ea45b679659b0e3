use Rattle.std.proofs.Common.{refl, sym, ◌∙◌, ap, [], map, arith}
use Rattle.flowdir.specs.Boundary.{charge_by}
use Rattle.cutclass.specs.declared.cut.Cut.TheVariants.{Unset}
use Rattle.convo.specs.Seen.{kept_for}
use Rattle.convo.specs.Going.{weight_of_charges}
use Rattle.convo.proofs.Settling.{untouched_settled}
use Rattle.convo.proofs.SumSteps.{sums_new}
use Rattle.convo.proofs.talk.Convo.new.Goals as goal

pub returns-clause-stands : goal.returns-clause-stands
returns-clause-stands g c = λ t s.
    let paid = charge_by g.C.Charge.amount g.C.Charge.stamp in
    let fb = c.new.ensures.bare in
    let bb = c.new-2.ensures.bare in
    record {
      quiet = record {
        plain = record {
          origin_is = c.origin_of.ensures t s;
          own_is = sym (ap (λ o. record { fore = o; back = c.new-2.result.own }) fb.0 ∙ ap (λ o. record { fore = Unset; back = o }) bb.0);
          advised_is = refl;
          clock_is = refl;
          ended_is = refl;
          owed_is = refl;
          early = c.args.first.now.timed;
          settled = untouched_settled t;
        };
        kept = sym (ap (λ k. record { fore = map (kept_for paid) k; back = map (kept_for paid) c.new-2.result.kept }) fb.1 ∙ ap (λ k. record { fore = []; back = map (kept_for paid) k }) bb.1);
        begun = refl;
        opens = refl;
        over = refl;
        fore_first = fb.2;
        back_first = bb.2;
        gone = c.none.ensures;
        fore_sums = sums_new c.new.result c.new.ensures.sums;
        back_sums = sums_new c.new-2.result c.new-2.ensures.sums;
      };
      kinds = record { fore_is = c.new.ensures.kind ∙ c.mode_of-mode.ensures t s.mode; back_is = c.new-2.ensures.kind ∙ c.mode_of-mode.ensures t s.mode };
      fore = c.new.ensures.stands;
      back = c.new-2.ensures.stands;
      stage = refl;
    }

pub returns-clause-weight : goal.returns-clause-weight
returns-clause-weight g c = λ w.
    let a = c.new.ensures.weight w in
    let b = c.new-2.ensures.weight w in
    let e = ap (weight_of_charges w) c.none.ensures in
    omega arith

pub returns-clause-work : goal.returns-clause-work
returns-clause-work g c =
    let a = c.new.ensures.work in
    let b = c.new-2.ensures.work in
    omega arith
