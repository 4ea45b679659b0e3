use Rattle.std.proofs.Common.{refl, ap, sym, subst, ◌∙◌}
use Rattle.flowdir.specs.Boundary.{charge_by}
use Rattle.convo.specs.Talk.{SetsUp}
use Rattle.coretable.specs.Table.{calm_by}
use Rattle.coretable.specs.Weighed.{weight_of_next}
use Rattle.coretable.specs.declared.table.CoreTable.{CoreTable}
use Rattle.coretable.proofs.NextLemmas.{falls_into, silent_pause, silently, unpriced}
use Rattle.coretable.proofs.TurnLemmas.{arrives, goes_first, goes_further}
use Rattle.coretable.proofs.table.CoreTable.next_working.Goals as goal

pub loop-init : goal.loop-init
loop-init g c = record {
  calm = c.requires.calm;
  still = c.requires.still;
  rest = refl;
  left = record { closing = refl; unanswered = refl };
  weight = λ w. refl;
  comes = λ t last handler m h. goes_first (charge_by g.C.Charge.amount g.C.Charge.stamp) t last handler m c.args.self.now c.requires.calm h;
}

pub returns-in-Some-clause-comes : goal.returns-in-Some-clause-comes
returns-in-Some-clause-comes g c t last handler m h =
    let go = c.loop.invariant.comes t last handler m h in
    let set = subst (λ (x : CoreTable g.row.C.Denot). SetsUp x.set t) (sym c.loop.invariant.rest) h.sets in
    arrives (charge_by g.C.Charge.amount g.C.Charge.stamp) t last handler m c.loop.self c.go_on.new.self c.in_ok-turn.field-0 c.in-Some.turn c.in-Some.is go
    (c.in_ok-turn.ensures.moves t last handler go.comes.1 go.stage set go.comes.3 go.works go.comes.4)

pub loop-preserved : goal.loop-preserved
loop-preserved g c = record {
  calm = ap calm_by c.in_ok-turn.ensures.fits.works;
  still = silent_pause (charge_by g.C.Charge.amount g.C.Charge.stamp) c.loop.self c.go_on.new.self c.in_ok-turn.field-0 c.in_default.is c.in_ok-turn.ensures.fits;
  rest = c.go_on.ensures.rest ∙ (λ i. record (c.loop.invariant.rest i) { desk = c.go_on.new.self.desk; state = c.go_on.new.self.state });
  left = silently (charge_by g.C.Charge.amount g.C.Charge.stamp) c.args.self.now c.loop.self c.go_on.new.self c.in_ok-turn.field-0 c.in_default.is c.loop.invariant.left c.in_ok-turn.ensures.fits;
  weight = λ w. unpriced _ _ _ (c.in_ok-turn.ensures.weight w) (ap (weight_of_next w) c.in_default.is) ∙ c.loop.invariant.weight w;
  comes = λ t last handler m h.
      let go = c.loop.invariant.comes t last handler m h in
      let set = subst (λ (x : CoreTable g.row.C.Denot). SetsUp x.set t) (sym c.loop.invariant.rest) h.sets in
      goes_further (charge_by g.C.Charge.amount g.C.Charge.stamp) t last handler m c.loop.self c.go_on.new.self c.in_ok-turn.field-0 c.in_default.is go
      (c.in_ok-turn.ensures.moves t last handler go.comes.1 go.stage set go.comes.3 go.works go.comes.4);
}

pub returns-clause-left : goal.returns-clause-left
returns-clause-left g c =
    falls_into c.args.self.now c.loop.self c.give_up.new.self c.loop.invariant.left c.loop.invariant.still c.give_up.ensures.calm c.give_up.ensures.pause (ap (λ (x : CoreTable g.row.C.Denot). x.desk) c.give_up.ensures.rest)
