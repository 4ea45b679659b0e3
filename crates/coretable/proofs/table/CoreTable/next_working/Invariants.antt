use Rattle.std.proofs.Common.{ℕ, ◌≡◌, true}
use Rattle.streamdefs.specs.Terms.{Terms}
use Rattle.streamdefs.specs.Lawful.{Handler}
use Rattle.flowdir.specs.Boundary.{charge_by}
use Rattle.coretable.specs.Course.{Course}
use Rattle.coretable.specs.Fits.{IsLeft}
use Rattle.coretable.specs.Table.{Going, Stands, calm, paused, weight}
use Rattle.coretable.specs.declared.pause.Pause.TheVariants.{Still}
use Rattle.coretable.proofs.table.CoreTable.next_working.Given as goal

abbrev pub invariant-loop : goal.invariant-loop
invariant-loop g l = record {
  calm : calm l.self ≡ true;
  still : paused l.self ≡ Still;
  rest : l.self ≡ record l.fn.self { desk = l.self.desk; state = l.self.state };
  left : IsLeft l.fn.self.desk l.self.desk;
  weight : (w : g.row.C.Denot → ℕ) → weight w l.self ≡ weight w l.fn.self;
  comes : (t : Terms) (last : ℕ) (handler : Handler) (m : Course) → Stands (charge_by g.C.Charge.amount g.C.Charge.stamp) t last handler m l.fn.self
      → Going (charge_by g.C.Charge.amount g.C.Charge.stamp) t last handler m l.self;
}
