use Rattle.flowdir.specs.Boundary.{charge_by}
use Rattle.coretable.specs.Held.{StandsFor}
use Rattle.coretable.specs.Course.{core_of}
use Rattle.coretable.proofs.Soundness.{at_rest}
use Rattle.coretable.proofs.FirstDues.{no_due}
use Rattle.coretable.proofs.FallLemmas.{dues_kept, first_there}
use Rattle.coretable.proofs.falling_due.first_due.Goals as goal

pub returns-in-Some : goal.returns-in-Some
returns-in-Some g c t last handler m s e k =
    first_there t m c.args.desk.now.dues c.args.now c.in-Some.field-0-0 c.in-Some.place (at_rest t last handler m s e).rises (dues_kept (StandsFor (charge_by g.C.Charge.amount g.C.Charge.stamp) t) t m c.args.desk.now e k) c.in-Some.ensures

pub returns-in-None : goal.returns-in-None
returns-in-None g c t last handler m s e k = no_due t (core_of t m) c.args.desk.now.dues c.args.now (dues_kept (StandsFor (charge_by g.C.Charge.amount g.C.Charge.stamp) t) t m c.args.desk.now e k) c.in-None.ensures
