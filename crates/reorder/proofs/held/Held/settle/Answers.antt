use Rattle.std.proofs.Common.{subst, sym, to_z, of_z, w64}
use Rattle.reorder.specs.Starts.{AreSettled}
use Rattle.reorder.proofs.HeldParts.{settle_kept, settle_is}
use Rattle.reorder.proofs.held.Held.settle.Goals as goal

pub invariant_of-self : goal.invariant_of-self
invariant_of-self g c =
    settle_kept c.args.over c.args.bytes.now c.self.inside.at c.self.inside.first c.self.inside.more.items c.deref.result.now c.into_vec.result.items c.self.inside.part c.write_runs.new.part c.args.self.now
    c.requires.to c.deref.ensures.value c.write_runs.ensures.bytes c.self.invariant.0 c.self.invariant.1 c.self.view_is
    (subst (AreSettled c.args.over c.args.self.now) (sym c.into_vec.ensures) c.requires.starts)

pub returns : goal.returns
returns g c =
    settle_is c.args.over c.args.bytes.now c.self.inside.at c.self.inside.first c.self.inside.more.items c.deref.result.now c.into_vec.result.items c.self.inside.part c.write_runs.new.part (to_z w64 (of_z w64 c.args.over.start)) c.args.self.now
    c.requires.to c.deref.ensures.value c.write_runs.ensures.bytes c.write_runs.ensures.charge c.self.invariant.0 c.self.view_is
    (subst (AreSettled c.args.over c.args.self.now) (sym c.into_vec.ensures) c.requires.starts)
