use Rattle.std.proofs.Common.{◌≡◌, sym, length, arith, nat_lt, false}
use Rattle.std.proofs.lemmas.Bool.Decides.{nat_tests}
use Rattle.labtop.specs.declared.limits.TheConstants.{MOST_BUILT}
use Rattle.std.specs.Prelude.{Some, None, Err}
use Rattle.std.proofs.lemmas.List.{take_rest}
use Rattle.scapconf.specs.declared.status.Status.TheVariants.{Unbuilt}
use Rattle.labtop.specs.Drill.{NotBuilt}
use Rattle.labtop.specs.Settings.{terms_of}
use Rattle.labtop.proofs.VerdictLemmas.{verdict_of_frames, gives_at}
use Rattle.labtop.proofs.outcome.outcome_for.Goals as goal

pub returns-in_default : goal.returns-in_default
returns-in_default c =
    let small : nat_lt MOST_BUILT (length c.args.bytes.now) ≡ false = grind (arith, nat_tests) in
    let found = c.in_ok-found.ensures.frames c.args.bytes.now (sym c.in-Ok.ensures.first) (take_rest c.args.bytes.now 24) in
    gives_at (terms_of c.args.settings.now) (Err Unbuilt) _ NotBuilt (verdict_of_frames c.args.settings.now c.args.bytes.now c.in-Ok.head None _ (sym c.in-Ok.ensures.first) small (take_rest c.args.bytes.now 24) (rw c.in_default.is at found)) (tt, tt)

pub returns : goal.returns
returns c =
    let small : nat_lt MOST_BUILT (length c.args.bytes.now) ≡ false = grind (arith, nat_tests) in
    let found = c.in_ok-found.ensures.frames c.args.bytes.now (sym c.in-Ok.ensures.first) (take_rest c.args.bytes.now 24) in
    gives_at _ _ _ _ (verdict_of_frames c.args.settings.now c.args.bytes.now c.in-Ok.head (Some c.in-Some.frames.items) _ (sym c.in-Ok.ensures.first) small (take_rest c.args.bytes.now 24) (rw c.in-Some.is at found)) (rw c.deref.ensures.value at c.outcome_of.ensures)
