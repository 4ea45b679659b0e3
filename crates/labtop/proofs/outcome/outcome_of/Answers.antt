use Rattle.std.proofs.Common.{◌≡◌, ◌≤◌, ◌+◌, arith, false, length, Ok, nat_le}
use Rattle.std.specs.List.{sum_by}
use Rattle.std.proofs.lemmas.Bool.Decides.{nat_tests}
use Rattle.datagrams.specs.declared.datagram.Datagram.{Datagram}
use Rattle.streamdefs.specs.Report.{records_of}
use Rattle.labtop.specs.Found.{captured_by}
use Rattle.labtop.specs.Scapconf.{captured, has_segment}
use Rattle.labtop.specs.Settings.{terms_of}
use Rattle.labtop.proofs.OutcomeLemmas.{given_by, totals_agree}
use Rattle.labtop.proofs.outcome.outcome_of.Goals as goal

pub outcome_with-requires : goal.outcome_with-requires
outcome_with-requires c =
    let fits : sum_by (λ (p : Datagram). length p.payload.now) c.in-Some.intake.packets.items ≤ sum_by (λ f. length f.bytes) c.args.frames.now = rw c.in-Some.is at c.in_ok-found.ensures.fits in
    let counted : records_of c.in-Some.intake.counts ≡ length c.args.frames.now = rw c.in-Some.is at c.in_ok-found.ensures.counted in
    record { few = omega (arith, c.requires.few, counted); fits = omega (arith, c.requires.fits, fits, totals_agree c.in-Some.intake.packets.items) }

pub returns : goal.returns
returns c =
    let udp : has_segment (captured c.args.settings.now.filter c.args.link c.args.frames.now).packets ≡ false = rw c.in-Some.is at c.in_ok-found.ensures.segments in
    let same : captured_by c.in-Some.intake ≡ captured c.args.settings.now.filter c.args.link c.args.frames.now = rw c.in-Some.is at c.in_ok-found.ensures.captured in
    let brief : nat_le (c.in-Some.intake.first + c.args.settings.now.set.shape.idle) c.in-Some.intake.last ≡ false = grind (arith, nat_tests) in
    given_by (terms_of c.args.settings.now) (Ok c.in_ok-outcome_with.field-0) c.in-Some.intake c.args.settings.now.filter c.args.link c.args.frames.now same udp brief c.in_ok-outcome_with.ensures
