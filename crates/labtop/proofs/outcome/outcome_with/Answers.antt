use Rattle.std.proofs.Common.{refl, sym}
use Rattle.datagrams.specs.declared.whole_replay.WholeReplay.{WholeReplay}
use Rattle.labtop.specs.Found.{captured_by}
use Rattle.labtop.specs.Settings.{terms_of}
use Rattle.labtop.proofs.OutcomeLemmas.{has_texts, replayed_as}
use Rattle.labtop.proofs.outcome.outcome_with.Goals as goal

pub returns : goal.returns
returns c first is until =
    let w : WholeReplay = c.in_ok-whole.whole in
    has_texts (terms_of c.args.settings.now) (captured_by c.args.intake.now) (record { journal = w.journal; delivery = w.text; report = c.in_ok-report.report }) w.text.items w.table w.stamps w.peak w.refused
    (replayed_as (terms_of c.args.settings.now) c.args.intake.now.packets.items c.deref.result.now c.args.intake.now.last first w c.deref.ensures.value is
    ((rw c.in_ok-whole.was at c.replay_all-replayed.ensures.whole) (terms_of c.args.settings.now) first refl (sym c.from.ensures)) until)
    refl
    c.in_ok-report.ensures
