use Rattle.std.proofs.Common.{◌≡◌, take}
use Rattle.std.specs.Prelude.{map}
use Rattle.datagrams.specs.Capture.{packet_for}
use Rattle.labtop.specs.Found.{StandFor}
use Rattle.labtop.specs.Scapconf.{fates, last_clock}
use Rattle.streamdefs.specs.Report.{records_of}
use Rattle.labtop.proofs.intake.intake_of.Given as goal

abbrev pub invariant-loop-frame : goal.invariant-loop-frame
invariant-loop-frame l = record {
  stand : StandFor (map packet_for l.packets.items) l.counts (fates l.settings.filter l.link (take l.frame-index l.frames));
  last : l.last ≡ last_clock (take l.frame-index l.frames);
  number : l.number ≡ l.frame-index;
  counted : records_of l.counts ≡ l.frame-index;
}
