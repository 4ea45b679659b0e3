-- What is found of records in code, and what is kept of it.
use Rattle.std.specs.Prelude.{◌≡◌, ◌+◌, false, List, map}
use Rattle.datagrams.specs.Capture.{packet_for}
use Rattle.labtop.specs.declared.found.Found.{Found}
use Rattle.labtop.specs.declared.found.Found.TheVariants as found
use Rattle.labtop.specs.declared.intake.Intake.{Intake}
use Rattle.labtop.specs.Scapconf.{Fate, Taken, Filtered, Passed, Captured, counts_of, has_segment, packet_in, packets_of}
use Rattle.porthdr.specs.declared.skip.Skip.TheVariants as skip
use Rattle.streamdefs.specs.Packet.{Packet}
use Rattle.streamdefs.specs.Report.{RecordCounts}

abbrev pub fate_by : Found → Fate
fate_by (found.Taken datagram) = Taken (packet_for datagram)
fate_by found.Filtered = Filtered
fate_by (found.Passed why) = Passed why

-- what is found of a record that is no segment
pub record IsFound (found : Found) (fate : Fate) : Type 0 where
  pub is : fate_by found ≡ fate
  pub datagram : has_segment (packet_in fate) ≡ false

-- one more record
abbrev pub with_fate : Fate → RecordCounts → RecordCounts
with_fate (Taken packet) n = record n { accepted = n.accepted + 1 }
with_fate Filtered n = record n { filtered = n.filtered + 1 }
with_fate (Passed skip.Other) n = record n { other = n.other + 1 }
with_fate (Passed skip.Fragment) n = record n { fragment = n.fragment + 1 }
with_fate (Passed skip.Short) n = record n { short = n.short + 1 }

-- the packets and the counts of records, none of which is a segment
pub record StandFor (kept : List Packet) (counted : RecordCounts) (fates : List Fate) : Type 0 where
  pub packets : kept ≡ packets_of fates
  pub counts : counted ≡ counts_of fates
  pub datagrams : has_segment (packets_of fates) ≡ false

-- what a capture's records are, as it is kept
abbrev pub captured_by : Intake → Captured
captured_by intake = record { packets = map packet_for intake.packets.items; counts = intake.counts; first = intake.first; last = intake.last }
