use Rattle.std.proofs.Common.{◌≡◌, ℕ, ◌+◌, [], length, map, take}
use Rattle.streamdefs.specs.Lists.{total}
use Rattle.streamdefs.specs.Terms.{Terms}
use Rattle.datagrams.specs.declared.datagram.Datagram.{Datagram}
use Rattle.datagrams.specs.Capture.{packet_for, IsCapture}
use Rattle.datagrams.specs.Stands.{Stands}
use Rattle.datagrams.proofs.course.take_all.Given as goal

abbrev pub invariant-loop-packet : goal.invariant-loop-packet
invariant-loop-packet l = record {
  came : l.replay.came ≡ l.fn.replay.came + total (λ (p : Datagram). length p.payload.now) (take l.packet-index l.packets);
  stands : (t : Terms) (last first : ℕ) → IsCapture t first (map packet_for l.packets) → Stands t last first (map packet_for l.packets) [] 0 l.fn.replay
      → Stands t last first (map packet_for l.packets) (take l.packet-index (map packet_for l.packets)) 0 l.replay;
}
