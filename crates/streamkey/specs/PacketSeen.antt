use Rattle.streamkey.specs.declared.packet.Packet.{Packet}
use Rattle.streamkey.specs.Packet.{Accepted}

-- a packet as the rules of streams see it
abbrev pub packet_of : Packet → Accepted
packet_of p = record { number = p.number; now = p.now; key = p.key; toward = p.toward; seq = p.seq; flags = p.flags; declared = p.declared; payload = p.payload }
