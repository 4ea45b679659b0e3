-- What a header says is one by both records of a packet.
use Rattle.std.proofs.Common.{◌≡◌, refl, ap}
use Rattle.std.specs.Prelude.{◌&&◌, ◌/◌, ◌%◌, ◌==◌}
use Rattle.streamkey.specs.declared.packet.Packet.{Packet}
use Rattle.streamkey.specs.declared.proto.Proto.{Proto}
use Rattle.streamkey.specs.declared.proto.Proto.TheVariants.{Tcp, Udp}
use Rattle.streamkey.specs.PacketSeen.{packet_of as accepted_of}
use Rattle.streamkey.specs.Packet.{has_fin as read_fin, has_rst as read_rst, has_syn as read_syn, is_tcp as read_tcp, is_tcp_proto}
use Rattle.streamdefs.specs.Packet.{Packet as Accepted, has_fin, has_rst, has_syn, is_tcp}
use Rattle.convo.specs.Seen.{packet_of}

tcp_by : (proto : Proto) (p : Accepted) → p.key.proto ≡ proto → is_tcp_proto proto ≡ is_tcp p
tcp_by Tcp p e = rw e refl
tcp_by Udp p e = rw e refl

pub tcp_is : (p : Packet) → read_tcp (accepted_of p) ≡ is_tcp (packet_of p)
tcp_is p = tcp_by p.key.proto (packet_of p) refl

pub fin_is : (p : Packet) → read_fin (accepted_of p) ≡ has_fin (packet_of p)
fin_is p = ap (λ tcp. tcp && (p.flags % 2 == 1)) (tcp_is p)

pub syn_is : (p : Packet) → read_syn (accepted_of p) ≡ has_syn (packet_of p)
syn_is p = ap (λ tcp. tcp && ((p.flags / 2) % 2 == 1)) (tcp_is p)

pub rst_is : (p : Packet) → read_rst (accepted_of p) ≡ has_rst (packet_of p)
rst_is p = ap (λ tcp. tcp && ((p.flags / 4) % 2 == 1)) (tcp_is p)
