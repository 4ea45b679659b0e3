use Rattle.std.proofs.Common.{refl, sym, ◌∙◌, subst}
use Rattle.flowdir.specs.Boundary.{charge_by}
use Rattle.coretable.specs.Held.{StandsFor}
use Rattle.coretable.specs.Standing.{Keeps}
use Rattle.convo.specs.Seen.{packet_of}
use Rattle.coretable.specs.Course.{closing, loaded}
use Rattle.coretable.proofs.StandLemmas.{same_moment, same_packet, takes_end, takes_packet}
use Rattle.coretable.proofs.table.CoreTable.load.Goals as goal

pub returns-in-Packet-clause-packet : goal.returns-in-Packet-clause-packet
returns-in-Packet-clause-packet g c t last handler m p is h number clock =
    takes_packet (charge_by g.C.Charge.amount g.C.Charge.stamp) t last handler c.args.self.now _ m (packet_of p) h c.requires.ready number clock refl refl refl refl
    (λ idle k. subst (λ q. Keeps (StandsFor (charge_by g.C.Charge.amount g.C.Charge.stamp) t) t (loaded m (packet_of q)) c.load.new.desk) (same_packet c.in-Packet.packet p (sym c.in-Packet.is ∙ is)) (c.load.ensures.turn t m idle k))

pub returns-in-Finish-clause-end : goal.returns-in-Finish-clause-end
returns-in-Finish-clause-end g c t last handler m now is h at clock =
    takes_end (charge_by g.C.Charge.amount g.C.Charge.stamp) t last handler c.args.self.now _ m now h c.requires.ready at clock refl refl refl refl
    (λ idle k. subst (λ n. Keeps (StandsFor (charge_by g.C.Charge.amount g.C.Charge.stamp) t) t (closing m n) c.load_end.new.desk) (same_moment c.in-Finish.now now (sym c.in-Finish.is ∙ is)) (c.load_end.ensures.turn t m idle k))
