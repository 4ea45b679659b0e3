use Rattle.std.proofs.Common.{◌≡◌, sym, subst, ap, ◌∙◌, arith, ℕ, suc, ◌+◌, ◌<◌, ◌++◌, [], ◌∷◌, List, length, map, take, get_or, add-one}
use Rattle.std.proofs.lemmas.List.{length-map}
use Rattle.streamdefs.specs.Lists.{total}
use Rattle.streamdefs.specs.Packet.{Packet}
use Rattle.datagrams.specs.declared.datagram.Datagram.{Datagram}
use Rattle.datagrams.specs.Capture.{packet_for}
use Rattle.datagrams.specs.Stands.{IsNext, Stands}
use Rattle.datagrams.proofs.CourseLemmas.{all_passed, front_more, got_mapped, next_at, total_front, total_more}
use Rattle.datagrams.proofs.course.take_all.Goals as goal

-- the bytes of a datagram
abbrev bytes_in : Datagram → ℕ
bytes_in p = length p.payload.now

-- those of one more
bytes_more : (ps : List Datagram) (i : ℕ) (p : Datagram) → i < length ps → p ≡ get_or ps i p → total bytes_in (take (suc i) ps) ≡ total bytes_in (take i ps) + bytes_in p
bytes_more ps i p l e = total_more bytes_in ps i p l ∙ ap (λ (q : Datagram). total bytes_in (take i ps) + bytes_in q) (sym e)

pub take-requires-clause-few : goal.take-requires-clause-few
take-requires-clause-few c =
    omega (arith, c.requires, bytes_more c.args.packets.now c.loop-packet.packet-index c.packet-item.result c.loop-packet-test.true c.packet-item.is, total_front bytes_in c.args.packets.now (suc c.loop-packet.packet-index))

pub take-requires-clause-fits : goal.take-requires-clause-fits
take-requires-clause-fits c =
    omega (arith, c.requires, c.loop-packet.invariant.came, bytes_more c.args.packets.now c.loop-packet.packet-index c.packet-item.result c.loop-packet-test.true c.packet-item.is, total_front bytes_in c.args.packets.now (suc c.loop-packet.packet-index))

pub loop-packet-preserved : goal.loop-packet-preserved
loop-packet-preserved c = record {
  came = rw add-one (omega (arith, c.in_ok-take.ensures.came, c.loop-packet.invariant.came, bytes_more c.args.packets.now c.loop-packet.packet-index c.packet-item.result c.loop-packet-test.true c.packet-item.is));
  stands = λ t last first is stands.
      let packets : List Packet = map packet_for c.args.packets.now in
      let i : ℕ = c.loop-packet.packet-index in
      let within : i < length packets = omega (arith, c.loop-packet-test.true, length-map c.args.packets.now packet_for) in
      let p : Packet = packet_for c.packet-item.result in
      let here : get_or packets i p ≡ p = got_mapped packet_for c.args.packets.now i c.packet-item.result ∙ ap packet_for (sym c.packet-item.is) in
      let next : IsNext t first packets (take i packets) p = subst (IsNext t first packets (take i packets)) here (next_at t first packets i p is within) in
      rw add-one (subst (λ (l : List Packet). Stands t last first packets l 0 c.take.new.replay) (sym (front_more packets i p within ∙ ap (λ (q : Packet). take i packets ++ q ∷ []) here))
      (c.in_ok-take.ensures.stands t last first packets (take i packets) (c.loop-packet.invariant.stands t last first is stands) next));
}

pub returns : goal.returns
returns c t last first is stands =
    let done : take c.loop-packet.packet-index (map packet_for c.args.packets.now) ≡ map packet_for c.args.packets.now = all_passed (map packet_for c.args.packets.now) c.loop-packet.packet-index (omega (arith, length-map c.args.packets.now packet_for)) in
    subst (λ (l : List Packet). Stands t last first (map packet_for c.args.packets.now) l 0 c.loop-packet.replay) done (c.loop-packet.invariant.stands t last first is stands)
