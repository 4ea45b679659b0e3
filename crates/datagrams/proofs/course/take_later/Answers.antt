use Rattle.std.proofs.Common.{◌≡◌, ap, ◌<◌, ◌^◌, length}
use Rattle.std.specs.List.{HoldsAt}
use Rattle.datagrams.specs.declared.conversation.Conversation.{Conversation}
use Rattle.datagrams.specs.Capture.{packet_for}
use Rattle.datagrams.specs.State.{State, with_datagram_at}
use Rattle.datagrams.proofs.CourseLemmas.{later_taken}
use Rattle.datagrams.proofs.EnterLemmas.{on_both, on_ok}
use Rattle.datagrams.proofs.PlaceLemmas.{an_element}
use Rattle.datagrams.proofs.course.take_later.Goals as goal

pub returns-clause-came : goal.returns-clause-came
returns-clause-came c =
    let s : State = c.args.replay.now in
    on_ok c.enter_at.result
    (λ (h : HoldsAt (λ (k : Conversation). c.enter_at.new.self ≡ with_datagram_at s c.args.place c.number_and_way-conv.result.0 k c.number_and_way-conv.result.1 c.args.packet.now.number c.args.packet.now.clock c.args.packet.now.payload.now) s.table c.args.place).
    ap (λ (x : State). x.came) (h (an_element s.table c.args.place c.requires.place.within)))
    c.enter_at.ensures.state

pub returns-clause-stands : goal.returns-clause-stands
returns-clause-stands c t last first packets done stands calm next =
    let s : State = c.args.replay.now in
    let d : Conversation = an_element s.table c.args.place c.requires.place.within in
    on_both c.enter_at.result
    (λ (h : HoldsAt (λ (k : Conversation). c.enter_at.new.self ≡ with_datagram_at s c.args.place c.number_and_way-conv.result.0 k c.number_and_way-conv.result.1 c.args.packet.now.number c.args.packet.now.clock c.args.packet.now.payload.now) s.table c.args.place)
    (stamp : 0 < length c.args.packet.now.payload.now → s.budget.stamp < 2 ^ 31).
    later_taken t last first packets done s c.enter_at.new.self c.args.place c.number_and_way-conv.result.0 c.number_and_way-conv.result.1 d (packet_for c.args.packet.now) stands calm c.requires.place next stamp (c.number_and_way-conv.ensures d).0 (c.number_and_way-conv.ensures d).1 (h d))
    c.enter_at.ensures.state c.enter_at.ensures.stamp
