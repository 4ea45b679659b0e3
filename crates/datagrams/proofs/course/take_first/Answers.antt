use Rattle.std.proofs.Common.{◌≡◌, subst, ℕ, ◌<◌, ◌^◌, length}
use Rattle.std.specs.List.{HoldsAt}
use Rattle.evring.specs.declared.way.Way.TheVariants.{Fore}
use Rattle.streamdefs.specs.Packet.{Packet}
use Rattle.datagrams.specs.declared.conversation.Conversation.{Conversation}
use Rattle.datagrams.specs.Capture.{packet_for}
use Rattle.datagrams.specs.Rows.{unbegun}
use Rattle.datagrams.specs.State.{State, with_datagram_at}
use Rattle.datagrams.proofs.CourseLemmas.{first_taken}
use Rattle.datagrams.proofs.EnterLemmas.{on_both}
use Rattle.datagrams.proofs.course.take_first.Goals as goal

pub returns-clause-stands : goal.returns-clause-stands
returns-clause-stands c t last first packets done stands calm next =
    let s : State = c.args.replay.now in
    let p : Packet = packet_for c.args.packet.now in
    on_both c.enter_at.result
    (λ (h : HoldsAt (λ (k : Conversation). c.enter_at.new.self ≡ with_datagram_at c.open.new.self c.conversations-place.result p.number k Fore p.number p.now p.payload) c.open.new.self.table c.conversations-place.result)
    (stamp : 0 < length p.payload → c.open.new.self.budget.stamp < 2 ^ 31).
    first_taken t last first packets done s c.open.new.self c.enter_at.new.self p (unbegun p.number p.key p.toward) stands calm c.requires.new next stamp c.in_ok-open.ensures
    (subst (λ (n : ℕ). HoldsAt (λ (k : Conversation). c.enter_at.new.self ≡ with_datagram_at c.open.new.self n p.number k Fore p.number p.now p.payload) c.open.new.self.table n) c.conversations-place.ensures h))
    c.enter_at.ensures.state c.enter_at.ensures.stamp
