use Rattle.std.proofs.Common.{sym, subst, ℕ, List, [], length, map}
use Rattle.streamdefs.specs.Packet.{Packet}
use Rattle.streamdefs.specs.Terms.{Terms}
use Rattle.datagrams.specs.declared.whole_replay.WholeReplay.{WholeReplay}
use Rattle.datagrams.specs.Capture.{IsReplay, packet_for}
use Rattle.datagrams.specs.Stands.{Stands}
use Rattle.datagrams.proofs.EnterLemmas.{if_ok}
use Rattle.datagrams.proofs.WholeLemmas.{begun}
use Rattle.datagrams.proofs.whole.replay_all.Goals as goal

pub returns-in-Ok-clause-whole : goal.returns-in-Ok-clause-whole
returns-in-Ok-clause-whole c =
    if_ok c.finish.result.1
    (λ (w : WholeReplay) (h : (t : Terms) (last first : ℕ) (packets : List Packet) → Stands t last first packets packets (length c.run.new.replay.table) c.run.new.replay → IsReplay t packets last w.journal w.text.items w.table w.stamps w.peak w.refused).
    λ t first marks size is until.
    h t c.args.last first (map packet_for c.args.packets.now)
    (c.in-Ok.ensures.stands t first is until (subst (Stands t c.args.last first (map packet_for c.args.packets.now) [] 0) (sym c.new-replay.ensures.state)
    (begun t c.args.last first (map packet_for c.args.packets.now) c.args.marks.now c.args.chunk_size c.new-replay.ensures.within marks size))))
    c.finish.ensures.whole
