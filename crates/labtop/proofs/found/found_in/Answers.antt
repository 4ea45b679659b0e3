use Rattle.std.proofs.Common.{refl, sym, ap, ◌∙◌}
use Rattle.linkip.specs.Frames.{network}
use Rattle.porthdr.specs.Transport.{transport}
use Rattle.streamkey.specs.declared.key.Key.{Key}
use Rattle.labtop.proofs.KindLemmas.{found_datagram, kind_of-plain}
use Rattle.labtop.proofs.found.found_in.Goals as goal

pub returns-in-Udp : goal.returns-in-Udp
returns-in-Udp c =
    found_datagram c.args.settings.now.filter c.args.number c.args.clock _ c.in-Accepted.key c.in-Accepted.toward c.in-Accepted.seq c.in-Accepted.flags c.in-Accepted.declared c.in-Accepted.payload.now _
    (c.in-Accepted.ensures.exact ∙ ap transport (c.network.ensures.exact ∙ ap (network c.args.link) c.as_slice.ensures))
    (kind_of-plain c.args.link c.args.frame.now.bytes)
    (ap (λ (k : Key). k.proto) (sym c.key.view_is) ∙ c.in-Udp.is)
    (sym c.accepts.ensures ∙ c.if-not-accepts.false)
    refl
