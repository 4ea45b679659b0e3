use Rattle.std.proofs.Common.{◌≡◌, true, false, Some, None, sym, ◌∙◌}
use Rattle.linkip.specs.Ipv6.{is_short, payload_of, upper_in, ipv6}
use Rattle.std.specs.Prelude.{slice_index}
use Rattle.linkip.proofs.PacketLemmas.{ipv6-cut, ipv6-above}
use Rattle.linkip.proofs.ipv6.ipv6.Goals as goal

pub returns-then-is_short : goal.returns-then-is_short
unfolding ipv6
returns-then-is_short c =
    let h : is_short c.args.packet.now ≡ true = sym c.is_short.ensures.exact ∙ c.if-is_short.true in
    rw h

pub returns-in_default : goal.returns-in_default
returns-in_default c =
    let h : is_short c.args.packet.now ≡ false = sym c.is_short.ensures.exact ∙ c.if-is_short.false in
    let e : upper_in (slice_index c.args.packet.now 6) (payload_of c.args.packet.now) ≡ None = rw c.payload-payload.ensures.exact at c.in_default.ensures.exact in
    sym (ipv6-cut c.args.packet.now h e)

pub returns : goal.returns
returns c =
    let h : is_short c.args.packet.now ≡ false = sym c.is_short.ensures.exact ∙ c.if-is_short.false in
    let e : upper_in (slice_index c.args.packet.now 6) (payload_of c.args.packet.now) ≡ Some (record { next = c.in-Some.upper.next; left = c.in-Some.upper.left.now })
    = rw c.payload-payload.ensures.exact at c.in-Some.ensures.exact in
    let f = ipv6-above c.args.packet.now (record { next = c.in-Some.upper.next; left = c.in-Some.upper.left.now }) h e in
    rw (c.ipv6_address-source.ensures, c.ipv6_address-target.ensures, c.declared_size-declared.ensures, c.payload-payload.ensures.exact) at c.by_next.ensures
    ∙ sym f
