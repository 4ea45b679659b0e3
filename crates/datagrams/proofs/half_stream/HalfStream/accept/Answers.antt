use Rattle.std.proofs.Common.{ap, subst, arith, length}
use Rattle.datagrams.specs.Flow.{IsKept}
use Rattle.datagrams.proofs.half_stream.HalfStream.accept.Goals as goal
use Rattle.datagrams.proofs.FlowLemmas.{chunk_bound, kept_joined}

pub append-requires : goal.append-requires
append-requires c =
    let kept = subst (λ chunk. IsKept c.self.inside.sent c.self.inside.front chunk) c.in-Some.is c.self.invariant in
    omega (arith, chunk_bound c.self.inside.sent c.self.inside.front c.in-Some.chunk kept, c.requires.fits, ap (λ v. v.sent) c.self.view_is)

pub invariant_of-self-2 : goal.invariant_of-self-2
invariant_of-self-2 c =
    let kept = subst (λ chunk. IsKept c.self.inside.sent c.self.inside.front chunk) c.in-Some.is c.self.invariant in
    kept_joined c.self.inside.sent c.self.inside.front _ c.append.new.self.room c.in-Some.chunk c.append.new.self c.args.part kept c.if-self.true c.requires.some (ap length c.bytes.ensures.bytes) c.in_ok-append.ensures.ok
