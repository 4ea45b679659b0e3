use Rattle.std.specs.Prelude.{nat_le}
use Rattle.std.proofs.Common.{sym, ◌∙◌, ap}
use Rattle.datagrams.specs.Flow.{is_ready, open_in}
use Rattle.datagrams.proofs.half_stream.is_ready.Goals as goal
use Rattle.datagrams.proofs.FlowLemmas.{fresh_size}

pub returns-in-Some : goal.returns-in-Some
returns-in-Some c =
    ap (nat_le c.args.least) (c.fresh_len.ensures ∙ fresh_size c.in-Some.chunk.fresh) ∙ sym (ap (λ chunk. is_ready c.args.least (open_in chunk)) c.in-Some.is)
