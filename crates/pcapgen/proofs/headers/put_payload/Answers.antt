use Rattle.pcapgen.specs.Frame.{byte_at}
use Rattle.pcapgen.proofs.Payload.{one_more}
use Rattle.std.proofs.Common.{◌++◌, ◌∷◌, [], arith, ap, ◌∙◌}
use Rattle.pcapgen.proofs.headers.put_payload.Goals as goal

pub loop-at-preserved : goal.loop-at-preserved
loop-at-preserved c =
    one_more (byte_at c.args.drawn.now) c.args.out.now.items c.loop-at.out.items c.push.new.self.items c.args.begin c.loop-at.at (omega arith) c.loop-at.invariant
    (c.in_ok-push.ensures.items ∙ ap (λ b. c.loop-at.out.items ++ b ∷ []) c.byte_at.ensures)
