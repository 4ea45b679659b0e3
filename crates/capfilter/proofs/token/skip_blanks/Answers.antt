use Rattle.std.proofs.Common.{◌∙◌, arith, sym}
use Rattle.capfilter.proofs.TokenLemmas.{tokens_past_blank}
use Rattle.capfilter.proofs.token.skip_blanks.Goals as goal

pub loop-at-preserved : goal.loop-at-preserved
loop-at-preserved c =
    record {
      behind = omega arith;
      within = omega arith;
      same = c.loop-at.invariant.same ∙ tokens_past_blank c.args.text.now c.loop-at.at (omega arith) (sym c.is_blank_byte.ensures ∙ c.if-is_blank_byte.true);
    }
