use Rattle.std.proofs.Common.{arith, ◌∙◌}
use Rattle.textout.proofs.NumberLemmas.{value_more, digits_more, no_value}
use Rattle.textout.proofs.number_reader.value_of.Goals as goal

pub returns-in_err-value : goal.returns-in_err-value
returns-in_err-value c =
    let none = no_value c.args.radix c.loop-byte.value c.args.text.now c.loop-byte.byte-index (omega arith) (omega arith) c.loop-byte.invariant.value c.in_err-value.ensures in
    rw c.from_residual.ensures none

pub loop-byte-preserved : goal.loop-byte-preserved
loop-byte-preserved c =
    record {
      digits = digits_more c.args.radix c.args.text.now c.loop-byte.byte-index (omega arith) c.loop-byte.invariant.digits c.in_ok-value.ensures.0;
      value = c.in_ok-value.ensures.1 ∙ value_more c.args.radix c.loop-byte.value c.args.text.now c.loop-byte.byte-index (omega arith) c.loop-byte.invariant.value;
    }
