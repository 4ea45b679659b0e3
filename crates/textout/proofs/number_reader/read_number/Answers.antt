use Rattle.std.proofs.Common.{arith, sym, ◌∙◌, Some, ap, ℕ, length}
use Rattle.textout.proofs.NumberLemmas.{number_empty, number_long, number_none, number_above, number_some, is_empty, is_not_empty}
use Rattle.textout.proofs.number_reader.read_number.Goals as goal

pub returns-then-is_empty-clause-number : goal.returns-then-is_empty-clause-number
returns-then-is_empty-clause-number c =
    sym (number_empty c.args.radix c.args.most c.args.greatest c.args.text.now (is_empty (length c.args.text.now) _ c.is_empty.ensures c.if-is_empty.true))

pub returns-then-most-text-clause-number : goal.returns-then-most-text-clause-number
returns-then-most-text-clause-number c = sym (number_long c.args.radix c.args.most c.args.greatest c.args.text.now (omega arith))

pub returns-in_err-value-clause-number : goal.returns-in_err-value-clause-number
returns-in_err-value-clause-number c =
    c.from_residual.ensures ∙ sym (number_none c.args.radix c.args.most c.args.greatest c.args.text.now (omega arith) c.in_err-value.ensures)

pub returns-then-greatest-value-clause-number : goal.returns-then-greatest-value-clause-number
returns-then-greatest-value-clause-number c =
    let value = c.in_ok-value.ensures.1 in
    sym (number_above c.args.radix c.args.most c.args.greatest c.args.text.now (omega arith))

pub returns-clause-number : goal.returns-clause-number
returns-clause-number c =
    let value = c.in_ok-value.ensures.1 in
    ap (λ (n : ℕ). Some n) value
    ∙ sym (number_some c.args.radix c.args.most c.args.greatest c.args.text.now (is_not_empty (length c.args.text.now) _ c.is_empty.ensures c.if-is_empty.false) (omega arith) c.in_ok-value.ensures.0 (omega arith))
