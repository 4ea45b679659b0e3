use Rattle.std.proofs.Common.{arith, sym, ◌∙◌}
use Rattle.scapconf.proofs.NumberLemmas.{number_none, number_below, number_some}
use Rattle.scapconf.proofs.number.number.Goals as goal

pub returns-in_err-value-clause-number : goal.returns-in_err-value-clause-number
returns-in_err-value-clause-number c =
    c.from_residual.ensures ∙ sym (number_none c.args.most c.args.least c.args.greatest c.args.text.now (sym c.in_err-value.ensures.number))

pub returns-then-value-least-clause-number : goal.returns-then-value-least-clause-number
returns-then-value-least-clause-number c =
    sym (number_below c.args.most c.args.least c.args.greatest c.args.text.now _ (sym c.in_ok-value.ensures.number) (omega arith))

pub returns-clause-number : goal.returns-clause-number
returns-clause-number c =
    sym (number_some c.args.most c.args.least c.args.greatest c.args.text.now _ (sym c.in_ok-value.ensures.number) (omega arith))
