use Rattle.std.proofs.Common.{◌∷◌, ◌∙◌, ap, sym, length, take, drop, List, ℕ, ◌-◌, ◌+◌}
use Rattle.std.specs.Str.Lines.{lines}
use Rattle.scapconf.proofs.NumberLemmas.{is_not_empty}
use Rattle.scapconf.proofs.SplitLemmas.{lines_last, lines_first}
use Rattle.scapconf.proofs.line.next_line.Goals as goal

pub returns-in-None-clause-line : goal.returns-in-None-clause-line
returns-in-None-clause-line c = lines_last c.args.text.now (is_not_empty (length c.args.text.now) _ c.is_empty.ensures c.if-is_empty.false) (sym c.in-None.ensures)

pub returns-in-Some-clause-line : goal.returns-in-Some-clause-line
returns-in-Some-clause-line c =
    let text = c.args.text.now in
    let at = c.in-Some.at in
    lines_first text at (sym c.in-Some.ensures)
    ∙ ap (λ (line : List ℕ). line ∷ lines (take (length text - (at + 1)) (drop (at + 1) text))) (sym c.without_return.ensures)
