use Rattle.std.proofs.Common.{◌+◌, ◌∷◌, ◌++◌, nat_eq, take, sym, ◌∙◌, ap}
use Rattle.std.specs.List.{slice_split}
use Rattle.capfilter.proofs.NumbersLemmas.{parts_none, parts_some, found_at, rest_taken, split_there}
use Rattle.capfilter.proofs.parts.cut.Goals as goal

pub returns-in-None-clause-parts : goal.returns-in-None-clause-parts
returns-in-None-clause-parts c = parts_none (λ b. nat_eq b c.args.byte) c.args.text.now (sym c.in-None.ensures)

pub returns-in-Some-clause-parts : goal.returns-in-Some-clause-parts
returns-in-Some-clause-parts c =
    parts_some (λ b. nat_eq b c.args.byte) c.args.text.now 0 c.in-Some.at (sym c.in-Some.ensures)
    ∙ ap (λ rest. take c.in-Some.at c.args.text.now ∷ slice_split (λ b. nat_eq b c.args.byte) rest) (sym (rest_taken c.args.text.now (c.in-Some.at + 1)))

pub returns-in-Some-clause-less : goal.returns-in-Some-clause-less
returns-in-Some-clause-less c =
    let at = found_at (λ b. nat_eq b c.args.byte) c.args.text.now 0 c.in-Some.at (sym c.in-Some.ensures) in
    split_there c.args.text.now c.in-Some.at c.args.byte at.0 at.1 ∙ ap (λ rest. take c.in-Some.at c.args.text.now ++ c.args.byte ∷ rest) (sym (rest_taken c.args.text.now (c.in-Some.at + 1)))
