use Rattle.std.proofs.Common.{◌≡◌, ◌++◌, ◌∷◌, [], subst, sym, arith, List}
use Rattle.std.proofs.lemmas.Grind.{common_steps}
use Rattle.capfilter.specs.declared.parser.Frame as code_frame
use Rattle.capfilter.specs.declared.parser.Frame.TheVariants as frames
use Rattle.capfilter.specs.Parser.{AreParts}
use Rattle.capfilter.proofs.ParserLemmas.{parts-pop}
use Rattle.capfilter.proofs.parser.pop_bracket.Goals as goal

pub returns-in-Some-Open-clause-parts : goal.returns-in-Some-Open-clause-parts
returns-in-Some-Open-clause-parts c =
    let ns = c.args.nodes.now in
    let fs = c.pop.new.self.items in
    let ls = c.args.levels.now in
    let split : c.args.frames.now.items ≡ fs ++ frames.Open ∷ [] = grind (arith, common_steps) in
    let parts = subst (λ (l : List code_frame.Frame). AreParts ns l ls) split c.requires.parts in
    subst (AreParts ns fs) (sym c.saturating_sub.ensures) (parts-pop ns fs frames.Open ls parts)
