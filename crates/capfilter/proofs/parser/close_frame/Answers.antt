use Rattle.std.proofs.Common.{◌≡◌, ◌∷◌, [], ◌++◌, ◌∙◌, ap, sym, subst, arith, List, length, ◌-◌, Some}
use Rattle.std.proofs.lemmas.Grind.{common_steps}
use Rattle.capfilter.specs.declared.node.Node.{Node}
use Rattle.capfilter.specs.declared.parser.Frame as code_frame
use Rattle.capfilter.specs.Nodes.{root}
use Rattle.capfilter.specs.Reader.{completed}
use Rattle.capfilter.specs.Parser.{AreParts, frames_of, joined}
use Rattle.capfilter.proofs.ParserLemmas.{closed_parts, closed_state}
use Rattle.capfilter.proofs.parser.close_frame.Goals as goal

pub returns-clause-parts : goal.returns-clause-parts
returns-clause-parts c =
    let ns = c.args.nodes.now.items in
    let fs = c.pop.new.self.items in
    let f = c.in-Some.frame in
    let ls = c.args.levels.now in
    let node = c.in-Some-join_of.node in
    let split : c.args.frames.now.items ≡ fs ++ f ∷ [] = grind (arith, common_steps) in
    let joins : joined f (length ns - 1) ≡ Some node = cc in
    let parts = subst (λ (l : List code_frame.Frame). AreParts ns l ls) split c.requires.parts in
    subst (λ (l : List Node). AreParts l fs c.levels_behind.result) (sym c.in_ok-put_node.ensures)
    (subst (AreParts (ns ++ node ∷ []) fs) (sym c.levels_behind.ensures) (closed_parts ns fs f ls node c.requires.some parts joins))

pub returns-clause-same : goal.returns-clause-same
returns-clause-same c =
    let ns = c.args.nodes.now.items in
    let fs = c.pop.new.self.items in
    let f = c.in-Some.frame in
    let ls = c.args.levels.now in
    let node = c.in-Some-join_of.node in
    let split : c.args.frames.now.items ≡ fs ++ f ∷ [] = grind (arith, common_steps) in
    let joins : joined f (length ns - 1) ≡ Some node = cc in
    let parts = subst (λ (l : List code_frame.Frame). AreParts ns l ls) split c.requires.parts in
    ap (λ (l : List Node). completed (frames_of l fs) (root l)) c.in_ok-put_node.ensures
    ∙ closed_state ns fs f ls node c.requires.some parts joins
    ∙ ap (λ (l : List code_frame.Frame). completed (frames_of ns l) (root ns)) (sym split)
