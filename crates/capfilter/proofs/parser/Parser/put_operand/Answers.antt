use Rattle.std.proofs.Common.{◌∙◌, sym, subst, List}
use Rattle.capfilter.specs.declared.node.Node.{Node}
use Rattle.capfilter.specs.declared.node.Node.TheVariants as nodes
use Rattle.capfilter.specs.Parser.{AreParts}
use Rattle.capfilter.proofs.ParserLemmas.{parts-node, operand_state}
use Rattle.capfilter.proofs.parser.Parser.put_operand.Goals as goal

pub close_frames-requires-clause-parts : goal.close_frames-requires-clause-parts
close_frames-requires-clause-parts c =
    let p = c.args.self.now in
    subst (λ (l : List Node). AreParts l p.frames.items p.levels) (sym c.in_ok-put_node.ensures)
    (parts-node p.nodes.items p.frames.items p.levels (nodes.Test c.args.prim) c.requires.is.parts tt)

pub returns-clause-state : goal.returns-clause-state
returns-clause-state c =
    let p = c.args.self.now in
    c.in_ok-close_frames.ensures.state ∙ operand_state p.nodes.items c.put_node.new.nodes.items p.frames.items c.args.prim c.requires.is.parts.within c.in_ok-put_node.ensures
