use Rattle.std.proofs.lemmas.Result.{on_ok_weaker}
use Rattle.capfilter.proofs.ShownLemmas as shown
use Rattle.capfilter.proofs.printer.put_tree.Goals as goal

pub returns-clause-text : goal.returns-clause-text
returns-clause-text c =
    on_ok_weaker c.put_node.result
    (shown.put_text c.args.nodes.now c.args.i _ c.requires.within c.requires.below c.args.out.now.items c.put_node.new.out.items c.args.tasks.now.items c.put_node.new.tasks.items)
    c.put_node.ensures

pub returns-clause-less : goal.returns-clause-less
returns-clause-less c =
    on_ok_weaker c.put_node.result
    (shown.put_less c.args.nodes.now c.args.i _ c.requires.within c.requires.below c.args.out.now.items c.put_node.new.out.items c.args.tasks.now.items c.put_node.new.tasks.items)
    c.put_node.ensures

pub returns-clause-within : goal.returns-clause-within
returns-clause-within c =
    on_ok_weaker c.put_node.result
    (λ puts. shown.put_within c.args.nodes.now c.args.i _ c.requires.within c.requires.below c.args.out.now.items c.put_node.new.out.items c.args.tasks.now.items c.put_node.new.tasks.items puts c.requires.others)
    c.put_node.ensures
