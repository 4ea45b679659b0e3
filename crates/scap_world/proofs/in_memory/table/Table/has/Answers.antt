use Rattle.std.proofs.Common.{◌∙◌}
use Rattle.scap_world.proofs.TablesLemmas.{found_first}
use Rattle.scap_world.proofs.in_memory.table.Table.has.Goals as goal

pub returns : goal.returns
returns g c = c.is_some.ensures ∙ found_first c.args.self.now c.args.name.now _ c.index_of.ensures
