use Rattle.scap_world.proofs.TablesLemmas.{there_is_found}
use Rattle.scap_world.proofs.in_memory.table.Table.place.Goals as goal

pub unreachable-requires : goal.unreachable-requires
unreachable-requires g c = there_is_found c.args.self.now c.args.name.now c.requires c.in-None.ensures
