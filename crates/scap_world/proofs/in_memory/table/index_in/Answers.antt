use Rattle.scap_world.proofs.TablesLemmas.{first_from_start}
use Rattle.scap_world.proofs.in_memory.table.index_in.Goals as goal

pub returns : goal.returns
returns g c = first_from_start c.args.entries.now c.args.name.now _ c.position_in.ensures
