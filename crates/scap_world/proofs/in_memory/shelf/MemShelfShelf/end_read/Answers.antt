use Rattle.scap_world.proofs.ShelfLemmas.{number_at-first, number_at-other}
use Rattle.scap_world.proofs.in_memory.shelf.MemShelfShelf.end_read.Goals as goal

pub returns-clause-taken : goal.returns-clause-taken
returns-clause-taken c = number_at-first c.args.self.now.files _ _ _ c.place-self.ensures.first

pub returns-clause-forgets : goal.returns-clause-forgets
returns-clause-forgets c = number_at-other c.args.self.now.files _ _ _ c.place-self.ensures.first
