use Rattle.std.proofs.Common.{◌∙◌}
use Rattle.workrun.proofs.serving.tell_chunk.Goals as goal

pub returns-clause-front : goal.returns-clause-front
returns-clause-front g c = rw (c.deref.ensures.value ∙ c.make_room.ensures.kept) at c.tell_chunk.ensures.front
