use Rattle.streamdefs.proofs.Pushes.{convo_after_push, core_at_push}
use Rattle.streamdefs.proofs.laws.histories_grow_by_an_entry.Goals as goal

pub returns : goal.returns
returns c = record { history = convo_after_push; book = core_at_push }
