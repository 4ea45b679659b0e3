use Rattle.reorder.proofs.Overlay.{overlaid_is}
use Rattle.reorder.proofs.laws.each_held_position_is_settled.Goals as goal

pub returns : goal.returns
returns g c = λ paid policy start from bytes. overlaid_is paid policy start from bytes c.args.store.now.frags
