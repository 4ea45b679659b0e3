use Rattle.reorder.proofs.Spread.{length_spread}
use Rattle.reorder.proofs.laws.each_byte_has_its_position.Goals as goal

pub returns : goal.returns
returns g c = λ paid. length_spread paid c.args.store.now.frags
