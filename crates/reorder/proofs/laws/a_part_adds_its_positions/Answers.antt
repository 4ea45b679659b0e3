use Rattle.reorder.proofs.Spread.{put_is}
use Rattle.reorder.proofs.laws.a_part_adds_its_positions.Goals as goal

pub returns : goal.returns
returns g c = λ paid f clear some. put_is paid 0 f c.args.store.now.frags c.parts_rise.ensures.ascends some clear
