use Rattle.std.proofs.Common.{refl}
use Rattle.std.proofs.lemmas.Option.{slice_get_read}
use Rattle.coretable.proofs.StepLemmas.{put_size}
use Rattle.coretable.proofs.completing.put_back.Goals as goal

pub returns-in-Some-clause-size : goal.returns-in-Some-clause-size
returns-in-Some-clause-size g c = λ size. put_size size c.args.desk.now.slots.items _ c.args.place c.args.clock c.in-Some.slot.now c.put_in.new.slot c.args.talk c.put_in.result (slice_get_read c.args.desk.now.slots.items _ c.args.place c.in-Some.slot.now refl c.in-Some.ensures.item.3.0 c.in-Some.ensures.item.1) refl c.put_in.ensures.ok c.put_in.ensures.err
