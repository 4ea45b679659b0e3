use Rattle.std.proofs.Common.{◌≡◌, ap, sym, subst, refl, IfSome, None, slice_set}
use Rattle.std.proofs.lemmas.Option.{slice_get_read}
use Rattle.coretable.proofs.StepLemmas.{take_size}
use Rattle.coretable.proofs.beginning.take_out.Goals as goal

pub returns-in-Some-take-clause-size : goal.returns-in-Some-take-clause-size
returns-in-Some-take-clause-size g c = λ size. take_size size c.args.desk.now.slots.items c.args.place c.in-Some.slot.now (record c.in-Some.slot.now { talk = c.take.new.self }) c.in-Some-take.talk
    (slice_get_read c.args.desk.now.slots.items _ c.args.place c.in-Some.slot.now refl c.in-Some.ensures.item.3.0 c.in-Some.ensures.item.1) (sym c.in-Some-take.ensures.value) c.take.ensures.after

pub returns-in-None-take-clause-slots : goal.returns-in-None-take-clause-slots
returns-in-None-take-clause-slots g c =
    subst (λ o. IfSome o (λ s. slice_set c.args.desk.now.slots.items c.args.place (record c.in-Some.slot.now { talk = c.take.new.self }) ≡ slice_set c.args.desk.now.slots.items c.args.place (record s { talk = None })))
    (sym (slice_get_read c.args.desk.now.slots.items _ c.args.place c.in-Some.slot.now refl c.in-Some.ensures.item.3.0 c.in-Some.ensures.item.1)) (ap (λ talk. slice_set c.args.desk.now.slots.items c.args.place (record c.in-Some.slot.now { talk = talk })) c.take.ensures.after)
