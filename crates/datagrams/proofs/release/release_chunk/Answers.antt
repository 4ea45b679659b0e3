use Rattle.std.proofs.Common.{rules, refl, ◌∙◌, ap, arith, length}
use Rattle.datagrams.proofs.ServedLemmas.{releasing_none, releasing_room, releasing_step, released_all, released_frees, fresh_taken, fresh_none}
use Rattle.datagrams.proofs.release.release_chunk.Goals as goal
use Rattle.datagrams.proofs.release.release_chunk.Goals.{else-not-full-via-then-not-full+else-is_err, else-not-full-via-else-not-full}

pub loop-part-init : goal.loop-part-init
loop-part-init c = (c.requires.bare, releasing_none c.args.chunk.fresh c.args.budget.now c.new-frees.result.items c.new-frees.ensures.items)

pub release-free-requires : goal.release-free-requires
release-free-requires c =
    releasing_room c.args.chunk.fresh c.take_part.new.self.fresh c.loop-part.chunk.fresh c.in-Some.part c.unpack-charge.result.1.amount c.args.budget.now c.loop-part.budget c.loop-part.full c.loop-part.frees.items c.loop-part.invariant.1
    (fresh_taken c.loop-part.chunk c.take_part.new.self c.in-Some.part c.loop-part.invariant.0 c.in-Some.ensures.tail c.in-Some.ensures.order) c.requires.held (ap (λ charge. charge.amount) c.unpack-charge.ensures.charge ∙ c.unpack-charge.ensures.paid)

pub loop-part-smaller-then-is_err : goal.loop-part-smaller-then-is_err
loop-part-smaller-then-is_err c =
    omega (arith, ap length (fresh_taken c.loop-part.chunk c.take_part.new.self c.in-Some.part c.loop-part.invariant.0 c.in-Some.ensures.tail c.in-Some.ensures.order))

pub loop-part-smaller : goal.loop-part-smaller
loop-part-smaller c =
    omega (arith, ap length (fresh_taken c.loop-part.chunk c.take_part.new.self c.in-Some.part c.loop-part.invariant.0 c.in-Some.ensures.tail c.in-Some.ensures.order))

pub loop-part-preserved-then-is_err : goal.loop-part-preserved-then-is_err
loop-part-preserved-then-is_err c = (
  c.in-Some.ensures.tail,
  releasing_step c.args.chunk.fresh c.take_part.new.self.fresh c.loop-part.chunk.fresh c.in-Some.part c.unpack-charge.result.1.amount c.args.budget.now c.loop-part.budget c.release-free.new.self c.loop-part.full _ c.loop-part.frees.items c.push.new.self.items c.loop-part.invariant.1
      (fresh_taken c.loop-part.chunk c.take_part.new.self c.in-Some.part c.loop-part.invariant.0 c.in-Some.ensures.tail c.in-Some.ensures.order) c.requires.held (ap (λ charge. charge.amount) c.unpack-charge.ensures.charge ∙ c.unpack-charge.ensures.paid) c.release-free.ensures.after (λ f. cc),
)

pub loop-part-preserved : goal.loop-part-preserved
loop-part-preserved c = (
  c.in-Some.ensures.tail,
  releasing_step c.args.chunk.fresh c.take_part.new.self.fresh c.loop-part.chunk.fresh c.in-Some.part c.unpack-charge.result.1.amount c.args.budget.now c.loop-part.budget c.release-free.new.self c.loop-part.full c.loop-part.full c.loop-part.frees.items c.else-not-full.frees.items c.loop-part.invariant.1
      (fresh_taken c.loop-part.chunk c.take_part.new.self c.in-Some.part c.loop-part.invariant.0 c.in-Some.ensures.tail c.in-Some.ensures.order) c.requires.held (ap (λ charge. charge.amount) c.unpack-charge.ensures.charge ∙ c.unpack-charge.ensures.paid) c.release-free.ensures.after
      (λ f. elim c.else-not-full.branch [ else-not-full-via-then-not-full+else-is_err w ↦ (f, ap (λ v. v.items) w.frees-is ∙ w.push.ensures.items ∙ search (rules, w.is_err.ensures.value, w.is_err.ensures.negation, w.if-is_err.false)) | else-not-full-via-else-not-full w ↦ cc ]),
)

pub returns-then-full-clause-budget : goal.returns-then-full-clause-budget
returns-then-full-clause-budget c = released_all c.args.chunk.fresh c.loop-part.chunk.fresh c.args.budget.now c.loop-part.budget c.loop-part.full c.loop-part.frees.items c.loop-part.invariant.1 (fresh_none c.loop-part.chunk c.loop-part.invariant.0 (c.in_default.ensures.none.0 refl))

pub returns-clause-budget : goal.returns-clause-budget
returns-clause-budget c = released_all c.args.chunk.fresh c.loop-part.chunk.fresh c.args.budget.now c.loop-part.budget c.loop-part.full c.loop-part.frees.items c.loop-part.invariant.1 (fresh_none c.loop-part.chunk c.loop-part.invariant.0 (c.in_default.ensures.none.0 refl))

pub returns-clause-frees : goal.returns-clause-frees
returns-clause-frees c = released_frees c.args.chunk.fresh c.loop-part.chunk.fresh c.args.budget.now c.loop-part.budget c.loop-part.full c.loop-part.frees.items c.loop-part.invariant.1 (fresh_none c.loop-part.chunk c.loop-part.invariant.0 (c.in_default.ensures.none.0 refl)) c.if-full.false
