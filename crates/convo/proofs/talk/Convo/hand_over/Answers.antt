use Rattle.std.proofs.Common.{ℕ, ap, cond, arith}
use Rattle.convo.proofs.HandSteps.{hand_new, hand_fore, hand_back, none_fore}
use Rattle.convo.proofs.talk.Convo.hand_over.Goals as goal

pub returns-then-self-clause-turn : goal.returns-then-self-clause-turn
returns-then-self-clause-turn g c = λ t k events left.
    rw (c.tell_new.ensures.want, c.tell_new.ensures.same) (hand_new _ t k c.args.self.now events c.if-self.true left)

pub returns-in-Some-clause-turn : goal.returns-in-Some-clause-turn
returns-in-Some-clause-turn g c = λ t k events left.
    rw (c.tell_chunk.ensures.want, c.tell_chunk.ensures.same)
    (hand_fore _ t k c.args.self.now c.hand_over.new.self _ _ events c.if-self.false left c.in-Some.ensures.first c.in-Some.ensures.kept c.in-Some.ensures.own c.in-Some.ensures.kind c.in-Some.ensures.sums)

pub returns-in-Some-clause-weight : goal.returns-in-Some-clause-weight
returns-in-Some-clause-weight g c = λ w. rw (c.tell_chunk.ensures.want, c.tell_chunk.ensures.same) (let e = c.in-Some.ensures.weight w in omega arith)

pub returns-in-Some-hand_over-clause-turn : goal.returns-in-Some-hand_over-clause-turn
returns-in-Some-hand_over-clause-turn g c = λ t k events left.
    rw (c.tell_chunk-in-Some-hand_over.ensures.want, c.tell_chunk-in-Some-hand_over.ensures.same)
    (let h = none_fore _ t k c.args.self.now c.hand_over.new.self events left c.in_default.ensures.first c.in_default.ensures.kept c.in_default.ensures.own c.in_default.ensures.kind c.in_default.ensures.sums in
    hand_back _ t k _ c.hand_over-2.new.self _ _ events h.0 c.if-self.false h.1 c.in-Some-hand_over.ensures.first c.in-Some-hand_over.ensures.kept c.in-Some-hand_over.ensures.own c.in-Some-hand_over.ensures.kind c.in-Some-hand_over.ensures.sums)

pub returns-in-Some-hand_over-clause-weight : goal.returns-in-Some-hand_over-clause-weight
returns-in-Some-hand_over-clause-weight g c = λ w. rw (c.tell_chunk-in-Some-hand_over.ensures.want, c.tell_chunk-in-Some-hand_over.ensures.same)
    (let e = c.in_default.ensures.weight w in let f = c.in-Some-hand_over.ensures.weight w in omega arith)

pub returns-then-self-clause-left : goal.returns-then-self-clause-left
returns-then-self-clause-left g c = rw (c.tell_new.ensures.want, c.tell_new.ensures.same) (let o = ap {B = ℕ} (λ b. cond b 3 0) c.if-self.true in record { grants_most = omega arith; work_most = omega arith })

pub returns-in-Some-clause-left : goal.returns-in-Some-clause-left
returns-in-Some-clause-left g c = rw (c.tell_chunk.ensures.want, c.tell_chunk.ensures.same) (
    let a = c.in-Some.ensures.left.grants_most in
    let b = c.in-Some.ensures.left.work_most in
    record { grants_most = omega arith; work_most = omega arith })

pub returns-in-Some-hand_over-clause-left : goal.returns-in-Some-hand_over-clause-left
returns-in-Some-hand_over-clause-left g c = rw (c.tell_chunk-in-Some-hand_over.ensures.want, c.tell_chunk-in-Some-hand_over.ensures.same) (
    let a = c.in_default.ensures.left.grants_most in
    let b = c.in_default.ensures.left.work_most in
    let d = c.in-Some-hand_over.ensures.left.grants_most in
    let e = c.in-Some-hand_over.ensures.left.work_most in
    record { grants_most = omega arith; work_most = omega arith })
