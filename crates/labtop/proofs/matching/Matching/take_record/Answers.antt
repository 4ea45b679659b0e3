use Rattle.std.proofs.Common.{◌+◌, arith, refl, rules}
use Rattle.labtop.proofs.MatchingLemmas.{record_passed, record_within, room_left, taken}
use Rattle.labtop.proofs.matching.Matching.take_record.Goals as goal

pub overflow_add-self : goal.overflow_add-self
overflow_add-self c =
    let few = (record_within _ _ c.requires.limited ((rw c.in-Whole.is at c.in_ok-frame.ensures.ok).0)).few in
    omega (arith, c.requires.counted, few)

pub put_match-requires : goal.put_match-requires
put_match-requires c =
    let short = (record_within _ _ c.requires.limited ((rw c.in-Whole.is at c.in_ok-frame.ensures.ok).0)).short in
    omega (arith, short)

pub returns-in_ok-put_match-in-Whole-clause-inside : goal.returns-in_ok-put_match-in-Whole-clause-inside
returns-in_ok-put_match-in-Whole-clause-inside c =
    let p = record_passed _ _ _ c.requires.limited (rw c.in-Whole.is at c.in_ok-frame.ensures.ok) in
    record { limited = p.limited; inside = p.inside; counted = omega (arith, c.requires.counted, p.counted) }

pub returns-in_ok-put_match-in-Whole-clause-came : goal.returns-in_ok-put_match-in-Whole-clause-came
returns-in_ok-put_match-in-Whole-clause-came c = (record_passed _ _ _ c.requires.limited (rw c.in-Whole.is at c.in_ok-frame.ensures.ok)).came

pub returns-in_ok-put_match-in-Whole-clause-less : goal.returns-in_ok-put_match-in-Whole-clause-less
returns-in_ok-put_match-in-Whole-clause-less c = λ is. (record_passed _ _ _ c.requires.limited (rw c.in-Whole.is at c.in_ok-frame.ensures.ok)).less

pub returns-in_ok-put_match-in-Whole-clause-read : goal.returns-in_ok-put_match-in-Whole-clause-read
returns-in_ok-put_match-in-Whole-clause-read c = λ head fed h.
    taken c.args.filter.now head fed c.args.self.now _ c.in-Whole.frame (c.args.self.now.number + 1) c.requires h (rw c.in-Whole.is at c.in_ok-frame.ensures.given) refl refl (search rules)

pub returns-in-More-clause-room : goal.returns-in-More-clause-room
returns-in-More-clause-room c = λ is.
    let more = rw c.in-More.is at c.in_ok-frame.ensures.ok in
    rw more.1 (room_left _ c.requires.limited c.requires.inside more.0)
