use Rattle.std.proofs.Common.{arith}
use Rattle.labtop.proofs.MatchLemmas.{read_enough, read_more, read_none, read_whole}
use Rattle.labtop.proofs.matched.read_through.Goals as goal

pub turns-init : goal.turns-init
turns-init g c = record {
  inside = c.requires.inside;
  some = c.requires.some;
  later = omega arith;
  read = λ head fed h. read_none _ head fed _ _ h;
}

pub turns-preserved : goal.turns-preserved
turns-preserved g c = record {
  inside = c.in_ok-read_on.ensures.inside;
  some = omega (arith, c.turns.invariant.some, c.read_on.auto.piece);
  later = omega (arith, c.turns.invariant.later, c.in_ok-read_on.ensures.cause.later);
  read = λ head fed h.
      let before = c.turns.invariant.read head fed h in
      read_more _ head fed _ _ _ _ _ before ((rw c.in-Fed.is at c.in_ok-read_on.ensures.read) head _ before.read);
}

pub returns-in-Ended-clause-all : goal.returns-in-Ended-clause-all
returns-in-Ended-clause-all g c = λ head fed h.
    let before = c.turns.invariant.read head fed h in
    let now = (rw c.in-Ended.is at c.in_ok-read_on.ensures.read) head _ before.read in
    read_whole _ head fed before.more _ _ _ before.moved now.1 (c.finish.ensures c.args.filter.now head _ now.0)

pub returns-in-Fault-clause-all : goal.returns-in-Fault-clause-all
returns-in-Fault-clause-all g c = λ head fed h.
    let before = c.turns.invariant.read head fed h in
    let now = (rw c.in-Fault.is at c.in_ok-read_on.ensures.read) head _ before.read in
    read_enough _ head fed before.more _ _ _ before.moved (λ rest. c.stop.ensures c.args.filter.now head _ rest now)
