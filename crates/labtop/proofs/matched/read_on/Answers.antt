use Rattle.std.proofs.Common.{take}
use Rattle.labtop.proofs.MatchLemmas.{moved}
use Rattle.labtop.proofs.matched.read_on.Goals as goal

pub returns-in-Some-clause-read : goal.returns-in-Some-clause-read
returns-in-Some-clause-read g c = λ head fed h. (rw c.in-Some.is at c.in_ok-fault.ensures.read) head fed h

pub returns-clause-read : goal.returns-clause-read
returns-clause-read g c = λ head fed h. record {
  more = take c.in_ok-n.n c.read.new.into;
  read = c.in_ok-feed.ensures.read c.args.filter.now head fed ((rw c.in_default.is at c.in_ok-fault.ensures.read) head fed h);
  moved = moved _ _ c.read.new.into c.in_ok-n.n _ c.in_ok-n.ensures.left c.in_ok-n.ensures.bytes;
}
