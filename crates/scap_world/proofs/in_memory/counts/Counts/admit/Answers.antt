use Rattle.scap_world.proofs.CountsLemmas.{count_of-admitted, keeps_names, there-with_value}
use Rattle.scap_world.proofs.in_memory.counts.Counts.admit.Goals as goal

pub returns-in_ok-put-clause-room : goal.returns-in_ok-put-clause-room
returns-in_ok-put-clause-room c = there-with_value c.self.inside.names c.put.new.self c.args.name.now 0 c.in_ok-put.ensures.ok

pub returns-in_ok-put-clause-counts : goal.returns-in_ok-put-clause-counts
returns-in_ok-put-clause-counts c = rw (← c.self.view_is) (count_of-admitted c.self.inside.names c.put.new.self c.args.name.now (cc) c.in_ok-put.ensures.ok)

pub returns-in_ok-put-clause-names : goal.returns-in_ok-put-clause-names
returns-in_ok-put-clause-names c = rw (← c.self.view_is) (keeps_names c.self.inside.names c.put.new.self c.args.name.now 0 c.in_ok-put.ensures.ok)
