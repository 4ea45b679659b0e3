use Rattle.labtop.proofs.matching.Matching.take_records.Goals as goal

pub returns-in-Fault-clause-read : goal.returns-in-Fault-clause-read
returns-in-Fault-clause-read c = λ head fed h. (rw c.in-Fault.is at c.in_ok-take_record.ensures.read) head fed (c.records.invariant.read head fed h)
