use Rattle.std.proofs.Common.{refl}
use Rattle.labtop.proofs.MatchByLemmas.{kinds_of_match, kinds_refused, match_answer, match_complete, match_parts, match_refusal, match_refused, match_same, match_written}
use Rattle.labtop.proofs.match_by.match_by.Goals as goal

pub returns-in-Ok-clause-answer : goal.returns-in-Ok-clause-answer
returns-in-Ok-clause-answer g c = match_answer c.in-Ok.filter _ _ _ _ c.in-Ok.ensures.reads c.match_run.ensures.never c.match_run.ensures.answer

pub returns-in-Ok-clause-kinds : goal.returns-in-Ok-clause-kinds
returns-in-Ok-clause-kinds g c = kinds_of_match c.in-Ok.filter _ _ c.in-Ok.ensures.reads c.match_run.ensures.never

pub returns-in-Err-clause-kinds : goal.returns-in-Err-clause-kinds
returns-in-Err-clause-kinds g c = kinds_refused _ _ c.in-Err.ensures.refused

pub returns-in-Ok-clause-written : goal.returns-in-Ok-clause-written
returns-in-Ok-clause-written g c = λ h. match_written c.in-Ok.filter _ _ _ _ _ _ c.in-Ok.ensures.reads (c.match_run.ensures.written h)

pub returns-in-Ok-clause-parts : goal.returns-in-Ok-clause-parts
returns-in-Ok-clause-parts g c = match_parts c.in-Ok.filter _ _ _ _ _ _ c.in-Ok.ensures.reads c.match_run.ensures.parts

pub returns-in-Ok-clause-complete : goal.returns-in-Ok-clause-complete
returns-in-Ok-clause-complete g c = λ read write. match_complete c.in-Ok.filter _ _ _ _ c.in-Ok.ensures.only (c.match_run.ensures.complete read write)

pub returns-in-Err-clause-answer : goal.returns-in-Err-clause-answer
returns-in-Err-clause-answer g c = match_refusal _ _ _ _ c.in-Err.ensures.refused

pub returns-in-Err-clause-parts : goal.returns-in-Err-clause-parts
returns-in-Err-clause-parts g c = match_same _ _ _ _ _ _ refl

pub returns-in-Err-clause-complete : goal.returns-in-Err-clause-complete
returns-in-Err-clause-complete g c = λ read write. match_refused _ _ _ _ c.in-Err.ensures.only

pub returns-in-Ok-clause-refused : goal.returns-in-Ok-clause-refused
returns-in-Ok-clause-refused g c = λ fault h. absurd (c.in-Ok.ensures.least fault h)
