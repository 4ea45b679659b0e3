use Rattle.std.proofs.Common.{rules}
use Rattle.streamdefs.proofs.CrowdedRun.{no_room, crowded_window, two_window}
use Rattle.streamdefs.proofs.RefusedRuns.{two_resets-refused}
use Rattle.streamdefs.proofs.rows_refused.a_crowded_window.Goals as goal

pub returns-clause-room : goal.returns-clause-room
returns-clause-room c = search rules

pub returns-clause-full : goal.returns-clause-full
returns-clause-full c = no_room

pub returns-clause-answers : goal.returns-clause-answers
returns-clause-answers c = tt

pub returns-clause-journal : goal.returns-clause-journal
returns-clause-journal c = crowded_window

pub returns-clause-others : goal.returns-clause-others
returns-clause-others c = two_resets-refused

pub returns-clause-small : goal.returns-clause-small
returns-clause-small c = two_window
