use Rattle.scap_world.proofs.FilesLemmas.{file_written}
use Rattle.labtop.proofs.FilesLemmas.{part_of_failed, part_of_written, part_of_whole}
use Rattle.labtop.proofs.make_run.write_capture.Goals as goal

pub returns-in-Ok-finished-clause-ok : goal.returns-in-Ok-finished-clause-ok
returns-in-Ok-finished-clause-ok g c = file_written _ _ _ _ _ _ _ c.in-Ok.ensures.empty c.in-Ok.ensures.files c.in_default.ensures.ok c.in-Ok-finished.ensures.ok

pub returns-in-Ok-finished-clause-part : goal.returns-in-Ok-finished-clause-part
returns-in-Ok-finished-clause-part g c = part_of_whole _ _ _ _
    (file_written _ _ _ _ _ _ _ c.in-Ok.ensures.empty c.in-Ok.ensures.files c.in_default.ensures.ok c.in-Ok-finished.ensures.ok)

pub returns-in-Err-finished-clause-part : goal.returns-in-Err-finished-clause-part
returns-in-Err-finished-clause-part g c =
    part_of_written _ _ _ _ _ _ _ c.in-Ok.ensures.empty c.in-Ok.ensures.files c.in_default.ensures.ok c.in-Err-finished.ensures.err

pub returns-in-Err-written-clause-part : goal.returns-in-Err-written-clause-part
returns-in-Err-written-clause-part g c =
    part_of_failed _ _ _ _ _ _ _ _ c.in-Ok.ensures.empty c.in-Ok.ensures.files c.in-Err-written.ensures.err c.finish-finished.ensures.ok c.finish-finished.ensures.err
