use Rattle.labtop.proofs.ReadLemmas.{asked_left}
use Rattle.labtop.proofs.files.read_capture.Goals as goal

pub returns-in-Ok-bytes-clause-asked : goal.returns-in-Ok-bytes-clause-asked
returns-in-Ok-bytes-clause-asked g c = λ s built. asked_left s _ _ c.args.name.now c.in-Ok-bytes.bytes.items _ built c.in-Ok.ensures.files c.in-Ok.ensures.there c.in-Ok.ensures.left (c.in-Ok-bytes.ensures.enough s)
