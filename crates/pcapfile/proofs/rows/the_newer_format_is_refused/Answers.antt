use Rattle.std.proofs.Common.{refl}
use Rattle.pcapfile.specs.Head.{head_of}
use Rattle.pcapfile.specs.Capture.{place_of, record_at, records_from}
use Rattle.pcapfile.proofs.rows.the_newer_format_is_refused.Goals as goal

pub returns : goal.returns
unfolding head_of place_of record_at records_from
returns c = refl
