use Rattle.byteorder.specs.Endian.{little_bytes}
use Rattle.std.proofs.Common.{length}
use Rattle.pcapfile.proofs.WrittenLemmas.{appended}
use Rattle.pcapfile.proofs.put.append_frame.Goals as goal

pub returns-clause-ok : goal.returns-clause-ok
returns-clause-ok c =
    appended _ (little_bytes 4 c.args.seconds) (little_bytes 4 c.args.fraction) (little_bytes 4 (length c.args.bytes.now)) (little_bytes 4 (length c.args.bytes.now)) c.args.bytes.now _ _ _ _ _
    c.in_ok-append_number.ensures.ok c.in_ok-append_number-2.ensures.ok c.in_ok-append_number-3.ensures.ok c.in_ok-append_number-4.ensures.ok c.in_ok-extend_from_slice.ensures.items
