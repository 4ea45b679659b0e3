use Rattle.std.proofs.Common.{◌≡◌, take, ◌*◌, flat_map, length}
use Rattle.capfilter.specs.Addresses.{group_bytes}
use Rattle.capfilter.proofs.address.group_bytes_of.Given as goal

abbrev pub invariant-loop-i : goal.invariant-loop-i
invariant-loop-i l =
    record {
      room : length l.bytes ≡ 16;
      so_far : take (2 * l.i) l.bytes ≡ flat_map group_bytes (take l.i l.groups);
    }
