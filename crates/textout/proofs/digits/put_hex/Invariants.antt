use Rattle.std.proofs.Common.{◌≡◌, ◌≤◌, ◌+◌, ◌*◌, ◌++◌, length, take}
use Rattle.std.specs.Vec.{vec_capacity, vec_len}
use Rattle.hex.specs.Hex.{encode_lower}
use Rattle.textout.proofs.digits.put_hex.Given as goal

abbrev pub invariant-loop-byte : goal.invariant-loop-byte
invariant-loop-byte l =
    record {
      text : l.out.items ≡ l.initial.out.items ++ encode_lower (take l.byte-index l.bytes);
      len : vec_len l.out ≡ vec_len l.initial.out + 2 * l.byte-index;
      room : vec_len l.initial.out + 2 * length l.bytes ≤ vec_capacity l.out;
    }
