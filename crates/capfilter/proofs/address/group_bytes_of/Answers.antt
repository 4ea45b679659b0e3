use Rattle.std.proofs.Common.{◌≡◌, arith, ◌∙◌, ap, sym, flat_map, get_or, ◌*◌, ◌/◌, ◌%◌, ◌+◌, set}
use Rattle.std.proofs.Math.ListN.{length-set}
use Rattle.std.proofs.lemmas.List.{take_all}
use Rattle.capfilter.specs.Addresses.{group_bytes}
use Rattle.capfilter.proofs.AddressLemmas.{bytes_more}
use Rattle.capfilter.proofs.address.group_bytes_of.Goals as goal

pub loop-i-preserved : goal.loop-i-preserved
loop-i-preserved c =
    let bytes = c.loop-i.bytes in
    let i = c.loop-i.i in
    let all = c.args.groups.now in
    record {
      room = length-set (set bytes (2 * i) (get_or all i 0 / 256)) (2 * i + 1) (get_or all i 0 % 256) ∙ length-set bytes (2 * i) (get_or all i 0 / 256) ∙ c.loop-i.invariant.room;
      so_far = bytes_more bytes all i (omega arith) (omega arith) c.loop-i.invariant.so_far;
    }

pub returns : goal.returns
returns c =
    let done : 2 * c.loop-i.i ≡ 16 = omega arith in
    sym (take_all (2 * c.loop-i.i) c.loop-i.bytes (omega arith)) ∙ c.loop-i.invariant.so_far ∙ ap (flat_map group_bytes) (take_all c.loop-i.i c.args.groups.now (omega arith))
