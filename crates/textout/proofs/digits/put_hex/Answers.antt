use Rattle.std.proofs.Common.{arith, sym}
use Rattle.std.proofs.lemmas.List.{append-nil}
use Rattle.hex.specs.Hex.{encode_with, lower_digits}
use Rattle.textout.proofs.HexSteps.{digits_more}
use Rattle.textout.proofs.digits.put_hex.Goals as goal

pub loop-byte-init : goal.loop-byte-init
unfolding encode_with
loop-byte-init c = record {
  text = sym (append-nil c.reserve.new.self.items);
  len = omega arith;
  room = omega (arith, c.in_ok-reserve.ensures.ok);
}

pub loop-byte-preserved : goal.loop-byte-preserved
loop-byte-preserved c = record {
  text =
      digits_more lower_digits c.args.bytes.now c.loop-byte.byte-index _ _ _ _ _ _ c.loop-byte-test.true c.loop-byte.invariant.text
      c.digit_of.ensures c.digit_of-in-loop-byte.ensures c.in_ok-push.ensures.items c.in_ok-push-2.ensures.items;
  len = omega (arith, c.in_ok-push.ensures.len, c.in_ok-push-2.ensures.len, c.loop-byte.invariant.len);
  room = omega (arith, c.in_ok-push.ensures.capacity, c.in_ok-push-2.ensures.capacity, c.loop-byte.invariant.room);
}
