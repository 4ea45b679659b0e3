use Rattle.std.proofs.Common.{◌≡◌, ◌-◌, ◌++◌, map}
use Rattle.std.specs.List.{range_with_len}
use Rattle.pcapgen.specs.Frame.{byte_at}
use Rattle.pcapgen.proofs.headers.put_payload.Given as goal

abbrev pub invariant-loop-at : goal.invariant-loop-at
invariant-loop-at l = l.out.items ≡ l.initial.out.items ++ map (byte_at l.drawn) (range_with_len l.begin (l.at - l.begin))
