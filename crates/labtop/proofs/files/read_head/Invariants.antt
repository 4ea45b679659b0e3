use Rattle.std.proofs.Common.{◌≡◌, ◌+◌, ◌-◌, ◌≤◌, ◌<◌, length}
use Rattle.std.specs.Prelude.{IfSome}
use Rattle.scap_world.specs.Contents.{prefixed}
use Rattle.labtop.proofs.files.read_head.Given as goal

abbrev pub invariant-bytes : goal.invariant-bytes
invariant-bytes g l = record {
  some : 0 < length l.piece;
  room : length l.piece ≡ length l.initial.piece;
  same : g.S.Source.left l.initial.source ≡ prefixed l.front.items (g.S.Source.left l.source);
  short : length l.front.items < 24 + length l.piece;
  taken : IfSome (g.S.Source.left l.initial.source) (λ _. g.S.Source.taken l.source ≡ g.S.Source.taken l.initial.source + length l.front.items);
  later : g.S.Source.faults l.initial.source ≤ g.S.Source.faults l.source;
}

abbrev pub decreases-bytes : goal.decreases-bytes
decreases-bytes g l = 24 - length l.front.items
