use Rattle.std.proofs.Common.{◌≡◌, ◌+◌, ◌-◌, ◌≤◌, length}
use Rattle.std.specs.Prelude.{IfSome}
use Rattle.scap_world.specs.Contents.{prefixed}
use Rattle.labtop.proofs.files.read_rest.Given as goal

abbrev pub invariant-rest : goal.invariant-rest
invariant-rest g l = record {
  short : length l.bytes.items ≤ l.most + 1;
  room : length l.piece ≡ 65536;
  same : prefixed l.initial.bytes.items (g.S.Source.left l.initial.source) ≡ prefixed l.bytes.items (g.S.Source.left l.source);
  later : g.S.Source.faults l.initial.source ≤ g.S.Source.faults l.source;
  taken : IfSome (g.S.Source.left l.initial.source)
      (λ _. g.S.Source.taken l.source + length l.initial.bytes.items ≡ g.S.Source.taken l.initial.source + length l.bytes.items);
}

abbrev pub decreases-rest : goal.decreases-rest
decreases-rest g l = l.most + 1 - length l.bytes.items
