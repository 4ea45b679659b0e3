use Rattle.std.proofs.Common.{ℕ, List, ◌+◌, ◌-◌, ◌≤◌, ◌<◌, length}
use Rattle.pcapfile.specs.declared.head.FileHead.{FileHead}
use Rattle.labtop.specs.Drill.{limits}
use Rattle.labtop.specs.Matched.{HasRead, HasReadOn, IsInside, came}
use Rattle.labtop.proofs.matched.read_through.Given as goal

abbrev pub invariant-turns : goal.invariant-turns
invariant-turns g l = record {
  inside : IsInside l.matching;
  some : 0 < length l.piece;
  later : g.S.Source.faults l.initial.source ≤ g.S.Source.faults l.source;
  read : (head : FileHead) (fed : List ℕ) → HasRead l.filter head fed l.initial.matching
      → HasReadOn l.filter head fed (g.S.Source.left l.initial.source) (g.S.Source.left l.source) l.matching;
}

abbrev pub decreases-turns : goal.decreases-turns
decreases-turns g l = limits.bytes + 1 - came l.matching
