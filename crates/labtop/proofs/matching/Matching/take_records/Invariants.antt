use Rattle.std.proofs.Common.{◌≡◌, ℕ, List, length}
use Rattle.pcapfile.specs.declared.head.FileHead.{FileHead}
use Rattle.labtop.specs.Matched.{HasRead, IsInside, came}
use Rattle.labtop.proofs.matching.Matching.take_records.Given as goal

abbrev pub invariant-records : goal.invariant-records
invariant-records l = record {
  inside : IsInside l.self;
  came : came l.self ≡ came l.initial.self;
  read : (head : FileHead) (fed : List ℕ) → HasRead l.filter head fed l.initial.self → HasRead l.filter head fed l.self;
}

abbrev pub decreases-records : goal.decreases-records
decreases-records l = length l.self.frames.rest
