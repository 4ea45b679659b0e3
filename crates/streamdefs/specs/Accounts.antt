-- What becomes of each payload byte: it is delivered, waits, or has one of the other classes.
use Rattle.std.specs.Prelude.{◌≡◌, ℕ, ◌+◌, length}
use Rattle.evring.specs.declared.way.Way.{Way}
use Rattle.streamdefs.specs.Both.{of_way}
use Rattle.streamdefs.specs.Direction.{Direction}
use Rattle.streamdefs.specs.Convo.{Convo}
use Rattle.streamdefs.specs.Totals.{Total}

-- the bytes that a direction has and has not handed over yet: held ones, and those pending
abbrev pub waiting_in : Direction → ℕ
waiting_in d = length d.view.held + length d.pending.bytes

-- in one direction of a conversation
abbrev pub waiting_of : Way → Convo → ℕ
waiting_of way c = waiting_in (of_way way c.directions)

-- each byte that came is delivered, one of so many that wait, or has another class
abbrev pub IsAccountedWith : ℕ → Total → Type 0
IsAccountedWith waiting t = t.payload ≡ t.delivered + waiting + t.counts.duplicate + t.counts.late + t.counts.cut + t.counts.shed

-- none waits
abbrev pub IsAccounted : Total → Type 0
IsAccounted t = t.payload ≡ t.delivered + t.counts.duplicate + t.counts.late + t.counts.cut + t.counts.shed
