-- Entries that come while too many events are unanswered.
use Rattle.std.specs.Prelude.{◌<◌, ◌+◌, List, [], ◌∷◌, ◌++◌}
use Rattle.std.proofs.Common.{arith}
use Rattle.evring.specs.declared.reason.Reason.TheVariants.{Reset}
use Rattle.streamdefs.specs.Terms.{Terms}
use Rattle.streamdefs.specs.Convo.Act.{Seg, End}
use Rattle.streamdefs.specs.Core.{Line, Core, idle_core, core_after, core_at, Along}
use Rattle.streamdefs.specs.Lawful.{HasRoom, HasRoomFor, EachCore, EachEntry, Window, core_run}
use Rattle.streamdefs.specs.Rows.{defaults, line}
use Rattle.streamdefs.specs.RowsWants.{crowded, resets, resets_answered, syn_rst, two_resets, two_reset_lines}

-- the law of an entry in the middle of a book
law_at : (terms : Terms) (Law : Core → Line → Type 0) (core : Core) (lines : List Line) (line : Line) (more : List Line)
    → Along terms Law core (lines ++ line ∷ more) → Law (core_at terms core lines) line
law_at terms Law core [] line more h = h.0
law_at terms Law core (l ∷ lines) line more h = law_at terms Law (core_after terms core l) lines line more h.1

pub no_room : 256 < 0 + 256 → ⊥
no_room h = omega arith

pub crowded_window : EachCore crowded Window → ⊥
crowded_window h =
    no_room (law_at defaults HasRoom idle_core (resets 1 128) (line 129 (Seg (syn_rst 129) 0 [] [])) (line 129 (End 0 Reset [] []) ∷ resets_answered 1 1 129) h.0)

no_room_for_two : 2 < 0 + 2 → ⊥
no_room_for_two h = omega arith

-- a window of two events refuses two of these conversations
pub two_window : EachEntry (core_run two_resets 0 two_reset_lines) (HasRoomFor 2) → ⊥
two_window h = no_room_for_two h.1.1.0
