-- What a conversation stands for.
use Rattle.convo.specs.Directions.{DirStands}
use Rattle.std.specs.Prelude.{◌≡◌, ⊤, suc, ◌⊎◌, [], length}
use Rattle.streamdefs.specs.Both.{of_way}
use Rattle.streamdefs.specs.Terms.{Terms}
use Rattle.streamdefs.specs.Packet.{has_rst}
use Rattle.streamdefs.specs.Reorder.{Charge}
use Rattle.streamdefs.specs.Direction.{Next}
use Rattle.streamdefs.specs.Direction.Deed.{Arrives}
use Rattle.streamdefs.specs.Direction.Next.{Asks, Gives, Rests as Wants_nothing}
use Rattle.streamdefs.specs.Convo.{Act, way_of, segment_of}
use Rattle.streamdefs.specs.Convo.Act.{Seg, Answer, Time, End}
use Rattle.streamdefs.specs.Want.{next_move}
use Rattle.flowdir.specs.Boundary.Phase.{Works}
use Rattle.convo.specs.Talk.{Talk, Phase}
use Rattle.convo.specs.Talk.Phase.{Still, Under}
use Rattle.convo.specs.Standing.{IsEmitting, IsMidway, IsResting, half_of}
use Rattle.convo.specs.Endings.{IsEnding}
use Rattle.convo.specs.Timings.{IsTiming}
use Rattle.convo.specs.Advised.{IsAnswering}
use Rattle.convo.specs.declared.talk.Convo.{Convo}
use Rattle.convo.specs.declared.stage.Stage.TheVariants as at

-- an entry's directions are at work, or what is kept or came back goes out
abbrev pub IsWorking : {C : Type 0} → (C → Charge) → Terms → Convo C → Talk → Act → Type 0
IsWorking paid t x k (Seg p now looks frees) =
    IsMidway paid t x k (way_of k.convo p)
    × DirStands paid (half_of (way_of k.convo p) x).dir (of_way (way_of k.convo p) k.convo.directions) (Works t (Arrives (segment_of t k.convo p now) looks) (length frees)) []
    × (x.stage ≡ at.Segment (way_of k.convo p) now (has_rst p))
IsWorking paid t x k (Answer event advice frees) = IsAnswering paid t x k event advice frees
IsWorking paid t x k (Time moment looks frees) = IsTiming paid t x k moment looks (length frees)
IsWorking paid t x k (End moment reason looks frees) = IsEnding paid t x k moment reason (length frees)

-- an ask or a release
abbrev pub IsMoving : Next → Type 0
IsMoving (Asks request) = ⊤
IsMoving (Gives charge) = ⊤
IsMoving Wants_nothing = ⊥

-- what it stands for
abbrev pub Stands : {C : Type 0} → (C → Charge) → Convo C → Terms → Talk → Phase → Type 0
Stands paid x t k Still = IsResting paid t x k
Stands paid x t k (Under act emitted) = (IsMoving (next_move t k.convo act) × (emitted ≡ 0) × IsWorking paid t x k act) ⊎ IsEmitting paid t x k act (suc emitted)
