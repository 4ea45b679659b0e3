-- A moment that is due, under way.
use Rattle.convo.specs.Directions.{DirStands}
use Rattle.std.specs.Prelude.{◌≡◌, ⊤, ℕ, ◌+◌, ◌≤◌, Bool, cond, List, [], ◌++◌, length, Option, None}
use Rattle.evring.specs.declared.way.Way.TheVariants.{Fore, Back}
use Rattle.evring.specs.declared.reason.Reason.{Reason}
use Rattle.histbook.specs.declared.look_entry.LookEntry.{LookEntry}
use Rattle.streamdefs.specs.Terms.{Terms}
use Rattle.streamdefs.specs.Reorder.{Charge}
use Rattle.streamdefs.specs.View.{Ask}
use Rattle.streamdefs.specs.Pending.{Piece}
use Rattle.streamdefs.specs.Direction.{Direction, Kind, Next, direction_after, asks_by, next_by, pieces_by, spares_by}
use Rattle.streamdefs.specs.Direction.Next.{Asks, Gives, Rests}
use Rattle.streamdefs.specs.Direction.Deed.{Falls_due}
use Rattle.streamdefs.specs.Convo.{kind_of}
use Rattle.flowdir.specs.Boundary.Phase.{Rests as DirRests, Works}
use Rattle.convo.specs.Talk.{Talk}
use Rattle.convo.specs.Standing.{HasKind, IsMidway, IsQuiet}
use Rattle.convo.specs.declared.moment.Moment.{Moment}
use Rattle.convo.specs.declared.talk.Convo.{Convo}
use Rattle.convo.specs.declared.stage.Stage.TheVariants as at

-- what a direction asks for, hands over and gives back at a moment: none of it hangs on the looks
abbrev pub asks_due : Terms → Kind → Direction → ℕ → List Ask
asks_due t kind d m = asks_by t kind d (Falls_due m [])

abbrev pub pieces_due : Terms → Kind → Direction → ℕ → List Piece
pieces_due t kind d m = pieces_by t kind d (Falls_due m [])

abbrev pub spares_due : Terms → Kind → Direction → ℕ → List Charge
spares_due t kind d m = spares_by t kind d (Falls_due m [])

-- the End that is due behind it
abbrev pub owed_by_time : Bool → Option (Reason × ℕ) → Option (Reason × ℕ)
owed_by_time live closed = cond live closed None

-- a conversation whose directions have made their moves
abbrev pub finished_time : {C : Type 0} → Option (Reason × ℕ) → Convo C → Convo C
finished_time owed x = record x { owed = owed; stage = at.Events }

-- the first direction has made its moves, by these looks of its own
pub record IsTimeDone {C : Type 0} (paid : C → Charge) (t : Terms) (x : Convo C) (k : Talk) (m : ℕ) (looks : List LookEntry) : Type 0 where
  pub quiet : IsQuiet paid t x k
  pub kinds : HasKind (kind_of t k.convo) x.fore.dir x.back.dir
  pub fore : DirStands paid x.fore.dir (direction_after t (kind_of t k.convo) k.convo.directions.fore (Falls_due m looks)) DirRests (pieces_due t (kind_of t k.convo) k.convo.directions.fore m)
  pub asked : length looks ≡ length (asks_due t (kind_of t k.convo) k.convo.directions.fore m)

-- an ask or a release
abbrev pub IsUnfinished : Next → Type 0
IsUnfinished (Asks request) = ⊤
IsUnfinished (Gives charge) = ⊤
IsUnfinished Rests = ⊥

-- how far it has come
pub data IsTiming {C : Type 0} (paid : C → Charge) (t : Terms) (x : Convo C) (k : Talk) (m : ℕ) (looks : List LookEntry) (given : ℕ) : Type 0 where
  Times_fore : (at_is : Moment) → at_is.at ≡ m → x.stage ≡ at.Time at_is Fore → IsMidway paid t x k Fore
      → DirStands paid x.fore.dir k.convo.directions.fore (Works t (Falls_due m looks) given) []
      → length looks ≤ length (asks_due t (kind_of t k.convo) k.convo.directions.fore m) → given ≤ length (spares_due t (kind_of t k.convo) k.convo.directions.fore m)
      → IsUnfinished (next_by t (kind_of t k.convo) k.convo.directions.fore (Falls_due m looks) given)
      → IsTiming paid t x k m looks given
  Times_back : (at_is : Moment) (first more : List LookEntry) (back : ℕ) → at_is.at ≡ m → x.stage ≡ at.Time at_is Back → looks ≡ first ++ more
      → given ≡ length (spares_due t (kind_of t k.convo) k.convo.directions.fore m) + back
      → IsTimeDone paid t x k m first → DirStands paid x.back.dir k.convo.directions.back (Works t (Falls_due m more) back) []
      → IsTiming paid t x k m looks given
