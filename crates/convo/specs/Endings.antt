-- An End under way.
use Rattle.convo.specs.Directions.{DirStands}
use Rattle.std.specs.Prelude.{◌≡◌, ℕ, suc, ◌+◌, ◌<◌, false, cond, not, List, [], length, map, drop, None}
use Rattle.evring.specs.declared.way.Way.TheVariants.{Fore, Back}
use Rattle.evring.specs.declared.reason.Reason.{Reason}
use Rattle.streamdefs.specs.Lists.{is_empty}
use Rattle.streamdefs.specs.Terms.{Terms}
use Rattle.streamdefs.specs.Reorder.{Charge}
use Rattle.streamdefs.specs.Pending.{Piece}
use Rattle.streamdefs.specs.Direction.{Direction, direction_after, pieces_by, spares_by}
use Rattle.streamdefs.specs.Direction.Deed.{Ends}
use Rattle.streamdefs.specs.Convo.{Convo as Made, Kept as KeptPiece, kind_of, charges_of}
use Rattle.flowdir.specs.Boundary.Phase.{Rests as DirRests, Works}
use Rattle.convo.specs.Seen.{kept_for}
use Rattle.convo.specs.Going.{charges_going}
use Rattle.convo.specs.Counted.{CountsUp}
use Rattle.convo.specs.Halves.{Hands}
use Rattle.convo.specs.Talk.{Talk}
use Rattle.convo.specs.Standing.{IsMidway, IsPlain, HasKind, own_of}
use Rattle.convo.specs.declared.half.Half.{Half}
use Rattle.convo.specs.declared.moment.Moment.{Moment}
use Rattle.convo.specs.declared.talk.Convo.{Convo}
use Rattle.convo.specs.declared.stage.Stage.TheVariants as at

-- what the End hands over and gives back in each direction
abbrev pub pieces_fore : Terms → Made → ℕ → List Piece
pieces_fore t c m = pieces_by t (kind_of t c) c.directions.fore (Ends m)

abbrev pub pieces_back : Terms → Made → ℕ → List Piece
pieces_back t c m = pieces_by t (kind_of t c) c.directions.back (Ends m)

abbrev pub spares_fore : Terms → Made → ℕ → List Charge
spares_fore t c m = spares_by t (kind_of t c) c.directions.fore (Ends m)

abbrev pub spares_back : Terms → Made → ℕ → List Charge
spares_back t c m = spares_by t (kind_of t c) c.directions.back (Ends m)

abbrev pub unshown_fore : Terms → Made → ℕ → List Charge
unshown_fore t c m = cond (is_empty (pieces_fore t c m)) (charges_of c.kept.fore) []

abbrev pub unshown_back : Terms → Made → ℕ → List Charge
unshown_back t c m = cond (is_empty (pieces_back t c m)) (charges_of c.kept.back) []

-- a direction has ended: its pieces are to be handed over, and what is kept goes with them
pub record HasEnded {C : Type 0} (paid : C → Charge) (h : Half C) (d : Direction) (pieces : List Piece) (kept : List KeptPiece) : Type 0 where
  pub hands : Hands paid h d pieces
  pub kept_is : map (kept_for paid) h.kept ≡ cond (is_empty pieces) [] kept

-- what stays beside the directions at an End
pub record IsBeside {C : Type 0} (t : Terms) (x : Convo C) (k : Talk) : Type 0 where
  pub plain : IsPlain t x.origin (own_of x) x.advised x.clock x.ended x.owed k
  pub kinds : HasKind (kind_of t k.convo) x.fore.dir x.back.dir
  pub begun : is_empty k.convo.events ≡ not x.begun
  pub opens : x.opens ≡ false
  pub over : x.over ≡ None
  pub fore_sums : CountsUp x.fore.counts x.fore.gaps x.fore.gap_bytes k.sums.fore []
  pub back_sums : CountsUp x.back.counts x.back.gaps x.back.gap_bytes k.sums.back []

-- the other direction waits
pub record IsAhead {C : Type 0} (paid : C → Charge) (x : Convo C) (k : Talk) : Type 0 where
  pub first : x.back.first ≡ None
  pub kept_is : map (kept_for paid) x.back.kept ≡ k.convo.kept.back

-- the first direction ends, and so many of its spare charges were given back
pub record EndsFore {C : Type 0} (paid : C → Charge) (t : Terms) (x : Convo C) (k : Talk) (m : ℕ) (given : ℕ) : Type 0 where
  pub midway : IsMidway paid t x k Fore
  pub here : DirStands paid x.fore.dir k.convo.directions.fore (Works t (Ends m) given) []

-- what is kept there goes back
pub record LeavesFore {C : Type 0} (paid : C → Charge) (t : Terms) (x : Convo C) (k : Talk) (m : ℕ) (given : ℕ) : Type 0 where
  pub beside : IsBeside t x k
  pub fore : HasEnded paid x.fore (direction_after t (kind_of t k.convo) k.convo.directions.fore (Ends m)) (pieces_fore t k.convo m) k.convo.kept.fore
  pub ahead : IsAhead paid x k
  pub there : DirStands paid x.back.dir k.convo.directions.back DirRests []
  pub going : map paid (charges_going x.going) ≡ drop given (unshown_fore t k.convo m)

-- the first direction has ended, and the other one has not begun to
pub record IsBetween {C : Type 0} (paid : C → Charge) (t : Terms) (x : Convo C) (k : Talk) (m : ℕ) : Type 0 where
  pub beside : IsBeside t x k
  pub fore : HasEnded paid x.fore (direction_after t (kind_of t k.convo) k.convo.directions.fore (Ends m)) (pieces_fore t k.convo m) k.convo.kept.fore
  pub ahead : IsAhead paid x k
  pub gone : charges_going x.going ≡ []

-- the other direction ends
pub record EndsBack {C : Type 0} (paid : C → Charge) (t : Terms) (x : Convo C) (k : Talk) (m : ℕ) (given : ℕ) : Type 0 where
  pub between : IsBetween paid t x k m
  pub here : DirStands paid x.back.dir k.convo.directions.back (Works t (Ends m) given) []

-- what is kept there goes back
pub record LeavesBack {C : Type 0} (paid : C → Charge) (t : Terms) (x : Convo C) (k : Talk) (m : ℕ) (given : ℕ) : Type 0 where
  pub beside : IsBeside t x k
  pub fore : HasEnded paid x.fore (direction_after t (kind_of t k.convo) k.convo.directions.fore (Ends m)) (pieces_fore t k.convo m) k.convo.kept.fore
  pub back : HasEnded paid x.back (direction_after t (kind_of t k.convo) k.convo.directions.back (Ends m)) (pieces_back t k.convo m) k.convo.kept.back
  pub going : map paid (charges_going x.going) ≡ drop given (unshown_back t k.convo m)

-- how far it has come, with so many charges given back
pub data IsEnding {C : Type 0} (paid : C → Charge) (t : Terms) (x : Convo C) (k : Talk) (m : ℕ) (reason : Reason) (given : ℕ) : Type 0 where
  Ends_fore : (at_is : Moment) → at_is.at ≡ m → x.stage ≡ at.End at_is reason Fore → given < length (spares_fore t k.convo m) → EndsFore paid t x k m given → IsEnding paid t x k m reason given
  Leaves_fore : (at_is : Moment) (more : ℕ) → at_is.at ≡ m → x.stage ≡ at.Unshown at_is reason Fore → given ≡ length (spares_fore t k.convo m) + more → more < length (unshown_fore t k.convo m)
      → LeavesFore paid t x k m (suc more) → IsEnding paid t x k m reason given
  Ends_back : (at_is : Moment) (more : ℕ) → at_is.at ≡ m → x.stage ≡ at.End at_is reason Back → given ≡ length (spares_fore t k.convo m) + length (unshown_fore t k.convo m) + more → more < length (spares_back t k.convo m)
      → EndsBack paid t x k m more → IsEnding paid t x k m reason given
  Leaves_back : (at_is : Moment) (more : ℕ) → at_is.at ≡ m → x.stage ≡ at.Unshown at_is reason Back
      → given ≡ length (spares_fore t k.convo m) + length (unshown_fore t k.convo m) + length (spares_back t k.convo m) + more → more < length (unshown_back t k.convo m)
      → LeavesBack paid t x k m (suc more) → IsEnding paid t x k m reason given
