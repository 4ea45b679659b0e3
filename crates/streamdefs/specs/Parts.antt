-- Which parts of the lawful journal, and of its budget history, refuse a run.
use Rattle.std.specs.Prelude.{◌≡◌, ℕ, suc, ◌+◌, ◌≤◌, Bool, true, false, ◌==◌, List, length}
use Rattle.std.specs.List.{list_any}
use Rattle.histbook.specs.Budget.{total, at_stamp, granted_below, freed_below, FoundTheUsed, EachBelow, IsSettled}
use Rattle.streamdefs.specs.Lawful.{Run, EachCore, HasSegs, Conversations, Dues, Ends, Answers, Window, Looks, Frees, Served}
use Rattle.streamdefs.specs.Order.{FreesRise, LooksRise, WorkersRise, all_moves, found_looks}

-- the nine parts of the lawful journal, those of the budget history (looked at stamp by stamp), and the order in the actors
pub data Part : Type 0 where
  OfSegs : Part
  OfConversations : Part
  OfDues : Part
  OfEnds : Part
  OfAnswers : Part
  OfWindow : Part
  OfLooks : Part
  OfFrees : Part
  OfServed : Part
  OfStamps : Part
  OfFound : Part
  OfLimit : Part
  OfRest : Part
  OfFreeOrder : Part
  OfLookOrder : Part
  OfWorkOrder : Part

-- what a part says of a run
abbrev pub Holds : Run → Part → Type 0
Holds run OfSegs = HasSegs run
Holds run OfConversations = EachCore run Conversations
Holds run OfDues = EachCore run Dues
Holds run OfEnds = EachCore run Ends
Holds run OfAnswers = EachCore run Answers
Holds run OfWindow = EachCore run Window
Holds run OfLooks = EachCore run Looks
Holds run OfFrees = EachCore run Frees
Holds run OfServed = Served run
Holds run OfStamps = EachBelow (λ n. total (at_stamp n) (all_moves run) ≡ 1) (length (all_moves run))
Holds run OfFound = FoundTheUsed 0 (all_moves run) (found_looks run)
Holds run OfLimit = EachBelow (λ n. granted_below (suc n) (all_moves run) ≤ run.terms.marks.limit + freed_below (suc n) (all_moves run)) (length (all_moves run))
Holds run OfRest = IsSettled (all_moves run)
Holds run OfFreeOrder = EachCore run FreesRise
Holds run OfLookOrder = EachCore run LooksRise
Holds run OfWorkOrder = WorkersRise run

-- the number of a part
abbrev pub number_of : Part → ℕ
number_of OfSegs = 1
number_of OfConversations = 2
number_of OfDues = 3
number_of OfEnds = 4
number_of OfAnswers = 5
number_of OfWindow = 6
number_of OfLooks = 7
number_of OfFrees = 8
number_of OfServed = 9
number_of OfStamps = 10
number_of OfFound = 11
number_of OfLimit = 12
number_of OfRest = 13
number_of OfFreeOrder = 14
number_of OfLookOrder = 15
number_of OfWorkOrder = 16

-- it doesn't hold, or it does
abbrev pub Refuses : Bool → Type 0 → Type 0
Refuses true P = P → ⊥
Refuses false P = P

-- a run is refused by these parts, and by no other
abbrev pub IsRefusedBy : List Part → Run → Type 0
IsRefusedBy parts run = (part : Part) → Refuses (list_any (λ p. number_of p == number_of part) parts) (Holds run part)
