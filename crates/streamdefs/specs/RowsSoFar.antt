-- Moments of runs on one core with one worker: lawful ones, and some that are refused for one mistake.
use Rattle.std.specs.Prelude.{ℕ, ◌==◌, List, [], ◌∷◌, map, flat_map, Option, Some, None}
use Rattle.evring.specs.Advice.{no_advice}
use Rattle.evring.specs.declared.reason.Reason.TheVariants.{Finish}
use Rattle.prio_budget.specs.declared.free.Free.{Free}
use Rattle.streamdefs.specs.Lists.{Each, EachNumbered}
use Rattle.streamdefs.specs.Packet.{Packet}
use Rattle.streamdefs.specs.Terms.{Terms}
use Rattle.streamdefs.specs.Convo.Act.{Seg, Answer, End}
use Rattle.streamdefs.specs.Core.{Line}
use Rattle.streamdefs.specs.Lawful.{Handler}
use Rattle.streamdefs.specs.SoFar.{LawfulSoFar, HistorySoFar}
use Rattle.streamdefs.specs.RunSoFar.{RunSoFar, InHand, part_of, entries, frees_outside, AnswersSoFar, HandSoFar, ServedSoFar, FreesRiseSoFar, LooksRiseSoFar, WorkersRiseSoFar, TimesSoFar}
use Rattle.streamdefs.specs.Parts.{Refuses}
use Rattle.streamdefs.specs.Rows.{defaults, got, free, silent, keep, keeps_before, line, datagram}
use Rattle.streamdefs.specs.RowsRuns.{four_bytes, abcd, efgh}
use Rattle.streamdefs.specs.RowsWants.{book_so_far, under_way}

abbrev pub moment_on_one : Terms → Handler → List Packet → List Line → Option Line → List (List Free) → List ℕ → Option InHand → RunSoFar
moment_on_one terms handler packets lines under answers served hand = record {
  terms = terms;
  last = 0;
  handlers = handler ∷ [];
  cores = record { packets = packets; lines = lines; under = under; given = 0; answers = answers } ∷ [];
  workers = record { served = served; hand = hand } ∷ [];
}

-- the book with an entry under way
abbrev pub one_under_way : RunSoFar
one_under_way = moment_on_one defaults silent book_so_far.packets book_so_far.lines (Some under_way) [] (0 ∷ []) None

-- Two datagrams were delivered and a third one is under way. The answer to the first waits, and the worker gives back the second.

abbrev pub ijkl : Packet
ijkl = datagram 3 0 (105 ∷ 106 ∷ 107 ∷ 108 ∷ [])

abbrev pub working_with : List ℕ → (answered in_hand : Free) → RunSoFar
working_with served answered in_hand =
    moment_on_one four_bytes silent (abcd ∷ efgh ∷ ijkl ∷ []) (map (line 1) (Seg abcd 0 (got 4 0 0 ∷ []) [] ∷ Seg efgh 0 (got 4 1 4 ∷ []) [] ∷ Answer 1 no_advice [] ∷ []))
    (Some (line 1 (Seg ijkl 0 (got 4 3 4 ∷ []) []))) ((answered ∷ []) ∷ []) served (Some (record { core = 0; frees = in_hand ∷ [] }))

abbrev pub working : RunSoFar
working = working_with (0 ∷ 0 ∷ []) (free 4 2) (free 4 4)

-- the worker's list has one core too many
abbrev pub served_too_often : RunSoFar
served_too_often = working_with (0 ∷ 0 ∷ 0 ∷ []) (free 4 2) (free 4 4)

-- the free in hand is below that of the earlier answer
abbrev pub worker_fell : RunSoFar
worker_fell = working_with (0 ∷ 0 ∷ []) (free 4 4) (free 4 2)

-- the free in hand is of fewer bytes than the charge
abbrev pub freed_in_part : RunSoFar
freed_in_part = working_with (0 ∷ 0 ∷ []) (free 4 2) (free 3 4)

-- an End under way whose two frees fall
abbrev pub falling_under_way : RunSoFar
falling_under_way = moment_on_one four_bytes (keeps_before 8) (abcd ∷ efgh ∷ []) (map (line 1) (
    Seg abcd 0 (got 4 0 0 ∷ []) [] ∷ Answer 1 no_advice [] ∷ Answer 2 keep [] ∷ Seg efgh 0 (got 4 1 4 ∷ []) [] ∷ Answer 3 keep [] ∷ []))
    (Some (line 1 (End 0 Finish [] (free 4 3 ∷ free 4 2 ∷ [])))) [] (0 ∷ 0 ∷ 0 ∷ []) None

-- a look under way that is below a free of an earlier entry
abbrev pub stale_under_way : RunSoFar
stale_under_way = moment_on_one four_bytes silent (abcd ∷ efgh ∷ []) (map (line 1) (Seg abcd 0 (got 4 0 0 ∷ []) [] ∷ Answer 1 no_advice [] ∷ Answer 2 no_advice (free 4 2 ∷ []) ∷ []))
    (Some (line 1 (Seg efgh 0 (got 4 1 4 ∷ []) []))) [] (0 ∷ 0 ∷ []) None

-- the parts of what is lawful so far
pub data PartSoFar : Type 0 where
  OfBooks : PartSoFar
  OfTimes : PartSoFar
  OfAnswers : PartSoFar
  OfHands : PartSoFar
  OfServed : PartSoFar
  OfHistory : PartSoFar
  OfFreeOrder : PartSoFar
  OfLookOrder : PartSoFar
  OfWorkOrder : PartSoFar

-- what a part says of a moment
abbrev pub HoldsSoFar : RunSoFar → PartSoFar → Type 0
HoldsSoFar r OfBooks = EachNumbered (λ core c. LawfulSoFar (part_of r core c) c.under) 0 r.cores
HoldsSoFar r OfTimes = TimesSoFar r
HoldsSoFar r OfAnswers = Each (AnswersSoFar r.terms) r.cores
HoldsSoFar r OfHands = EachNumbered (HandSoFar r) 0 r.workers
HoldsSoFar r OfServed = ServedSoFar r
HoldsSoFar r OfHistory = HistorySoFar r.terms.marks.limit (flat_map entries r.cores) (frees_outside r)
HoldsSoFar r OfFreeOrder = EachNumbered (λ core c. FreesRiseSoFar (part_of r core c) c.under) 0 r.cores
HoldsSoFar r OfLookOrder = Each LooksRiseSoFar r.cores
HoldsSoFar r OfWorkOrder = WorkersRiseSoFar r

abbrev pub number_of : PartSoFar → ℕ
number_of OfBooks = 0
number_of OfTimes = 1
number_of OfAnswers = 2
number_of OfHands = 3
number_of OfServed = 4
number_of OfHistory = 5
number_of OfFreeOrder = 6
number_of OfLookOrder = 7
number_of OfWorkOrder = 8

-- a moment is refused by this part, and by no other
abbrev pub IsRefusedSoFarBy : PartSoFar → RunSoFar → Type 0
IsRefusedSoFarBy part r = (other : PartSoFar) → Refuses (number_of part == number_of other) (HoldsSoFar r other)
