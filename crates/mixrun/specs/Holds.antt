-- What holds at every moment of a run, and what follows from it.
use Rattle.std.specs.Prelude.{◌≡◌, ℕ, ◌++◌, [], ◌∷◌, length, Some, slice_get}
use Rattle.streamdefs.specs.Order.{OneHistory}
use Rattle.streamdefs.specs.RunSoFar.{LawfulRunSoFar}
use Rattle.streamdefs.specs.Lawful.{Lawful}
use Rattle.mixrun.specs.declared.actor.Actor.{Actor}
use Rattle.mixrun.specs.Moment.{Setup, Input, AtCore, Moment}
use Rattle.mixrun.specs.Steps.{Steps, Offers, opening}
use Rattle.mixrun.specs.AtMoment.{so_far}
use Rattle.mixrun.specs.Ledger.{AreMarks, IsBalanced}
use Rattle.mixrun.specs.Queue.{InOrder}
use Rattle.mixrun.specs.Freed.{FreesRising}
use Rattle.mixrun.specs.Served.{WorkersRising}
use Rattle.mixrun.specs.Books.{AreFed, AreLoadable}
use Rattle.mixrun.specs.Rising.{LooksRising}
use Rattle.mixrun.specs.Bytes.{IsAccounted}
use Rattle.mixrun.specs.AtEnd.{run_of, AllOver, AllIdle, AreCounted}

-- Each event waits once, in order; each book is lawful so far, and what waits for it may be loaded; the lists are counted; the
-- budget's history leads to its pair; and the looks of each core, the frees of each entry and those of each worker rise.
pub record Holds (s : Setup) (m : Moment) : Type 0 where
  pub order : InOrder s m
  pub fed : AreFed s m
  pub counted : AreCounted s m
  pub balanced : IsBalanced s m
  pub rising : LooksRising m
  pub freed : FreesRising s m
  pub served : WorkersRising m

-- it holds at first
abbrev pub HoldsAtFirst : Type 0
HoldsAtFirst = (s : Setup) (cores : ℕ) → Holds s (opening cores (length s.handlers))

-- and each step keeps it, whoever makes it
abbrev pub StepsKeep : Type 0
StepsKeep = (s : Setup) (m n : Moment) (actor : Actor) → AreMarks s.terms.marks → Steps s actor m n → Holds s m → Holds s n

-- so does the offer of an input that may be loaded behind those that wait
abbrev pub OffersKeep : Type 0
OffersKeep = (s : Setup) (m n : Moment) (c : ℕ) (input : Input) → Offers c input m n
    → ((a : AtCore) → slice_get m.cores c ≡ Some a → AreLoadable s.last a.course.number a.course.clock (a.inputs ++ input ∷ [])) → Holds s m → Holds s n

-- so its run is lawful so far: its books and lists, the history of its budget, and the order in the actors
abbrev pub LawfulSoFarThen : Type 0
LawfulSoFarThen = (s : Setup) (m : Moment) → Holds s m → LawfulRunSoFar (so_far s m)

-- and once all tables are over and nothing is used, the journal is lawful, and its moves are one history of the budget
abbrev pub LawfulAtEnd : Type 0
LawfulAtEnd = (s : Setup) (m : Moment) → Holds s m → AllOver s m → Lawful (run_of s m)

abbrev pub HistoryAtEnd : Type 0
HistoryAtEnd = (s : Setup) (m : Moment) → Holds s m → AllOver s m → AllIdle m → m.pair.used ≡ 0 → OneHistory (run_of s m)

-- at every moment each byte that was offered to a core waits, or has one class, and a taken one is shown or held
abbrev pub BytesAreAccounted : Type 0
BytesAreAccounted = (s : Setup) (m : Moment) → Holds s m → (c : ℕ) (a : AtCore) → slice_get m.cores c ≡ Some a → IsAccounted s c m a
