-- What the cores and the workers gave back, at every moment: each free is above its charge, and those of an entry, of an answer
-- and of a hand rise.
use Rattle.std.specs.Prelude.{◌≡◌, ⊤, ℕ, ◌<◌, ◌≤◌, false, List, length, Option, Some, None, slice_get}
use Rattle.prio_budget.specs.declared.free.Free.{Free}
use Rattle.streamdefs.specs.Lists.{Each}
use Rattle.streamdefs.specs.Reorder.{Charge}
use Rattle.streamdefs.specs.Terms.{Terms}
use Rattle.streamdefs.specs.Convo.{Act, Convo, given_back, answered_event}
use Rattle.streamdefs.specs.Convo.Act.{Answer}
use Rattle.streamdefs.specs.Core.{idle_core, found_by, Along}
use Rattle.streamdefs.specs.Lawful.{Handler, handler_at}
use Rattle.streamdefs.specs.Order.{AreAboveCharges, Rise, FreesInOrder}
use Rattle.coretable.specs.Course.{Course, Under, core_of}
use Rattle.mixrun.specs.Moment.{Setup, Reply, AtCore, InHand, AtWorker, Moment}
use Rattle.mixrun.specs.Moves.{advice_of, owed_for}
use Rattle.mixrun.specs.AtMoment.{lines_in}

-- frees of these charges, in their order
abbrev pub AreFreesOf : List Charge → List Free → Type 0
AreFreesOf charges frees = AreAboveCharges charges frees × Rise frees

-- an answer under way that isn't kept has all its frees, which its worker did
abbrev pub IsSettled : Convo → Act → Type 0
IsSettled c (Answer event advice frees) = advice.keep ≡ false → length (given_back c advice (answered_event c)) ≤ length frees
IsSettled c _ = ⊤

abbrev pub IsSettledUnder : Terms → Course → Option Under → Type 0
IsSettledUnder t m None = ⊤
IsSettledUnder t m (Some u) = IsSettled (found_by (core_of t m) u.line) u.line.act

-- what was freed for an answer
abbrev pub IsFreedReply : Reply → Type 0
IsFreedReply r = AreFreesOf (owed_for r.given.event r.advice) r.frees

-- for the event in hand
abbrev pub IsFreedHand : Handler → InHand → Type 0
IsFreedHand handler h = AreFreesOf (owed_for h.given.event (advice_of handler h)) h.frees

-- what was freed by the entries of a core, and for the answers that it has not taken back
pub record AreFreed (t : Terms) (a : AtCore) : Type 0 where
  pub lines : Along t (FreesInOrder t) idle_core (lines_in a.course)
  pub settled : IsSettledUnder t a.course a.course.under
  pub answers : Each IsFreedReply a.answers

-- those of each core and of each worker's hand, whose event is that of a core that is there
pub record FreesRising (s : Setup) (m : Moment) : Type 0 where
  pub cores : (c : ℕ) (a : AtCore) → slice_get m.cores c ≡ Some a → AreFreed s.terms a
  pub hands : (w : ℕ) (x : AtWorker) (h : InHand) → slice_get m.workers w ≡ Some x → x.hand ≡ Some h → IsFreedHand (handler_at s.handlers w) h
  pub known : (w : ℕ) (x : AtWorker) (h : InHand) → slice_get m.workers w ≡ Some x → x.hand ≡ Some h → h.core < length m.cores
