use Rattle.std.proofs.Common.{sym, ◌∙◌, rules}
use Rattle.pcapfile.specs.Capture.{Whole, Cut}
use Rattle.pcapfile.specs.Reading.{end_of_fault}
use Rattle.labtop.proofs.FramesLemmas.{started, whole_in-fault, whole_of-read, fault_now}
use Rattle.labtop.proofs.capture.whole_frames.Goals as goal

pub records-init : goal.records-init
records-init c = record { stands = started _ _ _ _ _ c.new-frames.ensures.stands c.in_ok-feed.ensures.fed c.new-found.ensures.items; fits = search rules }

pub returns-in-Fault-clause-frames : goal.returns-in-Fault-clause-frames
returns-in-Fault-clause-frames c = λ file opens behind.
    sym (whole_in-fault c.records.found.items c.in-Fault.field-0)
    ∙ whole_of-read file _ _ _ (end_of_fault c.in-Fault.field-0) opens behind
    (fault_now _ _ _ c.in-Fault.field-0 ((rw c.in-Fault.is at c.in_ok-frame.ensures.given) _ _ _ _ c.records.invariant.stands).0)

pub returns-in-Whole-finish-clause-frames : goal.returns-in-Whole-finish-clause-frames
returns-in-Whole-finish-clause-frames c = λ file opens behind.
    whole_of-read file _ _ _ Whole opens behind (c.in-Whole-finish.ensures.finished _ _ _ _ ((rw c.in-More.is at c.in_ok-frame.ensures.given) _ _ _ _ c.records.invariant.stands).1)

pub returns-in-Cut-clause-frames : goal.returns-in-Cut-clause-frames
returns-in-Cut-clause-frames c = λ file opens behind.
    whole_of-read file _ _ _ (Cut c.in-Cut.bytes) opens behind (c.in-Cut.ensures.finished _ _ _ _ ((rw c.in-More.is at c.in_ok-frame.ensures.given) _ _ _ _ c.records.invariant.stands).1)
