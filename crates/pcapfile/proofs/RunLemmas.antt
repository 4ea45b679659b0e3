use Rattle.std.proofs.Common.{ℕ, List, ap}
use Rattle.std.proofs.lemmas.List.{drop-append-le}
use Rattle.pcapfile.specs.declared.frame.Frame.{Frame}
use Rattle.pcapfile.specs.declared.frame_fault.FrameFault.{FrameFault}
use Rattle.pcapfile.specs.declared.frame_fault.FrameFault.TheVariants as fault
use Rattle.pcapfile.specs.Capture.{size_of}
use Rattle.pcapfile.specs.State.{State}
use Rattle.pcapfile.specs.Reading.{passed}
use Rattle.pcapfile.specs.Laws.{FaultStays, RecordStays}
use Rattle.pcapfile.proofs.PlaceLemmas.{place_of-holds-append, place_of-too_big-append, place_of-too_long-append}
use Rattle.pcapfile.proofs.RecordLemmas.{fits}

pub fault_stays : (s : State) (f : FrameFault) → FaultStays s f
fault_stays s (fault.TooBig a n) more h = place_of-too_big-append s.head s.limits s.at s.count s.rest more a n h
fault_stays s fault.TooLong more h = place_of-too_long-append s.head s.limits s.at s.count s.rest more h

-- a state with other bytes left
with_rest : State → List ℕ → State
with_rest s rest = record { head = s.head; limits = s.limits; at = s.at; count = s.count; rest = rest }

pub record_stays : (s : State) (f : Frame) → RecordStays s f
unfolding with_rest
record_stays s f more h =
    (place_of-holds-append s.head s.limits s.at s.count s.rest more f h, ap (with_rest (passed s f)) (drop-append-le (size_of f) s.rest more (fits s.head s.limits s.at s.count s.rest f h)))
