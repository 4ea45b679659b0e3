use Rattle.std.specs.Prelude.{ℕ, ◌≡◌, ◌+◌, ◌≤◌, List, length, take, drop}
use Rattle.pcapfile.specs.declared.frame.Frame.{Frame}
use Rattle.pcapfile.specs.declared.tail.Tail.{Tail}
use Rattle.pcapfile.specs.declared.tail.Tail.TheVariants as tail
use Rattle.pcapfile.specs.declared.frame_fault.FrameFault.{FrameFault}
use Rattle.pcapfile.specs.declared.frame_fault.FrameFault.TheVariants as fault
use Rattle.pcapfile.specs.declared.next.Next.{Next}
use Rattle.pcapfile.specs.declared.next.Next.TheVariants as next
use Rattle.pcapfile.specs.declared.found.Found.{Found}
use Rattle.pcapfile.specs.declared.found.Found.TheVariants as found
use Rattle.pcapfile.specs.State.{State}
use Rattle.pcapfile.specs.Capture.{End, Whole, Cut, TooBig, TooLong, Place, Ends, Holds, place_of, Records, records_from, size_of}
use Rattle.pcapfile.specs.Format.{header_len, longest}

-- what stands at the place that is read next
abbrev pub place_at : State → Place
place_at s = place_of s.head s.limits s.at s.count s.rest

-- the state behind a record
abbrev pub passed : State → Frame → State
passed s frame = record { head = s.head; limits = s.limits; at = s.at + size_of frame; count = s.count + 1; rest = drop (size_of frame) s.rest }

-- more bytes are needed to tell what stands there
abbrev pub IsOpen : Place → Type 0
IsOpen (Ends Whole) = Unit {0}
IsOpen (Ends (Cut n)) = Unit {0}
IsOpen (Ends (TooBig at len)) = ⊥
IsOpen (Ends TooLong) = ⊥
IsOpen (Holds frame) = ⊥

-- a whole record stands there
abbrev pub IsRecord : Place → Type 0
IsRecord (Ends end) = ⊥
IsRecord (Holds frame) = Unit {0}

-- the end that a fault, or a tail, says
abbrev pub end_of_fault : FrameFault → End
end_of_fault (fault.TooBig at len) = TooBig at len
end_of_fault fault.TooLong = TooLong

abbrev pub end_of_tail : Tail → End
end_of_tail tail.Whole = Whole
end_of_tail (tail.Cut n) = Cut n

-- the answer of a call of next, and the state after it
abbrev pub Answers : State → Next → State → Type 0
Answers old (next.Whole frame) new = (place_at old ≡ Holds frame) × (new ≡ passed old frame)
Answers old next.More new = IsOpen (place_at old) × (new ≡ old)
Answers old (next.Fault f) new = (place_at old ≡ Ends (end_of_fault f)) × (new ≡ old)

-- what was found at a place, of these bytes behind that offset
abbrev pub Finds : Place → ℕ → List ℕ → Found → Type 0
Finds place at rest found.Open = IsOpen place
Finds place at rest (found.Fault f) = place ≡ Ends (end_of_fault f)
Finds place at rest (found.Record moment len) =
    (place ≡ Holds (record { at = at; moment = moment; bytes = take len (drop header_len rest) })) × (header_len + len ≤ length rest) × (len ≤ longest)

-- the records from a state on
abbrev pub records_at : ℕ → State → Records
records_at turns s = records_from turns s.head s.limits s.at s.count s.rest
