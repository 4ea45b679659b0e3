use Rattle.std.specs.Prelude.{ℕ, ◌+◌, List, length, Bool, ◌||◌, nat_lt, nat_le, if◌then◌else◌, Option, Some, None, Result, Ok, Err}
use Rattle.pcapfile.specs.declared.head.FileHead.{FileHead}
use Rattle.pcapfile.specs.declared.head_fault.HeadFault.{HeadFault}
use Rattle.pcapfile.specs.declared.link.Link.{Link}
use Rattle.pcapfile.specs.declared.frame.Frame.{Frame}
use Rattle.pcapfile.specs.Capture.{Limits, End, Whole, Cut, TooBig, TooLong, Records, capture_of}
use Rattle.pcapfile.specs.declared.limits.TheConstants.{MOST_BYTES, MOST_RECORDS}
use Rattle.labtop.specs.declared.limits.TheConstants.{MOST_BUILT}
use Rattle.labtop.specs.Scapconf.{Captured, captured, has_segment}
use Rattle.labtop.specs.Settings.{is_built}
use Rattle.scapconf.specs.declared.settings.Settings.{Settings}

-- docs/RULES.md, "Answers".

-- what a capture asks for: the delivery of its packets, a refusal, what isn't built yet, or a file that is missing
pub data Verdict : Type 0 where
  Delivers : Captured → Verdict
  Refused : HeadFault → Verdict
  NotBuilt : Verdict
  Missing : Verdict

abbrev pub limits : Limits
limits = record { frames = MOST_RECORDS; bytes = MOST_BYTES }

-- the records of a capture whose end is whole
abbrev pub whole_in : List Frame → End → Option (List Frame)
whole_in frames Whole = Some frames
whole_in frames (Cut n) = None
whole_in frames (TooBig at len) = None
whole_in frames TooLong = None

unfoldable pub whole_of : Records → Option (List Frame)
whole_of records = whole_in records.frames records.end

-- whether a conversation could end before the capture does: the last clock is past the first record's moment by the idle time
abbrev pub is_long : ℕ → Captured → Bool
is_long idle c = nat_le (c.first + idle) c.last

-- of what the records are: segments of TCP aren't built yet, nor the end of a conversation that is idle
abbrev pub of_captured : ℕ → Captured → Verdict
of_captured idle c = if has_segment c.packets || is_long idle c then NotBuilt else Delivers c

abbrev pub of_frames : Settings → Link → Option (List Frame) → Verdict
of_frames s link None = NotBuilt
of_frames s link (Some frames) = of_captured s.set.shape.idle (captured s.filter link frames)

abbrev pub of_capture : Settings → ℕ → Result (FileHead × Records) HeadFault → Verdict
of_capture s size (Err fault) = Refused fault
of_capture s size (Ok capture) =
    if nat_lt MOST_BUILT size then NotBuilt else of_frames s capture.0.link (whole_of capture.1)

unfoldable pub verdict_of : Settings → List ℕ → Verdict
verdict_of s file = of_capture s (length file) (capture_of limits file)

-- what settings and the file of a capture ask for: what isn't built of the settings comes before the file
abbrev pub asked_of : Settings → Option (List ℕ) → Verdict
asked_of s None = if is_built s then Missing else NotBuilt
asked_of s (Some file) = if is_built s then verdict_of s file else NotBuilt
