use Rattle.std.specs.Prelude.{ℕ, ◌+◌, max, Bool, true, false, ◌||◌, List, [], ◌∷◌, length, flat_map, Option, Some, None, if◌then◌else◌}
use Rattle.capfilter.specs.Expr.{Expr}
use Rattle.capfilter.specs.Truth.{truth}
use Rattle.pcapfile.specs.declared.frame.Frame.{Frame}
use Rattle.pcapfile.specs.declared.link.Link.{Link}
use Rattle.porthdr.specs.declared.skip.Skip.{Skip}
use Rattle.porthdr.specs.declared.skip.Skip.TheVariants as skip
use Rattle.porthdr.specs.Kind.{Kind, Accepted, Skipped}
use Rattle.porthdr.specs.Transport.{kind_of}
use Rattle.streamdefs.specs.Lists.{how_many}
use Rattle.streamdefs.specs.Packet.{Packet, is_tcp}
use Rattle.streamdefs.specs.Report.{RecordCounts}
use Rattle.streamkey.specs.declared.key.Key.{Key}
use Rattle.streamkey.specs.declared.toward.Toward.{Toward}

-- docs/RULES.md, "Packets".

-- what becomes of a record: its packet is taken, or it has one that the filter refuses, or it has none, and why
pub data Fate : Type 0 where
  Taken : Packet → Fate
  Filtered : Fate
  Passed : Skip → Fate

-- whether a filter holds of a packet; no filter holds of each
abbrev pub holds : Option Expr → Key → Toward → Bool
holds None key toward = true
holds (Some filter) key toward = truth filter key toward

-- what becomes of a record with that number and clock
abbrev pub fate_of : Option Expr → ℕ → ℕ → Kind → Fate
fate_of filter number now (Accepted key toward seq flags declared payload) =
    if holds filter key toward
    then Taken (record { number = number; now = now; key = key; toward = toward; seq = seq; flags = flags; declared = declared; payload = payload })
    else Filtered
fate_of filter number now (Skipped why) = Passed why

-- the fates of records, in order: each has the number behind the last one's, and the greatest moment so far as its clock
unfoldable pub fates_from : Option Expr → Link → (number clock : ℕ) → List Frame → List Fate
fates_from filter link number clock [] = []
fates_from filter link number clock (frame ∷ frames) =
    fate_of filter number (max clock frame.moment) (kind_of link frame.bytes) ∷ fates_from filter link (number + 1) (max clock frame.moment) frames

-- records are numbered from 1
abbrev pub fates : Option Expr → Link → List Frame → List Fate
fates filter link frames = fates_from filter link 1 0 frames

abbrev pub packet_in : Fate → List Packet
packet_in (Taken packet) = packet ∷ []
packet_in Filtered = []
packet_in (Passed why) = []

-- the packets that are taken
abbrev pub packets_of : List Fate → List Packet
packets_of fs = flat_map packet_in fs

abbrev pub is_filtered : Fate → Bool
is_filtered (Taken packet) = false
is_filtered Filtered = true
is_filtered (Passed why) = false

abbrev pub is_other : Fate → Bool
is_other (Taken packet) = false
is_other Filtered = false
is_other (Passed skip.Other) = true
is_other (Passed skip.Fragment) = false
is_other (Passed skip.Short) = false

abbrev pub is_fragment : Fate → Bool
is_fragment (Taken packet) = false
is_fragment Filtered = false
is_fragment (Passed skip.Other) = false
is_fragment (Passed skip.Fragment) = true
is_fragment (Passed skip.Short) = false

abbrev pub is_short : Fate → Bool
is_short (Taken packet) = false
is_short Filtered = false
is_short (Passed skip.Other) = false
is_short (Passed skip.Fragment) = false
is_short (Passed skip.Short) = true

-- how many records there are of each fate
abbrev pub counts_of : List Fate → RecordCounts
counts_of fs = record {
  accepted = length (packets_of fs);
  filtered = how_many is_filtered fs;
  other = how_many is_other fs;
  fragment = how_many is_fragment fs;
  short = how_many is_short fs;
}

-- the moment of the first record, and the greatest moment of all; 0 where there is no record
abbrev pub first_moment : List Frame → ℕ
first_moment [] = 0
first_moment (frame ∷ frames) = frame.moment

abbrev pub last_clock : List Frame → ℕ
last_clock [] = 0
last_clock (frame ∷ frames) = max frame.moment (last_clock frames)

-- what a capture's records are
pub record Captured : Type 0 where
  pub packets : List Packet
  pub counts : RecordCounts
  pub first : ℕ
  pub last : ℕ

abbrev pub captured : Option Expr → Link → List Frame → Captured
captured filter link frames = record {
  packets = packets_of (fates filter link frames);
  counts = counts_of (fates filter link frames);
  first = first_moment frames;
  last = last_clock frames;
}

-- whether a segment of TCP is among packets
abbrev pub has_segment : List Packet → Bool
has_segment [] = false
has_segment (p ∷ packets) = is_tcp p || has_segment packets
