-- Small courses, for rows.
use Rattle.std.specs.Prelude.{ℕ, List, [], ◌∷◌, None}
use Rattle.streamdefs.specs.Packet.{Packet}
use Rattle.streamdefs.specs.Terms.{Terms}
use Rattle.streamdefs.specs.Core.{Line}
use Rattle.streamdefs.specs.Rows.{datagram_from, segment}
use Rattle.coretable.specs.Course.{Course, Job, Choice, choice, core_of}

-- one core that rests behind these entries, with what isn't worked off
abbrev pub resting : List Line → Job → Course
resting lines job = record { packets = []; number = 0; clock = 0; lines = lines; under = None; job = job }

-- what it chooses
abbrev pub chosen : Terms → List Line → Job → Choice
chosen terms lines job = choice terms (core_of terms (resting lines job)) job

-- moments of 300 and 400 seconds, in nanoseconds
abbrev pub at_300 : ℕ
at_300 = 300000000000

abbrev pub at_400 : ℕ
at_400 = 400000000000

-- datagrams with a byte, of two keys, and a segment that is SYN, RST or neither
abbrev pub a_byte : ℕ → ℕ → ℕ → Packet
a_byte port number now = datagram_from port number now (97 ∷ [])

abbrev pub syn : ℕ → ℕ → ℕ → Packet
syn number now seq = segment number now 2 seq []

abbrev pub reset : ℕ → ℕ → Packet
reset number now = segment number now 4 1 []

abbrev pub plain : ℕ → ℕ → Packet
plain number now = segment number now 0 1 []
