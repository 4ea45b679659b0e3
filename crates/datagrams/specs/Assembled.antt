-- Packets whose numbers rise, entries whose looks and frees stand in turn, and what becomes of a datagram.
use Rattle.std.specs.Prelude.{◌≡◌, ⊤, ℕ, suc, ◌+◌, ◌≤◌, ◌<◌, ◌^◌, Bool, true, false, cond, nat_le, List, [], ◌∷◌, ◌++◌, length, map, Some}
use Rattle.prio_budget.specs.declared.free.Free.{Free}
use Rattle.histbook.specs.declared.look_entry.LookEntry.{LookEntry}
use Rattle.streamdefs.specs.Packet.{Packet}
use Rattle.streamdefs.specs.Terms.{Terms}
use Rattle.streamdefs.specs.Marks.{mark}
use Rattle.streamdefs.specs.View.{Ask}
use Rattle.streamdefs.specs.Convo.{Act, Event, released, looks_in, frees_in}
use Rattle.streamdefs.specs.Core.{Line, Core, found_by}
use Rattle.streamdefs.specs.Order.{AreAboveCharges}
use Rattle.datagrams.specs.Flow.{Flow, OpenChunk, dry, granted_to, refused_to, closed_by_gap, handed_over, left_open}
use Rattle.datagrams.specs.Talk.{Talk, flow_of, with_flow, way_in, delivered}

-- the numbers of packets rise, from that number on
abbrev pub RisesFrom : ℕ → List Packet → Type 0
RisesFrom n [] = ⊤
RisesFrom n (p ∷ packets) = (n ≤ p.number) × RisesFrom (p.number + 1) packets

-- the next stamp behind a look, behind looks, and behind an entry: a grant is a move, a refusal is none
abbrev pub behind_look : ℕ → LookEntry → ℕ
behind_look n look = cond look.granted (suc n) n

abbrev pub behind_looks : ℕ → List LookEntry → ℕ
behind_looks n [] = n
behind_looks n (look ∷ looks) = behind_looks (behind_look n look) looks

abbrev pub behind_entry : ℕ → Act → ℕ
behind_entry n act = behind_looks n (looks_in act) + length (frees_in act)

-- each look has the next stamp
abbrev pub LooksInTurn : ℕ → List LookEntry → Type 0
LooksInTurn n [] = ⊤
LooksInTurn n (look ∷ looks) = (look.look.stamp ≡ n) × LooksInTurn (behind_look n look) looks

-- so has each free
abbrev pub FreesInTurn : ℕ → List Free → Type 0
FreesInTurn n [] = ⊤
FreesInTurn n (free ∷ frees) = (free.stamp ≡ n) × FreesInTurn (suc n) frees

-- and all those of an entry, its looks first
abbrev pub EntryInTurn : ℕ → Act → Type 0
EntryInTurn n act = LooksInTurn n (looks_in act) × FreesInTurn (behind_looks n (looks_in act)) (frees_in act)

-- and of a book
abbrev pub BookInTurn : ℕ → List Line → Type 0
BookInTurn n [] = ⊤
BookInTurn n (line ∷ lines) = EntryInTurn n line.act × BookInTurn (behind_entry n line.act) lines

-- the frees of an entry are above their charges
abbrev pub FreesAbove : Terms → Core → Line → Type 0
FreesAbove terms core line = AreAboveCharges (released terms (found_by core line) line.act) (frees_in line.act)

-- what became of a datagram: a look granted its bytes or refused them, or it has none
pub data Verdict : Type 0 where
  Granted : LookEntry → Verdict
  Refused : LookEntry → Verdict
  Bare : Verdict

-- its looks, and what they were asked for
abbrev pub looks_by : Verdict → List LookEntry
looks_by (Granted look) = look ∷ []
looks_by (Refused look) = look ∷ []
looks_by Bare = []

abbrev pub asked_by : List ℕ → Verdict → Flow → List Ask
asked_by payload (Granted look) f = record { bytes = length payload; from = Some f.sent } ∷ []
asked_by payload (Refused look) f = record { bytes = length payload; from = Some f.sent } ∷ []
asked_by payload Bare f = []

-- what is kept of its direction, before the chunk that is full is handed over
abbrev pub flow_by : List ℕ → Verdict → Flow → Flow
flow_by payload (Granted look) f = granted_to f (record { bytes = payload; stamp = look.look.stamp })
flow_by payload (Refused look) f = refused_to f (length payload)
flow_by payload Bare f = refused_to f 0

-- the chunk that a gap before it closes
abbrev pub closed_by : Verdict → Flow → List OpenChunk
closed_by (Granted look) f = closed_by_gap f
closed_by _ f = []

-- the chunks that are handed over
abbrev pub over_by : ℕ → List ℕ → Verdict → Flow → List OpenChunk
over_by least payload v f = closed_by v f ++ handed_over least (flow_by payload v f)

-- what is kept of the conversation
abbrev pub talk_by : ℕ → Packet → Verdict → Talk → Talk
talk_by least p v k = with_flow (way_in k p) (left_open least (flow_by p.payload v (flow_of (way_in k p) k))) k

-- its deliveries
abbrev pub delivered_by : ℕ → Packet → Verdict → Talk → List Event
delivered_by least p v k = map (delivered (way_in k p)) (over_by least p.payload v (flow_of (way_in k p) k))

-- a look at the lowest priority's mark decided so
abbrev pub Decides : Terms → List ℕ → LookEntry → Bool → Type 0
Decides t payload look granted =
    (0 < length payload) × (look.asked ≡ length payload) × (look.granted ≡ granted) × (nat_le (look.look.found + look.asked) (mark t.marks 0) ≡ granted) × (look.look.stamp < 2 ^ 31)

abbrev pub IsVerdict : Terms → List ℕ → Verdict → Type 0
IsVerdict t payload (Granted look) = Decides t payload look true
IsVerdict t payload (Refused look) = Decides t payload look false
IsVerdict t payload Bare = payload ≡ []

-- a conversation before its first datagram
abbrev pub first_talk : Packet → Talk
first_talk p = record { id = p.number; key = p.key; toward = p.toward; fore = dry; back = dry }
