-- A replay so far, against the packets that it took.
use Rattle.std.specs.Prelude.{◌≡◌, ⊤, ◌⊎◌, ℕ, zero, suc, ◌+◌, ◌<◌, ◌≤◌, true, false, List, [], ◌∷◌, map, flat_map, take, Option, None, Some}
use Rattle.histbook.specs.declared.core_entry.CoreEntry.{CoreEntry}
use Rattle.histbook.specs.InTurn.{IsInTurn, book_steps, kept_peak}
use Rattle.histbook.specs.Moves.{looks_in}
use Rattle.streamkey.specs.declared.key.Key.{Key}
use Rattle.streamkey.specs.declared.toward.Toward.{Toward}
use Rattle.streamdefs.specs.Lists.{Each, or_else}
use Rattle.streamdefs.specs.Marks.{mark}
use Rattle.streamdefs.specs.Packet.{Packet, is_tcp}
use Rattle.streamdefs.specs.Terms.{Terms}
use Rattle.streamdefs.specs.Totals.{refused}
use Rattle.streamdefs.specs.Core.{Told, idle_core, core_at}
use Rattle.streamdefs.specs.Case.{packet_of, line_of}
use Rattle.datagrams.specs.declared.conversation.Conversation.{Conversation}
use Rattle.datagrams.specs.Flow.{plain}
use Rattle.datagrams.specs.Held.{held, bytes_of, late_for}
use Rattle.datagrams.specs.Replay.{Replayed}
use Rattle.datagrams.specs.Rows.{row_of}
use Rattle.datagrams.specs.State.{State, Untold, Waits, Opened, told_as}
use Rattle.datagrams.specs.Sums.{Row, Rises, Tallies, kept_in}
use Rattle.datagrams.specs.Table.{Kept}

-- The entries so far are a replay, done in turn up to a stamp and a used number; the used bytes are those that are held, and
-- no charge has a stamp of now or later.
pub record Standing (t : Terms) (last first : ℕ) (packets done : List Packet) (book : List CoreEntry) (table : List Kept) (waiting : List Told) (finished : Option ℕ) (answered : ℕ) (text : List ℕ) (stamp used : ℕ) : Type 0 where
  pub replayed : Replayed (plain t) last first done (map (line_of packets) book) table waiting finished answered text
  pub turn : IsInTurn t.marks.limit (book_steps book) 0 0 stamp used
  pub used_is : held bytes_of table waiting ≡ used
  pub earlier : held (late_for stamp) table waiting ≡ 0

-- what stays of a conversation while it is kept
pub record Face : Type 0 where
  pub number : ℕ
  pub key : Key
  pub toward : Toward

abbrev pub face_of : Conversation → Face
face_of c = record { number = c.number; key = c.key; toward = c.toward }

abbrev pub faces_of : List Conversation → List Face
faces_of conversations = map face_of conversations

-- an event that waits is one of that conversation; where it opened, it has its key and its way
abbrev pub Fits : Face → Waits → Type 0
Fits face (Opened key toward) = (face.key ≡ key) × (face.toward ≡ toward)
Fits face _ = ⊤

abbrev pub IsOf : Face → Untold → Type 0
IsOf face u = (face.number ≡ u.conv) × Fits face u.event

-- it is one of these conversations
abbrev pub IsThere : List Face → Untold → Type 0
IsThere [] u = ⊥
IsThere (face ∷ faces) u = IsOf face u ⊎ IsThere faces u

-- the first so many conversations have ended
abbrev pub rows_at : ℕ → List Conversation → List Row
rows_at n [] = []
rows_at zero (c ∷ cs) = row_of true c ∷ rows_at zero cs
rows_at (suc n) (c ∷ cs) = row_of false c ∷ rows_at n cs

-- the number of the last one that ended
abbrev pub last_of : List ℕ → Option ℕ
last_of [] = None
last_of (n ∷ ns) = or_else (last_of ns) (Some n)

abbrev pub numbers_in : List Conversation → List ℕ
numbers_in table = map (λ c. c.number) table

abbrev pub finished_in : ℕ → List Conversation → Option ℕ
finished_in ended table = last_of (take ended (numbers_in table))

-- a conversation has no open chunk
abbrev pub IsShut : Conversation → Type 0
IsShut c = (c.fore.chunk ≡ None) × (c.back.chunk ≡ None)

-- Those packets are taken, and the first so many conversations have ended: the entries so far are lawful, their events are told
-- in order, what is kept of each conversation, with its numbers, is what these entries make of it, and so are the numbers of
-- the budget.
pub record Stands (t : Terms) (last first : ℕ) (packets done : List Packet) (ended : ℕ) (s : State) : Type 0 where
  pub mark_is : s.mark ≡ mark t.marks 0
  pub least_is : s.least ≡ t.chunk
  pub limit_is : s.budget.limit ≡ t.marks.limit
  pub within : s.mark ≤ s.budget.limit
  pub standing : Standing t last first packets done s.book (kept_in (rows_at ended s.table)) (map told_as s.waiting) (finished_in ended s.table) s.answered s.text s.budget.stamp s.budget.used
  pub tallies : Tallies t (map (line_of packets) s.book) (rows_at ended s.table) (core_at (plain t) idle_core (map (line_of packets) s.book)).convos
  pub rise : Rises (numbers_in s.table)
  pub there : Each (IsThere (faces_of s.table)) s.waiting
  pub shut : Each IsShut (take ended s.table)
  pub early : (m : ℕ) → Each (λ p. p.number < m) done → Each (λ n. n < m) (numbers_in s.table)
  pub peak_is : s.peak ≡ kept_peak (book_steps s.book) 0 0
  pub high : s.budget.used ≤ s.peak
  pub refused_is : s.refused ≡ refused (flat_map (λ entry. looks_in entry.entry) s.book)

-- A datagram that may be taken next: it is the packet of its number, which is above those before it, and no conversation is idle
-- at its clock.
pub record IsNext (t : Terms) (first : ℕ) (packets done : List Packet) (p : Packet) : Type 0 where
  pub here : packet_of packets p.number ≡ p
  pub udp : is_tcp p ≡ false
  pub above : Each (λ q. q.number < p.number) done
  pub from : first ≤ p.now
  pub until : p.now < first + t.idle
