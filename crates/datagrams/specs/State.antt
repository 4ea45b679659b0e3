-- A replay of datagrams on one core, so far, and what each step makes of it.
use Rattle.std.specs.Prelude.{◌≡◌, ⊤, ℕ, zero, suc, ◌+◌, ◌≤◌, ◌<◌, ◌^◌, cond, max, List, [], ◌∷◌, ◌++◌, length, map, set, None}
use Rattle.evring.specs.Advice.{no_advice}
use Rattle.evring.specs.declared.reason.Reason.{Reason}
use Rattle.evring.specs.declared.reason.Reason.TheVariants.{Finish}
use Rattle.evring.specs.declared.way.Way.{Way}
use Rattle.evring.specs.declared.way.Way.TheVariants.{Fore, Back}
use Rattle.histbook.specs.declared.core_entry.CoreEntry.{CoreEntry}
use Rattle.histbook.specs.declared.entry.Entry.TheVariants as E
use Rattle.histbook.specs.declared.look_entry.LookEntry.{LookEntry}
use Rattle.prio_budget.specs.BudgetParts.{BudgetParts}
use Rattle.prio_budget.specs.declared.free.Free.{Free}
use Rattle.streamkey.specs.Key.{source_of, target_of}
use Rattle.streamkey.specs.declared.key.Key.{Key}
use Rattle.streamkey.specs.declared.toward.Toward.{Toward}
use Rattle.streamdefs.specs.Handler.{new_line, end_line}
use Rattle.streamdefs.specs.Packet.{same_toward}
use Rattle.streamdefs.specs.Totals.{refused}
use Rattle.streamdefs.specs.Convo.{Event}
use Rattle.streamdefs.specs.Convo.Event.{New, Ended}
use Rattle.streamdefs.specs.Core.{Told}
use Rattle.datagrams.specs.declared.event.Event.{Event as Event_}
use Rattle.datagrams.specs.declared.event.Event.TheVariants as V
use Rattle.datagrams.specs.declared.conversation.Conversation.{Conversation}
use Rattle.datagrams.specs.Entered.{Entry, entered}
use Rattle.datagrams.specs.Flow.{OpenChunk, chunk_list, chunk_of, size}
use Rattle.datagrams.specs.Released.{chunk_line, frees_from, freed_of}
use Rattle.datagrams.specs.Rows.{half_of, sums_of, unbegun, with_half}
use Rattle.datagrams.specs.Sums.{IsBalanced, Sums, with_chunks, with_datagram}
use Rattle.datagrams.specs.Talk.{delivered}

-- an event whose handler is still to be told
pub data Waits : Type 0 where
  Opened : Key → Toward → Waits
  Handed : Way → OpenChunk → Waits
  Over : Reason → Waits

pub record Untold : Type 0 where
  pub conv : ℕ
  pub event : Waits

-- the same, as the definitions of streams have it
abbrev pub event_of : Waits → Event
event_of (Opened key toward) = New
event_of (Handed way o) = delivered way o
event_of (Over reason) = Ended reason

abbrev pub told_as : Untold → Told
told_as u = record { conv = u.conv; event = event_of u.event }

-- its line
abbrev pub line_for : ℕ → Waits → List ℕ
line_for conv (Opened key toward) = new_line conv key.proto (source_of key toward) (target_of key toward)
line_for conv (Handed way o) = chunk_line conv way o
line_for conv (Over reason) = end_line conv reason

-- what its answer releases, from a stamp on, and the budget behind that
abbrev pub frees_for : ℕ → Waits → List Free
frees_for stamp (Handed way o) = frees_from stamp o.parts
frees_for stamp _ = []

abbrev pub budget_after : Waits → BudgetParts → BudgetParts
budget_after (Handed way o) budget = freed_of o.parts budget
budget_after _ budget = budget

-- a chunk as an event, and an event as the code keeps it
abbrev pub waits_of : Event_ → Waits
waits_of (V.Opened key toward) = Opened key toward
waits_of (V.Handed way chunk) = Handed way (chunk_of chunk)
waits_of (V.Over reason) = Over reason

-- it has no copy
abbrev pub IsBare : Event_ → Type 0
IsBare (V.Handed way chunk) = chunk.tail ≡ None
IsBare _ = ⊤

-- its bytes are in use
abbrev pub IsInUse : ℕ → Waits → Type 0
IsInUse used (Handed way o) = size o.parts ≤ used
IsInUse used _ = ⊤

-- the mark of the asks and the size of a full chunk; the budget, the conversations in the order in which they opened, the events that wait, the text of those that were told,
-- the core's book, the number of answers in it, how many bytes came, the most that were in use, and how many looks were refused
pub record State : Type 0 where
  pub mark : ℕ
  pub least : ℕ
  pub budget : BudgetParts
  pub table : List Conversation
  pub waiting : List Untold
  pub text : List ℕ
  pub book : List CoreEntry
  pub answered : ℕ
  pub came : ℕ
  pub peak : ℕ
  pub refused : ℕ

-- before any packet
abbrev pub fresh : (limit mark least : ℕ) → State
fresh limit mark least = record { mark = mark; least = least; budget = record { limit = limit; stamp = 0; used = 0 }; table = []; waiting = []; text = []; book = []; answered = 0; came = 0; peak = 0; refused = 0 }

-- with the handler of that event told, and its answer; these events then wait
abbrev pub with_answer : State → Untold → List Untold → State
with_answer s u rest = record {
  mark = s.mark;
  least = s.least;
  budget = budget_after u.event s.budget;
  table = s.table;
  waiting = rest;
  text = s.text ++ line_for u.conv u.event;
  book = s.book ++ record { conv = u.conv; entry = E.Answer (suc s.answered) no_advice (frees_for s.budget.stamp u.event) } ∷ [];
  answered = suc s.answered;
  came = s.came;
  peak = s.peak;
  refused = s.refused;
}

-- with the answer to the first event that waits
abbrev pub answered_first : State → State
answered_first s = by s.waiting
  where
    by : List Untold → State
    by [] = s
    by (u ∷ rest) = with_answer s u rest

-- with the answers to the first so many of them
abbrev pub answered_many : ℕ → State → State
answered_many zero s = s
answered_many (suc n) s = answered_first (answered_many n s)

-- the direction of a conversation's packets of that way
abbrev pub way_at : Conversation → Toward → Way
way_at c toward = cond (same_toward c.toward toward) Fore Back

-- with a conversation that opens at the packet of that number
abbrev pub with_conversation : State → ℕ → Key → Toward → State
with_conversation s number key toward = record s { table = s.table ++ unbegun number key toward ∷ []; waiting = s.waiting ++ record { conv = number; event = Opened key toward } ∷ [] }

-- chunks of a direction of a conversation, as events
abbrev pub handed : ℕ → Way → List OpenChunk → List Untold
handed conv way over = map (λ o. record { conv = conv; event = Handed way o }) over

-- how many bytes looks granted
abbrev pub granted_by : List LookEntry → ℕ
granted_by [] = 0
granted_by (look ∷ looks) = cond look.granted look.asked 0 + granted_by looks

-- a conversation with an entry of so many bytes in one direction
abbrev pub conversation_with : Way → Entry → (bytes : ℕ) → Conversation → Conversation
conversation_with way e bytes c = with_half way e.flow (with_chunks (with_datagram (sums_of way c) bytes (granted_by e.looks)) e.over) c

-- with the datagram of a conversation at a place of the table
abbrev pub with_datagram_at : State → (place conv : ℕ) → Conversation → Way → (number now : ℕ) → List ℕ → State
with_datagram_at s place conv c way number now payload = by (entered s.mark s.least s.budget (half_of way c) payload)
  where
    by : Entry → State
    by e = record {
      mark = s.mark;
      least = s.least;
      budget = e.budget;
      table = set s.table place (conversation_with way e (length payload) c);
      waiting = s.waiting ++ handed conv way e.over;
      text = s.text;
      book = s.book ++ record { conv = conv; entry = E.Seg number now e.looks [] } ∷ [];
      answered = s.answered;
      came = s.came + length payload;
      peak = max s.peak e.budget.used;
      refused = s.refused + refused e.looks;
    }

-- a direction of a conversation without its open chunk, which is counted
abbrev pub closed_half : Way → Conversation → Conversation
closed_half way c = with_half way (record (half_of way c) { chunk = None }) (with_chunks (sums_of way c) (chunk_list (half_of way c).chunk)) c

-- with the end of the conversation at a place of the table
abbrev pub with_end_at : (last : ℕ) → State → (place conv : ℕ) → Conversation → State
with_end_at last s place conv c = record {
  mark = s.mark;
  least = s.least;
  budget = s.budget;
  table = set s.table place (closed_half Back (closed_half Fore c));
  waiting = s.waiting ++ handed conv Fore (chunk_list c.fore.chunk) ++ handed conv Back (chunk_list c.back.chunk) ++ record { conv = conv; event = Over Finish } ∷ [];
  text = s.text;
  book = s.book ++ record { conv = conv; entry = E.End last Finish [] [] } ∷ [];
  answered = s.answered;
  came = s.came;
  peak = s.peak;
  refused = s.refused;
}

-- a conversation's numbers are those of what is kept of it
pub record IsSettled (c : Conversation) : Type 0 where
  pub fore : IsBalanced c.fore c.fore_sums
  pub back : IsBalanced c.back c.back_sums
  pub fore_sent : c.fore.sent < 2 ^ 64
  pub back_sent : c.back.sent < 2 ^ 64

-- each number is one of 64 bits
pub record AreShort (s : Sums) : Type 0 where
  pub payload : s.payload < 2 ^ 64
  pub delivered : s.delivered < 2 ^ 64
  pub taken : s.taken < 2 ^ 64
  pub shed : s.shed < 2 ^ 64
  pub gap_bytes : s.gap_bytes < 2 ^ 64

-- a datagram of so many bytes fits into the direction of a conversation, whose numbers are those of what is kept
pub record FitsInto (way : Way) (bytes : ℕ) (c : Conversation) : Type 0 where
  pub fits : (half_of way c).sent + bytes < 2 ^ 64
  pub balanced : IsBalanced (half_of way c) (sums_of way c)
