-- What is true of a replay at any time, also behind want of memory.
use Rattle.std.specs.Prelude.{◌≡◌, ℕ, ◌+◌, ◌≤◌, List, length}
use Rattle.streamdefs.specs.Lists.{Each, total}
use Rattle.datagrams.specs.declared.conversation.Conversation.{Conversation}
use Rattle.datagrams.specs.Flow.{size}
use Rattle.datagrams.specs.State.{State, Untold, Waits, Handed}
use Rattle.datagrams.specs.Sums.{IsBalanced, bytes_open}

-- the bytes that a conversation keeps in its open chunks, and those that came for it
abbrev pub open_bytes : Conversation → ℕ
open_bytes c = bytes_open c.fore.chunk + bytes_open c.back.chunk

abbrev pub came_bytes : Conversation → ℕ
came_bytes c = c.fore.sent + c.back.sent

-- the bytes of an event that waits
abbrev pub bytes_in : Waits → ℕ
bytes_in (Handed way o) = size o.parts
bytes_in _ = 0

-- the bytes that are held: those of open chunks, and of events that wait
abbrev pub held_bytes : List Conversation → List Untold → ℕ
held_bytes table waiting = total open_bytes table + total (λ u. bytes_in u.event) waiting

-- the numbers of a conversation are those of what is kept of it
pub record IsEven (c : Conversation) : Type 0 where
  pub fore : IsBalanced c.fore c.fore_sums
  pub back : IsBalanced c.back c.back_sums

-- The mark is within the budget; the bytes in use are those that are held; each conversation's numbers are those of what is
-- kept of it, and add up to the bytes that came; and there are no more answers, and no more refused looks, than entries.
pub record IsSound (s : State) : Type 0 where
  pub mark : s.mark ≤ s.budget.limit
  pub held : held_bytes s.table s.waiting ≡ s.budget.used
  pub even : Each IsEven s.table
  pub came : total came_bytes s.table ≡ s.came
  pub count : s.answered ≤ length s.book
  pub refusals : s.refused ≤ length s.book
