-- The steps of a replay keep it sound.
use Rattle.std.specs.Prelude.{◌≡◌, refl, ℕ, zero, suc, ◌+◌, ◌≤◌, ◌<◌, ◌^◌, Bool, true, false, nat_le, max, List, [], ◌∷◌, ◌++◌, length, None, Some, Option, Result, Ok, Err, OnOk, OnErr}
use Rattle.std.proofs.Common.{ap, arith, get_or, set}
use Rattle.std.proofs.lemmas.List.{length-append}
use Rattle.evring.specs.declared.way.Way.{Way}
use Rattle.evring.specs.declared.way.Way.TheVariants.{Fore, Back}
use Rattle.histbook.specs.declared.look_entry.LookEntry.{LookEntry}
use Rattle.histbook.specs.declared.core_entry.CoreEntry.{CoreEntry}
use Rattle.prio_budget.specs.BudgetParts.{BudgetParts}
use Rattle.streamkey.specs.declared.key.Key.{Key}
use Rattle.streamkey.specs.declared.toward.Toward.{Toward}
use Rattle.streamdefs.specs.Lists.{Each, total}
use Rattle.datagrams.specs.declared.conversation.Conversation.{Conversation}
use Rattle.datagrams.specs.Entered.{Entry, entered, asked_entry}
use Rattle.datagrams.specs.Flow.{Flow, OpenChunk, chunk_list, size}
use Rattle.datagrams.specs.Rows.{half_of, sums_of, unbegun, with_half}
use Rattle.datagrams.specs.Sound.{IsEven, IsSound, bytes_in, came_bytes, open_bytes}
use Rattle.datagrams.specs.State.{FitsInto, Handed, IsSettled, Opened, State, Untold, closed_half, conversation_with, granted_by, handed, with_conversation, with_datagram_at}
use Rattle.datagrams.specs.Sums.{IsBalanced, Sums, bytes_open, with_chunk, with_chunks, with_datagram}
use Rattle.datagrams.proofs.EnterLemmas.{balanced_entered, counted, sent_behind}
use Rattle.datagrams.proofs.HeldCharges.{total_append}
use Rattle.datagrams.proofs.SumBounds.{balanced_dry, balanced_end}

-- Lists.

module _ {X : Type 0} where
  pub total_set : (f : X → ℕ) (xs : List X) (i : ℕ) (y d : X) → i < length xs → total f (set xs i y) + f (get_or xs i d) ≡ total f xs + f y
  total_set f [] i y d l = absurd (omega arith)
  total_set f (x ∷ xs) zero y d l = omega arith
  total_set f (x ∷ xs) (suc i) y d l = omega (arith, total_set f xs i y d (omega arith))

  pub at_most_total : (f : X → ℕ) (xs : List X) (i : ℕ) (d : X) → i < length xs → f (get_or xs i d) ≤ total f xs
  at_most_total f [] i d l = absurd (omega arith)
  at_most_total f (x ∷ xs) zero d l = omega arith
  at_most_total f (x ∷ xs) (suc i) d l = omega (arith, at_most_total f xs i d (omega arith))

  pub each_set : (P : X → Type 0) (xs : List X) (i : ℕ) (y : X) → Each P xs → P y → Each P (set xs i y)
  each_set P [] i y h p = tt
  each_set P (x ∷ xs) zero y h p = (p, h.1)
  each_set P (x ∷ xs) (suc i) y h p = (h.0, each_set P xs i y h.1 p)

  pub each_at : (P : X → Type 0) (xs : List X) (i : ℕ) (d : X) → Each P xs → i < length xs → P (get_or xs i d)
  each_at P [] i d h l = absurd (omega arith)
  each_at P (x ∷ xs) zero d h l = h.0
  each_at P (x ∷ xs) (suc i) d h l = each_at P xs i d h.1 (omega arith)

  pub each_push : (P : X → Type 0) (xs : List X) (y : X) → Each P xs → P y → Each P (xs ++ y ∷ [])
  each_push P [] y h p = (p, tt)
  each_push P (x ∷ xs) y h p = (h.0, each_push P xs y h.1 p)

-- A direction.

-- the numbers of delivered and taken bytes don't hang on the gaps
delivered_with : (s : Sums) (over : List OpenChunk) → (with_chunks s over).delivered ≡ s.delivered + total (λ (o : OpenChunk). size o.parts) over
delivered_with s [] = omega arith
delivered_with s (o ∷ over) = omega (arith, delivered_with (with_chunk s o) over)

taken_with : (s : Sums) (over : List OpenChunk) → (with_chunks s over).taken ≡ s.taken
taken_with s [] = refl
taken_with s (o ∷ over) = taken_with (with_chunk s o) over

-- what is open and what is handed over is what was open and what was granted
bytes_entered : (mark least : ℕ) (budget : BudgetParts) (f : Flow) (s : Sums) (payload : List ℕ) → IsBalanced f s
    → bytes_open (entered mark least budget f payload).flow.chunk + total (λ (o : OpenChunk). size o.parts) (entered mark least budget f payload).over ≡ bytes_open f.chunk + granted_by (entered mark least budget f payload).looks
bytes_entered mark least budget f s payload h =
    omega (arith, h.granted, (balanced_entered mark least budget f s payload h).granted, delivered_with next e.over, taken_with next e.over)
  where
    e : Entry
    e = entered mark least budget f payload

    next : Sums
    next = with_datagram s (length payload) (granted_by e.looks)

-- the budget behind an entry
budget_entered : (mark least : ℕ) (budget : BudgetParts) (f : Flow) (payload : List ℕ)
    → ((entered mark least budget f payload).budget.used ≡ budget.used + granted_by (entered mark least budget f payload).looks) × ((entered mark least budget f payload).budget.limit ≡ budget.limit)
budget_entered mark least budget f [] = (omega arith, refl)
budget_entered mark least budget f (b ∷ bytes) = by (nat_le (budget.used + suc (length bytes)) mark)
  where
    look : Bool → LookEntry
    look given = record { asked = suc (length bytes); granted = given; look = record { stamp = budget.stamp; found = budget.used } }

    by : (given : Bool) → ((asked_entry least budget f (b ∷ bytes) (look given)).budget.used ≡ budget.used + granted_by (asked_entry least budget f (b ∷ bytes) (look given)).looks)
        × ((asked_entry least budget f (b ∷ bytes) (look given)).budget.limit ≡ budget.limit)
    by true = (omega arith, refl)
    by false = (omega arith, refl)

-- A conversation.

even_half : (way : Way) (c : Conversation) → IsEven c → IsBalanced (half_of way c) (sums_of way c)
even_half Fore c h = h.fore
even_half Back c h = h.back

even_with : (way : Way) (f : Flow) (s : Sums) (c : Conversation) → IsEven c → IsBalanced f s → IsEven (with_half way f s c)
even_with Fore f s c h b = record { fore = b; back = h.back }
even_with Back f s c h b = record { fore = h.fore; back = b }

open_with : (way : Way) (f : Flow) (s : Sums) (c : Conversation) → open_bytes (with_half way f s c) + bytes_open (half_of way c).chunk ≡ open_bytes c + bytes_open f.chunk
open_with Fore f s c = omega arith
open_with Back f s c = omega arith

came_with : (way : Way) (f : Flow) (s : Sums) (c : Conversation) → came_bytes (with_half way f s c) + (half_of way c).sent ≡ came_bytes c + f.sent
came_with Fore f s c = omega arith
came_with Back f s c = omega arith

sent_at_most : (way : Way) (c : Conversation) → (half_of way c).sent ≤ came_bytes c
sent_at_most Fore c = omega arith
sent_at_most Back c = omega arith

handed_bytes : (conv : ℕ) (way : Way) (over : List OpenChunk) → total (λ (u : Untold). bytes_in u.event) (handed conv way over) ≡ total (λ (o : OpenChunk). size o.parts) over
handed_bytes conv way [] = refl
handed_bytes conv way (o ∷ over) = ap (λ (n : ℕ). size o.parts + n) (handed_bytes conv way over)

list_bytes : (c : Option OpenChunk) → total (λ (o : OpenChunk). size o.parts) (chunk_list c) ≡ bytes_open c
list_bytes None = refl
list_bytes (Some o) = omega arith

-- What its callers owe.

-- a datagram fits
pub fits_into : (s : State) (i : ℕ) (way : Way) (bytes : ℕ) (d : Conversation) → IsSound s → i < length s.table → s.came + bytes < 2 ^ 64 → FitsInto way bytes (get_or s.table i d)
fits_into s i way bytes d h l fits = record {
  fits = omega (arith, fits, h.came, sent_at_most way (get_or s.table i d), at_most_total came_bytes s.table i d l);
  balanced = even_half way (get_or s.table i d) (each_at IsEven s.table i d h.even l);
}

pub is_settled : (s : State) (i : ℕ) (d : Conversation) → IsSound s → i < length s.table → s.came < 2 ^ 64 → IsSettled (get_or s.table i d)
is_settled s i d h l fits = record {
  fore = (each_at IsEven s.table i d h.even l).fore;
  back = (each_at IsEven s.table i d h.even l).back;
  fore_sent = omega (arith, fits, h.came, sent_at_most Fore (get_or s.table i d), at_most_total came_bytes s.table i d l);
  back_sent = omega (arith, fits, h.came, sent_at_most Back (get_or s.table i d), at_most_total came_bytes s.table i d l);
}

-- The steps.

-- a state whose parts are those
abbrev pub state_with : State → BudgetParts → List Conversation → List Untold → List CoreEntry → (came peak refused : ℕ) → State
state_with s budget table waiting book came peak refused = record s { budget = budget; table = table; waiting = waiting; book = book; came = came; peak = peak; refused = refused }

-- whatever the book has behind its entries
pub sound_book : (s : State) (book : List CoreEntry) → IsSound s → length s.book ≤ length book → IsSound (record s { book = book })
sound_book s book h l = record { mark = h.mark; held = h.held; even = h.even; came = h.came; count = omega (arith, h.count, l); refusals = omega (arith, h.refusals, l) }

-- a conversation opens
pub sound_table : (s : State) (number : ℕ) (key : Key) (toward : Toward) → IsSound s → IsSound (record s { table = s.table ++ unbegun number key toward ∷ [] })
sound_table s number key toward h = record {
  mark = h.mark;
  held = omega (arith, h.held, total_append open_bytes s.table (unbegun number key toward ∷ []));
  even = each_push IsEven s.table (unbegun number key toward) h.even (record { fore = balanced_dry; back = balanced_dry });
  came = omega (arith, h.came, total_append came_bytes s.table (unbegun number key toward ∷ []));
  count = h.count;
  refusals = h.refusals;
}

pub sound_opened : (s : State) (number : ℕ) (key : Key) (toward : Toward) → IsSound s → IsSound (with_conversation s number key toward)
sound_opened s number key toward h =
    let opened : IsSound (record s { table = s.table ++ unbegun number key toward ∷ [] }) = sound_table s number key toward h in
    record {
      mark = h.mark;
      held = omega (arith, opened.held, total_append (λ (u : Untold). bytes_in u.event) s.waiting (record { conv = number; event = Opened key toward } ∷ []));
      even = opened.even;
      came = opened.came;
      count = h.count;
      refusals = h.refusals;
    }

-- what a conversation's change makes of the table
table_with : (s : State) (i : ℕ) (c d : Conversation) (waiting : List Untold) (budget : BudgetParts) (book : List CoreEntry) (came more peak refused : ℕ) → IsSound s → i < length s.table
    → budget.limit ≡ s.budget.limit → IsEven c → came_bytes c ≡ came_bytes (get_or s.table i d) + came
    → open_bytes c + total (λ (u : Untold). bytes_in u.event) waiting ≡ open_bytes (get_or s.table i d) + total (λ (u : Untold). bytes_in u.event) s.waiting + more
    → budget.used ≡ s.budget.used + more → length s.book ≤ length book → refused ≤ length book
    → IsSound (record s { budget = budget; table = set s.table i c; waiting = waiting; book = book; came = s.came + came; peak = peak; refused = refused })
table_with s i c d waiting budget book came more peak refused h l limit even came_is held_is used count refusals = record {
  mark = omega (arith, h.mark, limit);
  held = omega (arith, h.held, used, held_is, total_set open_bytes s.table i c d l);
  even = each_set IsEven s.table i c h.even even;
  came = omega (arith, h.came, came_is, total_set came_bytes s.table i c d l);
  count = omega (arith, h.count, count);
  refusals = refusals;
}

-- a datagram is entered, whatever the book has behind its entries
pub sound_datagram : (s : State) (i conv : ℕ) (d : Conversation) (way : Way) (number now : ℕ) (payload : List ℕ) (book : List CoreEntry) (refused : ℕ) → IsSound s → i < length s.table → length s.book ≤ length book → refused ≤ length book
    → IsSound (record (with_datagram_at s i conv (get_or s.table i d) way number now payload) { book = book; refused = refused })
sound_datagram s i conv d way number now payload book refused h l count refusals =
    table_with s i (conversation_with way e (length payload) c) d (s.waiting ++ handed conv way e.over) e.budget book (length payload) (granted_by e.looks) (max s.peak e.budget.used) refused h l
    (budget_entered s.mark s.least s.budget (half_of way c) payload).1
    (even_with way e.flow (counted (sums_of way c) (length payload) e) c (each_at IsEven s.table i d h.even l) (balanced_entered s.mark s.least s.budget (half_of way c) (sums_of way c) payload even))
    (omega (arith, came_with way e.flow (counted (sums_of way c) (length payload) e) c, sent_behind s.mark s.least s.budget (half_of way c) payload))
    (omega (
      arith,
      open_with way e.flow (counted (sums_of way c) (length payload) e) c,
      bytes_entered s.mark s.least s.budget (half_of way c) (sums_of way c) payload even,
      total_append (λ (u : Untold). bytes_in u.event) s.waiting (handed conv way e.over),
      handed_bytes conv way e.over,
    ))
    (budget_entered s.mark s.least s.budget (half_of way c) payload).0 count refusals
  where
    c : Conversation
    c = get_or s.table i d

    e : Entry
    e = entered s.mark s.least s.budget (half_of way c) payload

    even : IsBalanced (half_of way c) (sums_of way c)
    even = even_half way c (each_at IsEven s.table i d h.even l)

-- a conversation ends, whatever waits behind its chunks without bytes
pub sound_end : (s : State) (i conv : ℕ) (d : Conversation) (more : List Untold) (book : List CoreEntry) → IsSound s → i < length s.table → length s.book ≤ length book
    → total (λ (u : Untold). bytes_in u.event) more ≡ 0
    → IsSound (record s { table = set s.table i (closed_half Back (closed_half Fore (get_or s.table i d))); waiting = s.waiting ++ handed conv Fore (chunk_list (get_or s.table i d).fore.chunk) ++ handed conv Back (chunk_list (get_or s.table i d).back.chunk) ++ more; book = book })
sound_end s i conv d more book h l count none = record {
  mark = ended.mark;
  held = ended.held;
  even = ended.even;
  came = omega (arith, ended.came);
  count = ended.count;
  refusals = ended.refusals;
}
  where
    c : Conversation
    c = get_or s.table i d

    next : Conversation
    next = closed_half Back (closed_half Fore c)

    waiting : List Untold
    waiting = s.waiting ++ handed conv Fore (chunk_list c.fore.chunk) ++ handed conv Back (chunk_list c.back.chunk) ++ more

    even : IsEven c
    even = each_at IsEven s.table i d h.even l

    all : total (λ (u : Untold). bytes_in u.event) waiting ≡ total (λ (u : Untold). bytes_in u.event) s.waiting + bytes_open c.fore.chunk + bytes_open c.back.chunk
    all =
        omega (
          arith,
          none,
          total_append (λ (u : Untold). bytes_in u.event) s.waiting (handed conv Fore (chunk_list c.fore.chunk)),
          total_append (λ (u : Untold). bytes_in u.event) (s.waiting ++ handed conv Fore (chunk_list c.fore.chunk)) (handed conv Back (chunk_list c.back.chunk)),
          total_append (λ (u : Untold). bytes_in u.event) (s.waiting ++ handed conv Fore (chunk_list c.fore.chunk) ++ handed conv Back (chunk_list c.back.chunk)) more,
          handed_bytes conv Fore (chunk_list c.fore.chunk),
          handed_bytes conv Back (chunk_list c.back.chunk),
          list_bytes c.fore.chunk,
          list_bytes c.back.chunk,
        )

    ended : IsSound (record s { budget = s.budget; table = set s.table i next; waiting = waiting; book = book; came = s.came + 0; peak = s.peak; refused = s.refused })
    ended =
        table_with s i next d waiting s.budget book 0 0 s.peak s.refused h l refl
        (record { fore = balanced_end c.fore c.fore_sums even.fore; back = balanced_end c.back c.back_sums even.back })
        (omega arith) (omega (arith, all)) (omega arith) count (omega (arith, h.refusals, count))

-- chunks that are put behind others, one after the other
pub handed_both : (conv : ℕ) (way : Way) (a b : List OpenChunk) → handed conv way (a ++ b) ≡ handed conv way a ++ handed conv way b
handed_both conv way [] b = refl
handed_both conv way (o ∷ a) b = ap (λ (l : List Untold). record { conv = conv; event = Handed way o } ∷ l) (handed_both conv way a b)

-- an entry more, or none
pub grown : {E : Type 0} (r : Result (Unit {0}) E) (old new : List CoreEntry) (entry : CoreEntry) → OnOk r (new ≡ old ++ entry ∷ []) → OnErr r (new ≡ old) → length old ≤ length new
grown (Ok x) old new entry ok err = omega (arith, ap (λ (l : List CoreEntry). length l) ok, length-append old (entry ∷ []))
grown (Err e) old new entry ok err = omega (arith, ap (λ (l : List CoreEntry). length l) err)
