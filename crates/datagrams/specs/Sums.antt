-- The running numbers of a direction of datagrams, and what they come to.
use Rattle.std.specs.Prelude.{◌≡◌, ⊤, ℕ, suc, ◌+◌, ◌-◌, ◌<◌, ◌≤◌, cond, nat_lt, List, [], ◌∷◌, ◌++◌, length, map, Option, Some, None}
use Rattle.evring.specs.declared.way.Way.{Way}
use Rattle.evring.specs.declared.way.Way.TheVariants.{Fore, Back}
use Rattle.streamdefs.specs.Lists.{total}
use Rattle.streamdefs.specs.Both.{Both, of_way, with_way}
use Rattle.streamdefs.specs.Terms.{Terms}
use Rattle.streamdefs.specs.Convo.{Delivery, new_convo, convo_after}
use Rattle.streamdefs.specs.Core.{Line, Open, history}
use Rattle.streamdefs.specs.Totals.{Total, total_of, gap_bytes}
use Rattle.streamdefs.specs.Report.{dir_line, bytes_line}
use Rattle.datagrams.specs.Flow.{Flow, OpenChunk, plain, piece_for, size, gap_before}
use Rattle.datagrams.specs.Table.{Kept}

-- a direction's bytes so far: those that came, were handed over, were granted, and were refused; and its gaps
pub record Sums : Type 0 where
  pub payload : ℕ
  pub delivered : ℕ
  pub taken : ℕ
  pub shed : ℕ
  pub gaps : ℕ
  pub gap_bytes : ℕ

-- before any datagram
abbrev pub no_sums : Sums
no_sums = record { payload = 0; delivered = 0; taken = 0; shed = 0; gaps = 0; gap_bytes = 0 }

-- with a chunk that is handed over
abbrev pub with_chunk : Sums → OpenChunk → Sums
with_chunk s o = record s { delivered = s.delivered + size o.parts; gaps = cond (nat_lt 0 o.gap) (suc s.gaps) s.gaps; gap_bytes = s.gap_bytes + o.gap }

abbrev pub with_chunks : Sums → List OpenChunk → Sums
with_chunks s [] = s
with_chunks s (o ∷ os) = with_chunks (with_chunk s o) os

-- with a datagram of so many bytes, of which so many were granted
abbrev pub with_datagram : Sums → (payload taken : ℕ) → Sums
with_datagram s payload taken = record s { payload = s.payload + payload; taken = s.taken + taken; shed = s.shed + (payload - taken) }

-- they are these totals
pub record HasSums (s : Sums) (total : Total) : Type 0 where
  pub payload : total.payload ≡ s.payload
  pub delivered : total.delivered ≡ s.delivered
  pub counts : total.counts ≡ record { duplicate = 0; late = 0; cut = 0; taken = s.taken; shed = s.shed }
  pub gaps : length total.gaps ≡ s.gaps
  pub gap_bytes : gap_bytes total ≡ s.gap_bytes

-- the delivery of a chunk
abbrev pub delivery_of : Way → OpenChunk → Delivery
delivery_of way o = record { way = way; piece = piece_for o; kept = [] }

-- what an entry brings to a direction: the bytes of its datagram, how many of them were granted, and the chunks handed over
pub record Brought : Type 0 where
  pub payload : ℕ
  pub taken : ℕ
  pub over : List OpenChunk

-- the numbers with it
abbrev pub with_brought : Sums → Brought → Sums
with_brought s b = with_chunks (with_datagram s b.payload b.taken) b.over

-- an entry that brings nothing there
abbrev pub nothing_brought : Brought
nothing_brought = record { payload = 0; taken = 0; over = [] }

-- the numbers of a conversation with an entry of one direction: a datagram, and the chunks that it hands over
abbrev pub with_entry : Way → (payload taken : ℕ) → List OpenChunk → Both Sums → Both Sums
with_entry way payload taken over sums = with_way way (with_brought (of_way way sums) (record { payload = payload; taken = taken; over = over })) sums

-- and with an End, and the chunks that it hands over of each direction
abbrev pub with_end : List OpenChunk → List OpenChunk → Both Sums → Both Sums
with_end fore back sums = record { fore = with_chunks sums.fore fore; back = with_chunks sums.back back }

-- the bytes of an open chunk
abbrev pub bytes_open : Option OpenChunk → ℕ
bytes_open None = 0
bytes_open (Some o) = size o.parts

-- The numbers of a direction by what is kept of it: each byte that came was granted or refused, each granted one was handed
-- over or is in the open chunk, and as many bytes and gaps lie before the front.
pub record IsBalanced (f : Flow) (s : Sums) : Type 0 where
  pub came : s.payload ≡ f.sent
  pub counted : s.payload ≡ s.taken + s.shed
  pub granted : s.taken ≡ s.delivered + bytes_open f.chunk
  pub placed : f.front ≡ s.delivered + s.gap_bytes + gap_before f.chunk + bytes_open f.chunk
  pub behind : f.front ≤ f.sent
  pub gaps : s.gaps ≤ s.gap_bytes

-- what is kept of a conversation, with its numbers
pub record Row : Type 0 where
  pub kept : Kept
  pub sums : Both Sums

abbrev pub kept_in : List Row → List Kept
kept_in rows = map (λ r. r.kept) rows

abbrev pub number_of : Row → ℕ
number_of r = r.kept.talk.id

-- the numbers of a conversation are its totals behind these lines of its core
pub record HasTally (t : Terms) (lines : List Line) (r : Row) (o : Open) : Type 0 where
  pub number : o.id ≡ number_of r
  pub convo_is : convo_after (plain t) (new_convo o.convo.first) (history o.id lines) ≡ o.convo
  pub fore : HasSums r.sums.fore (total_of (plain t) (new_convo o.convo.first) Fore (history o.id lines))
  pub back : HasSums r.sums.back (total_of (plain t) (new_convo o.convo.first) Back (history o.id lines))

-- those of all, in order
abbrev pub Tallies : Terms → List Line → List Row → List Open → Type 0
Tallies t lines [] [] = ⊤
Tallies t lines [] (o ∷ os) = ⊥
Tallies t lines (r ∷ rows) [] = ⊥
Tallies t lines (r ∷ rows) (o ∷ os) = HasTally t lines r o × Tallies t lines rows os

-- numbers that rise
abbrev pub IsBelow : ℕ → List ℕ → Type 0
IsBelow n [] = ⊤
IsBelow n (m ∷ ms) = n < m

abbrev pub Rises : List ℕ → Type 0
Rises [] = ⊤
Rises (n ∷ ns) = IsBelow n ns × Rises ns

-- the numbers of a direction's line of the report, in its order
abbrev pub numbers_in : Sums → List ℕ
numbers_in s = s.payload ∷ s.delivered ∷ 0 ∷ 0 ∷ 0 ∷ s.shed ∷ s.gaps ∷ s.gap_bytes ∷ []

-- the two lines of a conversation
abbrev pub row_lines : Row → List ℕ
row_lines r = dir_line (number_of r) Fore (numbers_in r.sums.fore) ++ dir_line (number_of r) Back (numbers_in r.sums.back)

-- a number over both directions
abbrev pub over_both : (Sums → ℕ) → Row → ℕ
over_both f r = f r.sums.fore + f r.sums.back

-- the line of all bytes
abbrev pub rows_line : List Row → List ℕ
rows_line rows = bytes_line (total (over_both (λ s. s.payload)) rows) (total (over_both (λ s. s.delivered)) rows) 0 0 0 (total (over_both (λ s. s.shed)) rows)
