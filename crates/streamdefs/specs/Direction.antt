-- One direction of a conversation: what each entry does to it, asks for, hands over and gives back.
use Rattle.std.specs.Prelude.{ℕ, suc, ◌+◌, ◌-◌, ◌%◌, ◌^◌, Bool, false, cond, not, ◌&&◌, ◌||◌, ◌==◌, nat_lt, nat_le, List, [], ◌∷◌, ◌++◌, length, drop, filter, fold, flat_map, Option, Some, None, ℤ, pos, unwrap_or, slice_get}
use Rattle.histbook.specs.declared.look_entry.LookEntry.{LookEntry}
use Rattle.streamdefs.specs.Terms.{Terms}
use Rattle.streamdefs.specs.Seqspace.{place}
use Rattle.streamdefs.specs.Reorder.{Charge, Placed, placed, put_run, settled}
use Rattle.streamdefs.specs.View.{View, opening, Fate, fate, is_fate, runs, Ask, run_asks, granted, passed, after_passing, never, always, above, least}
use Rattle.streamdefs.specs.View.Fate.{Late, Shown, Cut, Kept, Wanted}
use Rattle.streamdefs.specs.Pending.{Pending, nothing_pending, Piece, piece_of, spare_of, blocks, closed_by_gaps, pending_after, is_full, is_pending, is_flush_due, copy_asks, pending_behind}
use Rattle.streamdefs.specs.Lists.{how_many, is_empty}

-- strict or fast TCP, or UDP
pub data Kind : Type 0 where
  Strict : Kind
  Fast : Kind
  Datagrams : Kind

-- a packet as its direction sees it; live where its conversation has not ended and it has no RST
pub record Segment : Type 0 where
  pub seq : ℕ
  pub syn : Bool
  pub fin : Bool
  pub declared : ℕ
  pub payload : List ℕ
  pub moment : ℕ
  pub cutoff : Option ℕ
  pub live : Bool

-- an entry as a direction sees it, with its looks so far
pub data Deed : Type 0 where
  Arrives : Segment → List LookEntry → Deed
  Falls_due : ℕ → List LookEntry → Deed
  Ends : ℕ → Deed

-- What a prefix of a history makes of a direction: its base, the sum of its payload lengths, its FIN position, its view,
-- since when a hole stands, and what is pending.
pub record Direction : Type 0 where
  pub base : Option ℕ
  pub sent : ℕ
  pub fin : Option ℕ
  pub view : View
  pub hole : Option ℕ
  pub pending : Pending

-- before any entry
abbrev pub untouched : Direction
untouched = record { base = None; sent = 0; fin = None; view = opening; hole = None; pending = nothing_pending }

-- the sequence number of the payload's first byte: SYN takes one (RFC 9293, section 3.4)
abbrev pub payload_seq : Segment → ℕ
payload_seq s = cond s.syn ((s.seq + 1) % 2 ^ 32) s.seq

-- the base: that of the direction's first segment
abbrev pub base_with : Direction → Segment → ℕ
base_with d s = unwrap_or d.base (payload_seq s)

-- where a segment begins: by its sequence number, and a datagram at the sum of the lengths of all earlier ones
abbrev pub start_of : Kind → Direction → Segment → ℤ
start_of Datagrams d s = pos d.sent
start_of _ d s = place (base_with d s) (payload_seq s) d.view.front

-- the greater of 0 and a number past a start
abbrev pub past_start : ℤ → ℕ → ℕ
past_start (pos n) len = n + len
past_start (ℤ.negsuc n) len = len - suc n

-- a segment's bytes at their positions
abbrev pub bytes_of : Kind → Direction → Segment → List Placed
bytes_of kind d s = placed (start_of kind d s) s.payload

-- what becomes of a segment's byte
abbrev pub fate_in : Direction → Segment → Placed → Fate
fate_in d s p = fate d.view s.cutoff p.at

-- the runs that a segment asks for
abbrev pub runs_of : Kind → Direction → Segment → List (List Placed)
runs_of kind d s = cond s.live (runs d.view s.cutoff (bytes_of kind d s)) []

-- how many bytes may stand behind a hole before the front jumps it. A fast direction and UDP hold nothing
abbrev pub impatience : Terms → Kind → ℕ → Bool
impatience terms Strict = above terms.reorder
impatience terms _ = always

-- a hole stands since a moment that lies so long before this one
abbrev pub is_hole_due : Terms → ℕ → Option ℕ → Bool
is_hole_due terms at None = false
is_hole_due terms at (Some since) = since + terms.hole == at

-- what is held once the segment's reserved runs have joined it
abbrev pub held_with : Terms → Kind → Direction → Deed → List Placed
held_with terms kind d (Arrives s looks) =
    cond s.live
    (fold (λ held run. put_run run held) (settled terms.policy (filter (λ p. is_fate Kept (fate_in d s p)) (bytes_of kind d s)) d.view.held) (granted (runs_of kind d s) looks))
    d.view.held
held_with terms kind d _ = d.view.held

-- what the entry passes
abbrev pub gone_by : Terms → Kind → Direction → Deed → List Placed
gone_by terms kind d (Arrives s looks) = cond s.live (passed (impatience terms kind) d.view.front (held_with terms kind d (Arrives s looks))) []
gone_by terms kind d (Falls_due at looks) = cond (is_hole_due terms at d.hole) (passed never (least d.view.front d.view.held) d.view.held) []
gone_by terms kind d (Ends at) = passed always d.view.front d.view.held

-- the view after the entry
abbrev pub view_after : Terms → Kind → Direction → Deed → View
view_after terms kind d deed = after_passing d.view (held_with terms kind d deed) (gone_by terms kind d deed)

-- the moment of the entry
abbrev pub moment_of : Deed → ℕ
moment_of (Arrives s looks) = s.moment
moment_of (Falls_due at looks) = at
moment_of (Ends at) = at

-- A hole stands since the moment of the latest entry that left held bytes, and either moved the front or found nothing held.
abbrev pub hole_after : ℕ → Option ℕ → View → View → Option ℕ
hole_after moment since before after = stands after.held
  where
    stands : List Placed → Option ℕ
    stands [] = None
    stands (h ∷ hs) = cond (not (before.front == after.front) || is_empty before.held) (Some moment) since

-- what the gaps of the entry close
abbrev pub blocks_of : Terms → Kind → Direction → Deed → List Pending
blocks_of terms kind d deed = closed_by_gaps (moment_of deed) d.pending (blocks d.view.front (gone_by terms kind d deed))

-- what is pending as the entry ends, before the last cut
abbrev pub last_pending : Terms → Kind → Direction → Deed → Pending
last_pending terms kind d deed = pending_after (moment_of deed) d.pending (blocks d.view.front (gone_by terms kind d deed))

-- whether the entry hands that over
abbrev pub is_cut : Terms → Deed → Pending → Bool
is_cut terms (Arrives s looks) p = is_full terms p
is_cut terms (Falls_due at looks) p = is_full terms p || is_flush_due terms at p
is_cut terms (Ends at) p = is_pending p

-- the entry's deliveries in this direction
abbrev pub pieces_by : Terms → Kind → Direction → Deed → List Piece
pieces_by terms kind d deed =
    let last = last_pending terms kind d deed in
    flat_map piece_of (blocks_of terms kind d deed) ++ cond (is_cut terms deed last) (piece_of last) []

-- the entry's looks so far
abbrev pub looks_of : Deed → List LookEntry
looks_of (Arrives s looks) = looks
looks_of (Falls_due at looks) = looks
looks_of (Ends at) = []

-- its asks for runs
abbrev pub asks_for_runs : Kind → Direction → Deed → List Ask
asks_for_runs kind d (Arrives s looks) = run_asks (runs_of kind d s) looks
asks_for_runs kind d _ = []

-- the looks that the asks for runs leave
abbrev pub looks_left : Kind → Direction → Deed → List LookEntry
looks_left kind d deed = drop (length (asks_for_runs kind d deed)) (looks_of deed)

-- its ask for a copy, given what is pending as it ends
abbrev pub copy_asks_of : Terms → Deed → Pending → List Ask
copy_asks_of terms (Ends at) last = []
copy_asks_of terms deed last = cond (is_cut terms deed last) (copy_asks terms last) []

-- The entry's asks in this direction, given its looks so far: those that have their look, and the next one where there is one.
abbrev pub asks_by : Terms → Kind → Direction → Deed → List Ask
asks_by terms kind d deed =
    let for_runs = asks_for_runs kind d deed in
    let copies = copy_asks_of terms deed (last_pending terms kind d deed) in
    for_runs ++ cond (nat_le (length for_runs) (length (looks_of deed))) copies []

-- The charges that the entry gives back: of a copy that no fresh byte has followed when a gap or the End comes.
abbrev pub spares_by : Terms → Kind → Direction → Deed → List Charge
spares_by terms kind d deed = flat_map spare_of (blocks_of terms kind d deed) ++ at_end deed
  where
    at_end : Deed → List Charge
    at_end (Ends at) = spare_of (last_pending terms kind d deed)
    at_end _ = []

-- what is pending after the entry
abbrev pub pending_by : Terms → Kind → Direction → Deed → Pending
pending_by terms kind d (Ends at) = nothing_pending
pending_by terms kind d deed =
    let last = last_pending terms kind d deed in
    cond (is_cut terms deed last) (pending_behind terms last (looks_left kind d deed)) last

-- the FIN position: where the first segment with FIN ends, by the length that its header declares
abbrev pub fin_after : Kind → Direction → Segment → Option ℕ
fin_after kind d s = known d.fin
  where
    known : Option ℕ → Option ℕ
    known (Some position) = Some position
    known None = cond s.fin (Some (past_start (start_of kind d s) s.declared)) None

-- the direction after the entry
abbrev pub direction_after : Terms → Kind → Direction → Deed → Direction
direction_after terms kind d deed = record {
  base = base_by deed;
  sent = sent_by deed;
  fin = fin_by deed;
  view = view_after terms kind d deed;
  hole = hole_after (moment_of deed) d.hole d.view (view_after terms kind d deed);
  pending = pending_by terms kind d deed;
}
  where
    base_by : Deed → Option ℕ
    base_by (Arrives s looks) = Some (base_with d s)
    base_by _ = d.base

    sent_by : Deed → ℕ
    sent_by (Arrives s looks) = d.sent + length s.payload
    sent_by _ = d.sent

    fin_by : Deed → Option ℕ
    fin_by (Arrives s looks) = fin_after kind d s
    fin_by _ = d.fin

-- a direction after entries
abbrev pub direction_at : Terms → Kind → Direction → List Deed → Direction
direction_at terms kind d [] = d
direction_at terms kind d (deed ∷ deeds) = direction_at terms kind (direction_after terms kind d deed) deeds

-- how many bytes of a segment have each class
pub record Counts : Type 0 where
  pub duplicate : ℕ
  pub late : ℕ
  pub cut : ℕ
  pub taken : ℕ
  pub shed : ℕ

-- of an entry without bytes
abbrev pub no_counts : Counts
no_counts = record { duplicate = 0; late = 0; cut = 0; taken = 0; shed = 0 }

-- the number of bytes in runs
abbrev pub lengths : List (List Placed) → ℕ
lengths [] = 0
lengths (run ∷ rest) = length run + lengths rest

-- The counts of the entry's bytes. Those of a segment that is not live are late; so are those at positions below 0.
abbrev pub counts_by : Kind → Direction → Deed → Counts
counts_by kind d (Arrives s looks) = cond s.live live (record no_counts { late = length s.payload })
  where
    bytes : List Placed
    bytes = bytes_of kind d s

    with_fate : Fate → ℕ
    with_fate f = how_many (λ p. is_fate f (fate_in d s p)) bytes

    taken : ℕ
    taken = lengths (granted (runs_of kind d s) looks)

    live : Counts
    live = record {
      duplicate = with_fate Shown + with_fate Kept;
      late = (length s.payload - length bytes) + with_fate Late;
      cut = with_fate Cut;
      taken = taken;
      shed = with_fate Wanted - taken;
    }
counts_by kind d _ = no_counts

-- all of them
abbrev pub sum_of : Counts → ℕ
sum_of c = c.duplicate + c.late + c.cut + c.taken + c.shed

-- when a hole falls due
abbrev pub hole_due : Terms → Direction → List ℕ
hole_due terms d = due d.hole
  where
    due : Option ℕ → List ℕ
    due None = []
    due (Some since) = (since + terms.hole) ∷ []

-- when what is pending falls due
abbrev pub flush_due : Terms → Direction → List ℕ
flush_due terms d = cond (is_pending d.pending && nat_lt 0 terms.flush) ((d.pending.since + terms.flush) ∷ []) []

-- both
abbrev pub dues_in : Terms → Direction → List ℕ
dues_in terms d = hole_due terms d ++ flush_due terms d

-- what an entry wants next: an ask, a release, or nothing
pub data Next : Type 0 where
  Asks : Ask → Next
  Gives : Charge → Next
  Rests : Next

-- the release of the next charge, where there is one
abbrev pub gives_at : List Charge → ℕ → Next
gives_at charges given = gives (slice_get charges given)
  where
    gives : Option Charge → Next
    gives (Some charge) = Gives charge
    gives None = Rests

-- What the entry wants next in this direction, with so many of its spare charges given back: its asks, then its releases.
abbrev pub next_by : Terms → Kind → Direction → Deed → ℕ → Next
next_by terms kind d deed given = ask (slice_get (asks_by terms kind d deed) (length (looks_of deed)))
  where
    ask : Option Ask → Next
    ask (Some a) = Asks a
    ask None = gives_at (spares_by terms kind d deed) given

-- the entry with one look more
abbrev pub with_one_look : LookEntry → Deed → Deed
with_one_look look (Arrives s looks) = Arrives s (looks ++ look ∷ [])
with_one_look look (Falls_due at looks) = Falls_due at (looks ++ look ∷ [])
with_one_look look (Ends at) = Ends at
