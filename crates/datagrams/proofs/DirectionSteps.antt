-- What entries do to a direction of datagrams, by what is kept of it.
use Rattle.streamdefs.specs.Lists.{is_empty, how_many}
use Rattle.std.specs.Prelude.{◌≡◌, refl, ⊤, ℕ, suc, ◌+◌, ◌-◌, ◌≤◌, ◌<◌, Bool, true, false, cond, not, ◌&&◌, ◌==◌, nat_le, List, [], ◌∷◌, ◌++◌, length, fold, map, flat_map, Option, None, Some, ℤ, pos}
use Rattle.std.proofs.lemmas.Bool.Decides.{nat_tests}
use Rattle.std.proofs.lemmas.List.{length-append, map-append}
use Rattle.std.proofs.Common.{sym, ◌∙◌, ap, subst, arith, append-nil}
use Rattle.histbook.specs.declared.look_entry.LookEntry.{LookEntry}
use Rattle.streamdefs.specs.Terms.{Terms}
use Rattle.streamdefs.specs.Reorder.{Placed, placed_from, put_run}
use Rattle.streamdefs.specs.View.{Fate, fate, is_fate, after_passing, granted, charge_of, charged, passed, always, run_asks, ask_for_run, Ask}
use Rattle.streamdefs.specs.Pending.{Pending, piece_of, spare_of, blocks, closed_by_gaps, pending_after, grown, begun, is_full, nothing_pending}
use Rattle.streamdefs.specs.Direction.{Direction, Segment, Deed, runs_of, held_with, gone_by, pieces_by, asks_by, spares_by, direction_after, last_pending, pending_by, view_after, hole_after, counts_by, no_counts, lengths, fate_in}
use Rattle.streamdefs.specs.View.Fate.{Late, Shown, Cut, Kept, Wanted}
use Rattle.streamdefs.specs.Direction.Kind.{Datagrams}
use Rattle.streamdefs.specs.Direction.Deed.{Arrives, Ends}
use Rattle.datagrams.specs.Flow.{Paid, OpenChunk, Flow, charge_for, piece_for, begun_with, chunk_with, granted_to, refused_to, chunk_list, closed_by_gap, is_ready, handed_over, left_open, with_charge, placed_part, placed_parts, placed_chunk, gap_before, IsFilled, EndsAt, StandsFor, IsDatagram, plain, part_of}
use Rattle.datagrams.proofs.FlowLemmas.{one_run, one_block, passed_always, drop_all, front_behind, placed_push, placed_length, length_placed, piece_is, size_push, filled_push}
use Rattle.datagrams.specs.Steps.{Does, taken_of}

-- the direction that a flow stands for, by what isn't kept of it
abbrev pub shape : Option ℕ → List Placed → ℕ → Flow → Direction
shape base flow since f = record {
  base = base;
  sent = f.sent;
  fin = None;
  view = record { front = f.front; held = []; flow = flow };
  hole = None;
  pending = record { gap = gap_before f.chunk; since = since; bytes = placed_chunk f.chunk; copy = None };
}

pub shape_of : (f : Flow) (d : Direction) → StandsFor f d → d ≡ shape d.base d.view.flow d.pending.since f
shape_of f d st = λ i. record {
  base = d.base;
  sent = st.sent i;
  fin = st.fin i;
  view = record { front = st.front i; held = st.held i; flow = d.view.flow };
  hole = st.hole i;
  pending = record { gap = st.gap i; since = d.pending.since; bytes = st.bytes i; copy = st.copy i };
}

-- a datagram, by what else its segment has
abbrev pub arriving : Segment → List ℕ → Segment
arriving s payload = record s { fin = false; payload = payload; cutoff = None; live = true }

pub arriving_of : (s : Segment) (payload : List ℕ) → IsDatagram s payload → s ≡ arriving s payload
arriving_of s payload is = λ i. record s { fin = is.fin i; payload = is.payload_is i; cutoff = is.cutoff i; live = is.live i }

-- Pending bytes, by an open chunk.

abbrev pub pend : ℕ → Option OpenChunk → Pending
pend since c = record { gap = gap_before c; since = since; bytes = placed_chunk c; copy = None }

-- an open chunk has parts, none of them empty
abbrev pub HasParts : Option OpenChunk → Type 0
HasParts None = ⊤
HasParts (Some o) = (0 < length o.parts) × IsFilled o.parts

pub ends_parts : (front : ℕ) (c : Option OpenChunk) → EndsAt front c → HasParts c
ends_parts front None h = tt
ends_parts front (Some o) h = (h.1, h.2)

some_bytes : (start : ℕ) (parts : List Paid) → 0 < length parts → IsFilled parts → not (is_empty (placed_parts start parts)) ≡ true
some_bytes start [] n h = absurd (omega arith)
some_bytes start (part ∷ parts) n h = by part.bytes h.0
  where
    by : (bytes : List ℕ) → 0 < length bytes → not (is_empty (placed_parts start (record part { bytes = bytes } ∷ parts))) ≡ true
    by [] m = absurd (omega arith)
    by (b ∷ bytes) m = refl

-- a chunk is handed over where it is full
full_is : (t : Terms) (since : ℕ) (c : Option OpenChunk) → HasParts c → is_full (plain t) (pend since c) ≡ is_ready t.chunk c
full_is t since None h = refl
full_is t since (Some o) h =
    ap (λ e. e && nat_le t.chunk (length (placed_parts o.start o.parts))) (some_bytes o.start o.parts h.0 h.1)
    ∙ ap (λ n. nat_le t.chunk n) (placed_length o.start o.parts)

pieces_are : (since : ℕ) (c : Option OpenChunk) → HasParts c → piece_of (pend since c) ≡ map piece_for (chunk_list c)
pieces_are since None h = refl
pieces_are since (Some o) h = piece_is o.gap since o.start o.parts h.0 h.1

pub cut_pieces : (t : Terms) (since : ℕ) (c : Option OpenChunk) → HasParts c
    → cond (is_full (plain t) (pend since c)) (piece_of (pend since c)) [] ≡ map piece_for (cond (is_ready t.chunk c) (chunk_list c) [])
cut_pieces t since c h =
    ap (λ full. cond full (piece_of (pend since c)) []) (full_is t since c h) ∙ by (is_ready t.chunk c)
  where
    by : (ready : Bool) → cond ready (piece_of (pend since c)) [] ≡ map piece_for (cond ready (chunk_list c) [])
    by true = pieces_are since c h
    by false = refl

-- what is left pending behind that
pub cut_pending : (t : Terms) (since : ℕ) (c : Option OpenChunk) → HasParts c
    → (σ : ℕ) × (cond (is_full (plain t) (pend since c)) nothing_pending (pend since c) ≡ pend σ (cond (is_ready t.chunk c) None c))
cut_pending t since c h = by (is_ready t.chunk c) (full_is t since c h)
  where
    by : (ready : Bool) → is_full (plain t) (pend since c) ≡ ready
        → (σ : ℕ) × (cond (is_full (plain t) (pend since c)) nothing_pending (pend since c) ≡ pend σ (cond ready None c))
    by true e = (0, ap (λ full. cond full nothing_pending (pend since c)) e)
    by false e = (since, ap (λ full. cond full nothing_pending (pend since c)) e)

-- A block behind a gap, or behind none.

no_gap : (a b : ℕ) → b ≤ a → (a - b == 0) ≡ (a == b)
no_gap a b h = grind (arith, nat_tests)

same_front : (f : Flow) → (f.sent == f.front) ≡ true → f.sent ≡ f.front
same_front f q = grind (arith, nat_tests)

none_between : (f : Flow) → f.front ≤ f.sent → (f.sent == f.front) ≡ true → 0 ≡ f.sent - f.front
none_between f h q = omega (arith, same_front f q)

grown_is : (since moment : ℕ) (o : OpenChunk) (more : List Placed) → 0 < length o.parts → IsFilled o.parts
    → grown moment (pend since (Some o)) more ≡ record { gap = o.gap; since = since; bytes = placed_parts o.start o.parts ++ more; copy = None }
grown_is since moment o more n h = by o.parts n h
  where
    cons : (first : Paid) (parts : List Paid) (bytes : List ℕ) → 0 < length bytes
        → grown moment (pend since (Some (record o { parts = record first { bytes = bytes } ∷ parts }))) more ≡ record { gap = o.gap; since = since; bytes = placed_parts o.start (record first { bytes = bytes } ∷ parts) ++ more; copy = None }
    cons first parts [] m = absurd (omega arith)
    cons first parts (b ∷ bytes) m = refl

    by : (parts : List Paid) → 0 < length parts → IsFilled parts
        → grown moment (pend since (Some (record o { parts = parts }))) more ≡ record { gap = o.gap; since = since; bytes = placed_parts o.start parts ++ more; copy = None }
    by [] m k = absurd (omega arith)
    by (first ∷ parts) m k = cons first parts first.bytes k.0

-- what a gap before it closes
pub closed_with : (f : Flow) (since moment : ℕ) (part : Paid) → f.front ≤ f.sent → EndsAt f.front f.chunk
    → flat_map piece_of (closed_by_gaps moment (pend since f.chunk) (record { gap = f.sent - f.front; bytes = placed_part f.sent part } ∷ [])) ≡ map piece_for (closed_by_gap f)
closed_with f since moment part h e =
    ap (λ none. flat_map piece_of (cond none [] (pend since f.chunk ∷ []))) (no_gap f.sent f.front h) ∙ by (f.sent == f.front)
  where
    by : (same : Bool) → flat_map piece_of (cond same [] (pend since f.chunk ∷ [])) ≡ map piece_for (cond same [] (chunk_list f.chunk))
    by true = refl
    by false = append-nil (piece_of (pend since f.chunk)) ∙ pieces_are since f.chunk (ends_parts f.front f.chunk e)

-- the chunk that it joins ends at the front
pub chunk_ends : (f : Flow) (part : Paid) → f.front ≤ f.sent → EndsAt f.front f.chunk → 0 < length part.bytes → EndsAt (f.sent + length part.bytes) (Some (chunk_with f part f.chunk))
chunk_ends f part h e n = by f.chunk e (f.sent == f.front) refl
  where
    begins : EndsAt (f.sent + length part.bytes) (Some (begun_with f part))
    begins = (omega arith, omega arith, (n, tt))

    joins : (o : OpenChunk) → EndsAt f.front (Some o) → f.sent ≡ f.front → EndsAt (f.sent + length part.bytes) (Some (record o { parts = o.parts ++ part ∷ [] }))
    joins o w q = (omega (arith, w.0, q, size_push o.parts part), omega (arith, length-append o.parts (part ∷ []), w.1), filled_push o.parts part w.2 n)

    by : (c : Option OpenChunk) → EndsAt f.front c → (same : Bool) → (f.sent == f.front) ≡ same → EndsAt (f.sent + length part.bytes) (Some (chunk_with f part c))
    by None w same q = begins
    by (Some o) w true q = subst (λ (same : Bool). EndsAt (f.sent + length part.bytes) (Some (cond same (record o { parts = o.parts ++ part ∷ [] }) (begun_with f part)))) (sym q) (joins o w (same_front f q))
    by (Some o) w false q = subst (λ (same : Bool). EndsAt (f.sent + length part.bytes) (Some (cond same (record o { parts = o.parts ++ part ∷ [] }) (begun_with f part)))) (sym q) begins

-- what is pending with a datagram that was granted
pub pending_with : (f : Flow) (since moment : ℕ) (part : Paid) → f.front ≤ f.sent → EndsAt f.front f.chunk → 0 < length part.bytes
    → (σ : ℕ) × (pending_after moment (pend since f.chunk) (record { gap = f.sent - f.front; bytes = placed_part f.sent part } ∷ []) ≡ pend σ (Some (chunk_with f part f.chunk)))
pending_with f since moment part h e n = by f.chunk e (f.sent == f.front) refl
  where
    lone : placed_part f.sent part ≡ placed_parts f.sent (part ∷ [])
    lone = sym (append-nil (placed_part f.sent part))

    begins : begun moment (record { gap = f.sent - f.front; bytes = placed_part f.sent part }) ≡ pend moment (Some (begun_with f part))
    begins = λ i. record { gap = f.sent - f.front; since = moment; bytes = lone i; copy = None }

    by : (c : Option OpenChunk) → EndsAt f.front c → (same : Bool) → (f.sent == f.front) ≡ same
        → (σ : ℕ) × (cond (f.sent - f.front == 0) (grown moment (pend since c) (placed_part f.sent part)) (begun moment (record { gap = f.sent - f.front; bytes = placed_part f.sent part })) ≡ pend σ (Some (chunk_with f part c)))
    by None w true q = (
      moment,
      ap (λ none. cond none (grown moment (pend since None) (placed_part f.sent part)) (begun moment (record { gap = f.sent - f.front; bytes = placed_part f.sent part }))) (no_gap f.sent f.front h ∙ q)
          ∙ (λ i. record { gap = none_between f h q i; since = moment; bytes = lone i; copy = None }),
    )
    by None w false q = (
      moment,
      ap (λ none. cond none (grown moment (pend since None) (placed_part f.sent part)) (begun moment (record { gap = f.sent - f.front; bytes = placed_part f.sent part }))) (no_gap f.sent f.front h ∙ q)
          ∙ begins,
    )
    by (Some o) w true q = (
      since,
      ap (λ none. cond none (grown moment (pend since (Some o)) (placed_part f.sent part)) (begun moment (record { gap = f.sent - f.front; bytes = placed_part f.sent part }))) (no_gap f.sent f.front h ∙ q)
          ∙ grown_is since moment o (placed_part f.sent part) w.1 w.2
          ∙ (λ i. record { gap = o.gap; since = since; bytes = (ap (λ n. placed_parts o.start o.parts ++ placed_part n part) (sym (w.0 ∙ sym (same_front f q))) ∙ sym (placed_push o.start o.parts part)) i; copy = None })
          ∙ ap (λ same. pend since (Some (cond same (record o { parts = o.parts ++ part ∷ [] }) (begun_with f part)))) (sym q),
    )
    by (Some o) w false q = (
      moment,
      ap (λ none. cond none (grown moment (pend since (Some o)) (placed_part f.sent part)) (begun moment (record { gap = f.sent - f.front; bytes = placed_part f.sent part }))) (no_gap f.sent f.front h ∙ q)
          ∙ begins
          ∙ ap (λ same. pend moment (Some (cond same (record o { parts = o.parts ++ part ∷ [] }) (begun_with f part)))) (sym q),
    )

-- nothing kept is given back
no_spare : (since : ℕ) (c : Option OpenChunk) → spare_of (pend since c) ≡ []
no_spare since c = by (placed_chunk c)
  where
    by : (bytes : List Placed) → spare_of (record { gap = gap_before c; since = since; bytes = bytes; copy = None }) ≡ []
    by [] = refl
    by (p ∷ ps) = refl

left_ends : (ready : Bool) (front : ℕ) (c : Option OpenChunk) → EndsAt front c → EndsAt front (cond ready None c)
left_ends true front c e = tt
left_ends false front c e = e

-- A look at a run is granted: the run is passed.
module _ (t : Terms) (base : Option ℕ) (flow : List Placed) (since : ℕ) (f : Flow) (s : Segment) (b : ℕ) (bytes : List ℕ) (look : LookEntry) where
  abbrev pub d : Direction
  d = shape base flow since f

  abbrev pub here : Segment
  here = arriving s (b ∷ bytes)

  abbrev pub deed : Deed
  deed = Arrives here (look ∷ [])

  abbrev pub run : List Placed
  run = with_charge (charge_of look) (placed_from f.sent (pos f.sent) (b ∷ bytes))

  given : List (List Placed) → List Placed
  given rs = fold (λ held r. put_run r held) [] (granted rs (look ∷ []))

  answered : Bool → List Placed
  answered answer = fold (λ held r. put_run r held) [] (cond answer (run ∷ []) [])

  pub runs_are : f.front ≤ f.sent → runs_of Datagrams d here ≡ placed_from f.sent (pos f.sent) (b ∷ bytes) ∷ []
  runs_are h = one_run f.front f.sent flow b bytes h

  pub held_granted : f.front ≤ f.sent → look.granted ≡ true → held_with (plain t) Datagrams d deed ≡ run
  unfolding given answered
  held_granted h g = ap given (runs_are h) ∙ ap answered g

  pub held_refused : f.front ≤ f.sent → look.granted ≡ false → held_with (plain t) Datagrams d deed ≡ []
  unfolding given answered
  held_refused h g = ap given (runs_are h) ∙ ap answered g

  pub gone_granted : f.front ≤ f.sent → look.granted ≡ true → gone_by (plain t) Datagrams d deed ≡ run
  gone_granted h g = ap (λ held. passed always f.front held) (held_granted h g) ∙ passed_always f.front run

  pub gone_refused : f.front ≤ f.sent → look.granted ≡ false → gone_by (plain t) Datagrams d deed ≡ []
  gone_refused h g = ap (λ held. passed always f.front held) (held_refused h g)

  asks_end : (g full : Bool) (a : Ask) → (a ∷ cond g [] []) ++ cond (nat_le (length (a ∷ cond g [] [])) 1) (cond full [] []) [] ≡ a ∷ []
  asks_end true true a = refl
  asks_end true false a = refl
  asks_end false true a = refl
  asks_end false false a = refl

  pub asks_are : f.front ≤ f.sent → asks_by (plain t) Datagrams d deed ≡ record { bytes = suc (length bytes); from = Some f.sent } ∷ []
  asks_are h =
      ap (λ rs. run_asks rs (look ∷ []) ++ cond (nat_le (length (run_asks rs (look ∷ []))) 1) (cond (is_full (plain t) (last_pending (plain t) Datagrams d deed)) [] []) []) (runs_are h)
      ∙ asks_end look.granted (is_full (plain t) (last_pending (plain t) Datagrams d deed)) (ask_for_run (placed_from f.sent (pos f.sent) (b ∷ bytes)))
      ∙ (λ i. record { bytes = suc (length_placed (suc f.sent) (pos f.sent) bytes i); from = Some f.sent } ∷ [])

-- what the entry passes, where the look is granted: the datagram
granted_run : (f : Flow) (b : ℕ) (bytes : List ℕ) (look : LookEntry) → look.asked ≡ suc (length bytes)
    → with_charge (charge_of look) (placed_from f.sent (pos f.sent) (b ∷ bytes)) ≡ placed_part f.sent (part_of (b ∷ bytes) look)
granted_run f b bytes look asked = λ i. with_charge (record { bytes = asked i; stamp = look.look.stamp }) (placed_from f.sent (pos f.sent) (b ∷ bytes))

module _ (t : Terms) (base : Option ℕ) (flow : List Placed) (since : ℕ) (f : Flow) (s : Segment) (b : ℕ) (bytes : List ℕ) (look : LookEntry)
    (behind : f.front ≤ f.sent) (ends : EndsAt f.front f.chunk) (asked : look.asked ≡ suc (length bytes)) (yes_granted : look.granted ≡ true) where
  abbrev part : Paid
  part = part_of (b ∷ bytes) look

  abbrev dir : Direction
  dir = shape base flow since f

  abbrev act : Deed
  act = Arrives (arriving s (b ∷ bytes)) (look ∷ [])

  n_part : 0 < length (b ∷ bytes)
  n_part = omega arith

  gone_is : gone_by (plain t) Datagrams dir act ≡ placed_part f.sent part
  gone_is = gone_granted t base flow since f s b bytes look behind yes_granted ∙ granted_run f b bytes look asked

  held_is : held_with (plain t) Datagrams dir act ≡ placed_part f.sent part
  held_is = held_granted t base flow since f s b bytes look behind yes_granted ∙ granted_run f b bytes look asked

  blocks_are : blocks f.front (gone_by (plain t) Datagrams dir act) ≡ record { gap = f.sent - f.front; bytes = placed_part f.sent part } ∷ []
  blocks_are = ap (blocks f.front) gone_is ∙ one_block f.front f.sent b bytes (charge_for part)

  last_is : (σ : ℕ) × (last_pending (plain t) Datagrams dir act ≡ pend σ (Some (chunk_with f part f.chunk)))
  last_is =
      let made = pending_with f since s.moment part behind ends n_part in
      (made.0, ap (pending_after s.moment (pend since f.chunk)) blocks_are ∙ made.1)

  parts_of : HasParts (Some (chunk_with f part f.chunk))
  parts_of = ends_parts (f.sent + length part.bytes) (Some (chunk_with f part f.chunk)) (chunk_ends f part behind ends n_part)

  -- what it hands over
  pub granted_pieces : pieces_by (plain t) Datagrams dir act ≡ map piece_for (closed_by_gap f ++ handed_over t.chunk (granted_to f part))
  granted_pieces =
      ap (λ bl. flat_map piece_of (closed_by_gaps s.moment (pend since f.chunk) bl) ++ cond (is_full (plain t) (last_pending (plain t) Datagrams dir act)) (piece_of (last_pending (plain t) Datagrams dir act)) []) blocks_are
      ∙ ap (λ ps. ps ++ cond (is_full (plain t) (last_pending (plain t) Datagrams dir act)) (piece_of (last_pending (plain t) Datagrams dir act)) []) (closed_with f since s.moment part behind ends)
      ∙ ap (λ last. map piece_for (closed_by_gap f) ++ cond (is_full (plain t) last) (piece_of last) []) last_is.1
      ∙ ap (λ ps. map piece_for (closed_by_gap f) ++ ps) (cut_pieces t last_is.0 (Some (chunk_with f part f.chunk)) parts_of)
      ∙ sym (map-append piece_for (closed_by_gap f) (handed_over t.chunk (granted_to f part)))

  -- it gives nothing back
  pub granted_spares : spares_by (plain t) Datagrams dir act ≡ []
  granted_spares =
      ap (λ bl. flat_map spare_of (closed_by_gaps s.moment (pend since f.chunk) bl) ++ []) blocks_are ∙ none (f.sent - f.front == 0) f.chunk
    where
      none : (same : Bool) (c : Option OpenChunk) → flat_map spare_of (cond same [] (pend since c ∷ [])) ++ [] ≡ []
      none true c = refl
      none false c = ap (λ cs. (cs ++ []) ++ []) (no_spare since c)

  view_is : view_after (plain t) Datagrams dir act ≡ record { front = f.sent + suc (length bytes); held = []; flow = flow ++ placed_part f.sent part }
  view_is =
      (λ i. after_passing dir.view (held_is i) (gone_is i))
      ∙ (λ i. record { front = front_behind f.front f.sent (pos f.sent) b bytes (charge_for part) i; held = drop_all (placed_part f.sent part) i; flow = flow ++ placed_part f.sent part })

  pending_is : (σ : ℕ) × (pending_by (plain t) Datagrams dir act ≡ pend σ (cond (is_ready t.chunk (Some (chunk_with f part f.chunk))) None (Some (chunk_with f part f.chunk))))
  pending_is =
      let cut = cut_pending t last_is.0 (Some (chunk_with f part f.chunk)) parts_of in
      (cut.0, ap (λ last. cond (is_full (plain t) last) nothing_pending last) last_is.1 ∙ cut.1)

  -- and the direction stands for the flow with it
  pub granted_stands : StandsFor (left_open t.chunk (granted_to f part)) (direction_after (plain t) Datagrams dir act)
  granted_stands = record {
    sent = refl;
    front = ap (λ v. v.front) view_is;
    behind = omega arith;
    held = ap (λ v. v.held) view_is;
    hole = no_hole (ap (λ v. v.held) view_is);
    fin = refl;
    copy = ap (λ p. p.copy) pending_is.1;
    gap = ap (λ p. p.gap) pending_is.1;
    bytes = ap (λ p. p.bytes) pending_is.1;
    whole = left_ends (is_ready t.chunk (Some (chunk_with f part f.chunk))) (f.sent + suc (length bytes)) (Some (chunk_with f part f.chunk)) (chunk_ends f part behind ends n_part);
  }
    where
      no_hole : (direction_after (plain t) Datagrams dir act).view.held ≡ [] → (direction_after (plain t) Datagrams dir act).hole ≡ None
      no_hole e = ap (λ held. hole_after s.moment None dir.view (record (view_after (plain t) Datagrams dir act) { held = held })) e

-- An entry that passes nothing: a datagram that was refused, or has no bytes.
module _ (t : Terms) (base : Option ℕ) (flow : List Placed) (since : ℕ) (f : Flow) (s : Segment) (payload : List ℕ) (looks : List LookEntry)
    (behind : f.front ≤ f.sent) (ends : EndsAt f.front f.chunk)
    (held_none : held_with (plain t) Datagrams (shape base flow since f) (Arrives (arriving s payload) looks) ≡ []) where
  abbrev still : Deed
  still = Arrives (arriving s payload) looks

  abbrev at_rest : Direction
  at_rest = shape base flow since f

  gone_none : gone_by (plain t) Datagrams at_rest still ≡ []
  gone_none = ap (λ held. passed always f.front held) held_none

  last_same : last_pending (plain t) Datagrams at_rest still ≡ pend since f.chunk
  last_same = ap (λ gone. pending_after s.moment (pend since f.chunk) (blocks f.front gone)) gone_none

  still_pieces : pieces_by (plain t) Datagrams at_rest still ≡ map piece_for (handed_over t.chunk (refused_to f (length payload)))
  still_pieces =
      ap (λ gone. flat_map piece_of (closed_by_gaps s.moment (pend since f.chunk) (blocks f.front gone)) ++ cond (is_full (plain t) (last_pending (plain t) Datagrams at_rest still)) (piece_of (last_pending (plain t) Datagrams at_rest still)) []) gone_none
      ∙ ap (λ last. cond (is_full (plain t) last) (piece_of last) []) last_same
      ∙ cut_pieces t since f.chunk (ends_parts f.front f.chunk ends)

  still_spares : spares_by (plain t) Datagrams at_rest still ≡ []
  still_spares = ap (λ gone. flat_map spare_of (closed_by_gaps s.moment (pend since f.chunk) (blocks f.front gone)) ++ []) gone_none

  view_same : view_after (plain t) Datagrams at_rest still ≡ record { front = f.front; held = []; flow = flow ++ [] }
  view_same = λ i. after_passing at_rest.view (held_none i) (gone_none i)

  pending_same : (σ : ℕ) × (pending_by (plain t) Datagrams at_rest still ≡ pend σ (cond (is_ready t.chunk f.chunk) None f.chunk))
  pending_same =
      let cut = cut_pending t since f.chunk (ends_parts f.front f.chunk ends) in
      (cut.0, ap (λ last. cond (is_full (plain t) last) nothing_pending last) last_same ∙ cut.1)

  still_stands : StandsFor (left_open t.chunk (refused_to f (length payload))) (direction_after (plain t) Datagrams at_rest still)
  still_stands = record {
    sent = refl;
    front = ap (λ v. v.front) view_same;
    behind = omega (arith, behind);
    held = ap (λ v. v.held) view_same;
    hole = no_hole (ap (λ v. v.held) view_same);
    fin = refl;
    copy = ap (λ p. p.copy) pending_same.1;
    gap = ap (λ p. p.gap) pending_same.1;
    bytes = ap (λ p. p.bytes) pending_same.1;
    whole = left_ends (is_ready t.chunk f.chunk) f.front f.chunk ends;
  }
    where
      no_hole : (direction_after (plain t) Datagrams at_rest still).view.held ≡ [] → (direction_after (plain t) Datagrams at_rest still).hole ≡ None
      no_hole e = ap (λ held. hole_after s.moment None at_rest.view (record (view_after (plain t) Datagrams at_rest still) { held = held })) e

-- An End hands over the open chunk.
module _ (t : Terms) (base : Option ℕ) (flow : List Placed) (since : ℕ) (f : Flow) (at : ℕ) (behind : f.front ≤ f.sent) (ends : EndsAt f.front f.chunk) where
  abbrev last : Direction
  last = shape base flow since f

  end_pieces : pieces_by (plain t) Datagrams last (Ends at) ≡ map piece_for (chunk_list f.chunk)
  end_pieces = by f.chunk ends
    where
      by : (c : Option OpenChunk) → EndsAt f.front c → cond (not (is_empty (placed_chunk c))) (piece_of (pend since c)) [] ≡ map piece_for (chunk_list c)
      by None e = refl
      by (Some o) e = ap (λ some. cond some (piece_of (pend since (Some o))) []) (some_bytes o.start o.parts e.1 e.2) ∙ pieces_are since (Some o) (e.1, e.2)

  end_spares : spares_by (plain t) Datagrams last (Ends at) ≡ []
  end_spares = no_spare since f.chunk

  end_stands : StandsFor (record f { chunk = None }) (direction_after (plain t) Datagrams last (Ends at))
  end_stands = record { sent = refl; front = refl; behind = behind; held = refl; hole = refl; fin = refl; copy = refl; gap = refl; bytes = refl; whole = tt }

-- every byte of a datagram is wanted
wanted_at : (front at : ℕ) (flow : List Placed) → front ≤ at → fate (record { front = front; held = []; flow = flow }) None at ≡ Wanted
wanted_at front at flow h = grind arith

fates : (kind : Fate) (front at : ℕ) (flow : List Placed) (start : ℤ) (bytes : List ℕ) → front ≤ at
    → how_many (λ p. is_fate kind (fate (record { front = front; held = []; flow = flow }) None p.at)) (placed_from at start bytes) ≡ cond (is_fate kind Wanted) (length bytes) 0
fates kind front at flow start [] h = by (is_fate kind Wanted)
  where
    nought : ℕ
    nought = 0

    by : (w : Bool) → nought ≡ cond w nought nought
    by true = refl
    by false = refl
fates kind front at flow start (b ∷ bytes) h =
    ap (λ w. cond (is_fate kind w) (suc rest) rest) (wanted_at front at flow h) ∙ ap (λ n. cond (is_fate kind Wanted) (suc n) n) (fates kind front (suc at) flow start bytes (omega arith)) ∙ by (is_fate kind Wanted)
  where
    rest : ℕ
    rest = how_many (λ p. is_fate kind (fate (record { front = front; held = []; flow = flow }) None p.at)) (placed_from (suc at) start bytes)

    by : (w : Bool) → cond w (suc (cond w (length bytes) 0)) (cond w (length bytes) 0) ≡ cond w (suc (length bytes)) 0
    by true = refl
    by false = refl

counts_with : (base : Option ℕ) (flow : List Placed) (since : ℕ) (f : Flow) (s : Segment) (payload : List ℕ) (looks : List LookEntry) → f.front ≤ f.sent
    → counts_by Datagrams (shape base flow since f) (Arrives (arriving s payload) looks) ≡ taken_of (length payload) (lengths (granted (runs_of Datagrams (shape base flow since f) (arriving s payload)) looks))
counts_with base flow since f s payload looks h =
    let fate_count : (kind : Fate) → how_many (λ p. is_fate kind (fate_in (shape base flow since f) (arriving s payload) p)) (placed_from f.sent (pos f.sent) payload) ≡ cond (is_fate kind Wanted) (length payload) 0 = λ kind. fates kind f.front f.sent flow (pos f.sent) payload h in
    let taken : ℕ = lengths (granted (runs_of Datagrams (shape base flow since f) (arriving s payload)) looks) in
    λ i. record {
      duplicate = (fate_count Shown i) + (fate_count Kept i);
      late = (none_left (length payload) (length (placed_from f.sent (pos f.sent) payload)) (length_placed f.sent (pos f.sent) payload) i) + (fate_count Late i);
      cut = fate_count Cut i;
      taken = taken;
      shed = (fate_count Wanted i) - taken;
    }
  where
    none_left : (n m : ℕ) → m ≡ n → n - m ≡ 0
    none_left n m e = omega arith

-- a datagram that is granted
pub does_granted : (t : Terms) (f : Flow) (d : Direction) (s : Segment) (payload : List ℕ) (look : LookEntry) → StandsFor f d → IsDatagram s payload → 0 < length payload
    → look.asked ≡ length payload → look.granted ≡ true
    → Does t d (Arrives s (look ∷ [])) (record { bytes = length payload; from = Some f.sent } ∷ []) (closed_by_gap f ++ handed_over t.chunk (granted_to f (part_of payload look)))
    (left_open t.chunk (granted_to f (part_of payload look))) (taken_of (length payload) (length payload))
does_granted t f d s [] look st is some asked g = absurd (omega arith)
does_granted t f d s (b ∷ bytes) look st is some asked g =
    let over : List OpenChunk = closed_by_gap f ++ handed_over t.chunk (granted_to f (part_of (b ∷ bytes) look)) in
    let next : Flow = left_open t.chunk (granted_to f (part_of (b ∷ bytes) look)) in
    let ask : Ask = record { bytes = suc (length bytes); from = Some f.sent } in
    let P : Direction → Segment → Type 0 = λ e r. Does t e (Arrives r (look ∷ [])) (ask ∷ []) over next (taken_of (suc (length bytes)) (suc (length bytes))) in
    let made : P (shape d.base d.view.flow d.pending.since f) (arriving s (b ∷ bytes)) = record {
      asks = asks_are t d.base d.view.flow d.pending.since f s b bytes look st.behind;
      pieces = granted_pieces t d.base d.view.flow d.pending.since f s b bytes look st.behind st.whole asked g;
      spares = granted_spares t d.base d.view.flow d.pending.since f s b bytes look st.behind st.whole asked g;
      stands = granted_stands t d.base d.view.flow d.pending.since f s b bytes look st.behind st.whole asked g;
      counts_are = counts_with d.base d.view.flow d.pending.since f s (b ∷ bytes) (look ∷ []) st.behind ∙ ap (taken_of (suc (length bytes))) (taken_is d.base d.view.flow d.pending.since);
    } in
    subst (λ (e : Direction). P e s) (sym (shape_of f d st)) (subst (λ (r : Segment). P (shape d.base d.view.flow d.pending.since f) r) (sym (arriving_of s (b ∷ bytes) is)) made)
  where
    taken_is : (base : Option ℕ) (flow : List Placed) (since : ℕ) → lengths (granted (runs_of Datagrams (shape base flow since f) (arriving s (b ∷ bytes))) (look ∷ [])) ≡ suc (length bytes)
    taken_is base flow since =
        ap (λ (rs : List (List Placed)). lengths (granted rs (look ∷ []))) (runs_are t base flow since f s b bytes look st.behind)
        ∙ ap (λ (yes_it : Bool). lengths (cond yes_it (charged look (placed_from f.sent (pos f.sent) (b ∷ bytes)) ∷ []) [])) g
        ∙ ap (λ n. suc n + 0) (length_placed (suc f.sent) (pos f.sent) bytes) ∙ omega arith

-- one that is refused
pub does_refused : (t : Terms) (f : Flow) (d : Direction) (s : Segment) (payload : List ℕ) (look : LookEntry) → StandsFor f d → IsDatagram s payload → 0 < length payload
    → look.granted ≡ false
    → Does t d (Arrives s (look ∷ [])) (record { bytes = length payload; from = Some f.sent } ∷ []) (handed_over t.chunk (refused_to f (length payload)))
    (left_open t.chunk (refused_to f (length payload))) (taken_of (length payload) 0)
does_refused t f d s [] look st is some g = absurd (omega arith)
does_refused t f d s (b ∷ bytes) look st is some g =
    let ask : Ask = record { bytes = suc (length bytes); from = Some f.sent } in
    let over : List OpenChunk = handed_over t.chunk (refused_to f (suc (length bytes))) in
    let next : Flow = left_open t.chunk (refused_to f (suc (length bytes))) in
    let P : Direction → Segment → Type 0 = λ e r. Does t e (Arrives r (look ∷ [])) (ask ∷ []) over next (taken_of (suc (length bytes)) 0) in
    let held = held_refused t d.base d.view.flow d.pending.since f s b bytes look st.behind g in
    let made : P (shape d.base d.view.flow d.pending.since f) (arriving s (b ∷ bytes)) = record {
      asks = asks_are t d.base d.view.flow d.pending.since f s b bytes look st.behind;
      pieces = still_pieces t d.base d.view.flow d.pending.since f s (b ∷ bytes) (look ∷ []) st.behind st.whole held;
      spares = still_spares t d.base d.view.flow d.pending.since f s (b ∷ bytes) (look ∷ []) st.behind st.whole held;
      stands = still_stands t d.base d.view.flow d.pending.since f s (b ∷ bytes) (look ∷ []) st.behind st.whole held;
      counts_are = counts_with d.base d.view.flow d.pending.since f s (b ∷ bytes) (look ∷ []) st.behind ∙ ap (taken_of (suc (length bytes))) (taken_is d.base d.view.flow d.pending.since);
    } in
    subst (λ (e : Direction). P e s) (sym (shape_of f d st)) (subst (λ (r : Segment). P (shape d.base d.view.flow d.pending.since f) r) (sym (arriving_of s (b ∷ bytes) is)) made)
  where
    taken_is : (base : Option ℕ) (flow : List Placed) (since : ℕ) → lengths (granted (runs_of Datagrams (shape base flow since f) (arriving s (b ∷ bytes))) (look ∷ [])) ≡ 0
    taken_is base flow since =
        ap (λ (rs : List (List Placed)). lengths (granted rs (look ∷ []))) (runs_are t base flow since f s b bytes look st.behind)
        ∙ ap (λ (answer : Bool). lengths (cond answer (charged look (placed_from f.sent (pos f.sent) (b ∷ bytes)) ∷ []) [])) g

-- one without bytes
abbrev no_asks : List Ask
no_asks = []

pub does_empty : (t : Terms) (f : Flow) (d : Direction) (s : Segment) → StandsFor f d → IsDatagram s []
    → Does t d (Arrives s []) [] (handed_over t.chunk (refused_to f 0)) (left_open t.chunk (refused_to f 0)) no_counts
does_empty t f d s st is =
    let over : List OpenChunk = handed_over t.chunk (refused_to f 0) in
    let next : Flow = left_open t.chunk (refused_to f 0) in
    let P : Direction → Segment → Type 0 = λ e r. Does t e (Arrives r []) [] over next no_counts in
    let made : P (shape d.base d.view.flow d.pending.since f) (arriving s []) = record {
      asks = no_ask (is_full (plain t) (last_pending (plain t) Datagrams (shape d.base d.view.flow d.pending.since f) (Arrives (arriving s []) [])));
      pieces = still_pieces t d.base d.view.flow d.pending.since f s [] [] st.behind st.whole refl;
      spares = still_spares t d.base d.view.flow d.pending.since f s [] [] st.behind st.whole refl;
      stands = still_stands t d.base d.view.flow d.pending.since f s [] [] st.behind st.whole refl;
      counts_are = refl;
    } in
    subst (λ (e : Direction). P e s) (sym (shape_of f d st)) (subst (λ (r : Segment). P (shape d.base d.view.flow d.pending.since f) r) (sym (arriving_of s [] is)) made)
  where
    none : List Ask
    none = no_asks

    no_ask : (full : Bool) → cond full none none ≡ none
    no_ask true = refl
    no_ask false = refl

-- an End
pub does_end : (t : Terms) (f : Flow) (d : Direction) (at : ℕ) → StandsFor f d → Does t d (Ends at) [] (chunk_list f.chunk) (record f { chunk = None }) no_counts
does_end t f d at st =
    let P : Direction → Type 0 = λ e. Does t e (Ends at) [] (chunk_list f.chunk) (record f { chunk = None }) no_counts in
    let made : P (shape d.base d.view.flow d.pending.since f) = record {
      asks = refl;
      pieces = end_pieces t d.base d.view.flow d.pending.since f at st.behind st.whole;
      spares = end_spares t d.base d.view.flow d.pending.since f at st.behind st.whole;
      stands = end_stands t d.base d.view.flow d.pending.since f at st.behind st.whole;
      counts_are = refl;
    } in
    subst P (sym (shape_of f d st)) made
