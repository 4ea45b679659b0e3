-- The running numbers of a direction of datagrams agree with what is kept of it, so none is above the bytes that came.
use Rattle.std.specs.Prelude.{◌≡◌, refl, ℕ, suc, ◌+◌, ◌≤◌, Bool, true, false, cond, nat_lt, ◌==◌, List, [], ◌∷◌, ◌++◌, length, Option, None, Some}
use Rattle.std.proofs.Common.{sym, ◌∙◌, ap, subst, arith}
use Rattle.std.proofs.lemmas.Bool.Decides.{nat_tests}
use Rattle.evring.specs.declared.way.Way.{Way}
use Rattle.evring.specs.declared.way.Way.TheVariants.{Fore, Back}
use Rattle.streamdefs.specs.Both.{Both, of_way}
use Rattle.streamdefs.specs.Lists.{Each}
use Rattle.streamdefs.specs.Terms.{Terms}
use Rattle.streamdefs.specs.Convo.{Convo}
use Rattle.streamdefs.specs.Core.{Line, Open, Told}
use Rattle.datagrams.specs.Flow.{Paid, OpenChunk, Flow, dry, begun_with, granted_to, refused_to, chunk_list, closed_by_gap, is_ready, handed_over, left_open}
use Rattle.datagrams.specs.Talk.{Talk, flow_of, with_flow}
use Rattle.datagrams.specs.Table.{AllStand}
use Rattle.datagrams.specs.Sums.{Sums, no_sums, with_chunk, with_chunks, with_datagram, with_entry, IsBalanced, bytes_open, Row, kept_in, Tallies}
use Rattle.datagrams.proofs.FlowLemmas.{size_push}

pub balanced_dry : IsBalanced dry no_sums
balanced_dry = record { came = refl; counted = refl; granted = refl; placed = refl; behind = omega arith; gaps = omega arith }

gap_counted : (gaps bytes gap : ℕ) → gaps ≤ bytes → cond (nat_lt 0 gap) (suc gaps) gaps ≤ bytes + gap
gap_counted gaps bytes gap h = grind (arith, nat_tests)

pub chunks_append : (s : Sums) (xs ys : List OpenChunk) → with_chunks s (xs ++ ys) ≡ with_chunks (with_chunks s xs) ys
chunks_append s [] ys = refl
chunks_append s (x ∷ xs) ys = chunks_append (with_chunk s x) xs ys

-- a datagram may be counted before or behind a chunk
pub chunks_swap : (s : Sums) (payload taken : ℕ) (over : List OpenChunk) → with_chunks (with_datagram s payload taken) over ≡ with_datagram (with_chunks s over) payload taken
chunks_swap s payload taken [] = refl
chunks_swap s payload taken (o ∷ over) = chunks_swap (with_chunk s o) payload taken over

-- as well as between those that it closes and those that it completes
pub chunks_around : (s : Sums) (payload taken : ℕ) (closed ready : List OpenChunk)
    → with_chunks (with_datagram (with_chunks s closed) payload taken) ready ≡ with_chunks (with_datagram s payload taken) (closed ++ ready)
chunks_around s payload taken closed ready =
    ap (λ (x : Sums). with_chunks x ready) (sym (chunks_swap s payload taken closed)) ∙ sym (chunks_append (with_datagram s payload taken) closed ready)

-- with the open chunk handed over, where it is
pub balanced_handed : (over : Bool) (f : Flow) (s : Sums) → IsBalanced f s → IsBalanced (record f { chunk = cond over None f.chunk }) (with_chunks s (cond over (chunk_list f.chunk) []))
balanced_handed over f s h = by over f.chunk h
  where
    by : (b : Bool) (c : Option OpenChunk) → IsBalanced (record f { chunk = c }) s → IsBalanced (record f { chunk = cond b None c }) (with_chunks s (cond b (chunk_list c) []))
    by false c w = w
    by true None w = w
    by true (Some o) w = record {
      came = w.came;
      counted = w.counted;
      granted = omega (arith, w.granted);
      placed = omega (arith, w.placed);
      behind = w.behind;
      gaps = gap_counted s.gaps s.gap_bytes o.gap w.gaps;
    }

-- with an End
pub balanced_end : (f : Flow) (s : Sums) → IsBalanced f s → IsBalanced (record f { chunk = None }) (with_chunks s (chunk_list f.chunk))
balanced_end f s h = balanced_handed true f s h

-- with a datagram that was refused, or has no bytes
pub balanced_refused : (least : ℕ) (f : Flow) (s : Sums) (bytes : ℕ) → IsBalanced f s → IsBalanced (left_open least (refused_to f bytes)) (with_chunks (with_datagram s bytes 0) (handed_over least (refused_to f bytes)))
balanced_refused least f s bytes h = balanced_handed (is_ready least f.chunk) (refused_to f bytes) (with_datagram s bytes 0) (record {
  came = omega (arith, h.came);
  counted = omega (arith, h.counted);
  granted = omega (arith, h.granted);
  placed = h.placed;
  behind = omega (arith, h.behind);
  gaps = h.gaps;
})

same_front : (f : Flow) → (f.sent == f.front) ≡ true → f.sent ≡ f.front
same_front f q = grind (arith, nat_tests)

-- with one that was granted
pub balanced_granted : (least : ℕ) (f : Flow) (s : Sums) (part : Paid) → IsBalanced f s
    → IsBalanced (left_open least (granted_to f part)) (with_chunks (with_datagram s (length part.bytes) (length part.bytes)) (closed_by_gap f ++ handed_over least (granted_to f part)))
balanced_granted least f s part h =
    subst (IsBalanced (left_open least (granted_to f part))) (sym (chunks_append next (closed_by_gap f) (handed_over least (granted_to f part))))
    (balanced_handed (is_ready least (granted_to f part).chunk) (granted_to f part) (with_chunks next (closed_by_gap f)) (by f.chunk h (f.sent == f.front) refl))
  where
    next : Sums
    next = with_datagram s (length part.bytes) (length part.bytes)

    -- as it begins a chunk
    begins : (s : Sums) → IsBalanced (record f { chunk = None }) s → IsBalanced (record { sent = f.sent + length part.bytes; front = f.sent + length part.bytes; chunk = Some (begun_with f part) }) (with_datagram s (length part.bytes) (length part.bytes))
    begins s w = record {
      came = omega (arith, w.came);
      counted = omega (arith, w.counted);
      granted = omega (arith, w.granted);
      placed = omega (arith, w.placed, w.behind);
      behind = omega arith;
      gaps = w.gaps;
    }

    joins : (o : OpenChunk) → f.sent ≡ f.front → IsBalanced (record f { chunk = Some o }) s
        → IsBalanced (record { sent = f.sent + length part.bytes; front = f.sent + length part.bytes; chunk = Some (record o { parts = o.parts ++ part ∷ [] }) }) next
    joins o e w = record {
      came = omega (arith, w.came);
      counted = omega (arith, w.counted);
      granted = omega (arith, w.granted, size_push o.parts part);
      placed = omega (arith, w.placed, e, size_push o.parts part);
      behind = omega arith;
      gaps = w.gaps;
    }

    by : (c : Option OpenChunk) → IsBalanced (record f { chunk = c }) s → (same : Bool) → (f.sent == f.front) ≡ same
        → IsBalanced (granted_to (record f { chunk = c }) part) (with_chunks next (closed_by_gap (record f { chunk = c })))
    by None w true q = subst (λ (b : Bool). IsBalanced (granted_to (record f { chunk = None }) part) (with_chunks next (cond b [] []))) (sym q) (begins s w)
    by None w false q = subst (λ (b : Bool). IsBalanced (granted_to (record f { chunk = None }) part) (with_chunks next (cond b [] []))) (sym q) (begins s w)
    by (Some o) w true q =
        subst (λ (b : Bool). IsBalanced (record { sent = f.sent + length part.bytes; front = f.sent + length part.bytes; chunk = Some (cond b (record o { parts = o.parts ++ part ∷ [] }) (begun_with f part)) })
        (with_chunks next (cond b [] (o ∷ [])))) (sym q) (joins o (same_front f q) w)
    by (Some o) w false q =
        subst (λ (b : Bool). IsBalanced (record { sent = f.sent + length part.bytes; front = f.sent + length part.bytes; chunk = Some (cond b (record o { parts = o.parts ++ part ∷ [] }) (begun_with f part)) })
        (with_chunks next (cond b [] (o ∷ [])))) (sym q) (begins (with_chunk s o) (balanced_handed true (record f { chunk = Some o }) s w))

-- both directions, with an entry of one
pub balanced_entry : (w way : Way) (k : Talk) (f : Flow) (payload taken : ℕ) (over : List OpenChunk) (sums : Both Sums) → IsBalanced (flow_of way k) (of_way way sums)
    → IsBalanced f (with_chunks (with_datagram (of_way w sums) payload taken) over) → IsBalanced (flow_of way (with_flow w f k)) (of_way way (with_entry w payload taken over sums))
balanced_entry Fore Fore k f payload taken over sums other own = own
balanced_entry Back Back k f payload taken over sums other own = own
balanced_entry Fore Back k f payload taken over sums other own = other
balanced_entry Back Fore k f payload taken over sums other own = other

-- none is above the bytes that came
pub bounded : (f : Flow) (s : Sums) → IsBalanced f s → (s.delivered ≤ f.sent) × (s.taken ≤ f.sent) × (s.shed ≤ f.sent) × (s.gaps ≤ f.sent) × (s.gap_bytes ≤ f.sent)
bounded f s h = (
  omega (arith, h.came, h.counted, h.granted),
  omega (arith, h.came, h.counted),
  omega (arith, h.came, h.counted),
  omega (arith, h.gaps, h.placed, h.behind),
  omega (arith, h.placed, h.behind),
)

-- and with nothing open each byte that came was handed over or shed
pub settled : (f : Flow) (s : Sums) → IsBalanced f s → f.chunk ≡ None → s.payload ≡ s.delivered + s.shed
settled f s h none = omega (arith, h.counted, h.granted, ap bytes_open none)

-- What came is what the totals have.
abbrev pub IsSent : Row → Type 0
IsSent r = (r.sums.fore.payload ≡ r.kept.talk.fore.sent) × (r.sums.back.payload ≡ r.kept.talk.back.sent)

pub all_sent : (t : Terms) (first : ℕ) (waiting : List Told) (lines : List Line) (rows : List Row) (os : List Open) → AllStand first waiting (kept_in rows) os → Tallies t lines rows os → Each IsSent rows
all_sent t first waiting lines [] [] a h = tt
all_sent t first waiting lines [] (o ∷ os) a h = absurd h
all_sent t first waiting lines (r ∷ rows) [] a h = absurd h
all_sent t first waiting lines (r ∷ rows) (o ∷ os) a h = (
  (
    sym h.0.fore.payload ∙ ap (λ (c : Convo). c.directions.fore.sent) h.0.convo_is ∙ a.0.talks.fore.sent,
    sym h.0.back.payload ∙ ap (λ (c : Convo). c.directions.back.sent) h.0.convo_is ∙ a.0.talks.back.sent,
  ),
  all_sent t first waiting lines rows os a.1 h.1,
)
