-- What the running numbers of datagrams come to: the totals of their directions.
use Rattle.std.specs.Prelude.{◌≡◌, refl, ℕ, suc, ◌+◌, ◌-◌, Bool, true, false, cond, nat_lt, List, [], ◌∷◌, ◌++◌, length, map, filter}
use Rattle.std.proofs.Common.{sym, ◌∙◌, ap, arith}
use Rattle.std.proofs.lemmas.Bool.Decides.{nat_tests}
use Rattle.std.proofs.lemmas.List.{length-append}
use Rattle.evring.specs.declared.way.Way.{Way}
use Rattle.streamdefs.specs.Lists.{total}
use Rattle.streamdefs.specs.Both.{of_way, same_way}
use Rattle.streamdefs.specs.Terms.{Terms}
use Rattle.streamdefs.specs.View.{Gap}
use Rattle.streamdefs.specs.Direction.{Counts, no_counts}
use Rattle.streamdefs.specs.Convo.{Act, Convo, Delivery, after, convo_after, along, counts_in, deliveries_in}
use Rattle.streamdefs.specs.Totals.{Total, total_of, plus, total_counts, deliveries_of, counts_of, gaps_before, fresh_bytes}
use Rattle.streamdefs.proofs.Pushes.{convo_after_push, along_push}
use Rattle.datagrams.specs.Flow.{Paid, OpenChunk, size, joined}
use Rattle.datagrams.specs.Sums.{Sums, with_chunk, with_chunks, with_datagram, HasSums, delivery_of}
use Rattle.datagrams.specs.Steps.{taken_of}

-- One entry more of a history.

-- the deliveries of one direction among these
abbrev pub own_way : Way → List Delivery → List Delivery
own_way way ds = filter (λ d. same_way way d.way) ds

-- a direction's totals with an entry more: what came by then, its deliveries of that direction, and its counts there
abbrev pub total_with : Total → (sent : ℕ) → List Delivery → Counts → Total
total_with before sent ds counts = record { payload = sent; delivered = before.delivered + fresh_bytes ds; counts = plus before.counts counts; gaps = before.gaps ++ gaps_before ds }

pub own_append : (way : Way) (xs ys : List Delivery) → own_way way (xs ++ ys) ≡ own_way way xs ++ own_way way ys
own_append way [] ys = refl
own_append way (x ∷ xs) ys = by (same_way way x.way) (own_append way xs ys)
  where
    by : (b : Bool) → own_way way (xs ++ ys) ≡ own_way way xs ++ own_way way ys → cond b (x ∷ own_way way (xs ++ ys)) (own_way way (xs ++ ys)) ≡ cond b (x ∷ own_way way xs) (own_way way xs) ++ own_way way ys
    by true rest = ap (λ l. x ∷ l) rest
    by false rest = rest

fresh_append : (xs ys : List Delivery) → fresh_bytes (xs ++ ys) ≡ fresh_bytes xs + fresh_bytes ys
fresh_append [] ys = omega arith
fresh_append (x ∷ xs) ys = omega (arith, fresh_append xs ys)

abbrev gap_of : Delivery → Gap
gap_of d = record { at = d.piece.start - d.piece.gap; len = d.piece.gap }

gaps_append : (xs ys : List Delivery) → gaps_before (xs ++ ys) ≡ gaps_before xs ++ gaps_before ys
gaps_append [] ys = refl
gaps_append (x ∷ xs) ys = by (nat_lt 0 x.piece.gap) (gaps_append xs ys)
  where
    by : (b : Bool) → gaps_before (xs ++ ys) ≡ gaps_before xs ++ gaps_before ys
        → map gap_of (cond b (x ∷ filter (λ d. nat_lt 0 d.piece.gap) (xs ++ ys)) (filter (λ d. nat_lt 0 d.piece.gap) (xs ++ ys)))
        ≡ map gap_of (cond b (x ∷ filter (λ d. nat_lt 0 d.piece.gap) xs) (filter (λ d. nat_lt 0 d.piece.gap) xs)) ++ gaps_before ys
    by true rest = ap (λ l. gap_of x ∷ l) rest
    by false rest = rest

same_counts : (a b : Counts) → a.duplicate ≡ b.duplicate → a.late ≡ b.late → a.cut ≡ b.cut → a.taken ≡ b.taken → a.shed ≡ b.shed → a ≡ b
same_counts a b d l c t s = λ i. record { duplicate = d i; late = l i; cut = c i; taken = t i; shed = s i }

counts_push : (cs : List Counts) (k : Counts) → total_counts (cs ++ k ∷ []) ≡ plus (total_counts cs) k
counts_push [] k = same_counts (plus k no_counts) (plus no_counts k) (omega arith) (omega arith) (omega arith) (omega arith) (omega arith)
counts_push (c ∷ cs) k =
    ap (plus c) (counts_push cs k)
    ∙ same_counts (plus c (plus (total_counts cs) k)) (plus (plus c (total_counts cs)) k) (omega arith) (omega arith) (omega arith) (omega arith) (omega arith)

-- what an entry adds to a direction's totals
pub total_push : (terms : Terms) (c : Convo) (way : Way) (acts : List Act) (act : Act)
    → total_of terms c way (acts ++ act ∷ [])
    ≡ total_with (total_of terms c way acts) (of_way way (after terms (convo_after terms c acts) act).directions).sent
    (own_way way (deliveries_in terms (convo_after terms c acts) act)) (counts_in terms (convo_after terms c acts) way act)
total_push terms c way acts act = λ i. record {
  payload = (of_way way (convo_after_push terms c acts act i).directions).sent;
  delivered = (ap fresh_bytes deliveries ∙ fresh_append (deliveries_of terms c way acts) more) i;
  counts = counts i;
  gaps = (ap gaps_before deliveries ∙ gaps_append (deliveries_of terms c way acts) more) i;
}
  where
    more : List Delivery
    more = own_way way (deliveries_in terms (convo_after terms c acts) act)

    deliveries : deliveries_of terms c way (acts ++ act ∷ []) ≡ deliveries_of terms c way acts ++ more
    deliveries =
        ap (own_way way) (along_push terms (deliveries_in terms) c acts act) ∙ own_append way (along terms (deliveries_in terms) c acts) (deliveries_in terms (convo_after terms c acts) act)

    counts : counts_of terms c way (acts ++ act ∷ []) ≡ plus (counts_of terms c way acts) (counts_in terms (convo_after terms c acts) way act)
    counts =
        ap total_counts (along_push terms (λ d a. counts_in terms d way a ∷ []) c acts act)
        ∙ counts_push (along terms (λ d a. counts_in terms d way a ∷ []) c acts) (counts_in terms (convo_after terms c acts) way act)

-- Numbers with chunks.

joined_length : (parts : List Paid) → length (joined parts) ≡ size parts
joined_length [] = refl
joined_length (part ∷ parts) = omega (arith, length-append part.bytes (joined parts), joined_length parts)

payload_same : (s : Sums) (over : List OpenChunk) → (with_chunks s over).payload ≡ s.payload
payload_same s [] = refl
payload_same s (o ∷ over) = payload_same (with_chunk s o) over

taken_same : (s : Sums) (over : List OpenChunk) → (with_chunks s over).taken ≡ s.taken
taken_same s [] = refl
taken_same s (o ∷ over) = taken_same (with_chunk s o) over

shed_same : (s : Sums) (over : List OpenChunk) → (with_chunks s over).shed ≡ s.shed
shed_same s [] = refl
shed_same s (o ∷ over) = shed_same (with_chunk s o) over

delivered_is : (s : Sums) (way : Way) (over : List OpenChunk) → (with_chunks s over).delivered ≡ s.delivered + fresh_bytes (map (delivery_of way) over)
delivered_is s way [] = omega arith
delivered_is s way (o ∷ over) = delivered_is (with_chunk s o) way over ∙ omega (arith, joined_length o.parts)

gaps_are : (s : Sums) (way : Way) (over : List OpenChunk) → (with_chunks s over).gaps ≡ s.gaps + length (gaps_before (map (delivery_of way) over))
gaps_are s way [] = omega arith
gaps_are s way (o ∷ over) = gaps_are (with_chunk s o) way over ∙ by (nat_lt 0 o.gap) (filter (λ d. nat_lt 0 d.piece.gap) (map (delivery_of way) over))
  where
    by : (b : Bool) (ds : List Delivery) → cond b (suc s.gaps) s.gaps + length (map gap_of ds) ≡ s.gaps + length (map gap_of (cond b (delivery_of way o ∷ ds) ds))
    by true ds = omega arith
    by false ds = refl

gap_bytes_are : (s : Sums) (way : Way) (over : List OpenChunk) → (with_chunks s over).gap_bytes ≡ s.gap_bytes + total (λ g. g.len) (gaps_before (map (delivery_of way) over))
gap_bytes_are s way [] = omega arith
gap_bytes_are s way (o ∷ over) = gap_bytes_are (with_chunk s o) way over ∙ by (nat_lt 0 o.gap) refl (filter (λ d. nat_lt 0 d.piece.gap) (map (delivery_of way) over))
  where
    none : nat_lt 0 o.gap ≡ false → o.gap ≡ 0
    none e = grind (arith, nat_tests)

    by : (b : Bool) → nat_lt 0 o.gap ≡ b → (ds : List Delivery)
        → (s.gap_bytes + o.gap) + total (λ g. g.len) (map gap_of ds) ≡ s.gap_bytes + total (λ g. g.len) (map gap_of (cond b (delivery_of way o ∷ ds) ds))
    by true e ds = omega arith
    by false e ds = omega (arith, none e)

gap_bytes-append : (xs ys : List Gap) → total (λ g. g.len) (xs ++ ys) ≡ total (λ g. g.len) xs + total (λ g. g.len) ys
gap_bytes-append [] ys = omega arith
gap_bytes-append (x ∷ xs) ys = omega (arith, gap_bytes-append xs ys)

-- the numbers with a datagram and what is handed over are the totals with them
pub sums_push : (s : Sums) (before : Total) (way : Way) (sent payload taken : ℕ) (over : List OpenChunk) → HasSums s before → sent ≡ before.payload + payload
    → HasSums (with_chunks (with_datagram s payload taken) over) (total_with before sent (map (delivery_of way) over) (taken_of payload taken))
sums_push s before way sent payload taken over h e = record {
  payload = omega (arith, e, h.payload, payload_same next over);
  delivered = omega (arith, h.delivered, delivered_is next way over);
  counts =
      ap (λ c. plus c (taken_of payload taken)) h.counts
      ∙ (λ i. record { duplicate = 0; late = 0; cut = 0; taken = sym (taken_same next over) i; shed = sym (shed_same next over) i });
  gaps = omega (arith, length-append before.gaps (gaps_before (map (delivery_of way) over)), h.gaps, gaps_are next way over);
  gap_bytes = omega (arith, gap_bytes-append before.gaps (gaps_before (map (delivery_of way) over)), h.gap_bytes, gap_bytes_are next way over);
}
  where
    next : Sums
    next = with_datagram s payload taken
