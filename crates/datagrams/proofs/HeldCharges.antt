-- What is held after each entry.
use Rattle.std.specs.Prelude.{◌≡◌, refl, ℕ, suc, ◌+◌, ◌≤◌, ◌<◌, Bool, true, false, cond, ◌==◌, List, [], ◌∷◌, ◌++◌, length, map, Option, None, Some}
use Rattle.std.proofs.Common.{ap, arith}
use Rattle.std.proofs.lemmas.Bool.Decides.{nat_tests}
use Rattle.evring.specs.declared.reason.Reason.TheVariants.{Finish}
use Rattle.evring.specs.declared.way.Way.{Way}
use Rattle.evring.specs.declared.way.Way.TheVariants.{Fore, Back}
use Rattle.streamdefs.specs.Lists.{Each, total}
use Rattle.streamdefs.specs.Reorder.{Charge}
use Rattle.streamdefs.specs.Packet.{Packet}
use Rattle.streamdefs.specs.Convo.{Event, kept_of, charges_of}
use Rattle.streamdefs.specs.Convo.Event.{New, Chunk, Ended}
use Rattle.streamdefs.specs.Core.{Told}
use Rattle.datagrams.specs.Flow.{Flow, Paid, OpenChunk, charge_for, chunk_with, chunk_list, closed_by_gap, handed_over, is_ready, left_open, size, begun_with}
use Rattle.datagrams.specs.Talk.{Talk, flow_of, with_flow, way_in, delivered, ended}
use Rattle.datagrams.specs.Table.{Kept, told_of}
use Rattle.datagrams.specs.Assembled.{Verdict, Granted, Refused, Bare, flow_by, over_by, talk_by, delivered_by, first_talk}
use Rattle.datagrams.specs.Held.{weight_of, chunk_weight, talk_weight, table_weight, event_weight, waiting_weight, held, verdict_weight, bytes_of, late_for}
use Rattle.datagrams.proofs.DatagramSteps.{last_events}
use Rattle.datagrams.specs.Replay.{charges_in}

pub total_append : {X : Type 0} (f : X → ℕ) (xs ys : List X) → total f (xs ++ ys) ≡ total f xs + total f ys
total_append f [] ys = omega arith
total_append f (x ∷ xs) ys = omega (arith, total_append f xs ys)

module _ (weight : Charge → ℕ) where
  -- an event of a chunk weighs what the chunk does
  of_charges : (parts : List Paid) → total weight (map charge_for parts ++ []) ≡ weight_of weight parts
  of_charges [] = refl
  of_charges (part ∷ parts) = ap (λ (n : ℕ). weight (charge_for part) + n) (of_charges parts)

  pub event_of_chunk : (way : Way) (o : OpenChunk) → event_weight weight (delivered way o) ≡ weight_of weight o.parts
  event_of_chunk way o = of_charges o.parts

  events_of_chunks : (conv : ℕ) (way : Way) (os : List OpenChunk) → waiting_weight weight (told_of conv (map (delivered way) os)) ≡ total (λ o. weight_of weight o.parts) os
  events_of_chunks conv way [] = refl
  events_of_chunks conv way (o ∷ os) = λ i. event_of_chunk way o i + events_of_chunks conv way os i

  told_append : (conv : ℕ) (xs ys : List Event) → waiting_weight weight (told_of conv (xs ++ ys)) ≡ waiting_weight weight (told_of conv xs) + waiting_weight weight (told_of conv ys)
  told_append conv [] ys = omega arith
  told_append conv (x ∷ xs) ys = omega (arith, told_append conv xs ys)

  of_list : (c : Option OpenChunk) → total (λ o. weight_of weight o.parts) (chunk_list c) ≡ chunk_weight weight c
  of_list None = refl
  of_list (Some o) = omega arith

  -- what is handed over and what is left are what there was
  of_left : (least : ℕ) (f : Flow) → chunk_weight weight (left_open least f).chunk + total (λ o. weight_of weight o.parts) (handed_over least f) ≡ chunk_weight weight f.chunk
  of_left least f = by (is_ready least f.chunk)
    where
      by : (b : Bool) → chunk_weight weight (cond b None f.chunk) + total (λ (o : OpenChunk). weight_of weight o.parts) (cond b (chunk_list f.chunk) []) ≡ chunk_weight weight f.chunk
      by true = omega (arith, of_list f.chunk)
      by false = omega arith

  of_with : (f : Flow) (part : Paid) → weight_of weight (chunk_with f part f.chunk).parts + total (λ o. weight_of weight o.parts) (closed_by_gap f) ≡ chunk_weight weight f.chunk + weight (charge_for part)
  of_with f part = by f.chunk
    where
      begins : (b : Bool) → weight (charge_for part) + 0 + total (λ (o : OpenChunk). weight_of weight o.parts) (cond b [] []) ≡ 0 + weight (charge_for part)
      begins true = omega arith
      begins false = omega arith

      joins : (o : OpenChunk) (b : Bool) → weight_of weight (cond b (record o { parts = o.parts ++ part ∷ [] }) (begun_with f part)).parts + total (λ (o : OpenChunk). weight_of weight o.parts) (cond b [] (o ∷ [])) ≡ weight_of weight o.parts + weight (charge_for part)
      joins o true = omega (arith, total_append (λ (q : Paid). weight (charge_for q)) o.parts (part ∷ []))
      joins o false = omega arith

      by : (c : Option OpenChunk) → weight_of weight (chunk_with f part c).parts + total (λ (o : OpenChunk). weight_of weight o.parts) (cond (f.sent == f.front) [] (chunk_list c)) ≡ chunk_weight weight c + weight (charge_for part)
      by None = begins (f.sent == f.front)
      by (Some o) = joins o (f.sent == f.front)

  of_flow : (least : ℕ) (payload : List ℕ) (v : Verdict) (f : Flow)
      → chunk_weight weight (left_open least (flow_by payload v f)).chunk + total (λ o. weight_of weight o.parts) (over_by least payload v f) ≡ chunk_weight weight f.chunk + verdict_weight weight payload v
  of_flow least payload (Granted look) f =
      omega (arith, total_append (λ (o : OpenChunk). weight_of weight o.parts) (closed_by_gap f) (handed_over least (flow_by payload (Granted look) f)), of_left least (flow_by payload (Granted look) f), of_with f (record { bytes = payload; stamp = look.look.stamp }))
  of_flow least payload (Refused look) f = omega (arith, of_left least (flow_by payload (Refused look) f))
  of_flow least payload Bare f = omega (arith, of_left least (flow_by payload Bare f))

  of_talk : (way : Way) (f : Flow) (k : Talk) → talk_weight weight (with_flow way f k) + chunk_weight weight (flow_of way k).chunk ≡ talk_weight weight k + chunk_weight weight f.chunk
  of_talk Fore f k = omega arith
  of_talk Back f k = omega arith

  of_table : (xs : List Kept) (k : Kept) (ys : List Kept) → table_weight weight (xs ++ k ∷ ys) ≡ table_weight weight xs + (talk_weight weight k.talk + table_weight weight ys)
  of_table xs k ys = total_append (λ (k : Kept). talk_weight weight k.talk) xs (k ∷ ys)

  of_datagram : (least : ℕ) (p : Packet) (v : Verdict) (k : Talk) (conv : ℕ)
      → talk_weight weight (talk_by least p v k) + waiting_weight weight (told_of conv (delivered_by least p v k)) ≡ talk_weight weight k + verdict_weight weight p.payload v
  of_datagram least p v k conv =
      omega (
        arith,
        of_talk (way_in k p) (left_open least (flow_by p.payload v (flow_of (way_in k p) k))) k,
        of_flow least p.payload v (flow_of (way_in k p) k),
        events_of_chunks conv (way_in k p) (over_by least p.payload v (flow_of (way_in k p) k)),
      )

  -- A datagram adds its charge.
  pub held_kept : (least : ℕ) (xs : List Kept) (k : Talk) (ys : List Kept) (waiting : List Told) (p : Packet) (v : Verdict)
      → held weight (xs ++ record { live = true; talk = talk_by least p v k } ∷ ys) (waiting ++ told_of k.id (delivered_by least p v k))
      ≡ held weight (xs ++ record { live = true; talk = k } ∷ ys) waiting + verdict_weight weight p.payload v
  held_kept least xs k ys waiting p v =
      omega (
        arith,
        of_table xs (record { live = true; talk = talk_by least p v k }) ys,
        of_table xs (record { live = true; talk = k }) ys,
        total_append (λ (w : Told). event_weight weight w.event) waiting (told_of k.id (delivered_by least p v k)),
        of_datagram least p v k k.id,
      )

  pub held_new : (least : ℕ) (ks : List Kept) (p : Packet) (v : Verdict)
      → held weight (ks ++ record { live = true; talk = talk_by least p v (first_talk p) } ∷ []) (told_of p.number (New ∷ delivered_by least p v (first_talk p)))
      ≡ held weight ks [] + verdict_weight weight p.payload v
  held_new least ks p v = omega (arith, of_table ks (record { live = true; talk = talk_by least p v (first_talk p) }) [], of_datagram least p v (first_talk p) p.number)

  -- An End moves charges to events.
  of_last : (k : Talk) → waiting_weight weight (told_of k.id (last_events k)) ≡ talk_weight weight k
  of_last k =
      omega (
        arith,
        told_append k.id (map (delivered Fore) (chunk_list k.fore.chunk) ++ map (delivered Back) (chunk_list k.back.chunk)) (Ended Finish ∷ []),
        told_append k.id (map (delivered Fore) (chunk_list k.fore.chunk)) (map (delivered Back) (chunk_list k.back.chunk)),
        events_of_chunks k.id Fore (chunk_list k.fore.chunk),
        events_of_chunks k.id Back (chunk_list k.back.chunk),
        of_list k.fore.chunk,
        of_list k.back.chunk,
      )

  pub held_over : (xs : List Kept) (k : Talk) (ys : List Kept) (waiting : List Told)
      → held weight (xs ++ record { live = false; talk = ended k } ∷ ys) (waiting ++ told_of k.id (last_events k)) ≡ held weight (xs ++ record { live = true; talk = k } ∷ ys) waiting
  held_over xs k ys waiting =
      omega (
        arith,
        of_table xs (record { live = false; talk = ended k }) ys,
        of_table xs (record { live = true; talk = k }) ys,
        total_append (λ (w : Told). event_weight weight w.event) waiting (told_of k.id (last_events k)),
        of_last k,
      )

  -- An answer gives back those of its event.
  pub held_served : (table : List Kept) (w : Told) (waiting : List Told) → held weight table (w ∷ waiting) ≡ held weight table waiting + event_weight weight w.event
  held_served table w waiting = omega arith

-- the bytes of a chunk
pub bytes_are : (parts : List Paid) → weight_of bytes_of parts ≡ size parts
bytes_are [] = refl
bytes_are (part ∷ parts) = ap (λ (n : ℕ). length part.bytes + n) (bytes_are parts)

-- Stamps of what is held.

total_lower : {X : Type 0} (f g : X → ℕ) → ((x : X) → f x ≤ g x) → (xs : List X) → total f xs ≤ total g xs
total_lower f g h [] = omega arith
total_lower f g h (x ∷ xs) = omega (arith, h x, total_lower f g h xs)

chunk_lower : (f g : Charge → ℕ) → ((c : Charge) → f c ≤ g c) → (c : Option OpenChunk) → chunk_weight f c ≤ chunk_weight g c
chunk_lower f g h None = omega arith
chunk_lower f g h (Some o) = total_lower (λ (part : Paid). f (charge_for part)) (λ (part : Paid). g (charge_for part)) (λ part. h (charge_for part)) o.parts

event_lower : (f g : Charge → ℕ) → ((c : Charge) → f c ≤ g c) → (e : Event) → event_weight f e ≤ event_weight g e
event_lower f g h New = omega arith
event_lower f g h (Chunk d) = total_lower f g h (charges_of (kept_of d))
event_lower f g h (Ended reason) = omega arith

pub held_lower : (f g : Charge → ℕ) → ((c : Charge) → f c ≤ g c) → (table : List Kept) (waiting : List Told) → held f table waiting ≤ held g table waiting
held_lower f g h table waiting =
    omega (
      arith,
      total_lower (λ (k : Kept). talk_weight f k.talk) (λ (k : Kept). talk_weight g k.talk) of_talk table,
      total_lower (λ (w : Told). event_weight f w.event) (λ (w : Told). event_weight g w.event) (λ w. event_lower f g h w.event) waiting,
    )
  where
    of_talk : (k : Kept) → talk_weight f k.talk ≤ talk_weight g k.talk
    of_talk k = omega (arith, chunk_lower f g h k.talk.fore.chunk, chunk_lower f g h k.talk.back.chunk)

-- what is not late for a stamp is not late for a higher one
late_lower : (low high : ℕ) → low ≤ high → (c : Charge) → late_for high c ≤ late_for low c
late_lower low high h c = grind (arith, nat_tests)

pub none_late_later : (low high : ℕ) (table : List Kept) (waiting : List Told) → low ≤ high → held (late_for low) table waiting ≡ 0 → held (late_for high) table waiting ≡ 0
none_late_later low high table waiting h none = omega (arith, none, held_lower (late_for high) (late_for low) (late_lower low high h) table waiting)

-- a charge of the present stamp is not late for the next one
pub not_late : (stamp bytes : ℕ) → late_for (suc stamp) (record { bytes = bytes; stamp = stamp }) ≡ 0
not_late stamp bytes = grind (arith, nat_tests)

is_below : (stamp : ℕ) (c : Charge) → late_for stamp c ≡ 0 → c.stamp < stamp
is_below stamp c e = grind (arith, nat_tests)

none_late : (stamp : ℕ) (charges : List Charge) → total (late_for stamp) charges ≡ 0 → Each (λ charge. charge.stamp < stamp) charges
none_late stamp [] e = tt
none_late stamp (c ∷ charges) e = (is_below stamp c (omega (arith, e)), none_late stamp charges (omega (arith, e)))

-- the charges of the first event that waits are below the stamp
pub event_below : (stamp : ℕ) (table : List Kept) (w : Told) (waiting : List Told) → held (late_for stamp) table (w ∷ waiting) ≡ 0 → Each (λ charge. charge.stamp < stamp) (charges_in w.event)
event_below stamp table w waiting e = by w.event (omega (arith, e))
  where
    by : (event : Event) → event_weight (late_for stamp) event ≡ 0 → Each (λ charge. charge.stamp < stamp) (charges_in event)
    by New h = tt
    by (Chunk d) h = none_late stamp (charges_of (kept_of d)) h
    by (Ended reason) h = tt
