-- The charges that are held: those of open chunks, and those of events that wait.
use Rattle.std.specs.Prelude.{ℕ, ◌+◌, List, length, Option, None, Some, nat_le, cond}
use Rattle.streamdefs.specs.Lists.{total}
use Rattle.streamdefs.specs.Reorder.{Charge}
use Rattle.streamdefs.specs.Convo.{Event, kept_of, charges_of}
use Rattle.streamdefs.specs.Convo.Event.{Chunk}
use Rattle.streamdefs.specs.Core.{Told}
use Rattle.datagrams.specs.Flow.{Paid, OpenChunk, charge_for}
use Rattle.datagrams.specs.Talk.{Talk}
use Rattle.datagrams.specs.Table.{Kept}
use Rattle.datagrams.specs.Assembled.{Verdict, Granted}

-- the sum of a weight over the charges of parts, of a chunk, of a conversation, and of a core's
abbrev pub weight_of : (Charge → ℕ) → List Paid → ℕ
weight_of weight parts = total (λ part. weight (charge_for part)) parts

abbrev pub chunk_weight : (Charge → ℕ) → Option OpenChunk → ℕ
chunk_weight weight None = 0
chunk_weight weight (Some o) = weight_of weight o.parts

abbrev pub talk_weight : (Charge → ℕ) → Talk → ℕ
talk_weight weight k = chunk_weight weight k.fore.chunk + chunk_weight weight k.back.chunk

abbrev pub table_weight : (Charge → ℕ) → List Kept → ℕ
table_weight weight ks = total (λ k. talk_weight weight k.talk) ks

-- of events that wait
abbrev pub event_weight : (Charge → ℕ) → Event → ℕ
event_weight weight (Chunk d) = total weight (charges_of (kept_of d))
event_weight weight _ = 0

abbrev pub waiting_weight : (Charge → ℕ) → List Told → ℕ
waiting_weight weight waiting = total (λ w. event_weight weight w.event) waiting

-- of all that is held
abbrev pub held : (Charge → ℕ) → List Kept → List Told → ℕ
held weight table waiting = table_weight weight table + waiting_weight weight waiting

-- of what a datagram brings
abbrev pub verdict_weight : (Charge → ℕ) → List ℕ → Verdict → ℕ
verdict_weight weight payload (Granted look) = weight (record { bytes = length payload; stamp = look.look.stamp })
verdict_weight weight payload _ = 0

-- the bytes of a charge, and 1 for a charge whose stamp is not below one
abbrev pub bytes_of : Charge → ℕ
bytes_of charge = charge.bytes

abbrev pub late_for : ℕ → Charge → ℕ
late_for stamp charge = cond (nat_le stamp charge.stamp) 1 0
