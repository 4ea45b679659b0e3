-- A datagram's run, and what is pending of a direction of datagrams.
use Rattle.std.specs.Prelude.{◌≡◌, refl, ℕ, suc, ◌+◌, ◌-◌, ◌≤◌, ◌<◌, true, cond, List, [], ◌∷◌, ◌++◌, length, drop, map, filter, Option, None, Some, ℤ, pos}
use Rattle.std.proofs.Common.{sym, ◌∙◌, ap, subst, arith, add-zero, append-nil}
use mathlib.Core.List.{append_assoc}
use Rattle.std.proofs.lemmas.List.{length-append, map-append}
use Rattle.chunkpart.specs.ChunkParts.{ChunkParts}
use Rattle.chunkpart.specs.Parts.{bytes_of}
use Rattle.prio_budget.specs.ChargeParts.{ChargeParts}
use Rattle.streamdefs.specs.Reorder.{Charge, Placed, placed_from, stretches, beside}
use Rattle.streamdefs.specs.View.{fate, is_fate, passed, always, front_after}
use Rattle.streamdefs.specs.View.Fate.{Wanted}
use Rattle.streamdefs.specs.Pending.{Pending, Piece, piece_of, run_charges, blocks, Block}
use Rattle.datagrams.specs.Flow.{Paid, charge_for, size, joined, piece_for, with_charge, placed_part, placed_parts, IsFilled, EndsAt, IsKept, chunk_of, paid_of}

-- neighbours are one stretch
one_stretch : (at : ℕ) (start : ℤ) (b : ℕ) (bytes : List ℕ) → stretches (placed_from at start (b ∷ bytes)) ≡ placed_from at start (b ∷ bytes) ∷ []
one_stretch at start b [] = refl
one_stretch at start b (c ∷ bytes) = ap (beside _) (one_stretch (suc at) start c bytes) ∙ grind arith

-- where the charge of its first byte changes nothing
pub one_stretch_charged : (at : ℕ) (start : ℤ) (b : ℕ) (bytes : List ℕ) (charge : Charge)
    → stretches (with_charge charge (placed_from at start (b ∷ bytes))) ≡ with_charge charge (placed_from at start (b ∷ bytes)) ∷ []
one_stretch_charged at start b [] charge = refl
one_stretch_charged at start b (c ∷ bytes) charge = ap (beside _) (one_stretch (suc at) start c bytes) ∙ grind arith

-- in a direction that holds nothing, the front jumps every hole
pub passed_always : (front : ℕ) (hs : List Placed) → passed always front hs ≡ hs
passed_always front [] = refl
passed_always front (h ∷ hs) = grind (arith, passed_always (suc h.at) hs)

pub drop_all : {X : Type 0} (xs : List X) → drop (length xs) xs ≡ []
drop_all [] = refl
drop_all (x ∷ xs) = drop_all xs

front_after_run : (at : ℕ) (start : ℤ) (bytes : List ℕ) → front_after at (placed_from at start bytes) ≡ at + length bytes
front_after_run at start [] = sym (add-zero at)
front_after_run at start (b ∷ bytes) = front_after_run (suc at) start bytes ∙ omega arith

-- the front behind a run
pub front_behind : (front at : ℕ) (start : ℤ) (b : ℕ) (bytes : List ℕ) (charge : Charge)
    → front_after front (with_charge charge (placed_from at start (b ∷ bytes))) ≡ at + suc (length bytes)
front_behind front at start b bytes charge = front_after_run (suc at) start bytes ∙ omega arith

-- all bytes of a datagram are wanted
pub all_wanted : (front at : ℕ) (flow : List Placed) (start : ℤ) (bytes : List ℕ) → front ≤ at
    → filter (λ p. is_fate Wanted (fate (record { front = front; held = []; flow = flow }) None p.at)) (placed_from at start bytes) ≡ placed_from at start bytes
all_wanted front at flow start [] h = refl
all_wanted front at flow start (b ∷ bytes) h =
    ap (λ t. cond t (record { at = at; byte = b; start = start; charge = None } ∷ rest) rest) wanted ∙ ap (λ ps. record { at = at; byte = b; start = start; charge = None } ∷ ps) (all_wanted front (suc at) flow start bytes (omega arith))
  where
    rest : List Placed
    rest = filter (λ p. is_fate Wanted (fate (record { front = front; held = []; flow = flow }) None p.at)) (placed_from (suc at) start bytes)

    wanted : is_fate Wanted (fate (record { front = front; held = []; flow = flow }) None at) ≡ true
    wanted = grind arith

-- so they are one run
pub one_run : (front at : ℕ) (flow : List Placed) (b : ℕ) (bytes : List ℕ) → front ≤ at
    → stretches (filter (λ p. is_fate Wanted (fate (record { front = front; held = []; flow = flow }) None p.at)) (placed_from at (pos at) (b ∷ bytes))) ≡ placed_from at (pos at) (b ∷ bytes) ∷ []
one_run front at flow b bytes h = ap stretches (all_wanted front at flow (pos at) (b ∷ bytes) h) ∙ one_stretch at (pos at) b bytes

-- a run that is passed is one block behind the gap before it
pub one_block : (front at : ℕ) (b : ℕ) (bytes : List ℕ) (charge : Charge)
    → blocks front (with_charge charge (placed_from at (pos at) (b ∷ bytes))) ≡ record { gap = at - front; bytes = with_charge charge (placed_from at (pos at) (b ∷ bytes)) } ∷ []
one_block front at b bytes charge = ap (λ rs. Rattle.streamdefs.specs.Pending.behind_gaps front rs) (one_stretch_charged at (pos at) b bytes charge)

-- Parts, and the bytes that they stand for.

bytes_from : (at : ℕ) (start : ℤ) (bytes : List ℕ) → map (λ p. p.byte) (placed_from at start bytes) ≡ bytes
bytes_from at start [] = refl
bytes_from at start (b ∷ bytes) = ap (λ bs. b ∷ bs) (bytes_from (suc at) start bytes)

bytes_charged : (charge : Charge) (ps : List Placed) → map (λ p. p.byte) (with_charge charge ps) ≡ map (λ p. p.byte) ps
bytes_charged charge [] = refl
bytes_charged charge (p ∷ ps) = refl

map-append_bytes : (ps qs : List Placed) → map (λ p. p.byte) (ps ++ qs) ≡ map (λ p. p.byte) ps ++ map (λ p. p.byte) qs
map-append_bytes [] qs = refl
map-append_bytes (p ∷ ps) qs = ap (λ bs. p.byte ∷ bs) (map-append_bytes ps qs)

-- the bytes of placed parts are those of the parts
pub placed_bytes : (at : ℕ) (parts : List Paid) → map (λ p. p.byte) (placed_parts at parts) ≡ joined parts
placed_bytes at [] = refl
placed_bytes at (part ∷ parts) =
    map-append_bytes (placed_part at part) (placed_parts (at + length part.bytes) parts)
    ∙ ap (λ bs. bs ++ map (λ p. p.byte) (placed_parts (at + length part.bytes) parts)) (bytes_charged (charge_for part) (placed_from at (pos at) part.bytes) ∙ bytes_from at (pos at) part.bytes)
    ∙ ap (λ bs. part.bytes ++ bs) (placed_bytes (at + length part.bytes) parts)

pub length_placed : (at : ℕ) (start : ℤ) (bytes : List ℕ) → length (placed_from at start bytes) ≡ length bytes
length_placed at start [] = refl
length_placed at start (b ∷ bytes) = ap suc (length_placed (suc at) start bytes)

length_charged : (charge : Charge) (ps : List Placed) → length (with_charge charge ps) ≡ length ps
length_charged charge [] = refl
length_charged charge (p ∷ ps) = refl

length-append_placed : (ps qs : List Placed) → length (ps ++ qs) ≡ length ps + length qs
length-append_placed [] qs = omega arith
length-append_placed (p ∷ ps) qs = omega (arith, length-append_placed ps qs)

-- as many as the parts have
pub placed_length : (at : ℕ) (parts : List Paid) → length (placed_parts at parts) ≡ size parts
placed_length at [] = refl
placed_length at (part ∷ parts) =
    omega (
      arith,
      length-append_placed (placed_part at part) (placed_parts (at + length part.bytes) parts),
      length_charged (charge_for part) (placed_from at (pos at) part.bytes),
      length_placed at (pos at) part.bytes,
      placed_length (at + length part.bytes) parts,
    )

no_charges : (at : ℕ) (start : ℤ) (bytes : List ℕ) → run_charges (placed_from at start bytes) ≡ []
no_charges at start [] = refl
no_charges at start (b ∷ bytes) = no_charges (suc at) start bytes

charges-append : (ps qs : List Placed) → run_charges (ps ++ qs) ≡ run_charges ps ++ run_charges qs
charges-append [] qs = refl
charges-append (p ∷ ps) qs = by p.charge (charges-append ps qs)
  where
    by : (charge : Option Charge) → run_charges (ps ++ qs) ≡ run_charges ps ++ run_charges qs
        → run_charges (record p { charge = charge } ∷ (ps ++ qs)) ≡ run_charges (record p { charge = charge } ∷ ps) ++ run_charges qs
    by None rest = rest
    by (Some charge) rest = ap (λ cs. charge ∷ cs) rest

part_charge : (at : ℕ) (part : Paid) → 0 < length part.bytes → run_charges (placed_part at part) ≡ charge_for part ∷ []
part_charge at part filled = by part.bytes filled
  where
    by : (bytes : List ℕ) → 0 < length bytes → run_charges (placed_part at (record part { bytes = bytes })) ≡ charge_for (record part { bytes = bytes }) ∷ []
    by [] h = absurd (omega arith)
    by (b ∷ bytes) h = ap (λ cs. charge_for (record part { bytes = b ∷ bytes }) ∷ cs) (no_charges (suc at) (pos at) bytes)

-- and their charges are those of the parts
pub placed_charges : (at : ℕ) (parts : List Paid) → IsFilled parts → run_charges (placed_parts at parts) ≡ map charge_for parts
placed_charges at [] h = refl
placed_charges at (part ∷ parts) h =
    charges-append (placed_part at part) (placed_parts (at + length part.bytes) parts)
    ∙ ap (λ cs. cs ++ run_charges (placed_parts (at + length part.bytes) parts)) (part_charge at part h.0)
    ∙ ap (λ cs. charge_for part ∷ cs) (placed_charges (at + length part.bytes) parts h.1)

-- one part more
pub placed_push : (at : ℕ) (parts : List Paid) (part : Paid) → placed_parts at (parts ++ part ∷ []) ≡ placed_parts at parts ++ placed_part (at + size parts) part
placed_push at [] part = append-nil (placed_part at part) ∙ ap (λ n. placed_part n part) (sym (add-zero at))
placed_push at (first ∷ parts) part =
    ap (λ ps. placed_part at first ++ ps) (placed_push (at + length first.bytes) parts part)
    ∙ ap (λ n. placed_part at first ++ (placed_parts (at + length first.bytes) parts ++ placed_part n part)) (omega arith)
    ∙ sym (append_assoc (placed_part at first) (placed_parts (at + length first.bytes) parts) (placed_part (at + size (first ∷ parts)) part))

pub size_push : (parts : List Paid) (part : Paid) → size (parts ++ part ∷ []) ≡ size parts + length part.bytes
size_push [] part = omega arith
size_push (first ∷ parts) part = omega (arith, size_push parts part)

pub filled_push : (parts : List Paid) (part : Paid) → IsFilled parts → 0 < length part.bytes → IsFilled (parts ++ part ∷ [])
filled_push [] part h n = (n, tt)
filled_push (first ∷ parts) part h n = (h.0, filled_push parts part h.1 n)

-- the delivery of what is pending, where it has parts
pub piece_is : (gap since start : ℕ) (parts : List Paid) → 0 < length parts → IsFilled parts
    → piece_of (record { gap = gap; since = since; bytes = placed_parts start parts; copy = None }) ≡ piece_for (record { start = start; gap = gap; parts = parts }) ∷ []
piece_is gap since start [] some h = absurd (omega arith)
piece_is gap since start (part ∷ parts) some h = by part.bytes h.0
  where
    by : (bytes : List ℕ) → 0 < length bytes
        → piece_of (record { gap = gap; since = since; bytes = placed_parts start (record part { bytes = bytes } ∷ parts); copy = None })
        ≡ piece_for (record { start = start; gap = gap; parts = record part { bytes = bytes } ∷ parts }) ∷ []
    by [] n = absurd (omega arith)
    by (b ∷ bytes) n = λ i. record {
      start = start;
      gap = gap;
      copy = [];
      fresh = placed_bytes start (record part { bytes = b ∷ bytes } ∷ parts) i;
      charges = placed_charges start (record part { bytes = b ∷ bytes } ∷ parts) (n, h.1) i;
    } ∷ []

-- The bytes of a chunk as contracts see it.
pub fresh_size : (parts : List (List ℕ × ChargeParts)) → length (bytes_of parts) ≡ size (map paid_of parts)
fresh_size [] = refl
fresh_size (part ∷ parts) = length-append part.0 (bytes_of parts) ∙ ap (λ n. length part.0 + n) (fresh_size parts)

pub fresh_joined : (parts : List (List ℕ × ChargeParts)) → bytes_of parts ≡ joined (map paid_of parts)
fresh_joined [] = refl
fresh_joined (part ∷ parts) = ap (λ bs. part.0 ++ bs) (fresh_joined parts)

-- the bytes of an open chunk are among those that came
pub chunk_bound : (sent front : ℕ) (c : ChunkParts ChargeParts) → IsKept sent front (Some c) → length (bytes_of c.fresh) ≤ sent
chunk_bound sent front c k = omega (arith, k.whole.0, k.behind, fresh_size c.fresh)

length-map_paid : (parts : List (List ℕ × ChargeParts)) → length (map paid_of parts) ≡ length parts
length-map_paid [] = refl
length-map_paid (part ∷ parts) = ap suc (length-map_paid parts)

-- what is kept with a datagram that joins the open chunk
pub kept_joined : (sent front n room : ℕ) (c d : ChunkParts ChargeParts) (part : List ℕ × ChargeParts) → IsKept sent front (Some c) → sent ≡ front → 0 < length part.0 → n ≡ length part.0
    → d ≡ record c { fresh = c.fresh ++ part ∷ []; room = room } → IsKept (sent + n) (sent + n) (Some d)
kept_joined sent front n room c d part k same some n_is e = subst (λ (x : ChunkParts ChargeParts). IsKept (sent + n) (sent + n) (Some x)) (sym e) made
  where
    parts_are : map paid_of (c.fresh ++ part ∷ []) ≡ map paid_of c.fresh ++ paid_of part ∷ []
    parts_are = map-append paid_of c.fresh (part ∷ [])

    ends : (parts : List Paid) → map paid_of (c.fresh ++ part ∷ []) ≡ parts → EndsAt (sent + n) (Some (record { start = c.start; gap = c.gap; parts = parts })) → EndsAt (sent + n) (Some (chunk_of (record c { fresh = c.fresh ++ part ∷ []; room = room })))
    ends parts q h = subst (λ ps. EndsAt (sent + n) (Some (record { start = c.start; gap = c.gap; parts = ps }))) (sym q) h

    made : IsKept (sent + n) (sent + n) (Some (record c { fresh = c.fresh ++ part ∷ []; room = room }))
    made = record {
      behind = omega arith;
      whole = ends (map paid_of c.fresh ++ paid_of part ∷ []) parts_are
          (omega (arith, k.whole.0, same, n_is, size_push (map paid_of c.fresh) (paid_of part)), omega (arith, length-append (map paid_of c.fresh) (paid_of part ∷ [])), filled_push (map paid_of c.fresh) (paid_of part) k.whole.2 some);
      bare = k.bare;
    }
