-- How the flow of a direction is cut into deliveries.
use Rattle.std.specs.Prelude.{ℕ, ◌+◌, ◌-◌, Bool, cond, ◌&&◌, ◌==◌, nat_lt, nat_le, List, [], ◌∷◌, ◌++◌, length, drop, map, Option, Some, None, min, filter_map, not, flat_map}
use Rattle.streamdefs.specs.Lists.{is_empty}
use Rattle.histbook.specs.declared.look_entry.LookEntry.{LookEntry}
use Rattle.streamdefs.specs.Terms.{Terms}
use Rattle.streamdefs.specs.Reorder.{Charge, Placed, stretches}
use Rattle.streamdefs.specs.View.{Ask, charge_of, front_after}

-- the last bytes of a delivery, to be shown again with the next one
pub record Copy : Type 0 where
  pub bytes : List ℕ
  pub charge : Charge

-- The part of the flow since the last cut, with the gap before it, the moment of the entry that gave its first byte, and a
-- copy from the delivery before.
pub record Pending : Type 0 where
  pub gap : ℕ
  pub since : ℕ
  pub bytes : List Placed
  pub copy : Option Copy

-- nothing since the last cut
abbrev pub nothing_pending : Pending
nothing_pending = record { gap = 0; since = 0; bytes = []; copy = None }

-- A delivery, as its direction makes it: the position of its first fresh byte, the gap before it, the copy, the fresh bytes, and
-- its charges: that of the copy, then those of its runs.
pub record Piece : Type 0 where
  pub start : ℕ
  pub gap : ℕ
  pub copy : List ℕ
  pub fresh : List ℕ
  pub charges : List Charge

-- the bytes of a copy
abbrev pub copied : Option Copy → List ℕ
copied None = []
copied (Some copy) = copy.bytes

-- its charge
abbrev pub copy_charge : Option Copy → List Charge
copy_charge None = []
copy_charge (Some copy) = copy.charge ∷ []

-- the charges of the runs that begin in these bytes
abbrev pub run_charges : List Placed → List Charge
run_charges ps = filter_map (λ p. p.charge) ps

-- what is handed over: nothing where no byte is pending
abbrev pub piece_of : Pending → List Piece
piece_of pending = pieces pending.bytes
  where
    pieces : List Placed → List Piece
    pieces [] = []
    pieces (p ∷ ps) = record {
      start = p.at;
      gap = pending.gap;
      copy = copied pending.copy;
      fresh = map (λ q. q.byte) (p ∷ ps);
      charges = copy_charge pending.copy ++ run_charges (p ∷ ps);
    } ∷ []

-- the charge of a copy that no fresh byte has followed
abbrev pub spare_of : Pending → List Charge
spare_of pending = spare pending.bytes
  where
    spare : List Placed → List Charge
    spare [] = copy_charge pending.copy
    spare (p ∷ ps) = []

-- a stretch of the flow, and the gap before it
pub record Block : Type 0 where
  pub gap : ℕ
  pub bytes : List Placed

-- stretches with the gaps before them
abbrev pub behind_gaps : ℕ → List (List Placed) → List Block
behind_gaps front [] = []
behind_gaps front ([] ∷ rest) = behind_gaps front rest
behind_gaps front ((p ∷ ps) ∷ rest) = record { gap = p.at - front; bytes = p ∷ ps } ∷ behind_gaps (front_after front (p ∷ ps)) rest

-- what an entry passed, from a front on, cut before each gap
abbrev pub blocks : ℕ → List Placed → List Block
blocks front ps = behind_gaps front (stretches ps)

-- what is pending with a block that follows with no gap; a first byte stands since the moment of the entry that passed it
abbrev pub grown : ℕ → Pending → List Placed → Pending
grown moment pending more = grow pending.bytes
  where
    grow : List Placed → Pending
    grow [] = record { gap = pending.gap; since = moment; bytes = more; copy = pending.copy }
    grow (p ∷ ps) = record { gap = pending.gap; since = pending.since; bytes = p ∷ ps ++ more; copy = pending.copy }

-- what is pending behind a gap
abbrev pub begun : ℕ → Block → Pending
begun moment block = record { gap = block.gap; since = moment; bytes = block.bytes; copy = None }

-- what the gaps of an entry close, in order
abbrev pub closed_by_gaps : ℕ → Pending → List Block → List Pending
closed_by_gaps moment pending [] = []
closed_by_gaps moment pending (block ∷ blocks) =
    cond (block.gap == 0) (closed_by_gaps moment (grown moment pending block.bytes) blocks) (pending ∷ closed_by_gaps moment (begun moment block) blocks)

-- what is pending behind them
abbrev pub pending_after : ℕ → Pending → List Block → Pending
pending_after moment pending [] = pending
pending_after moment pending (block ∷ blocks) =
    cond (block.gap == 0) (pending_after moment (grown moment pending block.bytes) blocks) (pending_after moment (begun moment block) blocks)

-- whether a byte is pending
abbrev pub is_pending : Pending → Bool
is_pending pending = not (is_empty pending.bytes)

-- at least a chunk of bytes is pending
abbrev pub is_full : Terms → Pending → Bool
is_full terms pending = is_pending pending && nat_le terms.chunk (length pending.bytes)

-- the pending bytes are due to be handed over at this moment
abbrev pub is_flush_due : Terms → ℕ → Pending → Bool
is_flush_due terms at pending = is_pending pending && nat_lt 0 terms.flush && (pending.since + terms.flush == at)

-- the ask for a copy after a cut
abbrev pub copy_asks : Terms → Pending → List Ask
copy_asks terms pending = cond (nat_lt 0 terms.overlap) (record { bytes = min terms.overlap (length pending.bytes); from = None } ∷ []) []

-- the last n bytes
abbrev pub last_bytes : ℕ → List Placed → List ℕ
last_bytes n ps = map (λ p. p.byte) (drop (length ps - n) ps)

-- what is pending after a cut: a copy, where it was asked for and granted
abbrev pub pending_behind : Terms → Pending → List LookEntry → Pending
pending_behind terms pending looks = cond (nat_lt 0 terms.overlap) (behind looks) nothing_pending
  where
    behind : List LookEntry → Pending
    behind [] = nothing_pending
    behind (look ∷ looks) =
        cond look.granted
        (record nothing_pending { copy = Some (record { bytes = last_bytes look.asked pending.bytes; charge = charge_of look }) })
        nothing_pending

-- the bytes alone
abbrev pub bytes_in : List Placed → List ℕ
bytes_in ps = map (λ p. p.byte) ps

-- the fresh bytes of deliveries, joined
abbrev pub fresh_in : List Piece → List ℕ
fresh_in pieces = flat_map (λ piece. piece.fresh) pieces
