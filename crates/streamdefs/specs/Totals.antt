-- What became of the bytes: of a direction and of a run; and what its budget history came to.
use Rattle.std.specs.Prelude.{ℕ, suc, ◌+◌, ◌-◌, not, List, [], ◌∷◌, length, filter, max, zero, map, nat_lt}
use Rattle.evring.specs.declared.way.Way.{Way}
use Rattle.histbook.specs.declared.look_entry.LookEntry.{LookEntry}
use Rattle.streamdefs.specs.Lists.{total}
use Rattle.streamdefs.specs.Both.{of_way, same_way}
use Rattle.histbook.specs.Budget.{BudgetMove, granted_below, freed_below}
use Rattle.streamdefs.specs.Terms.{Terms}
use Rattle.streamdefs.specs.View.{Gap}
use Rattle.streamdefs.specs.Direction.{Counts, no_counts}
use Rattle.streamdefs.specs.Convo.{Act, Convo, convo_after, along, counts_in, deliveries_in, Delivery}

-- two counts together
abbrev pub plus : Counts → Counts → Counts
plus a b = record { duplicate = a.duplicate + b.duplicate; late = a.late + b.late; cut = a.cut + b.cut; taken = a.taken + b.taken; shed = a.shed + b.shed }

-- all of these together
abbrev pub total_counts : List Counts → Counts
total_counts [] = no_counts
total_counts (c ∷ cs) = plus c (total_counts cs)

-- of one direction of a conversation: the bytes of its payloads, those delivered (copies and kept ones not counted), the
-- classes, and the gaps
pub record Total : Type 0 where
  pub payload : ℕ
  pub delivered : ℕ
  pub counts : Counts
  pub gaps : List Gap

-- the deliveries of one direction along a history
abbrev pub deliveries_of : Terms → Convo → Way → List Act → List Delivery
deliveries_of terms c way acts = filter (λ d. same_way way d.way) (along terms (deliveries_in terms) c acts)

-- the gaps before these deliveries; at the End they are the gaps of the flow
abbrev pub gaps_before : List Delivery → List Gap
gaps_before ds = map (λ d. record { at = d.piece.start - d.piece.gap; len = d.piece.gap }) (filter (λ d. nat_lt 0 d.piece.gap) ds)

-- the number of their fresh bytes
abbrev pub fresh_bytes : List Delivery → ℕ
fresh_bytes ds = total (λ d. length d.piece.fresh) ds

-- the counts of one direction along a history
abbrev pub counts_of : Terms → Convo → Way → List Act → Counts
counts_of terms c way acts = total_counts (along terms (λ c act. counts_in terms c way act ∷ []) c acts)

-- the totals of one direction along a history
abbrev pub total_of : Terms → Convo → Way → List Act → Total
total_of terms c way acts = record {
  payload = (of_way way (convo_after terms c acts).directions).sent;
  delivered = fresh_bytes (deliveries_of terms c way acts);
  counts = counts_of terms c way acts;
  gaps = gaps_before (deliveries_of terms c way acts);
}

-- the bytes of all gaps
abbrev pub gap_bytes : Total → ℕ
gap_bytes t = total (λ g. g.len) t.gaps

-- the used bytes behind a stamp
abbrev pub used_behind : List BudgetMove → ℕ → ℕ
used_behind moves stamp = granted_below (suc stamp) moves - freed_below (suc stamp) moves

-- the greatest number of used bytes behind any of the first n stamps
abbrev pub peak_below : List BudgetMove → ℕ → ℕ
peak_below moves zero = 0
peak_below moves (suc n) = max (used_behind moves n) (peak_below moves n)

-- behind any move, and 0 without one
abbrev pub peak : List BudgetMove → ℕ
peak moves = peak_below moves (length moves)

-- the number of refused looks
abbrev pub refused : List LookEntry → ℕ
refused looks = length (filter (λ look. not look.granted) looks)
