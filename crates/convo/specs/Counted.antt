-- What is counted of a direction.
use Rattle.std.specs.Prelude.{◌≡◌, ℕ, ◌+◌, ◌-◌, cond, nat_lt, List, ◌++◌, length, map, filter, Option, Some, None}
use Rattle.chunkpart.specs.ChunkParts.{ChunkParts}
use Rattle.streamdefs.specs.View.{Gap}
use Rattle.streamdefs.specs.Pending.{Piece}
use Rattle.flowdir.specs.declared.counts.Counts.{Counts}
use Rattle.convo.specs.Talk.{Sums, bytes_in_gaps, kept_count, kept_counts}
use Rattle.convo.specs.declared.half.Half.{Half}

-- the gaps before these pieces
abbrev pub gap_before : Piece → Gap
gap_before p = record { at = p.start - p.gap; len = p.gap }

abbrev pub gaps_in : List Piece → List Gap
gaps_in pieces = map gap_before (filter (λ p. nat_lt 0 p.gap) pieces)

-- What is kept stands for the sums of a direction, of which the gaps before these pieces are still to be told.
pub record CountsUp (counts : Counts) (gaps gap_bytes : ℕ) (s : Sums) (pieces : List Piece) : Type 0 where
  pub told : List Gap
  pub counts_are : counts ≡ kept_counts s.counts
  pub all : s.gaps ≡ told ++ gaps_in pieces
  pub gaps_are : gaps ≡ kept_count (length told)
  pub bytes_are : gap_bytes ≡ kept_count (bytes_in_gaps told)

-- one gap more, where there is one
abbrev pub gaps_with : ℕ → ℕ → ℕ
gaps_with gap n = cond (nat_lt 0 gap) (kept_count (n + 1)) n

-- the gap before a chunk that is handed over is counted
pub record IsCounted {C : Type 0} (h h' : Half C) (gap : ℕ) : Type 0 where
  pub counts_same : h'.counts ≡ h.counts
  pub gaps_are : h'.gaps ≡ gaps_with gap h.gaps
  pub bytes_are : h'.gap_bytes ≡ kept_count (h.gap_bytes + gap)

-- nothing is counted
pub record IsUncounted {C : Type 0} (h h' : Half C) : Type 0 where
  pub counts_same : h'.counts ≡ h.counts
  pub gaps_same : h'.gaps ≡ h.gaps
  pub bytes_same : h'.gap_bytes ≡ h.gap_bytes

-- where a chunk is handed over, the gap before it is counted
abbrev pub CountsTaken : {C : Type 0} → Half C → Half C → Option (List (ChunkParts C) × ChunkParts C) → Type 0
CountsTaken h h' None = IsUncounted h h'
CountsTaken h h' (Some taken) = IsCounted h h' taken.1.gap
