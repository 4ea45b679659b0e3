-- The report's lines on a whole run, by the totals that are kept of its directions: docs/FORMATS.md, "The report".
use Rattle.std.specs.Prelude.{◌≡◌, ℕ, ◌+◌, ◌^◌, ◌<◌, List, [], ◌∷◌, ◌++◌, flat_map}
use Rattle.convo.specs.declared.dir_total.DirTotal.{DirTotal}
use Rattle.streamdefs.specs.Lists.{total}
use Rattle.streamdefs.specs.Report.{RecordCounts, records_of, dir_line, records_line, bytes_line, budget_line}
use Rattle.tally.specs.declared.totals.Totals.{Totals}

-- the bytes that came in a direction: each has one class
abbrev pub payload_of : DirTotal → ℕ
payload_of d = d.counts.duplicate + d.counts.late + d.counts.cut + d.counts.taken + d.counts.shed

-- the numbers of a direction's line, in its order; behind the End all that was taken is delivered
abbrev pub numbers_in : DirTotal → List ℕ
numbers_in d = payload_of d ∷ d.counts.taken ∷ d.counts.duplicate ∷ d.counts.late ∷ d.counts.cut ∷ d.counts.shed ∷ d.gaps ∷ d.gap_bytes ∷ []

abbrev pub line_of : DirTotal → List ℕ
line_of d = dir_line d.conv d.way (numbers_in d)

-- the sums of the directions'
abbrev pub sums_line : List DirTotal → List ℕ
sums_line ds =
    bytes_line (total payload_of ds) (total (λ d. d.counts.taken) ds) (total (λ d. d.counts.duplicate) ds) (total (λ d. d.counts.late) ds) (total (λ d. d.counts.cut) ds)
    (total (λ d. d.counts.shed) ds)

-- the records by what became of them
abbrev pub records_in : Totals → RecordCounts
records_in t = record { accepted = t.accepted; filtered = t.skips.filtered; other = t.skips.other; fragment = t.skips.fragment; short = t.skips.short }

-- each record was accepted or skipped, and the bytes of all payloads are a number of 64 bits
pub record AddUp (t : Totals) : Type 0 where
  pub records : t.frames ≡ records_of (records_in t)
  pub payload : total payload_of t.dirs < 2 ^ 64

-- the lines of all directions, of the records, of all bytes and of the budget
unfoldable pub totals_text : Totals → List ℕ
totals_text t = flat_map line_of t.dirs ++ records_line (records_in t) ++ sums_line t.dirs ++ budget_line t.peak.stamps t.peak.peak t.refused
