-- The report, by what is kept of the conversations and by the budget's numbers: docs/FORMATS.md, "The report".
use Rattle.std.specs.Prelude.{ℕ, List, ◌++◌, false, flat_map}
use Rattle.datagrams.specs.declared.conversation.Conversation.{Conversation}
use Rattle.datagrams.specs.Rows.{row_of}
use Rattle.datagrams.specs.Sums.{Sums, over_both, row_lines}
use Rattle.streamdefs.specs.Lists.{total}
use Rattle.histbook.specs.JournalText.{journal_text}
use Rattle.histbook.specs.declared.journal.Journal.{Journal}
use Rattle.streamdefs.specs.Report.{Outcome, RecordCounts, budget_line, bytes_line, head_lines, records_line, status_line}

-- a number over both directions of all conversations
abbrev pub over_all : (Sums → ℕ) → List Conversation → ℕ
over_all f table = total (λ c. over_both f (row_of false c)) table

-- the two lines of a conversation
abbrev pub lines_of : Conversation → List ℕ
lines_of c = row_lines (row_of false c)

-- the report of a journal of one core and one worker
unfoldable pub lines_with : Journal → List Conversation → RecordCounts → (stamps peak refused : ℕ) → Outcome → List ℕ
lines_with journal table records stamps peak refused outcome =
    head_lines 1 1 ++ journal_text journal ++ flat_map lines_of table ++ records_line records ++ bytes_line (over_all (λ s. s.payload) table) (over_all (λ s. s.delivered) table) 0 0 0 (over_all (λ s. s.shed) table) ++ budget_line stamps peak refused ++ status_line outcome
