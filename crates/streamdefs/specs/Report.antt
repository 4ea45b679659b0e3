-- The report: docs/FORMATS.md, "The report".
use Rattle.std.specs.Prelude.{ℕ, ◌+◌, cond, nat_lt, List, [], ◌∷◌, ◌++◌, length, map, flat_map, codes}
use Rattle.std.specs.Fmt.{decimal}
use Rattle.evring.specs.declared.way.Way.{Way}
use Rattle.evring.specs.declared.way.Way.TheVariants.{Fore, Back}
use Rattle.histbook.specs.declared.look_entry.LookEntry.{LookEntry}
use Rattle.streamdefs.specs.Lists.{total}
use Rattle.streamdefs.specs.Both.{Both}
use Rattle.histbook.specs.Budget.{BudgetMove}
use Rattle.histbook.specs.JournalText.{journal_text}
use Rattle.histbook.specs.declared.journal.Journal.{Journal}
use Rattle.streamdefs.specs.Terms.{Terms}
use Rattle.streamdefs.specs.Convo.{new_convo}
use Rattle.streamdefs.specs.Core.{Open, Line, core_at, idle_core, history}
use Rattle.streamdefs.specs.Lawful.{Run}
use Rattle.streamdefs.specs.Order.{all_moves, all_looks}
use Rattle.streamdefs.specs.Totals.{Total, total_of, gap_bytes, peak, refused}
use Rattle.textout.specs.Texts.{spaced}
use Rattle.streamdefs.specs.Handler.{way_mark}

-- how many records were accepted, and how many were not, by the reason
pub record RecordCounts : Type 0 where
  pub accepted : ℕ
  pub filtered : ℕ
  pub other : ℕ
  pub fragment : ℕ
  pub short : ℕ

-- the number of all records
abbrev pub records_of : RecordCounts → ℕ
records_of n = n.accepted + n.filtered + n.other + n.fragment + n.short

-- how a run ended: the number of its status, and the numbers that tell more of a faulty end of the capture
pub record Outcome : Type 0 where
  pub status : ℕ
  pub more : List ℕ

-- the totals of a conversation
pub record Tallied : Type 0 where
  pub conv : ℕ
  pub totals : Both Total

-- those of the conversations of a core, in the order in which they opened
abbrev pub tallied_on : Terms → List Line → List Tallied
tallied_on terms lines = map tallied (core_at terms idle_core lines).convos
  where
    total_in : Open → Way → Total
    total_in o way = total_of terms (new_convo o.convo.first) way (history o.id lines)

    tallied : Open → Tallied
    tallied o = record { conv = o.id; totals = record { fore = total_in o Fore; back = total_in o Back } }

-- one put among others by its number
abbrev pub put_tallied : Tallied → List Tallied → List Tallied
put_tallied t [] = t ∷ []
put_tallied t (u ∷ us) = cond (nat_lt t.conv u.conv) (t ∷ u ∷ us) (u ∷ put_tallied t us)

-- all of these by ascending number
abbrev pub by_number : List Tallied → List Tallied
by_number [] = []
by_number (t ∷ ts) = put_tallied t (by_number ts)

-- the totals of all conversations, by ascending number
abbrev pub tallied_in : Run → List Tallied
tallied_in run = by_number (flat_map (tallied_on run.terms) run.books)

-- those of all directions
abbrev pub totals_in : List Tallied → List Total
totals_in ts = flat_map (λ t. t.totals.fore ∷ t.totals.back ∷ []) ts

-- the numbers of a direction's line, in its order
abbrev pub numbers_of : Total → List ℕ
numbers_of t = t.payload ∷ t.delivered ∷ t.counts.duplicate ∷ t.counts.late ∷ t.counts.cut ∷ t.counts.shed ∷ length t.gaps ∷ gap_bytes t ∷ []

-- the report's first two lines
unfoldable pub head_lines : (cores workers : ℕ) → List ℕ
head_lines cores workers = codes "scap report 1\ncores " ++ decimal cores ++ codes " workers " ++ decimal workers ++ codes "\n"

-- what became of a direction's bytes
unfoldable pub dir_line : ℕ → Way → (numbers : List ℕ) → List ℕ
dir_line conv way numbers = codes "dir " ++ decimal conv ++ codes " " ++ way_mark way ++ spaced numbers ++ codes "\n"

-- the two lines of a conversation
abbrev pub dir_lines : Tallied → List ℕ
dir_lines t = dir_line t.conv Fore (numbers_of t.totals.fore) ++ dir_line t.conv Back (numbers_of t.totals.back)

-- how many records there are, and of each kind
unfoldable pub records_line : RecordCounts → List ℕ
records_line n =
    codes "records " ++ decimal (records_of n) ++ codes " accepted " ++ decimal n.accepted ++ codes " filtered " ++ decimal n.filtered
    ++ codes " other " ++ decimal n.other ++ codes " fragment " ++ decimal n.fragment ++ codes " short " ++ decimal n.short ++ codes "\n"

-- what became of all bytes
unfoldable pub bytes_line : (payload delivered duplicate late cut shed : ℕ) → List ℕ
bytes_line payload delivered duplicate late cut shed =
    codes "bytes payload " ++ decimal payload ++ codes " delivered " ++ decimal delivered ++ codes " duplicate " ++ decimal duplicate
    ++ codes " late " ++ decimal late ++ codes " cut " ++ decimal cut ++ codes " shed " ++ decimal shed ++ codes "\n"

-- the sums of the directions'
abbrev pub totals_line : List Total → List ℕ
totals_line ts =
    bytes_line (total (λ t. t.payload) ts) (total (λ t. t.delivered) ts) (total (λ t. t.counts.duplicate) ts) (total (λ t. t.counts.late) ts)
    (total (λ t. t.counts.cut) ts) (total (λ t. t.counts.shed) ts)

-- how many grants and releases there were, the most bytes that were in use, and how many looks were refused
unfoldable pub budget_line : (stamps peak refused : ℕ) → List ℕ
budget_line stamps peak refused = codes "budget stamps " ++ decimal stamps ++ codes " peak " ++ decimal peak ++ codes " refused " ++ decimal refused ++ codes "\n"

-- those of a history
abbrev pub history_line : List BudgetMove → List LookEntry → List ℕ
history_line moves looks = budget_line (length moves) (peak moves) (refused looks)

-- how the run ended
unfoldable pub status_line : Outcome → List ℕ
status_line outcome = codes "status " ++ decimal outcome.status ++ spaced outcome.more ++ codes "\n"

-- the report's lines behind the journal
abbrev pub total_lines : Run → RecordCounts → Outcome → List ℕ
total_lines run records outcome =
    flat_map dir_lines (tallied_in run) ++ records_line records ++ totals_line (totals_in (tallied_in run)) ++ history_line (all_moves run) (all_looks run) ++ status_line outcome

-- the report, with the journal that the run was read from
unfoldable pub report_text : Run → Journal → RecordCounts → Outcome → List ℕ
report_text run journal records outcome = head_lines (length run.books) (length run.served) ++ journal_text journal ++ total_lines run records outcome
