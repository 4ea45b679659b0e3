-- What a replay takes of a journal: its moves and its looks, core after core, entry after entry.
use Rattle.std.specs.Prelude.{◌≡◌, ℕ, ◌^◌, ◌<◌, cond, List, [], ◌∷◌, ◌++◌, length, map, flat_map}
use Rattle.prio_budget.specs.declared.free.Free.{Free}
use Rattle.histbook.specs.declared.look_entry.LookEntry.{LookEntry}
use Rattle.histbook.specs.declared.core_entry.CoreEntry.{CoreEntry}
use Rattle.histbook.specs.declared.journal.Journal.{Journal}
use Rattle.histbook.specs.InTurn.{peak, book_asks}
use Rattle.histbook.specs.Moves.{looks_in, frees_in, journal_moves, IsBudgetHistory}
use Rattle.streamdefs.specs.Packet.{Packet}
use Rattle.streamdefs.specs.Terms.{Terms}
use Rattle.streamdefs.specs.Lawful.{Handler}
use Rattle.streamdefs.specs.Order.{OneHistory, all_moves, all_looks}
use Rattle.streamdefs.specs.Case.{run_of}
use Rattle.streamdefs.specs.Report.{budget_line, history_line}
use Rattle.streamdefs.specs.Totals.{refused}
use Rattle.tally.specs.declared.moves.Move.{Move}
use Rattle.tally.specs.declared.moves.Move.TheVariants as moves
use Rattle.tally.specs.declared.peak.Peak.{Peak}
use Rattle.tally.specs.Laws.{move_of}
use Rattle.tally.specs.Replay.{IsOneReplay, IsPeak}

-- a granted look is a grant, a refused one is no move
abbrev pub grant_in : LookEntry → List Move
grant_in look = cond look.granted (moves.Grant look.look.stamp look.asked ∷ []) []

abbrev pub release_in : Free → List Move
release_in free = moves.Free free.stamp free.bytes ∷ []

-- the moves of an entry, of a book, and of a journal
abbrev pub moves_of_entry : CoreEntry → List Move
moves_of_entry entry = flat_map grant_in (looks_in entry.entry) ++ flat_map release_in (frees_in entry.entry)

abbrev pub moves_of_book : List CoreEntry → List Move
moves_of_book book = flat_map moves_of_entry book

abbrev pub moves_in : Journal → List Move
moves_in journal = flat_map moves_of_book journal.cores

-- its looks, with what each asked for
abbrev pub asks_in : Journal → List LookEntry
asks_in journal = flat_map book_asks journal.cores

-- The moves are those of the budget's history of the journal, one for one and in their order.
abbrev pub MovesAreTheHistorys : Type 0
MovesAreTheHistorys = (journal : Journal) → moves_in journal ≡ map move_of (journal_moves journal)

-- how many moves a journal has, and the greatest used number behind one of them
abbrev pub IsPeakOf : Journal → Peak → Type 0
IsPeakOf journal p = (p.stamps ≡ length (journal_moves journal)) × (p.peak ≡ peak (journal_moves journal))

-- a journal that is one history of its budget is one replay
abbrev pub JournalIsReplayed : Type 0
JournalIsReplayed = (limit : ℕ) (journal : Journal) → length (journal_moves journal) < 2 ^ 32 → IsBudgetHistory limit journal → IsOneReplay limit (moves_in journal) (asks_in journal)

-- So is the journal of a run that is one history; and the report's line on its budget has the numbers of the replay.
abbrev pub RunIsReplayed : Type 0
RunIsReplayed = (terms : Terms) (packets : List Packet) (core_of : Packet → ℕ) (cores last : ℕ) (handlers : List Handler) (journal : Journal)
    → length (journal_moves journal) < 2 ^ 32 → OneHistory (run_of terms packets core_of cores last handlers journal) → IsOneReplay terms.marks.limit (moves_in journal) (asks_in journal)

abbrev pub ReplayGivesTheLine : Type 0
ReplayGivesTheLine = (terms : Terms) (packets : List Packet) (core_of : Packet → ℕ) (cores last : ℕ) (handlers : List Handler) (journal : Journal) (p : Peak) → IsPeak (moves_in journal) p
    → (let run = run_of terms packets core_of cores last handlers journal in history_line (all_moves run) (all_looks run) ≡ budget_line p.stamps p.peak (refused (asks_in journal)))
