-- The moves and the looks of a journal.
use Rattle.std.specs.Prelude.{ℕ, if◌then◌else◌, List, [], ◌∷◌, ◌++◌, map, flat_map}
use Rattle.prio_budget.specs.declared.look.Look.{Look}
use Rattle.prio_budget.specs.declared.free.Free.{Free}
use Rattle.histbook.specs.declared.look_entry.LookEntry.{LookEntry}
use Rattle.histbook.specs.declared.entry.Entry.{Entry}
use Rattle.histbook.specs.declared.entry.Entry.TheVariants.{Seg, Answer, Time, End}
use Rattle.histbook.specs.declared.core_entry.CoreEntry.{CoreEntry}
use Rattle.histbook.specs.declared.journal.Journal.{Journal}
use Rattle.histbook.specs.Budget.{BudgetMove, Grant, Release, IsOneHistory, IsChecked}

-- the looks of an entry, and its releases
abbrev pub looks_in : Entry → List LookEntry
looks_in (Seg packet clock looks frees) = looks
looks_in (Answer event advice frees) = []
looks_in (Time at looks frees) = looks
looks_in (End at reason looks frees) = looks

abbrev pub frees_in : Entry → List Free
frees_in (Seg packet clock looks frees) = frees
frees_in (Answer event advice frees) = frees
frees_in (Time at looks frees) = frees
frees_in (End at reason looks frees) = frees

-- a look that was granted is a move, one that was refused is none
abbrev pub grant_of : LookEntry → List BudgetMove
grant_of look = if look.granted then Grant look.look look.asked ∷ [] else []

-- the moves of an entry: its granted looks and its releases
abbrev pub entry_moves : CoreEntry → List BudgetMove
entry_moves entry = flat_map grant_of (looks_in entry.entry) ++ map Release (frees_in entry.entry)

-- of a book, and of all cores
abbrev pub book_moves : List CoreEntry → List BudgetMove
book_moves book = flat_map entry_moves book

abbrev pub journal_moves : Journal → List BudgetMove
journal_moves journal = flat_map book_moves journal.cores

-- what the looks of an entry found, of a book, and of all cores
abbrev pub entry_looks : CoreEntry → List Look
entry_looks entry = map (λ look. look.look) (looks_in entry.entry)

abbrev pub book_looks : List CoreEntry → List Look
book_looks book = flat_map entry_looks book

abbrev pub journal_looks : Journal → List Look
journal_looks journal = flat_map book_looks journal.cores

-- the looks and the releases of a journal are one history of a budget with that limit, from stamp 0 on
abbrev pub IsBudgetHistory : ℕ → Journal → Type 0
IsBudgetHistory limit journal = IsOneHistory limit 0 (journal_moves journal) (journal_looks journal)

abbrev pub IsCheckedHistory : ℕ → Journal → Type 0
IsCheckedHistory limit journal = IsChecked limit (journal_moves journal) (journal_looks journal)
