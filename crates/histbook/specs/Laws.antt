-- What the definitions of a journal mean, each the contract of a function of src/laws.rt.
use Rattle.std.specs.Prelude.{◌≡◌, ℕ, ◌+◌, ◌^◌, ◌<◌, ◌≤◌, max, true, List, [], ◌∷◌, ◌++◌, length, flat_map, ◌↔◌}
use Rattle.prio_budget.specs.declared.look.Look.{Look}
use Rattle.histbook.specs.declared.core_entry.CoreEntry.{CoreEntry}
use Rattle.histbook.specs.declared.journal.Journal.{Journal}
use Rattle.histbook.specs.Runs.{spread, runs_of, AreLongest, AreRunsOf, HasShortRuns}
use Rattle.histbook.specs.JournalText.{entry_line, book_lines}
use Rattle.histbook.specs.Budget.{BudgetMove, granted, freed, total, below, granted_below, freed_below, IsUsedBefore, HasEachStampOnce, FoundTheUsed, StaysWithin, HadRoom, IsOneHistory}
use Rattle.histbook.specs.Moves.{entry_moves, book_moves, journal_moves, journal_looks, book_looks, IsBudgetHistory, IsCheckedHistory}
use Rattle.prio_budget.specs.declared.free.Free.{Free}
use Rattle.histbook.specs.declared.look_entry.LookEntry.{LookEntry}
use Rattle.histbook.specs.InTurn.{BudgetStep, Ask, GiveBack, entry_steps, book_steps, step_moves, step_looks, IsInTurn, kept_peak, peak_along, peak, EachPair, ComesAfter, FreedAfter, AskedAfter, step_frees, step_asks, book_frees, book_asks}

-- the runs of a list stand for it, and neighbours are of different cores
abbrev pub RunsAreLongest : Type 0
RunsAreLongest = (list : List ℕ) → (spread (runs_of list) ≡ list) × AreLongest (runs_of list)

-- no other runs do
abbrev pub RunsAreTheOnly : Type 0
RunsAreTheOnly = (runs : List (ℕ × ℕ)) → AreLongest runs → runs_of (spread runs) ≡ runs

-- what is kept are the runs, where none is too long for its number
abbrev pub KeptAreTheRuns : Type 0
KeptAreTheRuns = (list : List ℕ) (runs : List (ℕ × ℕ)) → AreRunsOf list runs → HasShortRuns list → runs ≡ runs_of list

-- a list with fewer than 2^64 events has fewer than 2^64 equal ones side by side
abbrev pub ShortListsHaveShortRuns : Type 0
ShortListsHaveShortRuns = (list : List ℕ) → length list < 2 ^ 64 → HasShortRuns list

-- the text of a book is the lines of its entries, one behind another
abbrev pub BookTextGrows : Type 0
BookTextGrows = (book : List CoreEntry) (entry : CoreEntry) → book_lines (book ++ entry ∷ []) ≡ book_lines book ++ entry_line entry

-- with one entry more at the end of a core's book the moves are those before, with the entry's behind those of its core
abbrev pub MovesGrow : Type 0
MovesGrow = (before : List (List CoreEntry)) (book : List CoreEntry) (entry : CoreEntry) (after : List (List CoreEntry))
    → flat_map book_moves (before ++ (book ++ entry ∷ []) ∷ after) ≡ flat_map book_moves before ++ book_moves book ++ entry_moves entry ++ flat_map book_moves after

-- and every sum over the moves grows by that over the entry's
abbrev pub SumsGrow : Type 0
SumsGrow = (weight : BudgetMove → ℕ) (before : List (List CoreEntry)) (book : List CoreEntry) (entry : CoreEntry) (after : List (List CoreEntry))
    → total weight (flat_map book_moves (before ++ (book ++ entry ∷ []) ∷ after)) ≡ total weight (flat_map book_moves (before ++ book ∷ after)) + total weight (entry_moves entry)

-- the used number of a history before a stamp
abbrev pub IsUsedIn : List BudgetMove → ℕ → ℕ → Type 0
IsUsedIn moves stamp used = IsUsedBefore (λ n. granted_below n moves) (λ n. freed_below n moves) stamp used

-- it is at most the limit before every stamp, and 0 before every stamp behind the last move
abbrev pub NeverAboveTheLimit : Type 0
NeverAboveTheLimit = (limit first : ℕ) (moves : List BudgetMove) (looks : List Look) → IsOneHistory limit first moves looks
    → (stamp used : ℕ) → IsUsedIn moves stamp used → used ≤ limit

abbrev pub AllIsGivenBack : Type 0
AllIsGivenBack = (limit first : ℕ) (moves : List BudgetMove) (looks : List Look) → IsOneHistory limit first moves looks
    → (stamp used : ℕ) → first + length moves ≤ stamp → IsUsedIn moves stamp used → used ≡ 0

-- that each grant of a journal found room follows from its stamps, its looks and the limit
abbrev pub RoomFollows : Type 0
RoomFollows = (limit : ℕ) (journal : Journal) → HasEachStampOnce 0 (journal_moves journal) → FoundTheUsed 0 (journal_moves journal) (journal_looks journal)
    → StaysWithin limit (journal_moves journal) → HadRoom limit 0 (journal_moves journal)

-- to look at each stamp of the moves is enough
abbrev pub CheckingIsEnough : Type 0
CheckingIsEnough = (limit : ℕ) (journal : Journal) → IsCheckedHistory limit journal ↔ IsBudgetHistory limit journal

-- steps done in turn, and then others from there on, are all done in turn
abbrev pub TurnsJoin : Type 0
TurnsJoin = (limit : ℕ) (steps more : List BudgetStep) (stamp used middle_stamp middle_used last_stamp last_used : ℕ)
    → IsInTurn limit steps stamp used middle_stamp middle_used → IsInTurn limit more middle_stamp middle_used last_stamp last_used
    → IsInTurn limit (steps ++ more) stamp used last_stamp last_used

-- and of steps in turn each front and what is behind it are
abbrev pub TurnsPart : Type 0
TurnsPart = (limit : ℕ) (steps more : List BudgetStep) (stamp used last_stamp last_used : ℕ) → IsInTurn limit (steps ++ more) stamp used last_stamp last_used
    → (middle_stamp : ℕ) × (middle_used : ℕ) × IsInTurn limit steps stamp used middle_stamp middle_used × IsInTurn limit more middle_stamp middle_used last_stamp last_used

-- with one entry more at the end of a book its steps are those before and those of the entry
abbrev pub StepsGrow : Type 0
StepsGrow = (book : List CoreEntry) (entry : CoreEntry) → book_steps (book ++ entry ∷ []) ≡ book_steps book ++ entry_steps entry

-- behind steps in turn the stamp is higher by the number of their moves, and the used number by what they granted less what they freed
abbrev pub TurnsAddUp : Type 0
TurnsAddUp = (limit : ℕ) (steps : List BudgetStep) (stamp used last_stamp last_used : ℕ) → IsInTurn limit steps stamp used last_stamp last_used
    → (last_stamp ≡ stamp + length (step_moves steps)) × (last_used + total freed (step_moves steps) ≡ used + total granted (step_moves steps))

-- no move counts below the first stamp, and each below the last one
abbrev pub SumsFill : Type 0
SumsFill = (limit : ℕ) (steps : List BudgetStep) (stamp used last_stamp last_used : ℕ) → IsInTurn limit steps stamp used last_stamp last_used
    → (weight : BudgetMove → ℕ) (n : ℕ) → (n ≤ stamp → total (below weight n) (step_moves steps) ≡ 0) × (last_stamp ≤ n → total (below weight n) (step_moves steps) ≡ total weight (step_moves steps))

-- at a stamp in between the used number is what it was at first, with the grants below that stamp, less the frees below it
abbrev pub SumsMeetTheUsed : Type 0
SumsMeetTheUsed = (limit : ℕ) (steps more : List BudgetStep) (stamp used middle_stamp middle_used last_stamp last_used : ℕ)
    → IsInTurn limit steps stamp used middle_stamp middle_used → IsInTurn limit more middle_stamp middle_used last_stamp last_used
    → middle_used + freed_below middle_stamp (step_moves (steps ++ more)) ≡ used + granted_below middle_stamp (step_moves (steps ++ more))

-- the moves and the looks of a book are those of its steps
abbrev pub StepsAreTheBook : Type 0
StepsAreTheBook = (book : List CoreEntry) → (step_moves (book_steps book) ≡ book_moves book) × (step_looks (book_steps book) ≡ book_looks book)

-- steps in turn from nothing used to nothing used are the whole history of their budget
abbrev pub StepsAreAHistory : Type 0
StepsAreAHistory = (limit : ℕ) (steps : List BudgetStep) (end : ℕ) → IsInTurn limit steps 0 0 end 0 → IsOneHistory limit 0 (step_moves steps) (step_looks steps)

-- so is a book
abbrev pub BookIsAHistory : Type 0
BookIsAHistory = (limit : ℕ) (book : List CoreEntry) (end : ℕ) → IsInTurn limit (book_steps book) 0 0 end 0 → IsOneHistory limit 0 (book_moves book) (book_looks book)

-- and a journal of one core
abbrev pub OneCoreIsAHistory : Type 0
OneCoreIsAHistory = (limit : ℕ) (journal : Journal) (book : List CoreEntry) (end : ℕ) → journal.cores ≡ book ∷ [] → IsInTurn limit (book_steps book) 0 0 end 0
    → IsBudgetHistory limit journal

-- a maximum kept along the steps is the greatest used number behind one of them, and that of a list behind another one adds its own
abbrev pub KeptIsThePeak : Type 0
KeptIsThePeak = (steps : List BudgetStep) (used high : ℕ) → kept_peak steps used high ≡ max high (peak_along steps used)

abbrev pub PeaksJoin : Type 0
PeaksJoin = (limit : ℕ) (steps more : List BudgetStep) (stamp used last_stamp last_used : ℕ) → IsInTurn limit steps stamp used last_stamp last_used
    → peak_along (steps ++ more) used ≡ max (peak_along steps used) (peak_along more last_used)

-- of steps in turn from nothing used it is the peak of their moves
abbrev pub PeakIsOfTheMoves : Type 0
PeakIsOfTheMoves = (limit : ℕ) (steps : List BudgetStep) (last_stamp last_used : ℕ) → IsInTurn limit steps 0 0 last_stamp last_used → peak (step_moves steps) ≡ peak_along steps 0

-- so the peak and the number of the moves of a book
abbrev pub BookHasThePeak : Type 0
BookHasThePeak = (limit : ℕ) (book : List CoreEntry) (last_stamp last_used : ℕ) → IsInTurn limit (book_steps book) 0 0 last_stamp last_used
    → (peak (book_moves book) ≡ kept_peak (book_steps book) 0 0) × (length (book_moves book) ≡ last_stamp)

-- the stamps of steps in turn do not fall, and rise behind each move
abbrev pub StepsAreInOrder : Type 0
StepsAreInOrder = (limit : ℕ) (steps : List BudgetStep) (stamp used last_stamp last_used : ℕ) → IsInTurn limit steps stamp used last_stamp last_used → EachPair ComesAfter steps

-- of any two steps in turn the later one comes after the earlier one
abbrev pub LaterComesAfter : Type 0
LaterComesAfter = (limit : ℕ) (before between behind : List BudgetStep) (step later : BudgetStep) (stamp used last_stamp last_used : ℕ)
    → IsInTurn limit (before ++ step ∷ between ++ later ∷ behind) stamp used last_stamp last_used → ComesAfter step later

-- the releases of steps in turn rise
abbrev pub FreesRise : Type 0
FreesRise = (limit : ℕ) (steps : List BudgetStep) (stamp used last_stamp last_used : ℕ) → IsInTurn limit steps stamp used last_stamp last_used → EachPair FreedAfter (step_frees steps)

-- their looks do not fall, and rise behind each grant
abbrev pub AsksRise : Type 0
AsksRise = (limit : ℕ) (steps : List BudgetStep) (stamp used last_stamp last_used : ℕ) → IsInTurn limit steps stamp used last_stamp last_used → EachPair AskedAfter (step_asks steps)

-- so do the releases and the looks of a book
abbrev pub BookRises : Type 0
BookRises = (limit : ℕ) (book : List CoreEntry) (stamp used last_stamp last_used : ℕ) → IsInTurn limit (book_steps book) stamp used last_stamp last_used
    → EachPair FreedAfter (book_frees book) × EachPair AskedAfter (book_asks book)

-- a release is above each earlier grant
abbrev pub FreesAreAboveGrants : Type 0
FreesAreAboveGrants = (limit : ℕ) (before between behind : List BudgetStep) (look : LookEntry) (free : Free) (stamp used last_stamp last_used : ℕ)
    → IsInTurn limit (before ++ Ask look ∷ between ++ GiveBack free ∷ behind) stamp used last_stamp last_used → look.granted ≡ true → look.look.stamp < free.stamp
