-- The steps of one thread on its budget, done in turn.
use Rattle.std.specs.Prelude.{◌≡◌, ℕ, zero, suc, ◌+◌, ◌-◌, ◌<◌, ◌≤◌, max, true, if◌then◌else◌, List, [], ◌∷◌, ◌++◌, length, map, flat_map}
use Rattle.prio_budget.specs.declared.look.Look.{Look}
use Rattle.prio_budget.specs.declared.free.Free.{Free}
use Rattle.histbook.specs.declared.look_entry.LookEntry.{LookEntry}
use Rattle.histbook.specs.declared.core_entry.CoreEntry.{CoreEntry}
use Rattle.histbook.specs.Budget.{BudgetMove, Release, Each, granted_below, freed_below}
use Rattle.histbook.specs.Moves.{looks_in, frees_in, grant_of}

-- a step on a budget: an ask with the look that decided it, or a release
pub data BudgetStep : Type 0 where
  Ask : (look : LookEntry) → BudgetStep
  GiveBack : (free : Free) → BudgetStep

-- the steps of an entry: its looks before its releases
abbrev pub entry_steps : CoreEntry → List BudgetStep
entry_steps entry = map Ask (looks_in entry.entry) ++ map GiveBack (frees_in entry.entry)

-- of a book, entry after entry
abbrev pub book_steps : List CoreEntry → List BudgetStep
book_steps book = flat_map entry_steps book

-- the moves of steps: a refused look is none
abbrev pub moves_of : BudgetStep → List BudgetMove
moves_of (Ask look) = grant_of look
moves_of (GiveBack free) = Release free ∷ []

abbrev pub step_moves : List BudgetStep → List BudgetMove
step_moves steps = flat_map moves_of steps

-- what the looks of steps found
abbrev pub looks_of : BudgetStep → List Look
looks_of (Ask look) = look.look ∷ []
looks_of (GiveBack free) = []

abbrev pub step_looks : List BudgetStep → List Look
step_looks steps = flat_map looks_of steps

-- the stamp behind a step at a stamp: one more behind a grant and behind a release
abbrev pub stamp_behind : BudgetStep → ℕ → ℕ
stamp_behind (Ask look) stamp = if look.granted then suc stamp else stamp
stamp_behind (GiveBack free) stamp = suc stamp

-- the used number behind a step at a used number: more by the bytes of a grant, less by those of a release
abbrev pub used_behind : BudgetStep → ℕ → ℕ
used_behind (Ask look) used = if look.granted then used + look.asked else used
used_behind (GiveBack free) used = used - free.bytes

-- a step found the present stamp, a look found the present used number too, a grant found room, and no more is given back than is used
abbrev pub IsDoneAt : (limit : ℕ) → BudgetStep → (stamp used : ℕ) → Type 0
IsDoneAt limit (Ask look) stamp used = (look.look.stamp ≡ stamp) × (look.look.found ≡ used) × (look.granted ≡ true → used + look.asked ≤ limit)
IsDoneAt limit (GiveBack free) stamp used = (free.stamp ≡ stamp) × (free.bytes ≤ used)

-- steps are done in turn from a stamp and a used number on to those behind them
abbrev pub IsInTurn : (limit : ℕ) → List BudgetStep → (stamp used last_stamp last_used : ℕ) → Type 0
IsInTurn limit [] stamp used last_stamp last_used = (last_stamp ≡ stamp) × (last_used ≡ used)
IsInTurn limit (step ∷ steps) stamp used last_stamp last_used =
    IsDoneAt limit step stamp used × IsInTurn limit steps (stamp_behind step stamp) (used_behind step used) last_stamp last_used

-- the used number behind each step
abbrev pub used_along : List BudgetStep → ℕ → List ℕ
used_along [] used = []
used_along (step ∷ steps) used = used_behind step used ∷ used_along steps (used_behind step used)

-- the greatest of some numbers, and 0 without one
abbrev pub greatest : List ℕ → ℕ
greatest [] = 0
greatest (n ∷ ns) = max n (greatest ns)

-- the greatest used number behind any of these steps
abbrev pub peak_along : List BudgetStep → ℕ → ℕ
peak_along steps used = greatest (used_along steps used)

-- a maximum kept along the steps
abbrev pub kept_peak : List BudgetStep → (used high : ℕ) → ℕ
kept_peak [] used high = high
kept_peak (step ∷ steps) used high = kept_peak steps (used_behind step used) (max high (used_behind step used))

-- the used number behind a stamp, by sums over the moves
abbrev pub used_behind_stamp : List BudgetMove → ℕ → ℕ
used_behind_stamp moves stamp = granted_below (suc stamp) moves - freed_below (suc stamp) moves

-- the greatest used number behind any of the first n stamps
abbrev pub peak_below : List BudgetMove → ℕ → ℕ
peak_below moves zero = 0
peak_below moves (suc n) = max (used_behind_stamp moves n) (peak_below moves n)

-- behind any move, and 0 without one
abbrev pub peak : List BudgetMove → ℕ
peak moves = peak_below moves (length moves)

-- P between each element and each later one
abbrev pub EachPair : {A : Type 0} → (A → A → Type 0) → List A → Type 0
EachPair P [] = Unit {0}
EachPair P (x ∷ xs) = Each (P x) xs × EachPair P xs

-- the stamp that a step found
abbrev pub found_stamp : BudgetStep → ℕ
found_stamp (Ask look) = look.look.stamp
found_stamp (GiveBack free) = free.stamp

-- a step that is a move: a granted look or a release
abbrev pub IsMove : BudgetStep → Type 0
IsMove (Ask look) = look.granted ≡ true
IsMove (GiveBack free) = Unit {0}

-- a later step has no lower stamp, and a higher one than a move
abbrev pub ComesAfter : BudgetStep → BudgetStep → Type 0
ComesAfter step later = (found_stamp step ≤ found_stamp later) × (IsMove step → found_stamp step < found_stamp later)

-- the releases of steps, and their looks with what was asked
abbrev pub frees_of : BudgetStep → List Free
frees_of (Ask look) = []
frees_of (GiveBack free) = free ∷ []

abbrev pub step_frees : List BudgetStep → List Free
step_frees steps = flat_map frees_of steps

abbrev pub asks_of : BudgetStep → List LookEntry
asks_of (Ask look) = look ∷ []
asks_of (GiveBack free) = []

abbrev pub step_asks : List BudgetStep → List LookEntry
step_asks steps = flat_map asks_of steps

-- the releases and the looks of a book
abbrev pub book_frees : List CoreEntry → List Free
book_frees book = flat_map (λ entry. frees_in entry.entry) book

abbrev pub book_asks : List CoreEntry → List LookEntry
book_asks book = flat_map (λ entry. looks_in entry.entry) book

-- a later release has a higher stamp
abbrev pub FreedAfter : Free → Free → Type 0
FreedAfter free later = free.stamp < later.stamp

-- a later look has no lower stamp, and a higher one than a grant
abbrev pub AskedAfter : LookEntry → LookEntry → Type 0
AskedAfter look later = (look.look.stamp ≤ later.look.stamp) × (look.granted ≡ true → look.look.stamp < later.look.stamp)
