-- The budget history of a run, and the order of stamps within the actors: each core, and each worker.
use Rattle.std.specs.Prelude.{⊤, ℕ, suc, ◌<◌, ◌≤◌, cond, ◌==◌, List, [], ◌∷◌, ◌++◌, map, flat_map, slice_get}
use Rattle.prio_budget.specs.declared.free.Free.{Free}
use Rattle.prio_budget.specs.declared.look.Look.{Look}
use Rattle.histbook.specs.declared.look_entry.LookEntry.{LookEntry}
use Rattle.histbook.specs.Budget.{BudgetMove, Release, IsOneHistory}
use Rattle.histbook.specs.Moves.{grant_of}
use Rattle.streamdefs.specs.Lists.{how_many, Each, or_nothing}
use Rattle.streamdefs.specs.Reorder.{Charge}
use Rattle.streamdefs.specs.Convo.{Act, released, looks_in, frees_in}
use Rattle.streamdefs.specs.Convo.Act.{Answer}
use Rattle.streamdefs.specs.Terms.{Terms}
use Rattle.streamdefs.specs.Core.{Line, Core, found_by}
use Rattle.streamdefs.specs.Lawful.{CoreRun, Run, EachEntry, EachCore}

-- each free has a higher stamp than the charge that it frees
abbrev pub AreAboveCharges : List Charge → List Free → Type 0
AreAboveCharges charges [] = ⊤
AreAboveCharges [] (free ∷ frees) = ⊥
AreAboveCharges (charge ∷ charges) (free ∷ frees) = (charge.stamp < free.stamp) × AreAboveCharges charges frees

-- the stamps rise
abbrev pub Rise : List Free → Type 0
Rise [] = ⊤
Rise (free ∷ []) = ⊤
Rise (free ∷ next ∷ frees) = (free.stamp < next.stamp) × Rise (next ∷ frees)

-- the frees of an entry rise, each above its charge
abbrev pub FreesInOrder : Terms → Core → Line → Type 0
FreesInOrder terms core line = AreAboveCharges (released terms (found_by core line) line.act) (frees_in line.act) × Rise (frees_in line.act)

-- those of each entry
abbrev pub FreesRise : CoreRun → Type 0
FreesRise run = EachEntry run (FreesInOrder run.terms)

-- the least stamp that a look may have behind another one: above a grant, not below a refusal
abbrev pub floor_behind : LookEntry → ℕ
floor_behind look = cond look.granted (suc look.look.stamp) look.look.stamp

-- the least stamps that an entry leaves to later looks
abbrev pub floors_of : Act → List ℕ
floors_of act = map floor_behind (looks_in act) ++ map (λ free. suc free.stamp) (frees_in act)

-- looks above these stamps, and each above those before it
abbrev pub AreAbove : List ℕ → List LookEntry → Type 0
AreAbove floors [] = ⊤
AreAbove floors (look ∷ looks) = Each (λ floor. floor ≤ look.look.stamp) floors × AreAbove (floor_behind look ∷ floors) looks

-- the looks of each entry, above what the earlier ones leave
abbrev pub AreAllAbove : List ℕ → List Line → Type 0
AreAllAbove floors [] = ⊤
AreAllAbove floors (line ∷ lines) = AreAbove floors (looks_in line.act) × AreAllAbove (floors ++ floors_of line.act) lines

-- a look of a core is above what its earlier entries granted and freed, its Answers among them
abbrev pub LooksRise : CoreRun → Type 0
LooksRise run = AreAllAbove [] run.lines

-- the frees that a worker did, one list for each answer: none of an answer that keeps, whose frees the core did
abbrev pub frees_of_answers : List Line → List (List Free)
frees_of_answers lines = flat_map (λ line. of line.act) lines
  where
    of : Act → List (List Free)
    of (Answer event advice frees) = cond advice.keep [] frees ∷ []
    of _ = []

-- the n-th of some lists
abbrev pub nth : {X : Type 0} → List (List X) → ℕ → List X
nth xs n = or_nothing (slice_get xs n)

-- the frees along a worker's list: each mention of a core stands for its next answer
abbrev pub along_served : List (List (List Free)) → List ℕ → List ℕ → List Free
along_served answers seen [] = []
along_served answers seen (core ∷ cores) = nth (nth answers core) (how_many (λ c. c == core) seen) ++ along_served answers (core ∷ seen) cores

-- a worker's frees rise along its list
abbrev pub WorkersRise : Run → Type 0
WorkersRise run = Each (λ list. Rise (along_served (map frees_of_answers run.books) [] list)) run.served

-- the looks of all cores
abbrev pub all_looks : Run → List LookEntry
all_looks run = flat_map (λ lines. flat_map (λ line. looks_in line.act) lines) run.books

-- what the looks of all cores found
abbrev pub found_looks : Run → List Look
found_looks run = map (λ look. look.look) (all_looks run)

-- the moves of an entry
abbrev pub moves_of : Act → List BudgetMove
moves_of act = flat_map grant_of (looks_in act) ++ map Release (frees_in act)

-- the moves of all cores
abbrev pub all_moves : Run → List BudgetMove
all_moves run = flat_map (λ lines. flat_map (λ line. moves_of line.act) lines) run.books

-- the grants and the frees of a run are one budget history, in the order of each actor
pub record OneHistory (run : Run) : Type 0 where
  pub budget : IsOneHistory run.terms.marks.limit 0 (all_moves run) (found_looks run)
  pub order : EachCore run FreesRise × EachCore run LooksRise × WorkersRise run
