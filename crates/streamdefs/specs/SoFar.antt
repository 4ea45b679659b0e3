-- A lawful journal at a moment of its run: what isn't there yet may be missing, and an entry under way has its looks and frees so far.
use Rattle.std.specs.Prelude.{⊤, ℕ, List, [], ◌∷◌, ◌++◌, map, flat_map, Option, Some, None}
use Rattle.std.specs.Option.{option_to_list}
use Rattle.prio_budget.specs.declared.free.Free.{Free}
use Rattle.prio_budget.specs.declared.look.Look.{Look}
use Rattle.histbook.specs.declared.look_entry.LookEntry.{LookEntry}
use Rattle.histbook.specs.Budget.{BudgetMove, Release, HasEachStampOnce, FoundTheUsed, HadRoom, StaysWithin}
use Rattle.streamdefs.specs.Order.{moves_of}
use Rattle.streamdefs.specs.Lists.{IsPrefixOf}
use Rattle.streamdefs.specs.Terms.{Terms}
use Rattle.streamdefs.specs.View.{Ask}
use Rattle.streamdefs.specs.Convo.{Convo, asks, looks_in}
use Rattle.streamdefs.specs.Core.{Line, Core, found_by}
use Rattle.streamdefs.specs.Lawful.{CoreRun, EachEntry, at_end, StandsUnder, IsInTime, EndsOnce, IsNextAnswer, HasRoom, HasLooks, HasFrees, IsLookFor, segs_in, freed_bytes, released_bytes}

-- looks for the first of the asks, of which more may come
abbrev pub AreFirstLooksFor : Terms → Convo → List LookEntry → List Ask → Type 0
AreFirstLooksFor terms c [] rest = ⊤
AreFirstLooksFor terms c (look ∷ looks) [] = ⊥
AreFirstLooksFor terms c (look ∷ looks) (ask ∷ rest) = IsLookFor terms c look ask × AreFirstLooksFor terms c looks rest

-- a law of each complete entry, and another one of the entry under way
abbrev pub EachSoFar : CoreRun → Option Line → (Core → Line → Type 0) → (Core → Line → Type 0) → Type 0
EachSoFar run under Law First = EachEntry run Law × of_last under
  where
    of_last : Option Line → Type 0
    of_last None = ⊤
    of_last (Some line) = First (at_end run) line

-- the looks of an entry under way are those of its first asks
abbrev pub HasFirstLooks : Terms → Core → Line → Type 0
HasFirstLooks terms core line = AreFirstLooksFor terms (found_by core line) (looks_in line.act) (asks terms (found_by core line) line.act)

-- its frees are the first of what its looks make due
abbrev pub HasFirstFrees : Terms → Core → Line → Type 0
HasFirstFrees terms core line = IsPrefixOf (freed_bytes line) (released_bytes terms core line)

-- a core's book so far: `run` has the complete entries, and all packets offered to the core so far
pub record LawfulSoFar (run : CoreRun) (under : Option Line) : Type 0 where
  pub segs : IsPrefixOf (segs_in (run.lines ++ option_to_list under)) (map (λ p. (p, p.now)) run.packets)
  pub conversations : EachSoFar run under (StandsUnder run.terms) (StandsUnder run.terms)
  pub dues : EachSoFar run under (IsInTime run.terms) (IsInTime run.terms)
  pub ends : EachSoFar run under (EndsOnce run.last) (EndsOnce run.last)
  pub answers : EachSoFar run under (IsNextAnswer run.handler) (IsNextAnswer run.handler)
  pub window : EachSoFar run under HasRoom HasRoom
  pub looks : EachSoFar run under (HasLooks run.terms) (HasFirstLooks run.terms)
  pub frees : EachSoFar run under (HasFrees run.terms) (HasFirstFrees run.terms)

-- the moves so far: those of the entries, and the frees that workers did and no entry has yet
abbrev pub moves_so_far : List Line → List Free → List BudgetMove
moves_so_far lines frees = flat_map (λ line. moves_of line.act) lines ++ map Release frees

-- what the looks so far found
abbrev pub looks_so_far : List Line → List Look
looks_so_far lines = flat_map (λ line. map (λ look. look.look) (looks_in line.act)) lines

-- the budget history so far, of the entries of all cores, those under way among them
pub record HistorySoFar (limit : ℕ) (lines : List Line) (frees : List Free) : Type 0 where
  pub once : HasEachStampOnce 0 (moves_so_far lines frees)
  pub found : FoundTheUsed 0 (moves_so_far lines frees) (looks_so_far lines)
  pub fair : HadRoom limit 0 (moves_so_far lines frees)
  pub within : StaysWithin limit (moves_so_far lines frees)
