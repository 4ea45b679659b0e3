-- What the totals of all cores in one list mean for the report, each the contract of a function of src/laws.rt.
use Rattle.std.specs.Prelude.{◌≡◌, ℕ, ◌+◌, ◌≤◌, ◌==◌, List, [], ◌∷◌, length, map, flat_map}
use Rattle.std.specs.List.Sorted.{IsPermutation}
use Rattle.evring.specs.declared.way.Way.{Way}
use Rattle.evring.specs.declared.way.Way.TheVariants.{Fore, Back}
use Rattle.convo.specs.declared.dir_total.DirTotal.{DirTotal}
use Rattle.streamdefs.specs.Lists.{Each, how_many}
use Rattle.streamdefs.specs.Terms.{Terms}
use Rattle.streamdefs.specs.Core.{Line}
use Rattle.streamdefs.specs.Lawful.{Run}
use Rattle.streamdefs.specs.Totals.{Total, gap_bytes}
use Rattle.streamdefs.specs.Report.{Tallied, tallied_on, tallied_in, dir_lines}
use Rattle.tally.specs.Totals.{line_of, sums_line}
use Rattle.tally.specs.Dirs.{Ascend, joined, place_of}

-- no direction is there twice
abbrev pub AreApart : List DirTotal → Type 0
AreApart dirs = (place : ℕ) → how_many (λ d. place_of d == place) dirs ≤ 1

-- Where no direction is there twice, there is one list of all that ascends.
abbrev pub OneList : Type 0
OneList = (cores : List (List DirTotal)) (xs ys : List DirTotal) → AreApart (joined cores) → Ascend xs → Ascend ys → IsPermutation (joined cores) xs → IsPermutation (joined cores) ys → xs ≡ ys

-- Its sums are those over all cores.
abbrev pub SumsAreTheCores : Type 0
SumsAreTheCores = (cores : List (List DirTotal)) (all : List DirTotal) → IsPermutation (joined cores) all → sums_line all ≡ sums_line (joined cores)

-- the totals of a conversation's two directions
abbrev pub dir_of : ℕ → Way → Total → DirTotal
dir_of conv way t = record {
  conv = conv;
  way = way;
  counts = record { duplicate = t.counts.duplicate; late = t.counts.late; cut = t.counts.cut; taken = t.counts.taken; shed = t.counts.shed };
  gaps = length t.gaps;
  gap_bytes = gap_bytes t;
}

abbrev pub dirs_of : Tallied → List DirTotal
dirs_of t = dir_of t.conv Fore t.totals.fore ∷ dir_of t.conv Back t.totals.back ∷ []

-- those of a core's conversations, in the order in which they opened
abbrev pub dirs_on : Terms → List Line → List DirTotal
dirs_on terms lines = flat_map dirs_of (tallied_on terms lines)

-- Of the cores of a run it is the totals of all conversations in the report's order.
abbrev pub RunIsInOrder : Type 0
RunIsInOrder = (run : Run) (all : List DirTotal) → (let cores = map (dirs_on run.terms) run.books in
    AreApart (joined cores) → Ascend all → IsPermutation (joined cores) all → all ≡ flat_map dirs_of (tallied_in run))

-- each byte that came has one class, and all that was taken is delivered
abbrev pub IsWhole : Total → Type 0
IsWhole t = (t.payload ≡ t.counts.duplicate + t.counts.late + t.counts.cut + t.counts.taken + t.counts.shed) × (t.delivered ≡ t.counts.taken)

-- Then their lines are the report's.
abbrev pub LinesAreTheReports : Type 0
LinesAreTheReports = (ts : List Tallied) → Each (λ t. IsWhole t.totals.fore × IsWhole t.totals.back) ts → flat_map line_of (flat_map dirs_of ts) ≡ flat_map dir_lines ts
