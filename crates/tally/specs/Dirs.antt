-- The totals of all cores in one list: docs/FORMATS.md, "The report".
use Rattle.std.specs.Prelude.{ℕ, ◌+◌, ◌*◌, cond, nat_lt, List, [], ◌∷◌, flat_map}
use Rattle.std.specs.List.Sorted.{IsNonDecreasingBy}
use Rattle.evring.specs.declared.way.Way.{Way}
use Rattle.evring.specs.declared.way.Way.TheVariants.{Fore, Back}
use Rattle.convo.specs.declared.dir_total.DirTotal.{DirTotal}

-- where a direction stands among all: by the number of its conversation, fore before back
abbrev pub place_of_way : Way → ℕ
place_of_way Fore = 0
place_of_way Back = 1

abbrev pub place_of : DirTotal → ℕ
place_of d = 2 * d.conv + place_of_way d.way

-- each stands where it belongs
abbrev pub Ascend : List DirTotal → Type 0
Ascend dirs = IsNonDecreasingBy place_of dirs

-- the totals of all cores, one core's behind the other's
abbrev pub joined : List (List DirTotal) → List DirTotal
joined cores = flat_map (λ dirs. dirs) cores

-- one among others: behind those whose place is lower, and the rest goes on from there
abbrev pub put_dir : DirTotal → (List DirTotal → List DirTotal) → List DirTotal → List DirTotal
put_dir x rest [] = x ∷ rest []
put_dir x rest (y ∷ ys) = cond (nat_lt (place_of y) (place_of x)) (y ∷ put_dir x rest ys) (x ∷ rest (y ∷ ys))

-- two lists as one
abbrev pub merged : List DirTotal → List DirTotal → List DirTotal
merged [] ys = ys
merged (x ∷ xs) ys = put_dir x (merged xs) ys
