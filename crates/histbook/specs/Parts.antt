-- The parts of an advice one by one, as they are written.
use Rattle.std.specs.Prelude.{ℕ, Bool, ◌||◌, if◌then◌else◌, List, [], ◌++◌, Option, Some, None, codes, is_some}
use Rattle.evring.specs.declared.advice.Advice.{Advice}
use Rattle.histbook.specs.JournalText.{count}

-- a comma, where other parts stand before
abbrev pub comma : Bool → List ℕ
comma behind = if behind then codes "," else []

abbrev pub flag_part : Bool → Bool → List ℕ → List ℕ
flag_part behind set label = if set then comma behind ++ label else []

abbrev pub number_part : Bool → List ℕ → Option ℕ → List ℕ
number_part behind label None = []
number_part behind label (Some n) = comma behind ++ count label n

-- whether an advice has a flag; a flag or a cutoff; any part
abbrev pub has_flag : Advice → Bool
has_flag advice = advice.keep || advice.discard

abbrev pub has_more : Advice → Bool
has_more advice = has_flag advice || is_some advice.cutoff

abbrev pub has_any : Advice → Bool
has_any advice = has_more advice || is_some advice.priority

-- a dot, where there is no part
abbrev pub dot : Bool → List ℕ
dot some = if some then [] else codes "."
