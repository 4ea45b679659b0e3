use Rattle.std.specs.Prelude.{◌≡◌, ℕ, suc, List, ◌++◌, Option}
use Rattle.scap_world.specs.Contents.{extended, GainsFront}
use Rattle.pcapgen.specs.Kept.{Kept, StandsFor}
use Rattle.pcapgen.specs.Made.{made_file}

-- A made capture on its way to a sink.

-- so many of its records are made: the generator stands before the next one, and what the sink has gained since it stood so,
-- with what waits, is the file of these records
pub record Reaches (seed i : ℕ) (start now : Option (List ℕ)) (kept : Kept) (waiting : List ℕ) : Type 0 where
  pub written : List ℕ
  pub generator : StandsFor seed i kept
  pub held : now ≡ extended start written
  pub text : written ++ waiting ≡ made_file seed i

-- whatever was reached is reached still
abbrev pub StaysReached : (held held' : Option (List ℕ)) (kept kept' : Kept) (waiting waiting' : List ℕ) → Type 0
StaysReached held held' kept kept' waiting waiting' =
    (seed i : ℕ) (start : Option (List ℕ)) → Reaches seed i start held kept waiting → Reaches seed i start held' kept' waiting'

-- one record more is reached
abbrev pub ReachesNext : (held held' : Option (List ℕ)) (kept kept' : Kept) (waiting waiting' : List ℕ) → Type 0
ReachesNext held held' kept kept' waiting waiting' =
    (seed i : ℕ) (start : Option (List ℕ)) → Reaches seed i start held kept waiting → Reaches seed (suc i) start held' kept' waiting'

-- the sink has gained a front of the file of the records that were made
abbrev pub LeavesFront : (held held' : Option (List ℕ)) → Kept → List ℕ → Type 0
LeavesFront held held' kept waiting =
    (seed i : ℕ) (start : Option (List ℕ)) → Reaches seed i start held kept waiting → GainsFront start held' (made_file seed i)
