-- What the threads of the tests do to their homes.
use Rattle.std.specs.Prelude.{◌≡◌, ◌+◌}
use Rattle.prio_budget.specs.History.{total, is_grant, is_release}
use Rattle.prio_budget.specs.WordParts.{HomeParts}

-- as many releases came as grants, no note was given or met, and the part among the homes is what it was
pub record IsBalanced (before after : HomeParts) : Type 0 where
  pub part : after.part ≡ before.part
  pub moves : total is_release after.moves + total is_grant before.moves ≡ total is_grant after.moves + total is_release before.moves
  pub given : after.given ≡ before.given
  pub met : after.met ≡ before.met
