-- A direction that only a segment, or a moment at which something falls due, makes go on.
use Rattle.std.specs.Prelude.{◌≡◌, false, true, None}
use Rattle.streamdefs.specs.Both.{Both}
use Rattle.streamdefs.specs.Lists.{is_empty}
use Rattle.streamdefs.specs.Terms.{Terms}
use Rattle.streamdefs.specs.Pending.{is_full}
use Rattle.streamdefs.specs.Direction.{Direction}

-- what is pending is less than a chunk, and no hole stands where nothing is held
pub record IsSettled (t : Terms) (d : Direction) : Type 0 where
  pub small : is_full t d.pending ≡ false
  pub bare : is_empty d.view.held ≡ true → d.hole ≡ None

pub record AreSettled (t : Terms) (ds : Both Direction) : Type 0 where
  pub fore : IsSettled t ds.fore
  pub back : IsSettled t ds.back
