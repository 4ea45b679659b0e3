use Rattle.std.specs.Prelude.{◌≡◌, ℕ, ◌^◌, List}
use Rattle.reorder.specs.Frags.{Frag, Ascends, EndBy, size}

-- what contracts see of a store whose charges are of type C
pub record StoreParts (C : Type 0) : Type 0 where
  -- the parts by ascending begin
  pub frags : List (Frag C)
  -- how many parts can be put without memory
  pub room : ℕ

-- what is true of the parts of any store: they rise, none is empty, none overlaps another, and all end by 2^62
pub record AreHeld {C : Type 0} (count : ℕ) (fs : List (Frag C)) : Type 0 where
  pub ascends : Ascends 0 fs
  pub ends : EndBy (2 ^ 62) fs
  pub counted : count ≡ size fs
