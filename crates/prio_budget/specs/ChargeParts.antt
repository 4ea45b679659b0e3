use Rattle.std.specs.Prelude.{ℕ}

-- what contracts see of a charge of a budget of one thread: its bytes, and the stamp that its grant found
pub record ChargeParts : Type 0 where
  pub amount : ℕ
  pub stamp : ℕ
