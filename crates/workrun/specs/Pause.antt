-- What is waited for before a worker goes on.
use Rattle.std.specs.Prelude.{ℕ}

-- nothing, or that a charge of so many bytes, granted at that stamp, is released
pub data Pause : Type 0 where
  Still : Pause
  Freeing : (bytes stamp : ℕ) → Pause
