-- An ask within every limit is within one.
use Rattle.std.proofs.Common.{ℕ}
use Rattle.convo.specs.Standing.{IsAskWithin}
use Rattle.convo.specs.declared.want.Want.{Want}

pub any_limit : {C : Type 0} (w : Want C) (limit : ℕ) → ((n : ℕ) → IsAskWithin n w) → IsAskWithin limit w
any_limit w limit h = h limit
