-- An ask within every limit is within one.
use Rattle.std.proofs.Common.{ℕ, Result, Ok, Err, IfOk}
use Rattle.convo.specs.Standing.{IsAskWithin}
use Rattle.convo.specs.declared.want.Want.{Want}

pub any_limit : {C E : Type 0} (r : Result (Want C) E) (limit : ℕ) → IfOk r (λ w. (n : ℕ) → IsAskWithin n w) → IfOk r (IsAskWithin limit)
any_limit (Ok w) limit h = h limit
any_limit (Err e) limit h = tt
