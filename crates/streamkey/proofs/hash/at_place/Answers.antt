use Rattle.std.proofs.Common.{ℕ, ◌∙◌, ap, sym, Bool, cond, arith, w32}
use Rattle.std.specs.Int.{rotate_left}
use Rattle.streamkey.specs.Hash.{byte_bits, hash_from}
use Rattle.streamkey.proofs.HashLemmas.{turned_byte}
use Rattle.streamkey.proofs.hash.at_place.Goals as goal

pub returns-then-odd : goal.returns-then-odd
returns-then-odd c =
    c.rotate_left.ensures ∙ ap (λ (n : ℕ). rotate_left w32 n 8) c.at_even-even.ensures ∙ turned_byte c.args.byte (omega arith) ∙ ap (λ (b : Bool). hash_from (cond b 8 0) (byte_bits c.args.byte)) (sym c.if-odd.true)

pub returns-else-odd : goal.returns-else-odd
returns-else-odd c = c.at_even-even.ensures ∙ ap (λ (b : Bool). hash_from (cond b 8 0) (byte_bits c.args.byte)) (sym c.if-odd.false)
