use Rattle.std.proofs.Common.{ℕ, List, ◌∙◌, ap, sym, arith, take, get_or, bit_xor}
use Rattle.std.proofs.lemmas.List.{take_more, length-take-le}
use Rattle.streamkey.specs.Hash.{toeplitz_of}
use Rattle.streamkey.proofs.HashLemmas.{hash_of_none, hash_step}
use Rattle.streamkey.proofs.hash.toeplitz.Goals as goal

pub loop-i-init : goal.loop-i-init
loop-i-init c = hash_of_none

pub loop-i-preserved : goal.loop-i-preserved
loop-i-preserved c =
    let input : List ℕ = c.args.input.now in
    let front : List ℕ = take c.loop-i.i input in
    let byte : ℕ = get_or input c.loop-i.i 0 in
    ap (λ (h : ℕ). bit_xor h c.at_place-hash.result) c.loop-i.invariant
    ∙ ap (bit_xor (toeplitz_of front)) c.at_place-hash.ensures
    ∙ sym (hash_step front byte c.loop-i.i (length-take-le c.loop-i.i input (omega arith)))
    ∙ ap toeplitz_of (sym (take_more input c.loop-i.i 0 (omega arith)))
