use Rattle.std.proofs.Common.{ℕ, ◌%◌, ◌∙◌, ap, sym}
use Rattle.streamkey.specs.declared.key.Key.{Key}
use Rattle.streamkey.specs.Hash.{toeplitz_of, hash_input, core_number}
use Rattle.streamkey.proofs.HashLemmas.{hash_of_ends, same_four}
use Rattle.streamkey.proofs.cores.core_of.Goals as goal

pub returns : goal.returns
returns c =
    let all = hash_of_ends c.key.inside.low c.key.inside.high c.hash_of_addr.ensures.bytes c.hash_of_addr-2.ensures.bytes in
    let low = c.toeplitz.ensures ∙ ap toeplitz_of c.to_be_bytes.ensures in
    let high = c.toeplitz-2.ensures ∙ ap toeplitz_of c.to_be_bytes-2.ensures in
    ap (λ (h : ℕ). h % c.from.result) (same_four _ _ _ _ _ _ _ _ c.hash_of_addr.ensures.hash c.hash_of_addr-2.ensures.hash low high ∙ sym all)
    ∙ ap (λ (n : ℕ). toeplitz_of (hash_input c.key.inside.low c.key.inside.high) % n) c.from.ensures
    ∙ ap (λ (k : Key). core_number k c.args.cores) c.key.view_is
