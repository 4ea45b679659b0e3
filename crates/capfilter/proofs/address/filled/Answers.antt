use Rattle.std.proofs.Common.{◌≡◌, take, length, arith, ◌∙◌, ap, ℕ, List, ◌++◌, ◌+◌, ◌-◌, replicate, rules}
use Rattle.std.proofs.lemmas.List.{length-take}
use Rattle.capfilter.proofs.AddressLemmas.{filled_is}
use Rattle.capfilter.proofs.address.filled.Goals as goal

pub returns : goal.returns
returns c =
    let n = c.args.front_len in
    let m = c.args.back_len in
    let front : c.copy_from_slice.new.self ≡ take n c.args.front.now = search rules in
    let back : c.copy_from_slice-2.new.self ≡ take m c.args.back.now = search rules in
    filled_is c.copy_from_slice.new.self c.copy_from_slice-2.new.self n m (ap length front ∙ simp length-take (omega arith)) (ap length back ∙ simp length-take (omega arith)) c.requires
    ∙ ap (λ (xs : List ℕ). xs ++ replicate (8 - (n + m)) 0 ++ c.copy_from_slice-2.new.self) front
    ∙ ap (λ (xs : List ℕ). take n c.args.front.now ++ replicate (8 - (n + m)) 0 ++ xs) back
