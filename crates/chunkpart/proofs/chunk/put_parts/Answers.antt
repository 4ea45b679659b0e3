use Rattle.std.proofs.Common.{◌≡◌, ℕ, ◌+◌, ◌<◌, ◌≤◌, List, get_or, take, length, ◌∙◌, ap, arith, length-append, rules, vec_len}
use Rattle.std.specs.Vec.{vec_capacity}
use Rattle.std.proofs.lemmas.List.Folds.{length-flat_map-take}
use Rattle.chunkpart.specs.Parts.{bytes_of}
use Rattle.chunkpart.proofs.chunk.put_parts.Goals as goal

-- a part is no longer than what is left of all the parts
part_fits : {C : Type 0} (parts : List (List ℕ × C)) (i : ℕ) (part : List ℕ × C) (bytes : List ℕ)
    → i < length parts → part ≡ get_or parts i part → bytes ≡ part.0 → length (bytes_of (take i parts)) + length bytes ≤ length (bytes_of parts)
part_fits {C} parts i part bytes within is same =
    let first : List ℕ × C → List ℕ = λ p. p.0 in
    let n : length bytes ≡ length (get_or parts i part).0 = ap (λ (l : List ℕ). length l) same ∙ ap (λ (p : List ℕ × C). length p.0) is in
    omega (arith, n, length-flat_map-take first parts i part within)

pub returns-in_err-extend_from_slice-clause-full : goal.returns-in_err-extend_from_slice-clause-full
returns-in_err-extend_from_slice-clause-full g c =
    let written : length c.loop-part.out.items ≡ length c.args.out.now.items + length (bytes_of (take c.loop-part.part-index c.args.parts.now)) =
    ap (λ (l : List ℕ). length l) c.loop-part.invariant.0 ∙ length-append c.args.out.now.items (bytes_of (take c.loop-part.part-index c.args.parts.now)) in
    let within : c.loop-part.part-index < length c.args.parts.now = omega arith in
    let fits : length (bytes_of (take c.loop-part.part-index c.args.parts.now)) + length c.bytes.result.now ≤ length (bytes_of c.args.parts.now) =
    part_fits c.args.parts.now c.loop-part.part-index c.part-item.result c.bytes.result.now within c.part-item.is c.bytes.ensures.bytes in
    let missing : vec_capacity c.loop-part.out < vec_len c.loop-part.out + length c.bytes.result.now = c.in_err-extend_from_slice.ensures.full in
    let e : vec_capacity c.args.out.now < vec_len c.args.out.now + length (bytes_of c.args.parts.now) = omega arith in
    search rules
