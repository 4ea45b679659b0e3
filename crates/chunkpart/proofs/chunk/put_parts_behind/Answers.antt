use Rattle.std.proofs.Common.{◌≡◌, ℕ, ◌+◌, ◌<◌, ◌≤◌, List, get_or, take, drop, length, ◌∙◌, ap, arith, rules, vec_len}
use Rattle.std.specs.Vec.{vec_capacity}
use Rattle.std.proofs.lemmas.List.Folds.{length-flat_map-take}
use Rattle.chunkpart.specs.Parts.{bytes_of}
use Rattle.chunkpart.proofs.LastLemmas.{bytes_of-more, appended-more, left-more, appended-fits}
use Rattle.chunkpart.proofs.chunk.put_parts_behind.Goals as goal

-- a part is no longer than what is left of all the parts
part_fits : {C : Type 0} (parts : List (List ℕ × C)) (i : ℕ) (part : List ℕ × C) (bytes : List ℕ)
    → i < length parts → part ≡ get_or parts i part → bytes ≡ part.0 → length (bytes_of (take i parts)) + length bytes ≤ length (bytes_of parts)
part_fits {C} parts i part bytes within is same =
    let first : List ℕ × C → List ℕ = λ p. p.0 in
    let n : length bytes ≡ length (get_or parts i part).0 = ap (λ (l : List ℕ). length l) same ∙ ap (λ (p : List ℕ × C). length p.0) is in
    omega (arith, n, length-flat_map-take first parts i part within)

pub returns-in_err-left-clause-full : goal.returns-in_err-left-clause-full
returns-in_err-left-clause-full g c =
    let within : c.loop-part.part-index < length c.args.parts.now = omega arith in
    let fits : length c.loop-part.out.items + length (drop c.loop-part.left c.bytes.result.now) ≤ length c.args.out.now.items + length (drop c.args.skipped (bytes_of c.args.parts.now)) =
    appended-fits c.args.out.now.items c.loop-part.out.items (bytes_of (take c.loop-part.part-index c.args.parts.now)) c.bytes.result.now (bytes_of c.args.parts.now) c.args.skipped c.loop-part.left
    c.loop-part.invariant.items c.loop-part.invariant.left
    (part_fits c.args.parts.now c.loop-part.part-index c.part-item.result c.bytes.result.now within c.part-item.is c.bytes.ensures.bytes) in
    let missing : vec_capacity c.loop-part.out < vec_len c.loop-part.out + length (drop c.loop-part.left c.bytes.result.now) = c.in_err-left.ensures.full in
    let e : vec_capacity c.args.out.now < vec_len c.args.out.now + length (drop c.args.skipped (bytes_of c.args.parts.now)) = omega arith in
    search rules

pub loop-part-preserved : goal.loop-part-preserved
loop-part-preserved g c =
    let within : c.loop-part.part-index < length c.args.parts.now = omega arith in
    let more = bytes_of-more c.args.parts.now c.loop-part.part-index c.part-item.result c.bytes.result.now within c.part-item.is c.bytes.ensures.bytes in
    record {
      items = appended-more c.args.out.now.items c.loop-part.out.items c.put_behind.new.out.items (bytes_of (take c.loop-part.part-index c.args.parts.now)) c.bytes.result.now
          (bytes_of (take (c.loop-part.part-index + 1) c.args.parts.now)) c.args.skipped c.loop-part.left c.loop-part.invariant.items c.loop-part.invariant.left c.in_ok-left.ensures.ok more;
      left = left-more (bytes_of (take c.loop-part.part-index c.args.parts.now)) c.bytes.result.now (bytes_of (take (c.loop-part.part-index + 1) c.args.parts.now)) c.args.skipped c.loop-part.left
          c.in_ok-left.left c.loop-part.invariant.left c.in_ok-left.ensures.left more;
      capacity = omega arith;
    }
