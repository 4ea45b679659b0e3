-- The charges of a step.
use Rattle.std.specs.Prelude.{◌≡◌, refl, ℕ, ◌+◌, List, [], ◌∷◌, ◌++◌, Option, Some, None, option_map, option_to_list}
use Rattle.std.proofs.Common.{ap, arith}
use Rattle.chunkpart.specs.ChunkParts.{ChunkParts, parts_of}
use Rattle.flowdir.specs.Boundary.{weight_of_chunk, weight_of_parts as weight_of_shown}
use Rattle.flowdir.specs.Lane.{bundle_for, weight_of_charges, weight_of_part, weight_of_parts, weight_of_bundle, weight_of_bundles}
use Rattle.flowdir.specs.Passing.{weight_of_all}
use Rattle.flowdir.specs.Boundary.{weight_of_step}
use Rattle.flowdir.specs.Kept.{Kept, GivesNext}
use Rattle.flowdir.specs.declared.step.Step.{Step}
use Rattle.flowdir.specs.declared.step.Step.TheVariants.{Ask, Free, Done}

pub gives_weight : {C : Type 0} (k k' : Kept C) (step : Step C) → GivesNext k k' step → (w : C → ℕ) → weight_of_all w k'.lane k'.frags + weight_of_step w step ≡ weight_of_all w k.lane k.frags
gives_weight k k' (Ask bytes) h w = absurd h
gives_weight k k' (Free c) h w = omega (arith, ap (λ x. weight_of_all w x.lane x.frags) h.1, ap (weight_of_charges w) h.0)
gives_weight k k' (Done counts) h w = omega (arith, ap (λ x. weight_of_all w x.lane x.frags) h.2)

-- The charges of a chunk that is taken.
pub shown_weight : {C : Type 0} (w : C → ℕ) (xs ys : List (List ℕ × C)) → weight_of_shown w (xs ++ ys) ≡ weight_of_shown w xs + weight_of_shown w ys
shown_weight w [] ys = omega arith
shown_weight w (x ∷ xs) ys = omega (arith, shown_weight w xs ys)

parts_weight : {C : Type 0} (w : C → ℕ) (xs : List (List ℕ × C)) → weight_of_shown w xs ≡ weight_of_parts w xs
parts_weight w [] = refl
parts_weight w (x ∷ xs) = ap (λ n. w x.1 + n) (parts_weight w xs)

tail_weight : {C : Type 0} (w : C → ℕ) (tail : Option (List ℕ × C)) → weight_of_shown w (option_to_list tail) ≡ weight_of_part w tail
tail_weight w None = refl
tail_weight w (Some part) = omega arith

pub chunk_weight : {C : Type 0} (w : C → ℕ) (chunk : ChunkParts C) → weight_of_shown w (parts_of chunk) ≡ weight_of_bundle w (bundle_for chunk)
chunk_weight w chunk = omega (arith, shown_weight w (option_to_list chunk.tail) chunk.fresh, tail_weight w chunk.tail, parts_weight w chunk.fresh)

pub taken_weight : {C : Type 0} (k k' : Kept C) (result : Option (ChunkParts C)) → k' ≡ record k { lane = record k.lane { closed = k'.lane.closed } } → k.lane.closed ≡ option_to_list (option_map bundle_for result) ++ k'.lane.closed
    → (w : C → ℕ) → weight_of_all w k'.lane k'.frags + weight_of_chunk w result ≡ weight_of_all w k.lane k.frags
taken_weight k k' None e q w = omega (arith, ap (λ x. weight_of_all w x.lane x.frags) e, ap (weight_of_bundles w) q)
taken_weight k k' (Some chunk) e q w = omega (arith, ap (λ x. weight_of_all w x.lane x.frags) e, ap (weight_of_bundles w) q, chunk_weight w chunk)
