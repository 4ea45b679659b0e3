-- The charges that go out where memory was wanting.
use Rattle.std.specs.Prelude.{◌≡◌, refl, ℕ, ◌+◌, ◌≤◌, List, [], ◌∷◌, ◌++◌, length, drop, Option, Some, None, option_to_list}
use Rattle.std.proofs.Common.{sym, ◌∙◌, ap, subst, arith}
use Rattle.std.proofs.lemmas.List.{length-append}
use Rattle.chunkpart.specs.Parts.{bytes_of}
use Rattle.chunkpart.specs.ChunkParts.{ChunkParts, parts_of}
use Rattle.streamdefs.specs.View.{Gap}
use Rattle.reorder.specs.Frags.{Frag, BeginsAt, DoesNotBegin}
use Rattle.flowdir.specs.Boundary.{weight_of_parts as weight_of_shown}
use Rattle.flowdir.specs.Lane.{Bundle, bundle_for, EndsUpTo, IsLone, IsWhole, weight_of_bundle}
use Rattle.flowdir.proofs.StepWeights.{chunk_weight}

-- a part is taken from a chunk
pub part_taken : {C : Type 0} (chunk chunk' : ChunkParts C) (part : List ℕ × C) → parts_of chunk ≡ part ∷ parts_of chunk' → (w : C → ℕ) → weight_of_bundle w (bundle_for chunk') + w part.1 ≡ weight_of_bundle w (bundle_for chunk)
part_taken chunk chunk' part e w = omega (arith, chunk_weight w chunk, chunk_weight w chunk', ap (weight_of_shown w) e)

-- a chunk has none
pub none_taken : {C : Type 0} (chunk : ChunkParts C) → parts_of chunk ≡ [] → (w : C → ℕ) → weight_of_bundle w (bundle_for chunk) ≡ 0
none_taken chunk e w = sym (chunk_weight w chunk) ∙ ap (weight_of_shown w) e

-- what is left of a chunk ends no later
pub ends_sooner : {C : Type 0} (chunk chunk' : ChunkParts C) (part : List ℕ × C) → parts_of chunk ≡ part ∷ parts_of chunk' → chunk'.tail ≡ None → chunk'.start ≡ chunk.start
    → (front : ℕ) → EndsUpTo front (Some (bundle_for chunk)) → EndsUpTo front (Some (bundle_for chunk'))
ends_sooner {C = C} chunk chunk' part e t s front h = omega (arith, s, h, shorter chunk.tail (e ∙ ap (λ xs. part ∷ (option_to_list xs ++ chunk'.fresh)) t))
  where
    shorter : (tail : Option (List ℕ × C)) → option_to_list tail ++ chunk.fresh ≡ part ∷ chunk'.fresh → length (bytes_of chunk'.fresh) ≤ length (bytes_of chunk.fresh)
    shorter None e = omega (arith, ap (λ xs. length (bytes_of xs)) e, length-append part.0 (bytes_of chunk'.fresh))
    shorter (Some q) e = omega (arith, ap (λ xs. length (bytes_of (drop 1 xs))) e)

pub ends_empty : {C : Type 0} (chunk chunk' : ChunkParts C) → parts_of chunk ≡ parts_of chunk' → parts_of chunk ≡ [] → chunk'.tail ≡ None → chunk'.start ≡ chunk.start
    → (front : ℕ) → EndsUpTo front (Some (bundle_for chunk)) → EndsUpTo front (Some (bundle_for chunk'))
ends_empty {C = C} chunk chunk' e n t s front h = omega (arith, s, h, ap (λ xs. length (bytes_of xs)) (ap (λ xs. option_to_list xs ++ chunk'.fresh) (sym t) ∙ sym e ∙ n))

-- the first part begins where it does
pub begins_there : {C : Type 0} (at : ℕ) (fs : List (Frag C)) → BeginsAt at fs → DoesNotBegin at fs → ⊥
begins_there at [] b d = absurd b
begins_there at (f ∷ fs) b d = d b

-- what is kept of the flow stays whole
pub open_drained : {C : Type 0} (front : ℕ) (gaps : List Gap) (copy : Option (List ℕ × C)) (chunk chunk' : Option (Bundle C)) → IsWhole front gaps copy chunk
    → ((front : ℕ) → EndsUpTo front chunk → EndsUpTo front chunk') → ((copy : Option (List ℕ × C)) → IsLone copy chunk → IsLone copy chunk') → IsWhole front gaps copy chunk'
open_drained front gaps copy chunk chunk' w e l = record { gaps_are = w.gaps_are; ends = e front w.ends; lone = l copy w.lone; near = w.near }

lone_there : {C : Type 0} (chunk : Option (Bundle C)) → IsLone None chunk
lone_there None = tt
lone_there (Some chunk) = refl

pub copy_drained : {C : Type 0} (front : ℕ) (gaps : List Gap) (copy copy' : Option (List ℕ × C)) (chunk : Option (Bundle C)) → IsWhole front gaps copy chunk → copy' ≡ None → IsWhole front gaps copy' chunk
copy_drained {C = C} front gaps copy copy' chunk w e = subst (λ (c : Option (List ℕ × C)). IsWhole front gaps c chunk) (sym e) (record { gaps_are = w.gaps_are; ends = w.ends; lone = lone_there chunk; near = w.near })
