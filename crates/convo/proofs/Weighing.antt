-- Sums over lists that are put behind others.
use Rattle.std.proofs.Common.{◌≡◌, ℕ, ◌+◌, List, [], ◌∷◌, ◌++◌, arith}
use Rattle.chunkpart.specs.ChunkParts.{ChunkParts}
use Rattle.convo.specs.Weights.{weight_of_chunks}

pub weight_behind : {C : Type 0} (w : C → ℕ) (xs ys : List (ChunkParts C)) → weight_of_chunks w (xs ++ ys) ≡ weight_of_chunks w xs + weight_of_chunks w ys
weight_behind w [] ys = omega arith
weight_behind w (x ∷ xs) ys = let e = weight_behind w xs ys in omega arith
