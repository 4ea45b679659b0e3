use Rattle.std.proofs.Common.{ℕ, List, ◌∙◌, ap, slice_get}
use Rattle.chunkpart.specs.ChunkParts.{copied_bytes, fresh_bytes}
use Rattle.chunkpart.proofs.PositionsLemmas.{placed_bytes-enumerate, slice_get-behind, slice_get-enumerate}
use Rattle.chunkpart.proofs.laws.fresh_bytes_stand_from_the_start.Goals as goal

pub returns-clause-unbroken : goal.returns-clause-unbroken
returns-clause-unbroken g c = placed_bytes-enumerate c.args.chunk.now.start c.args.chunk.now.fresh

pub returns-clause-placed : goal.returns-clause-placed
returns-clause-placed g c = λ k.
    ap (λ (l : List (ℕ × ℕ)). slice_get l k) (placed_bytes-enumerate c.args.chunk.now.start c.args.chunk.now.fresh)
    ∙ slice_get-enumerate c.args.chunk.now.start (fresh_bytes c.args.chunk.now) k

pub returns-clause-shown : goal.returns-clause-shown
returns-clause-shown g c = λ k. slice_get-behind (copied_bytes c.args.chunk.now) (fresh_bytes c.args.chunk.now) k
