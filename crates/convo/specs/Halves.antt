-- One direction of a conversation, with what is kept beside it.
use Rattle.convo.specs.Directions.{DirStands, dir_weight}
use Rattle.std.specs.Prelude.{◌≡◌, ℕ, ◌+◌, List, [], ◌∷◌, Option, Some, None}
use Rattle.chunkpart.specs.ChunkParts.{ChunkParts, parts_of}
use Rattle.streamdefs.specs.Reorder.{Charge}
use Rattle.streamdefs.specs.Pending.{Piece}
use Rattle.streamdefs.specs.Direction.{Direction}
use Rattle.flowdir.specs.Boundary.{piece_for, weight_of_chunk, weight_of_parts}
use Rattle.flowdir.specs.Boundary.Phase.{Rests}
use Rattle.convo.specs.Weights.{weight_of_chunks}
use Rattle.convo.specs.declared.half.Half.{Half}

-- these pieces are to be handed over, of which the first may have been looked for
abbrev pub HandsBy : {C : Type 0} → (C → Charge) → (List Piece → Type 0) → Option (ChunkParts C) → List Piece → Type 0
HandsBy paid Left None pieces = Left pieces
HandsBy paid Left (Some chunk) pieces = (rest : List Piece) × (pieces ≡ piece_for paid chunk ∷ rest) × Left rest

abbrev pub Hands : {C : Type 0} → (C → Charge) → Half C → Direction → List Piece → Type 0
Hands paid h d pieces = HandsBy paid (DirStands paid h.dir d Rests) h.first pieces

-- the charges of a direction, its kept chunks and the first one that is handed over
abbrev pub weight_of_half : {C : Type 0} → (C → ℕ) → Half C → ℕ
weight_of_half w h = dir_weight w h.dir + weight_of_chunks w h.kept + weight_of_chunk w h.first

-- The next piece, with what is kept, is handed over, where there is one. Behind it nothing is kept.
abbrev pub HandsFirst : {C : Type 0} → (C → Charge) → (List Piece → Type 0) → List Piece → Option (List (ChunkParts C) × ChunkParts C) → Type 0
HandsFirst paid Left pieces None = (pieces ≡ []) × Left []
HandsFirst paid Left pieces (Some taken) = (rest : List Piece) × (pieces ≡ piece_for paid taken.1 ∷ rest) × Left rest

abbrev pub KeptIs : {C : Type 0} → List (ChunkParts C) → List (ChunkParts C) → Option (List (ChunkParts C) × ChunkParts C) → Type 0
KeptIs before after None = after ≡ before
KeptIs before after (Some taken) = (taken.0 ≡ before) × (after ≡ [])

abbrev pub weight_of_taken : {C : Type 0} → (C → ℕ) → Option (List (ChunkParts C) × ChunkParts C) → ℕ
weight_of_taken weight None = 0
weight_of_taken weight (Some taken) = weight_of_chunks weight taken.0 + weight_of_parts weight (parts_of taken.1)
