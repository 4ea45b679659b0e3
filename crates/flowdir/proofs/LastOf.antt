-- The last bytes of what is pending.
use Rattle.std.specs.Prelude.{◌≡◌, refl, ℕ, zero, suc, ◌-◌, List, [], ◌∷◌, length, drop}
use Rattle.std.proofs.Common.{sym, ◌∙◌, ap}
use Rattle.chunkpart.specs.Parts.{bytes_of}
use Rattle.chunkpart.specs.LastBytes.{last_of}
use Rattle.streamdefs.specs.Reorder.{Charge, Placed}
use Rattle.streamdefs.specs.Pending.{Pending, last_bytes, bytes_in}
use Rattle.flowdir.specs.Lane.{Bundle, IsChunk}

bytes_drop : (n : ℕ) (ps : List Placed) → bytes_in (drop n ps) ≡ drop n (bytes_in ps)
bytes_drop zero ps = refl
bytes_drop (suc n) [] = refl
bytes_drop (suc n) (p ∷ ps) = bytes_drop n ps

pub bytes_length : (ps : List Placed) → length (bytes_in ps) ≡ length ps
bytes_length [] = refl
bytes_length (p ∷ ps) = ap suc (bytes_length ps)

-- the last bytes of what is pending are those of the open chunk
pub last_is : {C : Type 0} (paid : C → Charge) (since : ℕ) (chunk : Bundle C) (p : Pending) (n : ℕ) → IsChunk paid since chunk p
    → last_bytes n p.bytes ≡ last_of n (bytes_of chunk.fresh)
last_is paid since chunk p n k = bytes_drop (length p.bytes - n) p.bytes ∙ (λ i. drop ((sym (bytes_length p.bytes) ∙ ap length k.bytes) i - n) (k.bytes i))
