use Rattle.std.proofs.Common.{◌≡◌, ℕ, ◌+◌, ◌<◌, ◌≤◌, List, [], ◌∷◌, ◌++◌, length, drop, refl, arith, length-drop}
use Rattle.std.proofs.lemmas.List.{get_or_append_left, take-append-le, drop-append-le}
use Rattle.std.specs.Prelude.{slice_index}
use Rattle.byteorder.specs.Endian.{big_number}
use Rattle.linkip.specs.Fields.{short_at, bytes_at}

-- What stands in a header stands there in what begins with it.

two : (front back : List ℕ) → 2 ≤ length front → big_number 2 (front ++ back) ≡ big_number 2 front
two [] back h = absurd (omega arith)
two (x ∷ []) back h = absurd (omega arith)
two (x ∷ y ∷ front) back h = refl

pub short_at-front : (header rest : List ℕ) (at : ℕ) → at + 2 ≤ length header → short_at (header ++ rest) at ≡ short_at header at
short_at-front header rest at h =
    let within : at ≤ length header = omega arith in
    let long : 2 ≤ length (drop at header) = rw length-drop (omega arith) in
    rw (drop-append-le at header rest within) (two (drop at header) rest long)

pub bytes_at-front : (header rest : List ℕ) (at count : ℕ) → at + count ≤ length header → bytes_at (header ++ rest) at count ≡ bytes_at header at count
bytes_at-front header rest at count h =
    let within : at ≤ length header = omega arith in
    let long : count ≤ length (drop at header) = rw length-drop (omega arith) in
    rw (drop-append-le at header rest within) (take-append-le count (drop at header) rest long)

pub index-front : (header rest : List ℕ) (at : ℕ) → at < length header → slice_index (header ++ rest) at ≡ slice_index header at
index-front header rest at h = get_or_append_left header rest 0 at h
