use Rattle.std.proofs.Common.{◌≡◌, ℕ, zero, suc, ◌<◌, Bool, true, false, List, length, drop, Some, None, refl, sym, ◌∙◌, arith, length-drop}
use Rattle.std.proofs.lemmas.Bool.Decides.{nat_tests}
use Rattle.std.specs.Prelude.{slice_index}
use Rattle.linkip.specs.Ipv6.{is_extension, is_cut, extension_length, upper_within, upper_in}

-- One header of a chain, by what is known of it.

pub upper_within-ends : (turns next : ℕ) (bytes : List ℕ) → is_extension next ≡ false
    → upper_within (suc turns) next bytes ≡ Some (record { next = next; left = bytes })
unfolding upper_within
upper_within-ends turns next bytes h = rw h

pub upper_within-cut : (turns next : ℕ) (bytes : List ℕ) → is_extension next ≡ true → is_cut bytes ≡ true
    → upper_within (suc turns) next bytes ≡ None
unfolding upper_within
upper_within-cut turns next bytes h cut = rw (h, cut)

pub upper_within-passes : (turns next : ℕ) (bytes : List ℕ) → is_extension next ≡ true → is_cut bytes ≡ false
    → upper_within (suc turns) next bytes ≡ upper_within turns (slice_index bytes 0) (drop (extension_length bytes) bytes)
unfolding upper_within
upper_within-passes turns next bytes h whole = rw (h, whole)

-- what is left behind a whole extension header is shorter

pub shorter : (bytes : List ℕ) → is_cut bytes ≡ false → length (drop (extension_length bytes) bytes) < length bytes
shorter bytes whole = rw length-drop (grind (arith, nat_tests))

-- any turns above the number of bytes serve

serve : (a b next : ℕ) (bytes : List ℕ) (e c : Bool) → is_extension next ≡ e → is_cut bytes ≡ c
    → length bytes < suc a → length bytes < suc b
    → ((n : ℕ) (rest : List ℕ) → length rest < a → length rest < b → upper_within a n rest ≡ upper_within b n rest)
    → upper_within (suc a) next bytes ≡ upper_within (suc b) next bytes
serve a b next bytes false c h cut la lb same = upper_within-ends a next bytes h ∙ sym (upper_within-ends b next bytes h)
serve a b next bytes true true h cut la lb same = upper_within-cut a next bytes h cut ∙ sym (upper_within-cut b next bytes h cut)
serve a b next bytes true false h whole la lb same =
    let s : length (drop (extension_length bytes) bytes) < length bytes = shorter bytes whole in
    upper_within-passes a next bytes h whole
    ∙ same (slice_index bytes 0) (drop (extension_length bytes) bytes) (omega arith) (omega arith)
    ∙ sym (upper_within-passes b next bytes h whole)

pub upper_within-turns : (a b next : ℕ) (bytes : List ℕ) → length bytes < a → length bytes < b
    → upper_within a next bytes ≡ upper_within b next bytes
upper_within-turns zero b next bytes la lb = absurd (omega arith)
upper_within-turns (suc a) zero next bytes la lb = absurd (omega arith)
upper_within-turns (suc a) (suc b) next bytes la lb =
    serve a b next bytes (is_extension next) (is_cut bytes) refl refl la lb
    (λ n rest ra rb. upper_within-turns a b n rest ra rb)

-- the same of a chain with as many turns as serve

pub upper_in-ends : (next : ℕ) (bytes : List ℕ) → is_extension next ≡ false → upper_in next bytes ≡ Some (record { next = next; left = bytes })
upper_in-ends next bytes h = upper_within-ends (length bytes) next bytes h

pub upper_in-cut : (next : ℕ) (bytes : List ℕ) → is_extension next ≡ true → is_cut bytes ≡ true → upper_in next bytes ≡ None
upper_in-cut next bytes h cut = upper_within-cut (length bytes) next bytes h cut

pub upper_in-passes : (next : ℕ) (bytes : List ℕ) → is_extension next ≡ true → is_cut bytes ≡ false
    → upper_in next bytes ≡ upper_in (slice_index bytes 0) (drop (extension_length bytes) bytes)
upper_in-passes next bytes h whole =
    let s : length (drop (extension_length bytes) bytes) < length bytes = shorter bytes whole in
    upper_within-passes (length bytes) next bytes h whole
    ∙ upper_within-turns (length bytes) (suc (length (drop (extension_length bytes) bytes))) (slice_index bytes 0) (drop (extension_length bytes) bytes)
    s (omega arith)

pub upper_in-passes_to : (next : ℕ) (bytes : List ℕ) (behind : ℕ) (left : List ℕ) → is_extension next ≡ true → is_cut bytes ≡ false
    → behind ≡ slice_index bytes 0 → left ≡ drop (extension_length bytes) bytes → upper_in next bytes ≡ upper_in behind left
upper_in-passes_to next bytes behind left h whole b l = rw (b, l) (upper_in-passes next bytes h whole)
