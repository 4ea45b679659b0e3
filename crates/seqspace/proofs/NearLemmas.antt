use Rattle.std.proofs.Common.{◌≡◌, ℕ, pos, ◌+◌, ◌-◌, ◌*◌, ◌/◌, ◌%◌, ◌^◌, ◌<◌, ◌≤◌, ◌-ℤ◌, refl, ap, sym, ◌∙◌, arith}
use Rattle.std.proofs.Math.Nat.{div-add-mod, mod-lt, add-mul-mod_self_left}
use Rattle.seqspace.specs.Near.{HasPosition, HasOnePosition}

-- how far the number 2^31 past the position lies from the front
abbrev beyond : ℕ → ℕ → ℕ → ℕ
beyond base seq front = (seq + 2 ^ 31 + (2 ^ 32 - (base + front) % 2 ^ 32)) % 2 ^ 32

below : (n : ℕ) → n % 2 ^ 32 < 2 ^ 32
below n = mod-lt n (omega arith)

-- equal remainders of sums with multiples
same_rest : (a b j k : ℕ) → a + 2 ^ 32 * j ≡ b + 2 ^ 32 * k → a % 2 ^ 32 ≡ b % 2 ^ 32
same_rest a b j k e = sym (add-mul-mod_self_left a (2 ^ 32) j) ∙ ap (λ (n : ℕ). n % 2 ^ 32) e ∙ add-mul-mod_self_left b (2 ^ 32) k

congruent : (base seq front : ℕ) → (front + beyond base seq front + base) % 2 ^ 32 ≡ (seq + 2 ^ 31) % 2 ^ 32
congruent base seq front =
    let s : ℕ = seq + 2 ^ 31 + (2 ^ 32 - (base + front) % 2 ^ 32) in
    same_rest (front + beyond base seq front + base) (seq + 2 ^ 31) (s / 2 ^ 32) ((base + front) / 2 ^ 32 + 1)
    (omega (arith, div-add-mod s (2 ^ 32), div-add-mod (base + front) (2 ^ 32), below (base + front)))

pub has_position : HasPosition
has_position base seq front = record {
  more = front + beyond base seq front;
  is = refl;
  from = omega arith;
  until = omega (arith, below (seq + 2 ^ 31 + (2 ^ 32 - (base + front) % 2 ^ 32)));
  congruent = congruent base seq front;
}

-- two numbers of one class that are less than 2^32 apart are one
same_number : (a b base front : ℕ) → front ≤ a → a < front + 2 ^ 32 → front ≤ b → b < front + 2 ^ 32 → (a + base) % 2 ^ 32 ≡ (b + base) % 2 ^ 32 → a ≡ b
same_number a b base front fa ua fb ub e = omega (arith, fa, ua, fb, ub, e, div-add-mod (a + base) (2 ^ 32), div-add-mod (b + base) (2 ^ 32))

pub has_one_position : HasOnePosition
unfolding has_position
has_one_position base seq front x h =
    let other = has_position base seq front in
    h.is ∙ ap (λ (n : ℕ). pos n -ℤ pos (2 ^ 31)) (same_number h.more other.more base front h.from h.until other.from other.until (h.congruent ∙ sym other.congruent))
