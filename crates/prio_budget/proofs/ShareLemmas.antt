-- Shares add up: laws for the layers above, which show that a home has the whole again.
use Rattle.std.proofs.Common.{◌++◌, ◌∷◌, [], List, ◌≡◌, ℕ, suc, ◌+◌, ◌*◌, ◌/◌, ◌^◌, ◌<◌, refl, sym, ap, subst, ◌∙◌, arith, pow_pos, pow-add, pow-suc, mul-div_cancel}
use Rattle.prio_budget.specs.WordParts.{HomeParts, parts_of}
use Rattle.prio_budget.specs.Share.{no_share, Share, share_sum, half, IsSameShare, IsWhole}

pub cancel : (a b n : ℕ) → 0 < n → a * n ≡ b * n → a ≡ b
cancel a b n h e = sym (mul-div_cancel a h) ∙ ap (λ (k : ℕ). k / n) e ∙ mul-div_cancel b h

pub same_refl : (a : Share) → IsSameShare a a
same_refl a = refl

pub same_sym : (a b : Share) → IsSameShare a b → IsSameShare b a
same_sym a b h = sym h

pub same_trans : (a b c : Share) → IsSameShare a b → IsSameShare b c → IsSameShare a c
same_trans a b c h k = cancel (a.0 * 2 ^ c.1) (c.0 * 2 ^ a.1) (2 ^ b.1) (pow_pos b.1) (through a.0 b.0 c.0 (2 ^ a.1) (2 ^ b.1) (2 ^ c.1) h k)
  where
    through : (a b c x y z : ℕ) → a * y ≡ b * x → b * z ≡ c * y → a * z * y ≡ c * x * y
    through a b c x y z h k = omega (arith, ap (λ (n : ℕ). n * z) h, ap (λ (n : ℕ). n * x) k)

pub sum_comm : (a b : Share) → share_sum a b ≡ share_sum b a
sum_comm a b = let p : a.0 * 2 ^ b.1 + b.0 * 2 ^ a.1 ≡ b.0 * 2 ^ a.1 + a.0 * 2 ^ b.1 = omega arith in let q : a.1 + b.1 ≡ b.1 + a.1 = omega arith in λ i. (p i, q i)

pub sum_assoc : (a b c : Share) → share_sum (share_sum a b) c ≡ share_sum a (share_sum b c)
sum_assoc a b c =
    let p = three a.0 b.0 c.0 (2 ^ a.1) (2 ^ b.1) (2 ^ c.1) (2 ^ (a.1 + b.1)) (2 ^ (b.1 + c.1)) (pow-add 2 a.1 b.1) (pow-add 2 b.1 c.1) in
    let q : a.1 + b.1 + c.1 ≡ a.1 + (b.1 + c.1) = omega arith in λ i. (p i, q i)
  where
    three : (a b c x y z xy yz : ℕ) → xy ≡ x * y → yz ≡ y * z → (a * y + b * x) * z + c * xy ≡ a * yz + (b * z + c * y) * x
    three a b c x y z xy yz h k = omega (arith, ap (λ (n : ℕ). c * n) h, ap (λ (n : ℕ). a * n) k)

pub sum_same : (a b c d : Share) → IsSameShare a b → IsSameShare c d → IsSameShare (share_sum a c) (share_sum b d)
sum_same a b c d h k = four a.0 b.0 c.0 d.0 (2 ^ a.1) (2 ^ b.1) (2 ^ c.1) (2 ^ d.1) (2 ^ (a.1 + c.1)) (2 ^ (b.1 + d.1)) (pow-add 2 a.1 c.1) (pow-add 2 b.1 d.1) h k
  where
    step : (a b c d x y z w : ℕ) → a * y ≡ b * x → c * w ≡ d * z → (a * z + c * x) * (y * w) ≡ (b * w + d * y) * (x * z)
    step a b c d x y z w h k = omega (arith, ap (λ (n : ℕ). n * (z * w)) h, ap (λ (n : ℕ). n * (x * y)) k)

    four : (a b c d x y z w xz yw : ℕ) → xz ≡ x * z → yw ≡ y * w → a * y ≡ b * x → c * w ≡ d * z → (a * z + c * x) * yw ≡ (b * w + d * y) * xz
    four a b c d x y z w xz yw p q h k = ap (λ (n : ℕ). (a * z + c * x) * n) q ∙ step a b c d x y z w h k ∙ ap (λ (n : ℕ). (b * w + d * y) * n) (sym p)

-- two halves
pub halves_same : (a : Share) → IsSameShare (share_sum (half a) (half a)) a
halves_same a = two a.0 (2 ^ a.1) (2 ^ suc a.1) (2 ^ (suc a.1 + suc a.1)) (pow-suc 2 a.1) (pow-add 2 (suc a.1) (suc a.1))
  where
    two : (n x y z : ℕ) → y ≡ x * 2 → z ≡ y * y → (n * y + n * y) * x ≡ n * z
    two n x y z h k = omega (arith, ap (λ (m : ℕ). n * m) k, ap (λ (m : ℕ). n * (y * m)) h)

pub whole_same : (a b : Share) → IsSameShare a b → IsWhole a → IsWhole b
whole_same a b h w = sym (cancel (2 ^ b.1) b.0 (2 ^ a.1) (pow_pos a.1) (turn (2 ^ a.1) (2 ^ b.1) b.0 a.0 w h))
  where
    turn : (x y b a : ℕ) → a ≡ x → a * y ≡ b * x → y * x ≡ b * x
    turn x y b a w h = omega (arith, h, ap (λ (n : ℕ). n * y) w)

-- a share with the half that was taken from it, in either order and with others between
pub back_again : (a : Share) (rest : Share) → IsSameShare (share_sum (share_sum (half a) rest) (half a)) (share_sum a rest)
back_again a rest =
    let e : share_sum (share_sum (half a) rest) (half a) ≡ share_sum (share_sum (half a) (half a)) rest = sum_assoc (half a) rest (half a) ∙ ap (λ (s : Share). share_sum (half a) s) (sum_comm rest (half a)) ∙ sym (sum_assoc (half a) (half a) rest) in
    subst (λ (s : Share). IsSameShare s (share_sum a rest)) (sym e) (sum_same (share_sum (half a) (half a)) a rest rest (halves_same a) refl)

pub sum_none : (a : Share) → share_sum a no_share ≡ a
sum_none a = let p : a.0 * 2 ^ 0 + 0 * 2 ^ a.1 ≡ a.0 = omega arith in let q : a.1 + 0 ≡ a.1 = omega arith in λ i. (p i, q i)

-- a home that is taken from the end of a list
pub parts_snoc : (views : List HomeParts) (v : HomeParts) → parts_of (views ++ v ∷ []) ≡ share_sum v.part (parts_of views)
parts_snoc [] v = refl
parts_snoc (u ∷ us) v =
    ap (λ (s : Share). share_sum u.part s) (parts_snoc us v) ∙ sym (sum_assoc u.part v.part (parts_of us)) ∙ ap (λ (s : Share). share_sum s (parts_of us)) (sum_comm u.part v.part) ∙ sum_assoc v.part u.part (parts_of us)

pub gathered : (home : Share) (views rest : List HomeParts) (v : HomeParts) → views ≡ rest ++ v ∷ [] → share_sum (share_sum home v.part) (parts_of rest) ≡ share_sum home (parts_of views)
gathered home views rest v e = sum_assoc home v.part (parts_of rest) ∙ ap (λ (s : Share). share_sum home s) (sym (parts_snoc rest v) ∙ ap parts_of (sym e))
