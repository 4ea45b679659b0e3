-- Shares of a budget: a share (n, e) stands for n parts of 2^e.
use Rattle.std.specs.Prelude.{◌≡◌, ℕ, suc, ◌+◌, ◌-◌, ◌*◌, ◌^◌, List, [], ◌∷◌}

abbrev pub Share : Type 0
Share = ℕ × ℕ

-- the share of what has no part in a shared budget
abbrev pub no_share : Share
no_share = (0, 0)

-- two shares together
abbrev pub share_sum : Share → Share → Share
share_sum a b = (a.0 * 2 ^ b.1 + b.0 * 2 ^ a.1, a.1 + b.1)

abbrev pub half : Share → Share
half a = (a.0, suc a.1)

-- as much as another
abbrev pub IsSameShare : Share → Share → Type 0
IsSameShare a b = a.0 * 2 ^ b.1 ≡ b.0 * 2 ^ a.1

-- all of the budget
abbrev pub IsWhole : Share → Type 0
IsWhole a = a.0 ≡ 2 ^ a.1

-- how many parts of 2^scale a share is, where its own parts are no smaller
abbrev pub parts_at : ℕ → Share → ℕ
parts_at scale a = a.0 * 2 ^ (scale - a.1)

-- some shares together
abbrev pub all_shares : List Share → Share
all_shares [] = no_share
all_shares (a ∷ rest) = share_sum a (all_shares rest)
