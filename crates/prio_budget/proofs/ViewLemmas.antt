-- A view fits the rule later too, as long as the sums below its stamps stay.
use Rattle.std.proofs.Common.{◌≡◌, ℕ, suc, ◌+◌, ◌≤◌, ◌<◌, ◌==◌, cond, List, [], ◌∷◌, ◌++◌, arith, tests, le_trans}
use Rattle.prio_budget.specs.declared.look.Look.{Look}
use Rattle.prio_budget.specs.declared.word_view.WordView.{WordView}
use Rattle.prio_budget.specs.declared.budget_move.BudgetMove.{BudgetMove}
use Rattle.prio_budget.specs.declared.budget_move.BudgetMove.TheVariants.{Grant, Release}
use Rattle.prio_budget.specs.History.{stamp_of, below, once_between, IsUsedBefore, IsTrueLook, IsFairMove, Each}
use Rattle.prio_budget.specs.WordRule.{Fits}

module _ {A : Type 0} where
  pub each_map : {P Q : A → Type 0} → ((x : A) → P x → Q x) → (l : List A) → Each P l → Each Q l
  each_map h [] e = tt
  each_map h (x ∷ xs) e = (h x e.0, each_map h xs e.1)

  pub each_append : (P : A → Type 0) → (l m : List A) → Each P l → Each P m → Each P (l ++ m)
  each_append P [] m e d = d
  each_append P (x ∷ xs) m e d = (e.0, each_append P xs m e.1 d)

module _ (grants frees grants' frees' : ℕ → ℕ) (now now' : ℕ) (later : now ≤ now') (same_grants : (n : ℕ) → n ≤ now → grants' n ≡ grants n) (same_frees : (n : ℕ) → n ≤ now → frees' n ≡ frees n) where
  before_later : (n found : ℕ) → n ≤ now → IsUsedBefore grants frees n found → IsUsedBefore grants' frees' n found
  before_later n found h e = omega (arith, e, same_grants n h, same_frees n h)

  look_later : (look : Look) → IsTrueLook grants frees now look → IsTrueLook grants' frees' now' look
  look_later look h = (le_trans h.0 later, before_later look.stamp look.found h.0 h.1)

  move_later : (limit : ℕ) (move : BudgetMove) → IsFairMove grants frees limit now move → IsFairMove grants' frees' limit now' move
  move_later limit (Grant look bytes) h = (omega (arith, h.0, later), before_later look.stamp look.found (omega (arith, h.0)) h.1, h.2)
  move_later limit (Release free) h = omega (arith, h, later)

  pub fits_later : (limit scale scale' : ℕ) (v : WordView) → scale ≤ scale' → Fits grants frees limit now scale v → Fits grants' frees' limit now' scale' v
  fits_later limit scale scale' v wider h = record {
    seen = le_trans h.seen later;
    looks = each_map look_later v.looks h.looks;
    moves = each_map (move_later limit) v.moves h.moves;
    sized = le_trans h.sized wider;
    spent = h.spent;
    part_sized = le_trans h.part_sized wider;
    bare = h.bare;
    idle = h.idle;
  }

-- one stamp more
pub once_more : (first stamp n : ℕ) → first ≤ stamp → once_between first stamp n + cond (stamp == n) 1 0 ≡ once_between first (suc stamp) n
once_more first stamp n h = grind (arith, tests)

pub below_early : (bytes : BudgetMove → ℕ) (move : BudgetMove) (n : ℕ) → n ≤ stamp_of move → below bytes n move ≡ 0
below_early bytes move n h = grind (arith, tests)

pub below_late : (bytes : BudgetMove → ℕ) (move : BudgetMove) (n : ℕ) → stamp_of move < n → below bytes n move ≡ bytes move
below_late bytes move n h = grind (arith, tests)
