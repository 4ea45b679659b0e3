-- An ask whose exchange was lost is answered by what it found.
use Rattle.std.proofs.Common.{◌≡◌, ◌≢◌, ℕ, ◌+◌, ◌-◌, ◌*◌, ◌<◌, ◌≤◌, Bool, [], ◌∷◌, ◌++◌, refl, sym, ap, ◌∙◌, subst, subst₂, arith, append_assoc, ne_eqb, MatchBool}
use Rattle.prio_budget.specs.declared.look.Look.{Look}
use Rattle.prio_budget.specs.declared.answered.TheConstants.{SPENT_STAMP}
use Rattle.prio_budget.specs.declared.answered.Answered.{Answered}
use Rattle.prio_budget.specs.declared.answered.Answered.TheVariants.{Granted, Past, Spent, Moved}
use Rattle.prio_budget.specs.declared.budget_move.BudgetMove.TheVariants.{Grant}
use Rattle.prio_budget.specs.declared.word_view.WordView.{WordView}
use Rattle.atomic_table.specs.Table.{Me, Step}
use Rattle.prio_budget.specs.Answers.{LetsIn}
use Rattle.prio_budget.specs.WordParts.{HomeParts, WordChargeParts}
use Rattle.prio_budget.specs.WordRule.{stamp_in, used_in}
use Rattle.prio_budget.specs.WordSteps.{home_in, look_in, looked, moved, Asked}
use Rattle.prio_budget.specs.WordAnswers.{OnlyLooked, IsAnswered, IsLost}
use Rattle.prio_budget.proofs.StepLemmas.{word_parts}

-- where the exchange was lost
pub missed : (s : Step (Unit {0})) (v : Me (Unit {0}) WordView) (n : ℕ) (w : Me (Unit {0}) WordView) → n ≢ s.first → Asked s v n w → w ≡ (looked (stamp_in n) (used_in n) v.0, v.1)
missed s v n w e told =
    let hit : Me (Unit {0}) WordView = (moved (s.second - s.first - 4294967296) (Grant (look_in n) (s.second - s.first - 4294967296)) v.0, v.1) in
    let miss : Me (Unit {0}) WordView = (looked (stamp_in n) (used_in n) v.0, v.1) in
    subst (λ (b : Bool). MatchBool b (w ≡ hit) (w ≡ miss)) (ne_eqb n s.first e) told.0

apart : (m n : ℕ) → m ≢ n → look_in m ≢ look_in n
apart m n ne e = ne (sym (word_parts m) ∙ ap (λ (l : Look). l.stamp * 4294967296 + l.found) e ∙ word_parts n)

-- two looks, at the words m and n
abbrev twice : ℕ → ℕ → WordView → WordView
twice m n v = looked (stamp_in n) (used_in n) (looked (stamp_in m) (used_in m) v)

module _ (asked mark m n : ℕ) (v : WordView) (early : v.seen ≤ stamp_in m) (rises : stamp_in m ≤ stamp_in n) where
  both : (twice m n v).looks ≡ v.looks ++ look_in m ∷ look_in n ∷ []
  both = append_assoc v.looks (look_in m ∷ []) (look_in n ∷ [])

  only : OnlyLooked (home_in v) (home_in (twice m n v)) (look_in n)
  only = record { rises = omega (arith, early, rises); seen = refl; share = refl; moves = refl; counts = (refl, refl, refl); looks = (look_in m ∷ [], refl) }

  lost_at : (answer : Answered WordChargeParts) → m ≢ n → IsLost asked mark (look_in m) (look_in n) answer → IsAnswered asked mark (home_in v) (home_in (twice m n v)) answer
  lost_at (Granted charge found) ne h = absurd h
  lost_at (Past found) ne h =
      subst (λ (l : Look). (l.stamp < SPENT_STAMP) × (mark < l.found + asked) × OnlyLooked (home_in v) (home_in (twice m n v)) l) (sym h.0) (h.1, h.2, only)
  lost_at (Spent found) ne h = subst (λ (l : Look). (SPENT_STAMP ≤ l.stamp) × OnlyLooked (home_in v) (home_in (twice m n v)) l) (sym h.0) (h.1, only)
  lost_at (Moved before found) ne h =
      subst₂ (λ (a b : Look). LetsIn asked mark b × (a ≢ b) × OnlyLooked (home_in v) (home_in (twice m n v)) b × ((twice m n v).looks ≡ v.looks ++ a ∷ b ∷ [])) (sym h.0) (sym h.1) (h.2, apart m n ne, only, both)

pub lost_as : (asked mark m n : ℕ) (v w u : WordView) (before : HomeParts) (first look : Look) (answer : Answered WordChargeParts)
    → home_in v ≡ before → w ≡ looked (stamp_in m) (used_in m) v → v.seen ≤ stamp_in m → u ≡ looked (stamp_in n) (used_in n) w → w.seen ≤ stamp_in n
    → first ≡ look_in m → look ≡ look_in n → n ≢ m → IsLost asked mark first look answer → IsAnswered asked mark before (home_in u) answer
lost_as asked mark m n v w u before first look answer is one early two rises at_first at_look ne lost =
    let later : stamp_in m ≤ stamp_in n = subst (λ (x : WordView). x.seen ≤ stamp_in n) one rises in
    let after : u ≡ twice m n v = two ∙ ap (looked (stamp_in n) (used_in n)) one in
    let by : IsLost asked mark (look_in m) (look_in n) answer = subst₂ (λ (a b : Look). IsLost asked mark a b answer) at_first at_look lost in
    subst₂ (λ (h : HomeParts) (x : WordView). IsAnswered asked mark h (home_in x) answer) is (sym after) (lost_at asked mark m n v early later answer (λ e. ne (sym e)) by)
