-- Each kind of step keeps the rule, at the table.
use Rattle.std.proofs.Common.{◌≡◌, ℕ, suc, ◌+◌, ◌*◌, ◌-◌, ◌%◌, ◌^◌, ◌≤◌, ◌<◌, ◌==◌, eq-eqb, ne_eqb, Bool, true, false, List, [], ◌∷◌, set, refl, sym, ap, ◌∙◌, subst, subst₂, ⊎_elim, arith, div-add-mod', MatchBool, mod-eq_of_lt}
use Rattle.std.specs.Prelude.{slice_index, slice_set}
use mathlib.Core.Option.{none}
use mathlib.Core.Logic.{dite}
use native.Mathlib.Decide.{ℕ_discrete}
use prog.Atomic.{either}
use Rattle.atomic_table.specs.Table.{State, Me, Step, step, Act, keeps, stepped, Valid, Allows, Splits, Joins, carried_after}
use Rattle.prio_budget.specs.declared.word_view.WordView.{WordView}
use Rattle.prio_budget.specs.declared.budget_move.BudgetMove.TheVariants.{Grant, Release}
use Rattle.prio_budget.specs.Share.{Share}
use Rattle.prio_budget.specs.WordRule.{held_of, Kept, Holds, stamp_in, used_in}
use Rattle.prio_budget.specs.WordSteps.{look_in, kept_part, given_part, joined, nobody, looked, moved, Looked, Asked, Freed}
use Rattle.prio_budget.proofs.SplitLemmas.{splits, joins, IsCut}
use Rattle.prio_budget.proofs.MoveLemmas.{looks, grants, releases, late_or}
use Rattle.prio_budget.proofs.Totals.{total_one}

-- a word from its stamp and its used number
pub parts : (word stamp used : ℕ) → word ≡ stamp * 4294967296 + used → used < 4294967296 → (stamp_in word ≡ stamp) × (used_in word ≡ used)
parts word stamp used e h = (omega (arith, e, h), omega (arith, e, h))

pub word_parts : (word : ℕ) → stamp_in word * 4294967296 + used_in word ≡ word
word_parts word = div-add-mod' word 4294967296

-- the word after a move
pub after_move : (word new stamp used : ℕ) → stamp ≡ suc (stamp_in word) → used < 4294967296 → new ≡ suc (stamp_in word) * 4294967296 + used → (stamp_in new ≡ stamp) × (used_in new ≡ used)
after_move word new stamp used e h n = let p = parts new (suc (stamp_in word)) used n h in (p.0 ∙ sym e, p.1)

abbrev Tells : Bool → ℕ → ℕ → Me (Unit {0}) WordView → Me (Unit {0}) WordView → Type 0
Tells b n asked v w = MatchBool b (w ≡ (moved asked (Grant (look_in n) asked) v.0, v.1)) (w ≡ (looked (stamp_in n) (used_in n) v.0, v.1)) × (v.0.seen ≤ stamp_in n)

module _ (limit first : ℕ) where
  abbrev At : ℕ → List WordView → Type 0
  At word views = Kept limit first (stamp_in word) (used_in word) views

  -- the one word of a table
  pub word_of : (s : State (Unit {0}) WordView) → Holds limit first s → At (slice_index s.words 0) s.views
  word_of s h = subst (λ (n : ℕ). At n s.views) (sym (ap (λ (ws : List ℕ). slice_index ws 0) h.1)) h.2

  pub one_word : (s : State (Unit {0}) WordView) → Holds limit first s → (n : ℕ) → slice_set s.words 0 n ≡ n ∷ []
  one_word s h n = ap (λ (ws : List ℕ). slice_set ws 0 n) h.1

  pub splits_as : (id : ℕ) (v : WordView) (a b : ℕ) (p q : Share) (x g : ℕ) → IsCut v a b p q x g → Splits (Holds limit first) id v (kept_part a p g v) (given_part b q x v)
  splits_as id v a b p q x g cut s h at = (h.0, h.1, splits limit first (stamp_in h.0) (used_in h.0) s.views h.2 id v a b p q x g cut at)

  pub joins_as : (id : ℕ) (v : WordView) (other : ℕ) (w : WordView) → v.held ≡ 0 → 0 < v.part.0 → Joins (Holds limit first) id v other w (joined v w) nobody
  joins_as id v other w empty own s h at apart there = (h.0, h.1, joins limit first (stamp_in h.0) (used_in h.0) s.views h.2 id v other w empty own at apart there)

  pub looks_as : (slots id : ℕ) (v : Me (Unit {0}) WordView) → 0 < v.0.share.0 → 0 < v.0.part.0 → Allows (Holds limit first) slots id v 0 (λ n. n) (Looked (step slots 0 0 0 none) v)
  looks_as slots id v has own s h homes at fits =
      let n = slice_index s.words 0 in
      let k = word_of s h in
      (looked (stamp_in n) (used_in n) v.0, keeps, tt, (n, one_word s h n, looks limit first (stamp_in n) (used_in n) s.views k id v.0 at has own), (refl, (k.each id v.0 at).seen))

  pub asks_as : (slots id : ℕ) (v : Me (Unit {0}) WordView) (old new : ℕ) → 0 < v.0.share.0 → 0 < v.0.part.0 → 0 < new - old - 4294967296 → v.0.held ≡ 0 → new ≡ old + 4294967296 + (new - old - 4294967296) → stamp_in old < 2147483648 → used_in old + (new - old - 4294967296) ≤ limit
      → Allows (Holds limit first) slots id v 0 (λ n. either (n == old) new n) (Asked (step slots 0 old new none) v)
  asks_as slots id v old new has own some_asked bare next early within s h homes at fits =
      let n : ℕ = slice_index s.words 0 in
      let asked : ℕ = new - old - 4294967296 in
      let k = word_of s h in
      let Goal : Bool → Type 0 = λ b. (w : WordView) × (a : Act (Unit {0})) × Valid s.homes v.1 a × Holds limit first (stepped s 0 (either b new n) id v.1 w a) × Tells b n asked v (w, carried_after v.1 a) in
      let hit : n ≡ old → Goal true = λ e.
      (let low : stamp_in n < 2147483648 = subst (λ (x : ℕ). stamp_in x < 2147483648) (sym e) early in
      let room : used_in n + asked ≤ limit = subst (λ (x : ℕ). used_in x + asked ≤ limit) (sym e) within in
      let cap = k.cap in
      let small : used_in n + asked < 4294967296 = omega (arith, room, cap) in
      let now : new ≡ suc (stamp_in n) * 4294967296 + (used_in n + asked) = (let p = word_parts n in omega (arith, p, e, next)) in
      let p = parts new (suc (stamp_in n)) (used_in n + asked) now small in
      let after = grants limit first (stamp_in n) (used_in n) s.views k id v.0 at has own asked some_asked bare low room in
      (moved asked (Grant (look_in n) asked) v.0, keeps, tt, (new, one_word s h new, subst₂ (λ (x y : ℕ). Kept limit first x y (set s.views id (moved asked (Grant (look_in n) asked) v.0))) (sym p.0) (sym p.1) after), (refl, (k.each id v.0 at).seen))) in
      let miss : Goal false = (looked (stamp_in n) (used_in n) v.0, keeps, tt, (n, one_word s h n, looks limit first (stamp_in n) (used_in n) s.views k id v.0 at has own), (refl, (k.each id v.0 at).seen)) in
      dite (ℕ_discrete n old) (λ e. subst Goal (sym (eq-eqb n old e)) (hit e)) (λ ne. subst Goal (sym (ne_eqb n old ne)) miss)

  pub frees_as : (slots id : ℕ) (v : Me (Unit {0}) WordView) (more : ℕ) → 0 < v.0.share.0 → 0 < v.0.part.0 → 0 < v.0.held → more + v.0.held ≡ 4294967296
      → Allows (Holds limit first) slots id v 0 (λ n. (n + more) % 2 ^ 64) (Freed (step slots 0 more 0 none) v)
  frees_as slots id v more has own full sum s h homes at fits =
      let n : ℕ = slice_index s.words 0 in
      let k = word_of s h in
      let after = releases limit first (stamp_in n) (used_in n) s.views k id v.0 at has own full in
      let new : ℕ = (n + more) % 2 ^ 64 in
      let held : v.0.held ≤ used_in n = (let o = total_one held_of s.views id v.0 at in let e = k.held in omega (arith, o, e)) in
      let cap = k.cap in
      let within = k.within in
      let early : suc (stamp_in n) < 4294967296 = ⊎_elim (λ (late : 2147483648 ≤ suc (stamp_in n)). (let r = after.room late in omega (arith, r, cap))) (λ (soon : suc (stamp_in n) < 2147483648). omega (arith, soon)) (late_or (suc (stamp_in n))) in
      let sums : n + more ≡ suc (stamp_in n) * 4294967296 + (used_in n - v.0.held) = (let p = word_parts n in omega (arith, p, sum, held)) in
      let small : n + more < 18446744073709551616 = omega (arith, sums, early, within, cap) in
      let now : new ≡ suc (stamp_in n) * 4294967296 + (used_in n - v.0.held) = mod-eq_of_lt small ∙ sums in
      let p = parts new (suc (stamp_in n)) (used_in n - v.0.held) now (omega (arith, within, cap)) in
      (moved 0 (Release (record { stamp = stamp_in n; bytes = v.0.held })) v.0, keeps, tt, (new, one_word s h new, subst₂ (λ (x y : ℕ). Kept limit first x y (set s.views id (moved 0 (Release (record { stamp = stamp_in n; bytes = v.0.held })) v.0))) (sym p.0) (sym p.1) after), (refl, (k.each id v.0 at).seen))

-- where the exchange was won
pub won : (s : Step (Unit {0})) (v : Me (Unit {0}) WordView) (n : ℕ) (w : Me (Unit {0}) WordView) → n ≡ s.first → Asked s v n w → w ≡ (moved (s.second - s.first - 4294967296) (Grant (look_in n) (s.second - s.first - 4294967296)) v.0, v.1)
won s v n w e told =
    let hit : Me (Unit {0}) WordView = (moved (s.second - s.first - 4294967296) (Grant (look_in n) (s.second - s.first - 4294967296)) v.0, v.1) in
    let miss : Me (Unit {0}) WordView = (looked (stamp_in n) (used_in n) v.0, v.1) in
    subst (λ (b : Bool). MatchBool b (w ≡ hit) (w ≡ miss)) (eq-eqb n s.first e) told.0
