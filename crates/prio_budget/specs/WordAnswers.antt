-- What the budget word answers, and what the home that asked or released knows then.
use Rattle.std.specs.Prelude.{◌≡◌, ◌≢◌, ℕ, suc, ◌+◌, ◌<◌, ◌≤◌, List, [], ◌∷◌, ◌++◌}
use Rattle.prio_budget.specs.declared.look.Look.{Look}
use Rattle.prio_budget.specs.declared.free.Free.{Free}
use Rattle.prio_budget.specs.declared.budget_move.BudgetMove.TheVariants.{Grant, Release}
use Rattle.prio_budget.specs.declared.answered.TheConstants.{SPENT_STAMP}
use Rattle.prio_budget.specs.declared.answered.Answered.{Answered}
use Rattle.prio_budget.specs.declared.answered.Answered.TheVariants.{Granted, Past, Spent, Moved}
use Rattle.prio_budget.specs.Answers.{LetsIn}
use Rattle.prio_budget.specs.Share.{half, share_sum}
use Rattle.prio_budget.specs.WordParts.{WordChargeParts, HomeParts}

-- a call that granted nothing leaves a home with more looks, of which the last is this one, and all else as it was; its stamp isn't below what was seen
pub record OnlyLooked (before after : HomeParts) (look : Look) : Type 0 where
  pub rises : before.seen ≤ look.stamp
  pub seen : after.seen ≡ look.stamp
  pub share : after.share ≡ before.share
  pub moves : after.moves ≡ before.moves
  pub counts : (after.part ≡ before.part) × (after.given ≡ before.given) × (after.met ≡ before.met)
  pub looks : (between : List Look) × (after.looks ≡ before.looks ++ between ++ look ∷ [])

-- a home after a grant: it has the grant among its moves and its look among its looks, half of its share went with the charge, and it has seen the stamp behind
abbrev pub after_grant : Look → ℕ → HomeParts → HomeParts
after_grant look asked before = record {
  seen = suc look.stamp;
  share = half before.share;
  part = before.part;
  given = before.given;
  met = before.met;
  moves = before.moves ++ Grant look asked ∷ [];
  looks = before.looks ++ look ∷ [];
}

-- the answer to an ask. A grant gives a charge of the asked bytes with the look's stamp. Where two looks differ, the home has both
abbrev pub IsAnswered : ℕ → ℕ → HomeParts → HomeParts → Answered WordChargeParts → Type 0
IsAnswered asked mark before after (Granted charge look) =
    LetsIn asked mark look × (before.seen ≤ look.stamp)
    × (charge ≡ record { amount = asked; stamp = look.stamp; share = half before.share; seen = suc look.stamp })
    × (after ≡ after_grant look asked before)
IsAnswered asked mark before after (Past look) = (look.stamp < SPENT_STAMP) × (mark < look.found + asked) × OnlyLooked before after look
IsAnswered asked mark before after (Spent look) = (SPENT_STAMP ≤ look.stamp) × OnlyLooked before after look
IsAnswered asked mark before after (Moved first look) =
    LetsIn asked mark look × (first ≢ look) × OnlyLooked before after look × (after.looks ≡ before.looks ++ first ∷ look ∷ [])

-- a release: its stamp isn't below what the home had seen and is above the charge's, and the home has the charge's share and the release
pub record IsReleased (charge : WordChargeParts) (before after : HomeParts) (free : Free) : Type 0 where
  pub bytes : free.bytes ≡ charge.amount
  pub after_home : before.seen ≤ free.stamp
  pub after_charge : charge.stamp < free.stamp
  pub seen : after.seen ≡ suc free.stamp
  pub share : after.share ≡ share_sum before.share charge.share
  pub moves : after.moves ≡ before.moves ++ Release free ∷ []
  pub looks : after.looks ≡ before.looks
  pub counts : (after.part ≡ before.part) × (after.given ≡ before.given) × (after.met ≡ before.met)

-- the answer where the exchange was lost: what it found decides
abbrev pub IsLost : {C : Type 0} → ℕ → ℕ → Look → Look → Answered C → Type 0
IsLost asked mark first look (Granted charge found) = ⊥
IsLost asked mark first look (Past found) = (found ≡ look) × (look.stamp < SPENT_STAMP) × (mark < look.found + asked)
IsLost asked mark first look (Spent found) = (found ≡ look) × (SPENT_STAMP ≤ look.stamp)
IsLost asked mark first look (Moved before found) = (before ≡ first) × (found ≡ look) × LetsIn asked mark look
