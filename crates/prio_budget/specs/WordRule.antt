-- The rule of the budget word: the word is stamp * 2^32 + used, and this holds of it and of the views of all seats between any two steps, whoever makes them.
use Rattle.std.specs.Prelude.{◌≡◌, ℕ, ◌+◌, ◌/◌, ◌%◌, ◌^◌, ◌≤◌, cond, nat_lt, List, [], ◌∷◌, length}
use mathlib.Core.Option.{some}
use lib.ListN.{get_elem?}
use Rattle.atomic_table.specs.Table.{State}
use Rattle.prio_budget.specs.declared.answered.TheConstants.{SPENT_STAMP}
use Rattle.prio_budget.specs.declared.marks.TheConstants.{GREATEST_LIMIT}
use Rattle.prio_budget.specs.declared.word_budget.TheConstants.{ONE_STAMP}
use Rattle.prio_budget.specs.declared.word_view.WordView.{WordView}
use Rattle.prio_budget.specs.Share.{parts_at}
use Rattle.prio_budget.specs.History.{total, is_grant, is_release, at_stamp, once_between, granted_below, freed_below, Each, IsUsedBefore, IsTrueLook, IsFairMove}

-- what the views add up to: their bytes, how many of them hold bytes, the number of moves, those at a stamp, the bytes granted and freed below a stamp,
-- the parts of their shares, the notes that are out, those given and those met, the grants and the releases
abbrev pub held_of : WordView → ℕ
held_of v = v.held

abbrev pub busy : WordView → ℕ
busy v = cond (nat_lt 0 v.held) 1 0

abbrev pub count_of : WordView → ℕ
count_of v = length v.moves

abbrev pub times_of : ℕ → WordView → ℕ
times_of stamp v = total (at_stamp stamp) v.moves

abbrev pub grants_of : ℕ → WordView → ℕ
grants_of stamp v = granted_below stamp v.moves

abbrev pub frees_of : ℕ → WordView → ℕ
frees_of stamp v = freed_below stamp v.moves

abbrev pub weight : ℕ → WordView → ℕ
weight scale v = parts_at scale v.share

abbrev pub part_weight : ℕ → WordView → ℕ
part_weight scale v = parts_at scale v.part

abbrev pub note_of : WordView → ℕ
note_of v = v.note

abbrev pub given_of : WordView → ℕ
given_of v = v.given

abbrev pub met_of : WordView → ℕ
met_of v = v.met

abbrev pub granted_of : WordView → ℕ
granted_of v = total is_grant v.moves

abbrev pub released_of : WordView → ℕ
released_of v = total is_release v.moves

-- a view with no share knows and holds nothing
pub record IsSpent (v : WordView) : Type 0 where
  pub held : v.held ≡ 0
  pub moves : v.moves ≡ []
  pub looks : v.looks ≡ []

-- a view with no part among the homes has no lists, and gave and met no note
pub record IsBare (v : WordView) : Type 0 where
  pub moves : v.moves ≡ []
  pub looks : v.looks ≡ []
  pub given : v.given ≡ 0
  pub met : v.met ≡ 0

-- one view: it has seen no later stamp than the word's, its looks are true and its moves fair, and its shares are no finer than the scale.
-- Without a share it is spent; without a part among the homes it is bare, and only a charge or a note has a share then
pub record Fits (grants frees : ℕ → ℕ) (limit now scale : ℕ) (v : WordView) : Type 0 where
  pub seen : v.seen ≤ now
  pub looks : Each (IsTrueLook grants frees now) v.looks
  pub moves : Each (IsFairMove grants frees limit now) v.moves
  pub sized : v.share.1 ≤ scale
  pub spent : v.share.0 ≡ 0 → IsSpent v
  pub part_sized : v.part.1 ≤ scale
  pub bare : v.part.0 ≡ 0 → IsBare v
  pub idle : v.part.0 ≡ 0 → v.held ≡ 0 → v.note ≡ 0 → v.share.0 ≡ 0

-- all views, at a stamp and a used number
pub record Kept (limit first stamp used : ℕ) (views : List WordView) : Type 0 where
  pub cap : limit ≤ GREATEST_LIMIT
  pub held : total held_of views ≡ used  -- the used number is the sum of the bytes of all charges
  pub within : used ≤ limit
  pub count : first + total count_of views ≡ stamp
  pub once : (n : ℕ) → total (times_of n) views ≡ once_between first stamp n  -- the stamps are the numbers from the first on, each once
  pub room : SPENT_STAMP ≤ stamp → stamp + total busy views ≤ SPENT_STAMP + limit  -- so the stamp fits its half of the word
  pub scale : ℕ
  pub whole : total (weight scale) views ≡ 2 ^ scale  -- the shares add up to 1
  pub parts : total (part_weight scale) views ≡ 2 ^ scale  -- those of the homes do too
  pub charges : total busy views + total released_of views ≡ total granted_of views
  pub notes : total note_of views + total met_of views ≡ total given_of views
  pub steady : (n : ℕ) → total (grants_of n) views ≤ limit + total (frees_of n) views  -- no grant ever passed the limit
  pub sums : (n : ℕ) → stamp ≤ n → IsUsedBefore (λ k. total (grants_of k) views) (λ k. total (frees_of k) views) n used
  pub each : (i : ℕ) (v : WordView) → get_elem? views i ≡ some v → Fits (λ n. total (grants_of n) views) (λ n. total (frees_of n) views) limit stamp scale v

-- the two halves of the word
abbrev pub stamp_in : ℕ → ℕ
stamp_in word = word / ONE_STAMP

abbrev pub used_in : ℕ → ℕ
used_in word = word % ONE_STAMP

-- the table has one word, and the rule holds of it
abbrev pub Holds : ℕ → ℕ → State (Unit {0}) WordView → Type 0
Holds limit first s = (word : ℕ) × (s.words ≡ word ∷ []) × Kept limit first (stamp_in word) (used_in word) s.views
