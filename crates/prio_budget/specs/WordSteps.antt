-- The kinds of step on the budget word: what becomes of the views of their seats, and what they tell.
use Rattle.std.specs.Prelude.{◌≡◌, ℕ, suc, ◌+◌, ◌-◌, ◌<◌, ◌≤◌, max, [], ◌∷◌, ◌++◌, ◌==◌, MatchBool}
use Rattle.atomic_table.specs.Table.{Step, Me}
use Rattle.atomic_table.specs.Seated.{TableId}
use Rattle.prio_budget.specs.declared.look.Look.{Look}
use Rattle.prio_budget.specs.declared.budget_move.BudgetMove.{BudgetMove}
use Rattle.prio_budget.specs.declared.budget_move.BudgetMove.TheVariants.{Grant, Release}
use Rattle.prio_budget.specs.declared.word_budget.TheConstants.{ONE_STAMP}
use Rattle.prio_budget.specs.declared.word_view.WordView.{WordView}
use Rattle.prio_budget.specs.Share.{Share, IsWhole, no_share, share_sum, half}
use Rattle.prio_budget.specs.History.{stamp_of, IsOneHistory}
use Rattle.prio_budget.specs.WordParts.{HomeParts, IsAllIn}
use Rattle.prio_budget.specs.WordRule.{IsBare, stamp_in, used_in}

-- a table of one word and no slots
abbrev pub IsOneWord : TableId → Type 0
IsOneWord table = (table.words ≡ 1) × (table.slots ≡ 0)

-- a seat is at this table, holds no slot, and has a share
abbrev pub Sits : TableId → TableId → Me (Unit {0}) WordView → Type 0
Sits table at me = (at ≡ table) × (me.1 ≡ []) × (0 < me.0.share.0)

-- the seat of a home holds no bytes and is no note, and has a part among the homes
abbrev pub IsHome : WordView → Type 0
IsHome v = (v.held ≡ 0) × (v.note ≡ 0) × (0 < v.part.0)

-- the seat of a note
abbrev pub IsNote : WordView → Type 0
IsNote v = (v.held ≡ 0) × IsBare v × (v.part ≡ no_share) × (v.note ≡ 1)

-- the seat of a charge holds its bytes, and has seen its grant
abbrev pub IsChargeOf : (amount stamp : ℕ) → WordView → Type 0
IsChargeOf amount stamp v = (v.held ≡ amount) × (0 < amount) × (stamp < v.seen) × IsBare v × (v.part ≡ no_share) × (v.note ≡ 0)

-- what contracts see of a home's seat
abbrev pub home_in : WordView → HomeParts
home_in v = record { seen = v.seen; share = v.share; part = v.part; given = v.given; met = v.met; moves = v.moves; looks = v.looks }

-- the first seat
abbrev pub newcomer : ℕ → WordView
newcomer first = record { seen = first; share = (1, 0); part = (1, 0); held = 0; note = 0; given = 0; met = 0; moves = []; looks = [] }

-- a seat is cut in two: each has half of the share, and the lists stay with the one that is kept
abbrev pub kept_part : ℕ → Share → ℕ → WordView → WordView
kept_part held part given v = record { seen = v.seen; share = half v.share; part = part; held = held; note = v.note; given = given; met = v.met; moves = v.moves; looks = v.looks }

abbrev pub given_part : ℕ → Share → ℕ → WordView → WordView
given_part held part note v = record { seen = v.seen; share = half v.share; part = part; held = held; note = note; given = 0; met = 0; moves = []; looks = [] }

-- the three kinds of it: another home, a note, and a charge, with which the bytes go
abbrev pub home_kept : WordView → WordView
home_kept v = kept_part v.held (half v.part) v.given v

abbrev pub home_given : WordView → WordView
home_given v = given_part 0 (half v.part) 0 v

abbrev pub note_kept : WordView → WordView
note_kept v = kept_part v.held v.part (suc v.given) v

abbrev pub note_given : WordView → WordView
note_given v = given_part 0 no_share 1 v

abbrev pub charge_kept : WordView → WordView
charge_kept v = kept_part 0 v.part v.given v

abbrev pub charge_given : WordView → WordView
charge_given v = given_part v.held no_share 0 v

-- two seats become one, and nothing is left of the other
abbrev pub joined : WordView → WordView → WordView
joined v w = record { seen = max v.seen w.seen; share = share_sum v.share w.share; part = share_sum v.part w.part; held = v.held + w.held; note = v.note; given = v.given + w.given; met = v.met + w.met + w.note; moves = v.moves ++ w.moves; looks = v.looks ++ w.looks }

abbrev pub nobody : WordView
nobody = record { seen = 0; share = no_share; part = no_share; held = 0; note = 0; given = 0; met = 0; moves = []; looks = [] }

-- a seat after a look
abbrev pub looked : ℕ → ℕ → WordView → WordView
looked stamp found v = record { seen = stamp; share = v.share; part = v.part; held = v.held; note = v.note; given = v.given; met = v.met; moves = v.moves; looks = v.looks ++ record { stamp = stamp; found = found } ∷ [] }

-- a seat after a move of its own
abbrev pub moved : ℕ → BudgetMove → WordView → WordView
moved held move v = record { seen = suc (stamp_of move); share = v.share; part = v.part; held = held; note = v.note; given = v.given; met = v.met; moves = v.moves ++ move ∷ []; looks = v.looks }

-- the look that a word is
abbrev pub look_in : ℕ → Look
look_in word = record { stamp = stamp_in word; found = used_in word }

-- what the steps tell of a view v before them, the word n that they found, and the view w behind them.
-- A load is a look at a stamp that isn't below what was seen
abbrev pub Looked : Step (Unit {0}) → Me (Unit {0}) WordView → ℕ → Me (Unit {0}) WordView → Type 0
Looked s v n w = (w ≡ (looked (stamp_in n) (used_in n) v.0, v.1)) × (v.0.seen ≤ stamp_in n)

-- an exchange grants what it adds where it is won, and is a look where it is lost
abbrev pub Asked : Step (Unit {0}) → Me (Unit {0}) WordView → ℕ → Me (Unit {0}) WordView → Type 0
Asked s v n w = MatchBool (n == s.first) (w ≡ (moved (s.second - s.first - ONE_STAMP) (Grant (look_in n) (s.second - s.first - ONE_STAMP)) v.0, v.1)) (w ≡ (looked (stamp_in n) (used_in n) v.0, v.1)) × (v.0.seen ≤ stamp_in n)

-- an addition releases what the seat holds
abbrev pub Freed : Step (Unit {0}) → Me (Unit {0}) WordView → ℕ → Me (Unit {0}) WordView → Type 0
Freed s v n w = (w ≡ (moved 0 (Release (record { stamp = stamp_in n; bytes = v.0.held })) v.0, v.1)) × (v.0.seen ≤ stamp_in n)

-- a load that leaves the view as it is: with the whole share all moves and looks are this seat's; and the share is whole where all came in
abbrev pub Checked : ℕ → ℕ → Step (Unit {0}) → Me (Unit {0}) WordView → ℕ → Me (Unit {0}) WordView → Type 0
Checked limit first s v n w = (w ≡ v) × (v.0.held ≡ 0 → IsWhole v.0.share → IsOneHistory limit first v.0.moves v.0.looks) × (v.0.held ≡ 0 → v.0.note ≡ 0 → IsAllIn (home_in v.0) → IsWhole v.0.share)
