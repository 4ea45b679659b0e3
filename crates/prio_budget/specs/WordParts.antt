-- What contracts see of a budget word without a name, and of homes, charges and notes.
use Rattle.std.specs.Prelude.{◌≡◌, ℕ, suc, ◌+◌, max, List, [], ◌++◌, map}
use Rattle.atomic_table.specs.Seated.{TableId}
use Rattle.prio_budget.specs.declared.look.Look.{Look}
use Rattle.prio_budget.specs.declared.budget_move.BudgetMove.{BudgetMove}
use Rattle.prio_budget.specs.History.{total, is_grant, is_release}
use Rattle.prio_budget.specs.Share.{Share, share_sum, half, IsWhole, all_shares}

-- where the word is, the limit in bytes, and the stamp of its first move
pub record BudgetName : Type 0 where
  pub table : TableId
  pub limit : ℕ
  pub first : ℕ

-- no place at all: a name is picked where a call is made
abbrev pub no_table : TableId
no_table = record { words = 0; slots = 0; views_name = 0; atom = 0; block = 0; offset = 0; slot_names = [] }

-- a charge: its bytes, the stamp that its grant found, its share, and a stamp that it has seen
pub record WordChargeParts : Type 0 where
  pub amount : ℕ
  pub stamp : ℕ
  pub share : Share
  pub seen : ℕ

-- a note: a stamp that its home had seen, and its share
pub record NoteParts : Type 0 where
  pub seen : ℕ
  pub share : Share

-- a home: a stamp that it has seen, its share, its part among the homes alone, how many notes it gave and met, and its moves and looks in their order
pub record HomeParts : Type 0 where
  pub seen : ℕ
  pub share : Share
  pub part : Share
  pub given : ℕ
  pub met : ℕ
  pub moves : List BudgetMove
  pub looks : List Look

-- the first home of a budget has the whole share and knows nothing but the first stamp
abbrev pub first_home : ℕ → HomeParts
first_home first = record { seen = first; share = (1, 0); part = (1, 0); given = 0; met = 0; moves = []; looks = [] }

-- what stays of a home that is cut in two, and the other home: each has half of the share, and all else stays
abbrev pub home_left : HomeParts → HomeParts
home_left home = record { seen = home.seen; share = half home.share; part = half home.part; given = home.given; met = home.met; moves = home.moves; looks = home.looks }

abbrev pub home_right : HomeParts → HomeParts
home_right home = record { seen = home.seen; share = half home.share; part = half home.part; given = 0; met = 0; moves = []; looks = [] }

-- a home that gave a note has half of its share, and no less of its part among the homes
abbrev pub noted : HomeParts → HomeParts
noted home = record { seen = home.seen; share = half home.share; part = home.part; given = suc home.given; met = home.met; moves = home.moves; looks = home.looks }

-- a home with another one that came in
abbrev pub gathered : HomeParts → HomeParts → HomeParts
gathered home other = record {
  seen = max home.seen other.seen;
  share = share_sum home.share other.share;
  part = share_sum home.part other.part;
  given = home.given + other.given;
  met = home.met + other.met;
  moves = home.moves ++ other.moves;
  looks = home.looks ++ other.looks;
}

-- all homes came in, as many charges as were granted, and as many notes as were given
pub record IsAllIn (home : HomeParts) : Type 0 where
  pub homes : IsWhole home.part
  pub charges : total is_release home.moves ≡ total is_grant home.moves
  pub notes : home.met ≡ home.given

-- the parts of some homes together
abbrev pub parts_of : List HomeParts → Share
parts_of homes = all_shares (map (λ (home : HomeParts). home.part) homes)
