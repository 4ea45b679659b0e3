-- Moments of runs, evaluated.
use Rattle.std.specs.Prelude.{◌≡◌, refl, ◌<◌, ◌≤◌, List, length, flat_map}
use Rattle.std.proofs.Common.{rules, arith}
use Rattle.histbook.specs.Budget.{BudgetMove, total, at_stamp, EachBelow}
use Rattle.histbook.proofs.BudgetLemmas.{each_stamp_once, stamps_early, stays_within, each_had_room}
use Rattle.streamdefs.specs.SoFar.{moves_so_far}
use Rattle.streamdefs.specs.RunSoFar.{LawfulRunSoFar, entries, frees_outside}
use Rattle.streamdefs.specs.RowsSoFar.{HoldsSoFar, one_under_way, working}
use Rattle.streamdefs.specs.RowsSoFar.PartSoFar.{OfBooks, OfHistory}
use Rattle.streamdefs.proofs.UnderWay.{so_far, history_so_far}

falls : 3 < 2 → ⊥
falls h = omega arith

falls_back : 4 < 2 → ⊥
falls_back h = omega arith

too_low : 3 ≤ 1 → ⊥
too_low h = omega arith

pub one_under_way-holds : LawfulRunSoFar one_under_way
one_under_way-holds = record {
  books = (so_far, tt);
  times = search rules;
  answers = search rules;
  hands = search rules;
  served = search rules;
  history = history_so_far;
  frees = search rules;
  looks = search rules;
  workers = search rules;
}

working-books : HoldsSoFar working OfBooks
working-books = (
  record {
    segs = search rules;
    conversations = search rules;
    dues = search rules;
    ends = search rules;
    answers = assumption (refl, tt);
    window = search rules;
    looks = search rules;
    frees = search rules;
  },
  tt,
)

working-history : HoldsSoFar working OfHistory
working-history =
    let checked : EachBelow (λ n. total (at_stamp n) moves ≡ 1) (length moves) = search rules in
    let once = each_stamp_once moves checked in
    let within = stays_within working.terms.marks.limit (length moves) moves (stamps_early moves checked) (search rules) in
    record { once = once; found = search rules; fair = each_had_room working.terms.marks.limit moves once (search rules) within; within = within }
  where
    moves : List BudgetMove
    moves = moves_so_far (flat_map entries working.cores) (frees_outside working)

pub working-holds : LawfulRunSoFar working
working-holds = record {
  books = working-books;
  times = search rules;
  answers = search rules;
  hands = search rules;
  served = search rules;
  history = working-history;
  frees = search rules;
  looks = search rules;
  workers = search rules;
}
