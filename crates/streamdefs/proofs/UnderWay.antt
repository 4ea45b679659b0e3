-- A book with an entry under way.
use Rattle.std.specs.Prelude.{◌≡◌, refl, List, [], ◌∷◌, ◌++◌, length, Some}
use Rattle.std.proofs.Common.{rules}
use Rattle.histbook.specs.Budget.{BudgetMove, total, at_stamp, EachBelow}
use Rattle.histbook.proofs.BudgetLemmas.{each_stamp_once, stamps_early, stays_within, each_had_room}
use Rattle.streamdefs.specs.SoFar.{LawfulSoFar, HistorySoFar, moves_so_far}
use Rattle.streamdefs.specs.RowsWants.{book_so_far, under_way}

pub so_far : LawfulSoFar book_so_far (Some under_way)
so_far = record {
  segs = search rules;
  conversations = search rules;
  dues = search rules;
  ends = search rules;
  answers = assumption (refl, tt);
  window = search rules;
  looks = search rules;
  frees = search rules;
}

pub history_so_far : HistorySoFar 67108864 (book_so_far.lines ++ under_way ∷ []) []
history_so_far =
    let checked : EachBelow (λ n. total (at_stamp n) moves ≡ 1) (length moves) = search rules in
    let once = each_stamp_once moves checked in
    let within = stays_within 67108864 (length moves) moves (stamps_early moves checked) (search rules) in
    record { once = once; found = search rules; fair = each_had_room 67108864 moves once (search rules) within; within = within }
  where
    moves : List BudgetMove
    moves = moves_so_far (book_so_far.lines ++ under_way ∷ []) []
