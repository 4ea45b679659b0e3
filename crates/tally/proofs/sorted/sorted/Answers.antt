use Rattle.std.proofs.Common.{◌∙◌, ap, rules}
use Rattle.tally.specs.Moves.{by_stamp}
use Rattle.tally.proofs.SortLemmas.{sorted_by_key}
use Rattle.tally.proofs.sorted.sorted.Goals as goal

pub returns : goal.returns
returns c = sorted_by_key _ _ c.in_ok-sort_by_key.ensures.sorted c.in_ok-sort_by_key.ensures.stable (λ a r q k. search rules) ∙ ap by_stamp c.in_ok-sorted.ensures.items
