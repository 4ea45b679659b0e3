use Rattle.std.proofs.Common.{◌≡◌, length, ◌∙◌, ap, arith, get_or, set, subst, sym}
use Rattle.datagrams.specs.declared.conversation.Conversation.{Conversation}
use Rattle.datagrams.specs.Entered.{Entry, entered}
use Rattle.datagrams.specs.Flow.{Flow, dry}
use Rattle.datagrams.specs.Rows.{half_of, sums_of, with_half}
use Rattle.datagrams.specs.Sums.{Sums, no_sums, IsBalanced}
use Rattle.datagrams.proofs.EnterLemmas.{counted, on_both, on_err}
use Rattle.datagrams.proofs.PlaceLemmas.{an_element, put_same, table_changed}
use Rattle.datagrams.proofs.enter_half.enter_place.Goals as goal

pub enter_half-entered-requires-clause-fits : goal.enter_half-entered-requires-clause-fits
enter_half-entered-requires-clause-fits c =
    let d : Conversation = an_element c.args.table.now c.args.place c.requires.place in
    omega (arith, (c.requires.fits d).fits, ap (λ (f : Flow). f.sent) (c.take_half-half.ensures.half d).0)

pub enter_half-entered-requires-clause-balanced : goal.enter_half-entered-requires-clause-balanced
enter_half-entered-requires-clause-balanced c =
    let d : Conversation = an_element c.args.table.now c.args.place c.requires.place in
    subst (λ (x : Flow × Sums). IsBalanced x.0 x.1) (λ i. (sym (c.take_half-half.ensures.half d).0 i, sym (c.take_half-half.ensures.half d).1 i)) (c.requires.fits d).balanced

pub returns-clause-table : goal.returns-clause-table
returns-clause-table c =
    on_both c.enter_half-entered.result
    (λ (flow : c.enter_half-entered.new.half ≡ (behind c.take_half-half.result.0).flow) (sums : c.enter_half-entered.new.sums ≡ counted c.take_half-half.result.1 (length c.args.payload.now) (behind c.take_half-half.result.0)). λ d.
    let was : Conversation = get_or c.args.table.now c.args.place d in
    let half_was : c.take_half-half.result.0 ≡ half_of c.args.way was = (c.take_half-half.ensures.half d).0 in
    let sums_was : c.take_half-half.result.1 ≡ sums_of c.args.way was = (c.take_half-half.ensures.half d).1 in
    let half_is : c.enter_half-entered.new.half ≡ (behind (half_of c.args.way was)).flow = flow ∙ ap (λ f. (behind f).flow) half_was in
    let sums_are : c.enter_half-entered.new.sums ≡ counted (sums_of c.args.way was) (length c.args.payload.now) (behind (half_of c.args.way was))
    = sums ∙ (λ i. counted (sums_was i) (length c.args.payload.now) (behind (half_was i))) in
    table_changed c.args.table.now c.take_half-half.new.self c.put_half.new.self c.args.place c.args.way dry c.enter_half-entered.new.half no_sums c.enter_half-entered.new.sums d c.requires.place c.take_half-half.ensures.rest c.put_half.ensures.changed
    ∙ (λ i. set c.args.table.now c.args.place (with_half c.args.way (half_is i) (sums_are i) was)))
    c.enter_half-entered.ensures.flow c.enter_half-entered.ensures.sums
  where
    behind : Flow → Entry
    behind f = entered c.args.mark c.args.least c.args.budget.now f c.args.payload.now

pub returns-clause-err : goal.returns-clause-err
returns-clause-err c =
    on_err c.enter_half-entered.result
    (λ (same : (c.enter_half-entered.new.half ≡ c.take_half-half.result.0) × (c.enter_half-entered.new.sums ≡ c.take_half-half.result.1)).
    let d : Conversation = an_element c.args.table.now c.args.place c.requires.place in
    let was : Conversation = get_or c.args.table.now c.args.place d in
    let half_is : c.enter_half-entered.new.half ≡ half_of c.args.way was = same.0 ∙ (c.take_half-half.ensures.half d).0 in
    let sums_are : c.enter_half-entered.new.sums ≡ sums_of c.args.way was = same.1 ∙ (c.take_half-half.ensures.half d).1 in
    table_changed c.args.table.now c.take_half-half.new.self c.put_half.new.self c.args.place c.args.way dry c.enter_half-entered.new.half no_sums c.enter_half-entered.new.sums d c.requires.place c.take_half-half.ensures.rest c.put_half.ensures.changed
    ∙ (λ i. set c.args.table.now c.args.place (with_half c.args.way (half_is i) (sums_are i) was)) ∙ put_same c.args.table.now c.args.place c.args.way d c.requires.place)
    c.enter_half-entered.ensures.err
