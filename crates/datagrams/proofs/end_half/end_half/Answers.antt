use Rattle.std.proofs.Common.{◌≡◌, ◌∙◌, None, Option, ap, arith, get_or, set, subst, sym}
use Rattle.datagrams.specs.declared.conversation.Conversation.{Conversation}
use Rattle.datagrams.specs.Flow.{Flow, OpenChunk, chunk_list, dry}
use Rattle.datagrams.specs.Rows.{half_of, sums_of, with_half}
use Rattle.datagrams.specs.Sums.{Sums, no_sums, with_chunks, IsBalanced}
use Rattle.datagrams.specs.State.{AreShort}
use Rattle.datagrams.proofs.EnterLemmas.{short_ended}
use Rattle.datagrams.proofs.PlaceLemmas.{an_element, table_changed}
use Rattle.datagrams.proofs.end_half.end_half.Goals as goal

pub count_over-requires-clause-short : goal.count_over-requires-clause-short
count_over-requires-clause-short c =
    let d : Conversation = an_element c.args.table.now c.args.place c.requires.place in
    let balanced : IsBalanced c.take_half-half.result.0 c.take_half-half.result.1
    = subst (λ (x : Flow × Sums). IsBalanced x.0 x.1) (λ i. (sym (c.take_half-half.ensures.half d).0 i, sym (c.take_half-half.ensures.half d).1 i)) (c.requires.fits d).balanced in
    subst (λ (o : Option OpenChunk). AreShort (with_chunks c.take_half-half.result.1 (chunk_list o))) (sym c.take_open-chunk.ensures.chunk)
    (short_ended c.take_half-half.result.0 c.take_half-half.result.1 balanced (omega (arith, (c.requires.fits d).fits, ap (λ (f : Flow). f.sent) (c.take_half-half.ensures.half d).0)))

pub count_over-requires-clause-gaps : goal.count_over-requires-clause-gaps
count_over-requires-clause-gaps c =
    let d : Conversation = an_element c.args.table.now c.args.place c.requires.place in
    let balanced : IsBalanced c.take_half-half.result.0 c.take_half-half.result.1
    = subst (λ (x : Flow × Sums). IsBalanced x.0 x.1) (λ i. (sym (c.take_half-half.ensures.half d).0 i, sym (c.take_half-half.ensures.half d).1 i)) (c.requires.fits d).balanced in
    balanced.gaps

pub returns-clause-table : goal.returns-clause-table
returns-clause-table c = λ d.
    let was : Conversation = get_or c.args.table.now c.args.place d in
    let half_was : c.take_half-half.result.0 ≡ half_of c.args.way was = (c.take_half-half.ensures.half d).0 in
    let sums_was : c.take_half-half.result.1 ≡ sums_of c.args.way was = (c.take_half-half.ensures.half d).1 in
    let half_is : c.take_open-chunk.new.self ≡ record (half_of c.args.way was) { chunk = None } = c.take_open-chunk.ensures.flow ∙ ap (λ (f : Flow). record f { chunk = None }) half_was in
    let chunk_is = c.take_open-chunk.ensures.chunk ∙ ap (λ (f : Flow). f.chunk) half_was in
    let sums_are : c.count_over.new.sums ≡ with_chunks (sums_of c.args.way was) (chunk_list (half_of c.args.way was).chunk)
    = c.count_over.ensures.sums ∙ (λ i. with_chunks (sums_was i) (chunk_list (chunk_is i))) in
    table_changed c.args.table.now c.take_half-half.new.self c.put_half.new.self c.args.place c.args.way dry c.take_open-chunk.new.self no_sums c.count_over.new.sums d c.requires.place c.take_half-half.ensures.rest c.put_half.ensures.changed
    ∙ (λ i. set c.args.table.now c.args.place (with_half c.args.way (half_is i) (sums_are i) was))
