use Rattle.std.proofs.Common.{◌≡◌, ◌-◌, ◌∷◌, ◌∙◌, ap, sym, subst, arith, length, take, drop}
use Rattle.std.proofs.lemmas.Grind.{common_steps}
use Rattle.std.proofs.lemmas.Result.{err_from_is_err_and}
use Rattle.capfilter.specs.Tokens.{tokens}
use Rattle.capfilter.specs.Reader.{Outcome, read, outcome, IsRefusal}
use Rattle.capfilter.specs.Parser.{state_of}
use Rattle.capfilter.proofs.token_reader.read_text.Goals as goal

pub returns-in_err-take-clause-read : goal.returns-in_err-take-clause-read
returns-in_err-take-clause-read c =
    let text = c.args.text.now in
    let parser = c.loop-start.parser in
    let from = c.loop-start.from in
    let first = c.in-Some.start in
    let end = c.in-Some.end in
    let token : tokens from (drop from text) ≡ record { at = first; bytes = take (end - first) (drop first text) } ∷ tokens end (drop end text) = grind (arith, common_steps) in
    let whole : outcome text ≡ read (length text) parser.count (state_of parser) (record { at = first; bytes = take (end - first) (drop first text) } ∷ tokens end (drop end text)) =
    c.loop-start.invariant.rest ∙ ap (read (length text) parser.count (state_of parser)) token in
    let refusal = subst (λ (o : Outcome). IsRefusal o c.in_err-take.field-0.0) (sym whole) (c.in_err-take.ensures.read (length text) (tokens end (drop end text))) in
    let p = err_from_is_err_and c.from_residual.result c.from_residual.ensures.1 in
    rw (p.1, p.2) refusal
