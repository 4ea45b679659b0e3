use Rattle.std.proofs.Common.{◌≡◌, ◌+◌, ◌*◌, ◌<◌, get_or, arith, ap, refl, ◌∙◌}
use Rattle.std.proofs.lemmas.List.{get_or-replicate}
use Rattle.pcapgen.proofs.generator.Generator.new.Goals as goal

pub invariant_of-result : goal.invariant_of-result
invariant_of-result c = (
  omega arith,
  λ place h.
      let none : get_or c.nothing_sent-sent.result place 0 ≡ 0 = ap (λ xs. get_or xs place 0) c.nothing_sent-sent.ensures ∙ get_or-replicate 128 place 0 0 h in
      omega (arith, none),
)

pub returns : goal.returns
returns c =
    record {
      state = refl;
      number = refl;
      sent = λ flow way f w.
          let there : 2 * flow + way < 128 = omega (arith, f, w) in
          ap (λ xs. get_or xs (2 * flow + way) 0) c.nothing_sent-sent.ensures ∙ get_or-replicate 128 (2 * flow + way) 0 0 there;
    }
