use Rattle.std.proofs.Common.{◌≡◌, ◌∷◌, sym, arith}
use Rattle.std.proofs.lemmas.Grind.{common_steps}
use Rattle.capfilter.specs.Numbers.{parts}
use Rattle.capfilter.proofs.NumbersLemmas.{no_net}
use Rattle.capfilter.proofs.end_test.net_of.Goals as goal

pub returns-in-Some : goal.returns-in-Some
returns-in-Some c =
    let text = c.args.text.now in
    let rest = c.in_ok-rest.field-0.now in
    let more = c.in-Some.field-0.now in
    let first : parts 47 text ≡ c.cut.result.0.now ∷ parts 47 rest = grind (arith, common_steps) in
    let second : parts 47 rest ≡ c.cut-2.result.0.now ∷ parts 47 more = grind (arith, common_steps) in
    sym (no_net text c.cut.result.0.now rest c.cut-2.result.0.now more first second)
