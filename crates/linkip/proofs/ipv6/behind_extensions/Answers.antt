use Rattle.std.proofs.Common.{◌≡◌, true, false, sym, ◌∙◌, arith}
use Rattle.linkip.specs.Ipv6.{is_extension}
use Rattle.linkip.proofs.ChainLemmas.{upper_in-ends, upper_in-cut, upper_in-passes_to}
use Rattle.linkip.proofs.ipv6.behind_extensions.Goals as goal

pub returns-in_err-upper-clause-exact : goal.returns-in_err-upper-clause-exact
returns-in_err-upper-clause-exact c =
    let h : is_extension c.loop-upper.upper.next ≡ true = sym c.is_extension.ensures ∙ c.loop-upper-test.true in
    let e = upper_in-cut c.loop-upper.upper.next c.loop-upper.upper.left.now h c.in_err-upper.ensures.whole in
    rw c.from_residual.ensures (c.loop-upper.invariant.0 ∙ e)

pub loop-upper-preserved : goal.loop-upper-preserved
loop-upper-preserved c =
    let h : is_extension c.loop-upper.upper.next ≡ true = sym c.is_extension.ensures ∙ c.loop-upper-test.true in (
      c.loop-upper.invariant.0
          ∙ upper_in-passes_to c.loop-upper.upper.next c.loop-upper.upper.left.now c.in_ok-upper.upper.next c.in_ok-upper.upper.left.now h
          c.in_ok-upper.ensures.whole c.in_ok-upper.ensures.next c.in_ok-upper.ensures.left,
      omega (arith, c.loop-upper.invariant.1, c.in_ok-upper.ensures.shorter),
    )

pub returns-clause-exact : goal.returns-clause-exact
returns-clause-exact c =
    let h : is_extension c.loop-upper.upper.next ≡ false = sym c.is_extension.ensures ∙ c.loop-upper-test.false in
    c.loop-upper.invariant.0 ∙ upper_in-ends c.loop-upper.upper.next c.loop-upper.upper.left.now h
