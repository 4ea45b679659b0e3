use Rattle.std.proofs.Common.{subst}
use Rattle.streamkey.specs.declared.key.Key.{Key}
use Rattle.streamkey.specs.Key.{IsOrdered}
use Rattle.streamkey.proofs.KeyLemmas.{readings-apart, readings-same}
use Rattle.streamkey.proofs.laws.readings_give_the_key.Goals as goal

pub returns : goal.returns
returns c =
    let ordered : IsOrdered c.args.key.now = subst (λ (k : Key). IsOrdered k) c.key.view_is c.key.invariant in
    record {
      apart = readings-apart c.args.key.now c.args.toward ordered;
      same = readings-same c.args.key.now c.args.toward ordered;
    }
