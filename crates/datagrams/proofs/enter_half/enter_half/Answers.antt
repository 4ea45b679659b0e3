use Rattle.std.proofs.Common.{length, sym, subst}
use Rattle.datagrams.specs.Sums.{with_chunks, with_datagram}
use Rattle.datagrams.specs.State.{granted_by, AreShort}
use Rattle.datagrams.proofs.EnterLemmas.{short_entered}
use Rattle.datagrams.proofs.enter_half.enter_half.Goals as goal

pub count_entered-requires-clause-short : goal.count_entered-requires-clause-short
count_entered-requires-clause-short c =
    let looks = sym c.in_ok-entered.ensures.looks in
    let over = sym c.in_ok-entered.ensures.over in
    subst AreShort (λ i. with_chunks (with_datagram c.args.sums.now (length c.args.payload.now) (granted_by (looks i))) (over i))
    (short_entered c.args.mark c.args.least c.args.budget.now c.args.half.now c.args.sums.now c.args.payload.now c.requires.balanced c.requires.fits)
