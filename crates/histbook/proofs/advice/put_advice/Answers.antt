use Rattle.std.proofs.lemmas.Result.{on_ok_weaker}
use Rattle.histbook.proofs.AdviceLemmas.{advice_written}
use Rattle.histbook.proofs.advice.put_advice.Goals as goal

pub returns-clause-ok : goal.returns-clause-ok
returns-clause-ok c = on_ok_weaker c.put_dot.result (λ last. advice_written _ _ _ _ _ _ c.args.advice.now _ _ _ _
    c.in_ok-put_flag.ensures.ok c.in_ok-put_flag-2.ensures.ok c.in_ok-put_number.ensures.ok c.in_ok-put_number-2.ensures.ok last
    c.is_flagged.ensures c.is_limited.ensures c.is_any.ensures c.widened.ensures) c.put_dot.ensures.ok
