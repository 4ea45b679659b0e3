use Rattle.std.proofs.Common.{◌≡◌, ℕ, ◌++◌, ◌∙◌, ap, append_assoc, arith}
use Rattle.std.proofs.lemmas.Result.{on_ok_weaker}
use Rattle.textout.specs.Addresses.{grouped, colon_groups, group_at}
use Rattle.textout.proofs.FrontLemmas.{on_err_front}
use Rattle.textout.proofs.address.put_groups.Goals as goal

pub returns-in_err-put_text-clause-err : goal.returns-in_err-put_text-clause-err
returns-in_err-put_text-clause-err c =
    on_err_front c.from_residual-in_err-put_text.result _ _ _ (c.in_err-put_text.ensures.err ∙ c.in_ok-put_group.ensures.ok ∙ ap (λ l. l ++ group_at c.args.octets.now c.loop-i.i) c.loop-i.invariant
    ∙ append_assoc c.args.out.now.items (colon_groups c.args.octets.now c.loop-i.i) (group_at c.args.octets.now c.loop-i.i))

pub returns-clause-ok : goal.returns-clause-ok
unfolding grouped
returns-clause-ok c =
    let all : c.loop-i.i ≡ 7 = omega arith in
    let seven = ap (λ (n : ℕ). c.args.out.now.items ++ colon_groups c.args.octets.now n) all in
    on_ok_weaker c.put_group-2.result (λ end. end ∙ ap (λ l. l ++ group_at c.args.octets.now 7) (c.loop-i.invariant ∙ seven)
    ∙ append_assoc c.args.out.now.items (colon_groups c.args.octets.now 7) (group_at c.args.octets.now 7)) c.put_group-2.ensures.ok
