use Rattle.std.proofs.Common.{◌≡◌, ℕ, sym, ◌∙◌, ap, arith, true, false, cond}
use Rattle.std.specs.Prelude.{Option, Some, None}
use Rattle.std.specs.BTreeMap.{get, is_at}
use Rattle.std.specs.BTreeSet.{contains}
use Rattle.std.specs.FinMap as map
use Rattle.std.specs.Map.{lookup}
use Rattle.std.specs.Ordering.{nat_cmp, is_eq}
use Rattle.deadlines.specs.Order.{due_cmp, is_at_moment}
use Rattle.deadlines.proofs.SeenLemmas.{entry-seen, index-seen, seen-insert}
use Rattle.deadlines.proofs.IndexLemmas.{added, again, moved, given_back}
use Rattle.deadlines.proofs.due.Due.set.Goals as goal

true_is_false : {A : Type 0} → true ≡ false → A
true_is_false h = grind arith

some_is_none : {A : Type 0} (x : ℕ) → let o : Option ℕ = Some x in o ≡ None → A
some_is_none x h = grind arith

pub returns-in_err-insert-clause-again : goal.returns-in_err-insert-clause-again
returns-in_err-insert-clause-again c = λ h.
    true_is_false (sym (index-seen c.self.inside.moments c.self.inside.order c.args.self.now c.self.view_is c.self.invariant c.args.id c.args.moment h)
    ∙ c.in_err-insert.ensures.absent)

pub invariant_of-self-in_default : goal.invariant_of-self-in_default
invariant_of-self-in_default c = λ m i.
    c.remove.ensures.updates.0 (m, i)
    ∙ ap (λ b. cond (is_eq (due_cmp (c.args.moment, c.args.id) (m, i))) false b) (c.in_ok-insert.ensures.updates.0 (m, i))
    ∙ given_back (λ n j. contains due_cmp c.self.inside.order (n, j)) (get nat_cmp c.self.inside.moments) c.self.invariant
    c.args.id c.args.moment c.in_default.ensures.absent m i
    ∙ ap (λ es. is_at_moment (lookup (is_at (nat_cmp i)) es) m) (sym c.in_default.ensures.err)

pub returns-in_default-clause-again : goal.returns-in_default-clause-again
returns-in_default-clause-again c = λ h.
    some_is_none c.args.moment (sym (entry-seen c.self.inside.moments c.args.self.now c.self.view_is c.args.id c.args.moment h) ∙ c.in_default.ensures.absent)

pub invariant_of-self-then-before-moment : goal.invariant_of-self-then-before-moment
invariant_of-self-then-before-moment c = λ m i.
    c.remove-then-before-moment.ensures.updates.0 (m, i)
    ∙ ap (λ b. cond (is_eq (due_cmp (c.in-Some.before, c.args.id) (m, i))) false b) (c.in_ok-insert.ensures.updates.0 (m, i))
    ∙ moved (λ n j. contains due_cmp c.self.inside.order (n, j)) (get nat_cmp c.self.inside.moments) c.self.invariant
    c.args.id c.args.moment c.in-Some.before (sym c.in-Ok.ensures.old ∙ c.in-Some.is) c.if-before-moment.true m i
    ∙ ap (λ o. is_at_moment o m) (sym (c.in-Ok.ensures.updates.0 i))

pub invariant_of-self-else-before-moment : goal.invariant_of-self-else-before-moment
invariant_of-self-else-before-moment c = λ m i.
    c.in_ok-insert.ensures.updates.0 (m, i)
    ∙ again (λ n j. contains due_cmp c.self.inside.order (n, j)) (get nat_cmp c.self.inside.moments) c.self.invariant
    c.args.id c.args.moment c.in-Some.before (sym c.in-Ok.ensures.old ∙ c.in-Some.is) c.if-before-moment.false m i
    ∙ ap (λ o. is_at_moment o m) (sym (c.in-Ok.ensures.updates.0 i))

pub invariant_of-self-in_default-before : goal.invariant_of-self-in_default-before
invariant_of-self-in_default-before c = λ m i.
    c.in_ok-insert.ensures.updates.0 (m, i)
    ∙ added (λ n j. contains due_cmp c.self.inside.order (n, j)) (get nat_cmp c.self.inside.moments) c.self.invariant
    c.args.id c.args.moment (sym c.in-Ok.ensures.old ∙ c.in_default-before.is) m i
    ∙ ap (λ o. is_at_moment o m) (sym (c.in-Ok.ensures.updates.0 i))

pub returns-then-before-moment-clause-ok : goal.returns-then-before-moment-clause-ok
returns-then-before-moment-clause-ok c =
    seen-insert c.self.inside.moments c.insert-2.new.self c.args.id c.args.moment c.in-Ok.ensures.updates.0
    ∙ ap (λ m. map.insert m c.args.id c.args.moment) c.self.view_is

pub returns-else-before-moment-clause-ok : goal.returns-else-before-moment-clause-ok
returns-else-before-moment-clause-ok c =
    seen-insert c.self.inside.moments c.insert-2.new.self c.args.id c.args.moment c.in-Ok.ensures.updates.0
    ∙ ap (λ m. map.insert m c.args.id c.args.moment) c.self.view_is

pub returns-in_default-before-clause-ok : goal.returns-in_default-before-clause-ok
returns-in_default-before-clause-ok c =
    seen-insert c.self.inside.moments c.insert-2.new.self c.args.id c.args.moment c.in-Ok.ensures.updates.0
    ∙ ap (λ m. map.insert m c.args.id c.args.moment) c.self.view_is
