use Rattle.std.proofs.Common.{◌≡◌, ℕ, sym, ◌∙◌, ap, arith, true, false, subst}
use Rattle.std.specs.BTreeSet.{contains}
use Rattle.std.specs.BTreeMap.{is_at}
use Rattle.std.specs.FinMap as map
use Rattle.deadlines.specs.Dues.{IsFirstDue}
use Rattle.deadlines.specs.Order.{due_cmp}
use Rattle.deadlines.proofs.SeenLemmas.{get-seen, index-seen}
use Rattle.deadlines.proofs.IndexLemmas.{up_to, at_moment, has-none, later, none_is_some}
use Rattle.deadlines.proofs.due.Due.first_due.Goals as goal

true_is_false : {A : Type 0} → true ≡ false → A
true_is_false h = grind arith

pub returns-in_err-moment : goal.returns-in_err-moment
returns-in_err-moment c =
    let bare : (id m : ℕ) → contains due_cmp c.self.inside.order (m, id) ≡ false =
    λ id m. has-none (is_at (due_cmp (m, id))) c.self.inside.order.keys
    (λ some. none_is_some c.first.result c.in_err-moment.was (c.first.ensures.variant.1 some)) in
    subst (IsFirstDue c.args.self.now c.args.now) (sym c.from_residual.ensures)
    (λ id m h. true_is_false (sym (index-seen c.self.inside.moments c.self.inside.order c.args.self.now c.self.view_is c.self.invariant id m h) ∙ bare id m))

pub returns-then-moment-now : goal.returns-then-moment-now
returns-then-moment-now c = record {
  stands =
      ap (λ d. map.get d c.in_ok-moment.field-0.now.1) (sym c.self.view_is)
      ∙ get-seen c.self.inside.moments.entries c.in_ok-moment.field-0.now.1
      ∙ at_moment _ c.in_ok-moment.field-0.now.0 (sym (c.self.invariant c.in_ok-moment.field-0.now.0 c.in_ok-moment.field-0.now.1) ∙ c.in_ok-moment.ensures.member);
  come = c.if-moment-now.true;
  least = λ id m h. up_to c.in_ok-moment.field-0.now (m, id)
      (c.in_ok-moment.ensures.least (m, id) (index-seen c.self.inside.moments c.self.inside.order c.args.self.now c.self.view_is c.self.invariant id m h));
}

pub returns-else-moment-now : goal.returns-else-moment-now
returns-else-moment-now c = λ id m h.
    later c.args.now c.in_ok-moment.field-0.now (m, id) c.if-moment-now.false
    (up_to c.in_ok-moment.field-0.now (m, id)
    (c.in_ok-moment.ensures.least (m, id) (index-seen c.self.inside.moments c.self.inside.order c.args.self.now c.self.view_is c.self.invariant id m h)))
