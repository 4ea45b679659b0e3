use Rattle.std.proofs.Common.{sym, ◌∙◌, ap}
use Rattle.std.specs.BTreeMap.{get}
use Rattle.std.specs.BTreeSet.{contains}
use Rattle.std.specs.FinMap as map
use Rattle.std.specs.Ordering.{nat_cmp}
use Rattle.deadlines.specs.Order.{due_cmp, is_at_moment}
use Rattle.deadlines.proofs.SeenLemmas.{seen-remove}
use Rattle.deadlines.proofs.IndexLemmas.{removed}
use Rattle.deadlines.proofs.due.Due.remove.Goals as goal

pub invariant_of-self : goal.invariant_of-self
invariant_of-self c = λ m i.
    c.remove-in-Some.ensures.updates.0 (m, i)
    ∙ removed (λ n j. contains due_cmp c.self.inside.order (n, j)) (get nat_cmp c.self.inside.moments) c.self.invariant
    c.args.id c.in-Some.moment (sym c.remove.ensures.value ∙ c.in-Some.is) m i
    ∙ ap (λ o. is_at_moment o m) (sym (c.remove.ensures.updates.0 i))

pub returns-in-Some : goal.returns-in-Some
returns-in-Some c =
    seen-remove c.self.inside.moments c.remove.new.self c.args.id c.remove.ensures.updates.0
    ∙ ap (λ m. map.remove m c.args.id) c.self.view_is

pub returns-in_default : goal.returns-in_default
returns-in_default c =
    seen-remove c.self.inside.moments c.remove.new.self c.args.id c.remove.ensures.updates.0
    ∙ ap (λ m. map.remove m c.args.id) c.self.view_is
