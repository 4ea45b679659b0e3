use Rattle.std.proofs.Common.{◌≡◌, ◌∙◌, ap, ℕ, List, arith}
use Rattle.std.specs.Prelude.{Option, unwrap_or}
use Rattle.scap_world.specs.Causes.{raised}
use Rattle.scap_world.specs.Tables.{value_of}
use Rattle.scap_world.proofs.CountsLemmas.{count_of-with_value, count_of-with_value_other, keeps_names}
use Rattle.scap_world.proofs.in_memory.counts.Counts.raise.Goals as goal

pub returns-clause-raised : goal.returns-clause-raised
returns-clause-raised c =
    let fits : c.saturating_add.result ≡ raised c.unwrap_or-before.result = omega (arith, c.saturating_add.ensures) in
    let counted = c.copied.ensures ∙ c.get.ensures ∙ ap (λ (t : List (List ℕ × ℕ)). value_of t c.args.name.now) c.self.view_is in
    count_of-with_value c.self.inside.names c.set.new.self c.args.name.now c.saturating_add.result c.set.ensures
    ∙ fits ∙ ap raised (c.unwrap_or-before.ensures ∙ ap (λ (o : Option ℕ). unwrap_or o 0) counted)

pub returns-clause-others : goal.returns-clause-others
returns-clause-others c = rw (← c.self.view_is) (count_of-with_value_other c.self.inside.names c.set.new.self c.args.name.now c.saturating_add.result c.set.ensures)

pub returns-clause-names : goal.returns-clause-names
returns-clause-names c = rw (← c.self.view_is) (keeps_names c.self.inside.names c.set.new.self c.args.name.now c.saturating_add.result c.set.ensures)
