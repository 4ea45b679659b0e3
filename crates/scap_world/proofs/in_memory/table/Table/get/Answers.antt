use Rattle.std.proofs.Common.{sym, ap, ◌∙◌, get_or}
use Rattle.std.specs.Prelude.{ℕ, List, Some}
use Rattle.scap_world.proofs.TablesLemmas.{value_of-first}
use Rattle.scap_world.proofs.in_memory.table.Table.get.Goals as goal

pub returns-in-Some : goal.returns-in-Some
returns-in-Some g c = ap (λ (e : List ℕ × g.row.V.Denot). Some e.1) (c.entry.view_is ∙ c.index-entry.ensures ∙ ap (λ (l : List (List ℕ × g.row.V.Denot)). get_or l c.in-Some.i c.index-entry.result.now) c.self.view_is)
    ∙ sym (value_of-first c.args.self.now c.in-Some.i c.args.name.now c.index-entry.result.now c.in-Some.ensures.1)
