use Rattle.std.proofs.Common.{refl, ap}
use Rattle.std.specs.Prelude.{ℕ, List}
use Rattle.scap_world.proofs.TablesLemmas.{set-with_value}
use Rattle.scap_world.proofs.in_memory.table.set_at.Goals as goal

pub returns : goal.returns
returns g c = set-with_value c.args.entries.now c.args.i c.args.name.now c.args.value _ c.index-entries-i.result c.requires.first
    (ap (λ (e : List ℕ × g.row.V.Denot). e.0) c.entry.view_is) refl
