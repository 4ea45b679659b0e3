use Rattle.std.proofs.Common.{refl, sym, ap, ◌∙◌, ◌++◌, ◌∷◌, []}
use Rattle.std.specs.Prelude.{ℕ, List}
use Rattle.std.specs.String.{string_bytes}
use Rattle.scap_world.proofs.TablesLemmas.{push-with_value}
use Rattle.scap_world.proofs.in_memory.table.Table.put.Goals as goal

pub returns-clause-ok : goal.returns-clause-ok
returns-clause-ok g c =
    let e : List ℕ × g.row.V.Denot = (string_bytes c.in_ok-name.name, c.args.value) in
    push-with_value c.args.self.now c.push.new.self.items c.args.name.now c.args.value e (sym c.has.ensures ∙ c.if-has.false) c.in_ok-name.ensures.ok refl
    (c.in_ok-push.ensures.items ∙ ap (λ (l : List (List ℕ × g.row.V.Denot)). l ++ e ∷ []) c.self.view_is)
