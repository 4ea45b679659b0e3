use Rattle.std.proofs.Common.{◌≡◌, ◌+◌, ◌∙◌, ℕ, ap, refl, rules, sym}
use Rattle.reorder.specs.Frags.{free}
use Rattle.reorder.proofs.HeldParts.{whole_is_clear}
use Rattle.reorder.proofs.tests.is_clear.Goals as goal

pub returns : goal.returns
returns g c = λ h.
    let e : c.from.result ≡ c.args.len = search rules in
    whole_is_clear c.args.from c.args.len (record { at = c.args.from; len = c.args.len }) c.in-Ok.runs c.args.store.now.frags c.parts_rise.ensures.ascends (sym c.as_slice.ensures ∙ c.is_whole.ensures h)
    (c.in-Ok.ensures ∙ ap (λ (k : ℕ). free c.args.from (c.args.from + k) c.args.store.now.frags) e) refl refl
