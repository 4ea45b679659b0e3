use Rattle.std.proofs.Common.{List, ℕ, sym, ◌∙◌, subst}
use Rattle.capfilter.specs.Faults as filters
use Rattle.scapconf.proofs.read.read_expression.Goals as goal

pub returns-in-Ok : goal.returns-in-Ok
returns-in-Ok c =
    let same = c.as_str.ensures.value ∙ c.in_ok-text.ensures in (
      subst (λ (t : List ℕ). filters.Reads t c.in-Ok.filter) same c.in-Ok.ensures.parsed,
      λ no. c.in-Ok.ensures.least no.0 (subst (λ (t : List ℕ). filters.IsFault t no.0) (sym same) no.1),
    )
