use Rattle.std.proofs.Common.{Bool, subst, ap, ◌∙◌, refl}
use Rattle.evring.specs.declared.advice.Advice.{Advice}
use Rattle.evring.specs.Advice.{no_advice}
use Rattle.handler.specs.Grammar.{AreFresh}
use Rattle.handler.proofs.LawLemmas.{none_keeps}
use Rattle.handler.proofs.laws.chunks_alone_are_kept.Goals as goal

pub returns : goal.returns
returns c = λ line rule is of_new.
    let says = is.advice.says in
    ap (λ (a : Advice). a.keep) says.is ∙ none_keeps says.parts no_advice (subst (λ (b : Bool). AreFresh b no_advice says.parts) of_new says.fresh) refl
