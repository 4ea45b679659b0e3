use Rattle.std.proofs.Common.{ℕ, List, ◌∙◌, ap, sym, subst}
use Rattle.std.specs.Prelude.{OnErr}
use Rattle.scap_world.specs.Contents.{GainsPart, extended}
use Rattle.workrun.specs.declared.scribe.Scribe.{Scribe}
use Rattle.workrun.proofs.StandLemmas.{line_loaded, line_told, stands_on}
use Rattle.workrun.proofs.TurnLemmas.{extended_none}
use Rattle.workrun.proofs.worker.Worker.next.Goals as goal

pub returns-in-Loaded-clause-front : goal.returns-in-Loaded-clause-front
returns-in-Loaded-clause-front g c = λ x s.
    subst (λ (l : List ℕ). OnErr c.begin.result (GainsPart (g.K.Sink.held c.args.self.now.scribe.sink) (g.K.Sink.held c.begin.new.self.scribe.sink) l))
    (sym (line_loaded g.C.Charge.amount g.C.Charge.stamp g.H.Handler.advice x c.args.self.now c.in-Loaded.core c.in-Loaded.event s (sym c.replace.ensures.value ∙ c.in-Loaded.is))) c.begin.ensures.front

pub returns-in-Releases-clause-work : goal.returns-in-Releases-clause-work
returns-in-Releases-clause-work g c = λ x s.
    stands_on g.C.Charge.amount g.C.Charge.stamp g.H.Handler.advice x c.args.self.now c.go_on.new.self c.in-Releases.release c.go_on.result s (sym c.replace.ensures.value ∙ c.in-Releases.is)
    (c.go_on.ensures.same.2 ∙ s.calm) c.go_on.ensures.same.0 (λ h q. c.go_on.ensures.worked s.calm h q)

pub returns-in-Releases-clause-line : goal.returns-in-Releases-clause-line
returns-in-Releases-clause-line g c = λ x s.
    ap (λ (k : Scribe g.row.H.Denot g.row.K.Denot). g.K.Sink.held k.sink) c.go_on.ensures.same.0 ∙ extended_none (g.K.Sink.held c.args.self.now.scribe.sink)
    ∙ ap (λ (l : List ℕ). extended (g.K.Sink.held c.args.self.now.scribe.sink) l) (sym (line_told g.C.Charge.amount g.C.Charge.stamp g.H.Handler.advice x c.args.self.now c.in-Releases.release s (sym c.replace.ensures.value ∙ c.in-Releases.is)))
