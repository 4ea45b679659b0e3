use Rattle.std.proofs.Common.{ℕ, List, ◌+◌, ◌<◌, length, arith, ap, sym, ◌∙◌}
use Rattle.pcapfile.specs.Head.{head_of}
use Rattle.labtop.proofs.ReadLemmas.{behind_head_is, enough_front, enough_refused}
use Rattle.labtop.proofs.files.read_records.Goals as goal

pub returns-in-Err-clause-enough : goal.returns-in-Err-clause-enough
returns-in-Err-clause-enough g c = λ s. enough_refused s _ _ c.in_ok-bytes.bytes.items _ c.in_ok-bytes.ensures.same
    (sym (c.in-Err.ensures.first ∙ ap head_of c.deref.ensures.value)) c.in_ok-bytes.ensures.whole

pub returns-clause-enough : goal.returns-clause-enough
returns-clause-enough g c = λ s. enough_front s _ _ c.in_ok-bytes.bytes.items c.read_rest.new.bytes.items c.in_ok-bytes.ensures.same c.in_ok-read_rest.ensures.bytes

pub returns-in_err-read_rest-clause-failed : goal.returns-in_err-read_rest-clause-failed
returns-in_err-read_rest-clause-failed g c = λ e. behind_head_is _ _ c.in_ok-bytes.bytes.items _ (g.S.Source.taken c.read_rest.new.source < g.S.Source.taken c.args.source.now + 24)
    c.in_ok-bytes.ensures.same (sym (c.in-Ok.ensures.first ∙ ap head_of c.deref.ensures.value))
    (omega (arith, c.in-Ok.ensures.whole, ap (λ (l : List ℕ). length l) c.deref.ensures.value))
