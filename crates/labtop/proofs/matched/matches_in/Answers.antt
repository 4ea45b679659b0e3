use Rattle.std.proofs.Common.{ℕ, List, ◌+◌, ◌<◌, drop, length, arith, ap, subst, sym, ◌∙◌}
use Rattle.pcapfile.specs.Head.{head_of}
use Rattle.labtop.specs.Matched.{HasRead}
use Rattle.labtop.proofs.MatchLemmas.{behind_front, has_matched, has_refused}
use Rattle.labtop.proofs.ReadLemmas.{behind_head_is}
use Rattle.labtop.proofs.matched.matches_in.Goals as goal

pub returns-in-Err-clause-matched : goal.returns-in-Err-clause-matched
returns-in-Err-clause-matched g c =
    has_refused c.args.filter.now _ _ c.in_ok-front.front.items c.in-Err.kind c.in_ok-front.ensures.same
    (sym (c.in-Err.ensures.first ∙ ap head_of c.deref.ensures.value)) c.in_ok-front.ensures.whole

pub returns-clause-matched : goal.returns-clause-matched
returns-clause-matched g c =
    has_matched c.args.filter.now _ _ c.in_ok-front.front.items c.in-Ok.head c.in_ok-matches.matches c.in_ok-front.ensures.same
    (sym (c.in-Ok.ensures.first ∙ ap head_of c.deref.ensures.value))
    (omega (arith, c.in-Ok.ensures.whole, ap (λ (l : List ℕ). length l) c.deref.ensures.value))
    (c.in_ok-matches.ensures.all c.in-Ok.head _ (subst (λ (r : List ℕ). HasRead c.args.filter.now c.in-Ok.head r c.in_ok-matching.matching)
    (behind_front c.deref-2.result.now ∙ ap (λ (l : List ℕ). drop 24 l) c.deref-2.ensures.value) (c.in_ok-matching.ensures.read c.args.filter.now)))

pub returns-in_err-matches-clause-failed : goal.returns-in_err-matches-clause-failed
returns-in_err-matches-clause-failed g c = λ e. behind_head_is _ _ c.in_ok-front.front.items c.in-Ok.head (g.S.Source.taken c.read_through.new.source < g.S.Source.taken c.args.source.now + 24)
    c.in_ok-front.ensures.same (sym (c.in-Ok.ensures.first ∙ ap head_of c.deref.ensures.value))
    (omega (arith, c.in-Ok.ensures.whole, ap (λ (l : List ℕ). length l) c.deref.ensures.value))
