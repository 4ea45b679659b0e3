use Rattle.std.proofs.Common.{◌≡◌, ◌∙◌, ap, subst, is_none, true}
use Rattle.streamdefs.specs.Convo.{is_live}
use Rattle.flowdir.specs.Boundary.{charge_by}
use Rattle.convo.specs.Talk.{IsOf}
use Rattle.convo.proofs.BackSteps.{advised_rests, back_going, given_unkept, given_new, given_ended, holds_at, live_is, off_of, on_of}
use Rattle.convo.proofs.Results.{if_ok_map}
use Rattle.convo.proofs.talk.Convo.take_advice.Goals as goal

pub returns-then-not-advice-clause-turn : goal.returns-then-not-advice-clause-turn
returns-then-not-advice-clause-turn g c = λ t k e n frees r a.
    let paid = charge_by g.C.Charge.amount g.C.Charge.stamp in
    let live : is_live k.convo ≡ true = live_is paid t k c.args.self.now r ∙ ap is_none c.requires.live in
    let given = given_unkept k.convo c.args.advice e (off_of _ c.if-not-advice.true) in
    c.give.ensures.turn t k n c.args.advice frees (rw c.advise.ensures (advised_rests paid t k c.args.self.now c.args.of c.args.advice e n frees live r a.next a.of_it given))
    (back_going paid k.convo c.args.advice frees c.args.kept e a.next given a.given a.returned)

pub returns-in-New-clause-turn : goal.returns-in-New-clause-turn
returns-in-New-clause-turn g c = λ t k e n frees r a.
    let paid = charge_by g.C.Charge.amount g.C.Charge.stamp in
    let live : is_live k.convo ≡ true = live_is paid t k c.args.self.now r ∙ ap is_none c.requires.live in
    let given = given_new k.convo c.args.advice e (subst (λ of. IsOf of e) c.in-New.is a.of_it) in
    c.give-in-New.ensures.turn t k n c.args.advice frees (rw c.advise.ensures (advised_rests paid t k c.args.self.now c.args.of c.args.advice e n frees live r a.next a.of_it given))
    (back_going paid k.convo c.args.advice frees c.args.kept e a.next given a.given a.returned)

pub returns-in-Ended-clause-turn : goal.returns-in-Ended-clause-turn
returns-in-Ended-clause-turn g c = λ t k e n frees r a.
    let paid = charge_by g.C.Charge.amount g.C.Charge.stamp in
    let live : is_live k.convo ≡ true = live_is paid t k c.args.self.now r ∙ ap is_none c.requires.live in
    let given = given_ended k.convo c.args.advice e (subst (λ of. IsOf of e) c.in-Ended.is a.of_it) in
    c.give-in-Ended.ensures.turn t k n c.args.advice frees (rw c.advise.ensures (advised_rests paid t k c.args.self.now c.args.of c.args.advice e n frees live r a.next a.of_it given))
    (back_going paid k.convo c.args.advice frees c.args.kept e a.next given a.given a.returned)

pub returns-in-Chunk-clause-turn : goal.returns-in-Chunk-clause-turn
returns-in-Chunk-clause-turn g c = if_ok_map c.hold.result c.hold.ensures.ok (λ want held t k e n frees r a.
    let paid = charge_by g.C.Charge.amount g.C.Charge.stamp in
    let live : is_live k.convo ≡ true = live_is paid t k c.args.self.now r ∙ ap is_none c.requires.live in
    holds_at paid t k c.args.self.now c.advise.new.self c.hold.new.self c.args.of c.in-Chunk.way c.args.advice c.args.kept e n frees want live (on_of _ c.if-not-advice.false) r a.next a.of_it a.returned c.in-Chunk.is c.advise.ensures held.0 held.1)
