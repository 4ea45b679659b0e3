use Rattle.std.proofs.Common.{sym, subst, ap, ◌∙◌, ◌≡◌, ◌++◌, ◌∷◌, []}
use Rattle.datagrams.specs.declared.conversation.Conversation.{Conversation}
use Rattle.datagrams.specs.Rows.{unbegun}
use Rattle.datagrams.specs.Sound.{IsSound}
use Rattle.datagrams.specs.State.{State, Untold, Opened}
use Rattle.datagrams.proofs.SoundLemmas.{sound_table, sound_opened, state_with}
use Rattle.datagrams.proofs.replay.Replay.open.Goals as goal

pub invariant_of-self-in_err-push_back : goal.invariant_of-self-in_err-push_back
invariant_of-self-in_err-push_back c =
    let s : State = record { mark = c.self.inside.mark; least = c.self.inside.least; budget = c.self.inside.budget; table = c.self.inside.table; waiting = c.self.inside.waiting.items; text = c.self.inside.served; book = c.self.inside.book.items; answered = c.self.inside.answered; came = c.self.inside.came; peak = c.self.inside.peak; refused = c.self.inside.refused } in
    let opened : c.open.new.self ≡ s.table ++ unbegun c.args.number c.args.key c.args.toward ∷ [] = c.in_ok-open.ensures.ok ∙ ap (λ (d : Conversation). s.table ++ d ∷ []) c.new.ensures in
    subst IsSound (λ i. state_with s s.budget (sym opened i) (sym c.in_err-push_back.ensures.items i) s.book s.came s.peak s.refused) (sound_table s c.args.number c.args.key c.args.toward c.self.invariant)

pub invariant_of-self-2 : goal.invariant_of-self-2
invariant_of-self-2 c =
    let s : State = record { mark = c.self.inside.mark; least = c.self.inside.least; budget = c.self.inside.budget; table = c.self.inside.table; waiting = c.self.inside.waiting.items; text = c.self.inside.served; book = c.self.inside.book.items; answered = c.self.inside.answered; came = c.self.inside.came; peak = c.self.inside.peak; refused = c.self.inside.refused } in
    let opened : c.open.new.self ≡ s.table ++ unbegun c.args.number c.args.key c.args.toward ∷ [] = c.in_ok-open.ensures.ok ∙ ap (λ (d : Conversation). s.table ++ d ∷ []) c.new.ensures in
    let waits : c.push_back.new.self.items ≡ s.waiting ++ record { conv = c.args.number; event = Opened c.args.key c.args.toward } ∷ [] = c.in_ok-push_back.ensures.items ∙ ap (λ (u : Untold). s.waiting ++ u ∷ []) c.new-2.ensures in
    subst IsSound (λ i. state_with s s.budget (sym opened i) (sym waits i) s.book s.came s.peak s.refused) (sound_opened s c.args.number c.args.key c.args.toward c.self.invariant)
