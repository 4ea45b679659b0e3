use Rattle.std.proofs.Common.{sym, subst, ap, ◌∙◌, ◌≡◌, ◌++◌, ◌∷◌, [], List, get_or, set, length, ◌<◌, arith, refl, Option, append-nil}
use Rattle.evring.specs.declared.reason.Reason.TheVariants.{Finish}
use Rattle.evring.specs.declared.way.Way.TheVariants.{Fore, Back}
use Rattle.datagrams.specs.declared.conversation.Conversation.{Conversation}
use Rattle.datagrams.specs.Flow.{OpenChunk, chunk_list, open_in}
use Rattle.datagrams.specs.Sound.{IsSound}
use Rattle.datagrams.specs.State.{State, Untold, Over, closed_half, handed}
use Rattle.datagrams.proofs.PlaceLemmas.{an_element}
use Rattle.datagrams.proofs.SoundLemmas.{grown, is_settled, sound_end, state_with}
use Rattle.datagrams.proofs.replay.Replay.end_at.Goals as goal

pub end_place-fore-requires-clause-fits : goal.end_place-fore-requires-clause-fits
end_place-fore-requires-clause-fits c = λ d.
    let s : State = record { mark = c.self.inside.mark; least = c.self.inside.least; budget = c.self.inside.budget; table = c.self.inside.table; waiting = c.self.inside.waiting.items; text = c.self.inside.served; book = c.self.inside.book.items; answered = c.self.inside.answered; came = c.self.inside.came; peak = c.self.inside.peak; refused = c.self.inside.refused } in
    is_settled s c.args.place d c.self.invariant (omega (arith, ap (λ (r : State). length r.table) c.self.view_is)) (omega arith)

pub invariant_of-self-in_err-push_back : goal.invariant_of-self-in_err-push_back
invariant_of-self-in_err-push_back c =
    let s : State = record { mark = c.self.inside.mark; least = c.self.inside.least; budget = c.self.inside.budget; table = c.self.inside.table; waiting = c.self.inside.waiting.items; text = c.self.inside.served; book = c.self.inside.book.items; answered = c.self.inside.answered; came = c.self.inside.came; peak = c.self.inside.peak; refused = c.self.inside.refused } in
    let within : c.args.place < length s.table = omega (arith, ap (λ (r : State). length r.table) c.self.view_is) in
    let d : Conversation = an_element s.table c.args.place within in
    let k : Conversation = get_or s.table c.args.place d in
    let table : c.end_place-fore.new.table ≡ set s.table c.args.place (closed_half Back (closed_half Fore k)) = c.end_place-fore.ensures.table d in
    let waits : c.push_back.new.self.items ≡ s.waiting ++ handed c.args.conv Fore (chunk_list k.fore.chunk) ++ handed c.args.conv Back (chunk_list k.back.chunk) ++ []
    = c.in_err-push_back.ensures.items ∙ c.hold-2.ensures.items
    ∙ (λ i. (c.hold.ensures.items ∙ ap (λ (l : List Untold). l ++ handed c.args.conv Fore (chunk_list (open_in c.end_place-fore.result.0))) c.reserve.ensures.items) i ++ handed c.args.conv Back (chunk_list (c.end_place-fore.ensures.back d i)))
    ∙ ap (λ (o : Option OpenChunk). s.waiting ++ handed c.args.conv Fore (chunk_list o) ++ handed c.args.conv Back (chunk_list k.back.chunk)) (c.end_place-fore.ensures.fore d) ∙ sym (append-nil _) in
    subst IsSound (λ i. state_with s s.budget (sym table i) (sym waits i) s.book s.came s.peak s.refused)
    (sound_end s c.args.place c.args.conv d [] s.book c.self.invariant within (omega arith) refl)

pub invariant_of-self-2 : goal.invariant_of-self-2
invariant_of-self-2 c =
    let s : State = record { mark = c.self.inside.mark; least = c.self.inside.least; budget = c.self.inside.budget; table = c.self.inside.table; waiting = c.self.inside.waiting.items; text = c.self.inside.served; book = c.self.inside.book.items; answered = c.self.inside.answered; came = c.self.inside.came; peak = c.self.inside.peak; refused = c.self.inside.refused } in
    let within : c.args.place < length s.table = omega (arith, ap (λ (r : State). length r.table) c.self.view_is) in
    let d : Conversation = an_element s.table c.args.place within in
    let k : Conversation = get_or s.table c.args.place d in
    let table : c.end_place-fore.new.table ≡ set s.table c.args.place (closed_half Back (closed_half Fore k)) = c.end_place-fore.ensures.table d in
    let waits : c.push_back.new.self.items ≡ s.waiting ++ handed c.args.conv Fore (chunk_list k.fore.chunk) ++ handed c.args.conv Back (chunk_list k.back.chunk) ++ record { conv = c.args.conv; event = Over Finish } ∷ []
    = c.in_ok-push_back.ensures.items
    ∙ (λ i. (c.hold-2.ensures.items
    ∙ (λ j. (c.hold.ensures.items ∙ ap (λ (l : List Untold). l ++ handed c.args.conv Fore (chunk_list (open_in c.end_place-fore.result.0))) c.reserve.ensures.items) j ++ handed c.args.conv Back (chunk_list (c.end_place-fore.ensures.back d j)))
    ∙ ap (λ (o : Option OpenChunk). s.waiting ++ handed c.args.conv Fore (chunk_list o) ++ handed c.args.conv Back (chunk_list k.back.chunk)) (c.end_place-fore.ensures.fore d)) i ++ c.new.ensures i ∷ []) in
    subst IsSound (λ i. state_with s s.budget (sym table i) (sym waits i) c.book_end.new.book.items s.came s.peak s.refused)
    (sound_end s c.args.place c.args.conv d (record { conv = c.args.conv; event = Over Finish } ∷ []) c.book_end.new.book.items c.self.invariant within
    (grown c.book_end.result s.book c.book_end.new.book.items _ c.book_end.ensures.ok c.book_end.ensures.err) refl)
