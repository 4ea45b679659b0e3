use Rattle.std.proofs.Common.{sym, subst, ap, ◌∙◌, ◌≡◌, ◌++◌, ◌∷◌, [], List, get_or, set, length, max, ℕ, ◌+◌, ◌<◌, arith}
use Rattle.std.specs.Option.{option_to_list}
use Rattle.std.specs.List.{HoldsAt}
use Rattle.std.proofs.lemmas.List.{append_assoc, length-append}
use Rattle.histbook.specs.declared.core_entry.CoreEntry.{CoreEntry}
use Rattle.histbook.specs.declared.entry.Entry.TheVariants as E
use Rattle.histbook.specs.declared.look_entry.LookEntry.{LookEntry}
use Rattle.streamdefs.specs.Totals.{refused}
use Rattle.prio_budget.specs.BudgetParts.{BudgetParts}
use Rattle.datagrams.specs.declared.conversation.Conversation.{Conversation}
use Rattle.datagrams.specs.Entered.{Entry, entered}
use Rattle.datagrams.specs.Flow.{chunk_list, open_in}
use Rattle.datagrams.specs.Rows.{half_of}
use Rattle.datagrams.specs.Sound.{IsSound}
use Rattle.datagrams.specs.State.{State, Untold, conversation_with, handed, with_datagram_at}
use Rattle.datagrams.proofs.PlaceLemmas.{an_element}
use Rattle.datagrams.proofs.SoundLemmas.{fits_into, handed_both, sound_datagram, state_with}
use Rattle.datagrams.proofs.replay.Replay.enter_at.Goals as goal

pub enter_place-requires-clause-fits : goal.enter_place-requires-clause-fits
enter_place-requires-clause-fits c = λ d.
    let s : State = record { mark = c.self.inside.mark; least = c.self.inside.least; budget = c.self.inside.budget; table = c.self.inside.table; waiting = c.self.inside.waiting.items; text = c.self.inside.served; book = c.self.inside.book.items; answered = c.self.inside.answered; came = c.self.inside.came; peak = c.self.inside.peak; refused = c.self.inside.refused } in
    fits_into s c.args.place c.args.way (length c.args.payload.now) d c.self.invariant (omega (arith, ap (λ (r : State). length r.table) c.self.view_is)) (omega (arith, ap (λ (r : State). r.came) c.self.view_is))

pub invariant_of-self-in_err-book_datagram : goal.invariant_of-self-in_err-book_datagram
invariant_of-self-in_err-book_datagram c =
    let s : State = record { mark = c.self.inside.mark; least = c.self.inside.least; budget = c.self.inside.budget; table = c.self.inside.table; waiting = c.self.inside.waiting.items; text = c.self.inside.served; book = c.self.inside.book.items; answered = c.self.inside.answered; came = c.self.inside.came; peak = c.self.inside.peak; refused = c.self.inside.refused } in
    let within : c.args.place < length s.table = omega (arith, ap (λ (r : State). length r.table) c.self.view_is) in
    let d : Conversation = an_element s.table c.args.place within in
    let e : Entry = entered s.mark s.least s.budget (half_of c.args.way (get_or s.table c.args.place d)) c.args.payload.now in
    let budget : c.enter_place.new.budget ≡ e.budget = c.in_ok-entered.ensures.budget d in
    let table : c.enter_place.new.table ≡ set s.table c.args.place (conversation_with c.args.way e (length c.args.payload.now) (get_or s.table c.args.place d)) = c.in_ok-entered.ensures.table d in
    let over : chunk_list (open_in c.in_ok-entered.entered.closed) ++ chunk_list (open_in c.in_ok-entered.entered.full) ≡ e.over = c.in_ok-entered.ensures.over d in
    let waits : c.hold-2.new.waiting.items ≡ s.waiting ++ handed c.args.conv c.args.way e.over
    = c.hold-2.ensures.items
    ∙ ap (λ (l : List Untold). l ++ handed c.args.conv c.args.way (chunk_list (open_in c.in_ok-entered.entered.full))) (c.hold.ensures.items ∙ ap (λ (l : List Untold). l ++ handed c.args.conv c.args.way (chunk_list (open_in c.in_ok-entered.entered.closed))) c.reserve.ensures.items)
    ∙ append_assoc s.waiting _ _ ∙ ap (λ (l : List Untold). s.waiting ++ l) (sym (handed_both c.args.conv c.args.way _ _) ∙ ap (handed c.args.conv c.args.way) over) in
    let same : c.book_datagram.new.book.items ≡ s.book = c.in_err-book_datagram.ensures.err in
    let peak : c.max-self-inside.result ≡ max s.peak e.budget.used = omega (arith, c.used.ensures.used, ap (λ (b : BudgetParts). b.used) budget) in
    subst IsSound (λ i. state_with s (sym budget i) (sym table i) (sym waits i) c.book_datagram.new.book.items (s.came + length c.args.payload.now) (sym peak i) s.refused)
    (sound_datagram s c.args.place c.args.conv d c.args.way c.args.number c.args.now c.args.payload.now c.book_datagram.new.book.items s.refused c.self.invariant within
    (omega (arith, ap (λ (l : List CoreEntry). length l) same)) (omega (arith, c.self.invariant.refusals, ap (λ (l : List CoreEntry). length l) same)))

pub invariant_of-self-2 : goal.invariant_of-self-2
invariant_of-self-2 c =
    let s : State = record { mark = c.self.inside.mark; least = c.self.inside.least; budget = c.self.inside.budget; table = c.self.inside.table; waiting = c.self.inside.waiting.items; text = c.self.inside.served; book = c.self.inside.book.items; answered = c.self.inside.answered; came = c.self.inside.came; peak = c.self.inside.peak; refused = c.self.inside.refused } in
    let within : c.args.place < length s.table = omega (arith, ap (λ (r : State). length r.table) c.self.view_is) in
    let d : Conversation = an_element s.table c.args.place within in
    let e : Entry = entered s.mark s.least s.budget (half_of c.args.way (get_or s.table c.args.place d)) c.args.payload.now in
    let budget : c.enter_place.new.budget ≡ e.budget = c.in_ok-entered.ensures.budget d in
    let table : c.enter_place.new.table ≡ set s.table c.args.place (conversation_with c.args.way e (length c.args.payload.now) (get_or s.table c.args.place d)) = c.in_ok-entered.ensures.table d in
    let over : chunk_list (open_in c.in_ok-entered.entered.closed) ++ chunk_list (open_in c.in_ok-entered.entered.full) ≡ e.over = c.in_ok-entered.ensures.over d in
    let waits : c.hold-2.new.waiting.items ≡ s.waiting ++ handed c.args.conv c.args.way e.over
    = c.hold-2.ensures.items
    ∙ ap (λ (l : List Untold). l ++ handed c.args.conv c.args.way (chunk_list (open_in c.in_ok-entered.entered.full))) (c.hold.ensures.items ∙ ap (λ (l : List Untold). l ++ handed c.args.conv c.args.way (chunk_list (open_in c.in_ok-entered.entered.closed))) c.reserve.ensures.items)
    ∙ append_assoc s.waiting _ _ ∙ ap (λ (l : List Untold). s.waiting ++ l) (sym (handed_both c.args.conv c.args.way _ _) ∙ ap (handed c.args.conv c.args.way) over) in
    let more : length c.book_datagram.new.book.items ≡ length s.book + 1 = omega (arith, ap (λ (l : List CoreEntry). length l) c.in_ok-book_datagram.ensures.ok, length-append {A = CoreEntry}) in
    let peak : c.max-self-inside.result ≡ max s.peak e.budget.used = omega (arith, c.used.ensures.used, ap (λ (b : BudgetParts). b.used) budget) in
    subst IsSound (λ i. state_with s (sym budget i) (sym table i) (sym waits i) c.book_datagram.new.book.items (s.came + length c.args.payload.now) (sym peak i) (s.refused + c.refusals_in-refusals.result))
    (sound_datagram s c.args.place c.args.conv d c.args.way c.args.number c.args.now c.args.payload.now c.book_datagram.new.book.items (s.refused + c.refusals_in-refusals.result) c.self.invariant within
    (omega (arith, more)) (omega (arith, c.self.invariant.refusals, more, c.refusals_in-refusals.ensures.one)))

pub returns-clause-state : goal.returns-clause-state
returns-clause-state c =
    let s : State = record { mark = c.self.inside.mark; least = c.self.inside.least; budget = c.self.inside.budget; table = c.self.inside.table; waiting = c.self.inside.waiting.items; text = c.self.inside.served; book = c.self.inside.book.items; answered = c.self.inside.answered; came = c.self.inside.came; peak = c.self.inside.peak; refused = c.self.inside.refused } in
    subst (λ (r : State). HoldsAt (λ k. state_with s c.enter_place.new.budget c.enter_place.new.table c.hold-2.new.waiting.items c.book_datagram.new.book.items (s.came + length c.args.payload.now) c.max-self-inside.result (s.refused + c.refusals_in-refusals.result) ≡ with_datagram_at r c.args.place c.args.conv k c.args.way c.args.number c.args.now c.args.payload.now) r.table c.args.place) c.self.view_is
    (λ d.
    let e : Entry = entered s.mark s.least s.budget (half_of c.args.way (get_or s.table c.args.place d)) c.args.payload.now in
    let budget : c.enter_place.new.budget ≡ e.budget = c.in_ok-entered.ensures.budget d in
    let table : c.enter_place.new.table ≡ set s.table c.args.place (conversation_with c.args.way e (length c.args.payload.now) (get_or s.table c.args.place d)) = c.in_ok-entered.ensures.table d in
    let over : chunk_list (open_in c.in_ok-entered.entered.closed) ++ chunk_list (open_in c.in_ok-entered.entered.full) ≡ e.over = c.in_ok-entered.ensures.over d in
    let looks : option_to_list c.in_ok-entered.entered.look ≡ e.looks = c.in_ok-entered.ensures.looks d in
    let waits : c.hold-2.new.waiting.items ≡ s.waiting ++ handed c.args.conv c.args.way e.over
    = c.hold-2.ensures.items
    ∙ ap (λ (l : List Untold). l ++ handed c.args.conv c.args.way (chunk_list (open_in c.in_ok-entered.entered.full))) (c.hold.ensures.items ∙ ap (λ (l : List Untold). l ++ handed c.args.conv c.args.way (chunk_list (open_in c.in_ok-entered.entered.closed))) c.reserve.ensures.items)
    ∙ append_assoc s.waiting _ _ ∙ ap (λ (l : List Untold). s.waiting ++ l) (sym (handed_both c.args.conv c.args.way _ _) ∙ ap (handed c.args.conv c.args.way) over) in
    let book : c.book_datagram.new.book.items ≡ s.book ++ record { conv = c.args.conv; entry = E.Seg c.args.number c.args.now e.looks [] } ∷ []
    = c.in_ok-book_datagram.ensures.ok ∙ ap (λ (l : List LookEntry). s.book ++ record { conv = c.args.conv; entry = E.Seg c.args.number c.args.now l [] } ∷ []) looks in
    let peak : c.max-self-inside.result ≡ max s.peak e.budget.used = omega (arith, c.used.ensures.used, ap (λ (b : BudgetParts). b.used) budget) in
    let refusals : s.refused + c.refusals_in-refusals.result ≡ s.refused + refused e.looks = ap (λ (n : ℕ). s.refused + n) (c.refusals_in-refusals.ensures.refused ∙ ap refused looks) in
    λ i. state_with s (budget i) (table i) (waits i) (book i) (s.came + length c.args.payload.now) (peak i) (refusals i))
