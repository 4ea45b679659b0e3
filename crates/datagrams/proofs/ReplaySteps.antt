-- The steps of a replay of datagrams as its journal has them, and the run of the whole journal.
use Rattle.std.specs.Prelude.{◌≡◌, refl, ℕ, zero, suc, ◌+◌, ◌≤◌, ◌<◌, true, false, List, [], ◌∷◌, ◌++◌, length, map, replicate, Option, None, Some}
use Rattle.std.proofs.Common.{sym, ◌∙◌, ap, subst, append-nil}
use mathlib.Core.List.{append_assoc}
use Rattle.evring.specs.Advice.{no_advice}
use Rattle.evring.specs.declared.reason.Reason.TheVariants.{Finish}
use Rattle.evring.specs.declared.way.Way.{Way}
use Rattle.streamkey.specs.declared.key.Key.{Key}
use Rattle.streamkey.specs.declared.toward.Toward.{Toward}
use Rattle.prio_budget.specs.declared.free.Free.{Free}
use Rattle.histbook.specs.declared.look_entry.LookEntry.{LookEntry}
use Rattle.histbook.specs.declared.journal.Journal.{Journal}
use Rattle.histbook.specs.declared.core_entry.CoreEntry.{CoreEntry}
use Rattle.histbook.specs.declared.entry.Entry.TheVariants as E
use Rattle.histbook.specs.Moves.{IsBudgetHistory}
use Rattle.streamdefs.specs.Lists.{Each, is_empty}
use Rattle.streamdefs.specs.Packet.{Packet, is_tcp, same_key}
use Rattle.streamdefs.specs.Terms.{Terms}
use Rattle.streamdefs.specs.View.{Ask}
use Rattle.streamdefs.specs.Reorder.{Charge}
use Rattle.streamdefs.specs.Handler.{event_line, data_line}
use Rattle.streamdefs.specs.Convo.{Convo, Event, new_convo}
use Rattle.streamdefs.specs.Convo.Act.{Seg, Answer, End}
use Rattle.streamdefs.specs.Core.{Line, Core, Told, idle_core, core_at}
use Rattle.streamdefs.specs.Lawful.{Lawful, AreLooksFor, FinishesInOrder}
use Rattle.streamdefs.specs.Order.{OneHistory, AreAboveCharges}
use Rattle.streamdefs.specs.WorkerText.{worker_text}
use Rattle.streamdefs.specs.Case.{packet_of, line_of, run_of}
use Rattle.datagrams.specs.Flow.{OpenChunk, charge_for, joined, plain}
use Rattle.datagrams.specs.Talk.{Talk, TalksFor, delivered}
use Rattle.datagrams.specs.Table.{Kept, HasNoId, HasNoKey, told_of}
use Rattle.histbook.specs.InTurn.{BudgetStep, GiveBack, IsInTurn, entry_steps, book_steps, stamp_behind, used_behind}
use Rattle.datagrams.proofs.CoreSteps.{seg_core, new_core, end_core}
use Rattle.datagrams.proofs.AssembleLemmas.{frees_turn, line_at_seg, single, single_run}
use Rattle.datagrams.proofs.Replayed.{book_grows, replayed_more, replayed_answer, replayed_lawful, replayed_history, single_is, above_in_turn}
use Rattle.datagrams.specs.Steps.{DoesEnd, DoesOne}
use Rattle.datagrams.specs.Replay.{Replayed, charges_in, seen_by, silent}

-- the packets so far, and a journal's book for its lines
abbrev core_of : Terms → List Packet → List CoreEntry → Core
core_of terms packets book = core_at terms idle_core (map (line_of packets) book)

on_book : (terms : Terms) (last first : ℕ) (packets done : List Packet) (book : List CoreEntry) (entry : CoreEntry) (line : Line) (table : List Kept) (waiting : List Told) (finished : Option ℕ)
    (answered : ℕ) (text : List ℕ) → line_of packets entry ≡ line
    → Replayed terms last first done (map (line_of packets) book ++ line ∷ []) table waiting finished answered text
    → Replayed terms last first done (map (line_of packets) (book ++ entry ∷ [])) table waiting finished answered text
on_book terms last first packets done book entry line table waiting finished answered text e r =
    subst (λ (lines : List Line). Replayed terms last first done lines table waiting finished answered text) (sym (book_grows packets book entry line e)) r

-- A datagram of a conversation that is kept.
pub replayed_seg : (t : Terms) (last first : ℕ) (packets done : List Packet) (book : List CoreEntry) (xs : List Kept) (k : Talk) (ys : List Kept) (waiting : List Told) (answered : ℕ) (text : List ℕ)
    (p : Packet) (looks : List LookEntry) (asked : List Ask) (events : List Event) (next : Talk)
    → Replayed (plain t) last first done (map (line_of packets) book) (xs ++ record { live = true; talk = k } ∷ ys) waiting None answered text
    → packet_of packets p.number ≡ p
    → HasNoId k.id xs → HasNoId k.id ys → HasNoKey p.key ys → same_key k.key p.key ≡ true → is_tcp p ≡ false → next.id ≡ k.id
    → length waiting < 256 → first ≤ p.now → p.now < first + t.idle
    → ((c : Convo) → TalksFor true k c → is_empty c.events ≡ false → DoesOne t c (Seg p p.now looks []) asked events next)
    → ((c : Convo) → TalksFor true k c → AreLooksFor (plain t) c looks asked)
    → Replayed (plain t) last first (done ++ p ∷ []) (map (line_of packets) (book ++ record { conv = k.id; entry = E.Seg p.number p.now looks [] } ∷ []))
    (xs ++ record { live = true; talk = next } ∷ ys) (waiting ++ told_of k.id events) None answered text
replayed_seg t last first packets done book xs k ys waiting answered text p looks asked events next r here ids_x ids_y keys same udp same_id room from until does fit =
    on_book (plain t) last first packets (done ++ p ∷ []) book (record { conv = k.id; entry = E.Seg p.number p.now looks [] }) (record { conv = k.id; act = Seg p p.now looks [] })
    (xs ++ record { live = true; talk = next } ∷ ys) (waiting ++ told_of k.id events) None answered text (line_at_seg packets p k.id p.now looks [] here)
    (replayed_more (plain t) last first done (p ∷ []) (map (line_of packets) book) (record { conv = k.id; act = Seg p p.now looks [] }) (xs ++ record { live = true; talk = k } ∷ ys)
    (xs ++ record { live = true; talk = next } ∷ ys) waiting (waiting ++ told_of k.id events) None None answered text r
    (seg_core t last first xs k ys waiting (core_of (plain t) packets book) p looks asked events next r.stands ids_x ids_y keys same udp same_id room from until does fit) refl refl refl)

-- A datagram that opens a conversation. No event waits then.
pub replayed_new : (t : Terms) (last first : ℕ) (packets done : List Packet) (book : List CoreEntry) (ks : List Kept) (answered : ℕ) (text : List ℕ)
    (p : Packet) (looks : List LookEntry) (asked : List Ask) (events : List Event) (next : Talk)
    → Replayed (plain t) last first done (map (line_of packets) book) ks [] None answered text
    → packet_of packets p.number ≡ p
    → HasNoId p.number ks → HasNoKey p.key ks → is_tcp p ≡ false → next.id ≡ p.number → is_empty events ≡ false → first ≤ p.now → p.now < first + t.idle
    → DoesOne t (new_convo p) (Seg p p.now looks []) asked events next
    → AreLooksFor (plain t) (new_convo p) looks asked
    → Replayed (plain t) last first (done ++ p ∷ []) (map (line_of packets) (book ++ record { conv = p.number; entry = E.Seg p.number p.now looks [] } ∷ []))
    (ks ++ record { live = true; talk = next } ∷ []) (told_of p.number events) None answered text
replayed_new t last first packets done book ks answered text p looks asked events next r here ids keys udp same_id some from until does fit =
    on_book (plain t) last first packets (done ++ p ∷ []) book (record { conv = p.number; entry = E.Seg p.number p.now looks [] }) (record { conv = p.number; act = Seg p p.now looks [] })
    (ks ++ record { live = true; talk = next } ∷ []) (told_of p.number events) None answered text (line_at_seg packets p p.number p.now looks [] here)
    (replayed_more (plain t) last first done (p ∷ []) (map (line_of packets) book) (record { conv = p.number; act = Seg p p.now looks [] }) ks
    (ks ++ record { live = true; talk = next } ∷ []) [] (told_of p.number events) None None answered text r
    (new_core t last first ks (core_of (plain t) packets book) p looks asked events next r.stands ids keys udp same_id some from until does fit) refl refl refl)

-- The answer to the first event that waits.
pub replayed_served : (t : Terms) (last first : ℕ) (packets done : List Packet) (book : List CoreEntry) (xs : List Kept) (k : Kept) (ys : List Kept) (w : Told) (waiting : List Told) (finished : Option ℕ)
    (answered : ℕ) (text : List ℕ) (frees : List Free)
    → Replayed (plain t) last first done (map (line_of packets) book) (xs ++ k ∷ ys) (w ∷ waiting) finished answered text
    → HasNoId w.conv xs → HasNoId w.conv ys → k.talk.id ≡ w.conv
    → map (λ free. free.bytes) frees ≡ map (λ charge. charge.bytes) (charges_in w.event)
    → AreAboveCharges (charges_in w.event) frees
    → Replayed (plain t) last first done (map (line_of packets) (book ++ record { conv = w.conv; entry = E.Answer (suc answered) no_advice frees } ∷ [])) (xs ++ k ∷ ys) waiting finished (suc answered)
    (text ++ event_line w.conv (seen_by k.talk.key k.talk.toward w.event))
replayed_served t last first packets done book xs k ys w waiting finished answered text frees r ids_x ids_y same freed above =
    on_book (plain t) last first packets done book (record { conv = w.conv; entry = E.Answer (suc answered) no_advice frees }) (record { conv = w.conv; act = Answer (suc answered) no_advice frees })
    (xs ++ k ∷ ys) waiting finished (suc answered) (text ++ event_line w.conv (seen_by k.talk.key k.talk.toward w.event)) refl
    (replayed_answer t last first done (map (line_of packets) book) xs k ys w waiting finished answered text frees r ids_x ids_y same freed above)

-- The End of a conversation at the end of the capture.
pub replayed_end : (t : Terms) (last first : ℕ) (packets done : List Packet) (book : List CoreEntry) (xs : List Kept) (k : Talk) (ys : List Kept) (waiting : List Told) (finished : Option ℕ)
    (answered : ℕ) (text : List ℕ) (events : List Event) (next : Talk)
    → Replayed (plain t) last first done (map (line_of packets) book) (xs ++ record { live = true; talk = k } ∷ ys) waiting finished answered text
    → HasNoId k.id xs → HasNoId k.id ys → next.id ≡ k.id → length waiting < 256 → last < first + t.idle
    → FinishesInOrder finished k.id (End last Finish [] [])
    → ((c : Convo) → TalksFor true k c → DoesEnd t c (End last Finish [] []) events next)
    → Replayed (plain t) last first done (map (line_of packets) (book ++ record { conv = k.id; entry = E.End last Finish [] [] } ∷ []))
    (xs ++ record { live = false; talk = next } ∷ ys) (waiting ++ told_of k.id events) (Some k.id) answered text
replayed_end t last first packets done book xs k ys waiting finished answered text events next r ids_x ids_y same_id room until order does =
    on_book (plain t) last first packets done book (record { conv = k.id; entry = E.End last Finish [] [] }) (record { conv = k.id; act = End last Finish [] [] })
    (xs ++ record { live = false; talk = next } ∷ ys) (waiting ++ told_of k.id events) (Some k.id) answered text refl
    (subst (λ (l : List Packet). Replayed (plain t) last first l (map (line_of packets) book ++ record { conv = k.id; act = End last Finish [] [] } ∷ [])
    (xs ++ record { live = false; talk = next } ∷ ys) (waiting ++ told_of k.id events) (Some k.id) answered text) (append-nil done)
    (replayed_more (plain t) last first done [] (map (line_of packets) book) (record { conv = k.id; act = End last Finish [] [] }) (xs ++ record { live = true; talk = k } ∷ ys)
    (xs ++ record { live = false; talk = next } ∷ ys) waiting (waiting ++ told_of k.id events) finished (Some k.id) answered text r
    (end_core t last first xs k ys waiting finished (core_of (plain t) packets book) events next r.stands ids_x ids_y same_id room until order does) refl refl refl))

-- Steps in turn go on.

pub in_turn_on : (limit : ℕ) (xs ys : List BudgetStep) (stamp used middle mid_used last_stamp last_used : ℕ)
    → IsInTurn limit xs stamp used middle mid_used → IsInTurn limit ys middle mid_used last_stamp last_used → IsInTurn limit (xs ++ ys) stamp used last_stamp last_used
in_turn_on limit [] ys stamp used middle mid_used last_stamp last_used x y = subst (λ (s : ℕ × ℕ). IsInTurn limit ys s.0 s.1 last_stamp last_used) (λ i. (x.0 i, x.1 i)) y
in_turn_on limit (step ∷ xs) ys stamp used middle mid_used last_stamp last_used x y =
    (x.0, in_turn_on limit xs ys (stamp_behind step stamp) (used_behind step used) middle mid_used last_stamp last_used x.1 y)

pub steps_grow : (book : List CoreEntry) (entry : CoreEntry) → book_steps (book ++ entry ∷ []) ≡ book_steps book ++ entry_steps entry
steps_grow [] entry = append-nil (entry_steps entry)
steps_grow (e ∷ book) entry = ap (λ (l : List BudgetStep). entry_steps e ++ l) (steps_grow book entry) ∙ sym (append_assoc (entry_steps e) (book_steps book) (entry_steps entry))

pub in_turn_more : (limit : ℕ) (book : List CoreEntry) (entry : CoreEntry) (stamp used middle mid_used last_stamp last_used : ℕ)
    → IsInTurn limit (book_steps book) stamp used middle mid_used → IsInTurn limit (entry_steps entry) middle mid_used last_stamp last_used
    → IsInTurn limit (book_steps (book ++ entry ∷ [])) stamp used last_stamp last_used
in_turn_more limit book entry stamp used middle mid_used last_stamp last_used x y =
    subst (λ (l : List BudgetStep). IsInTurn limit l stamp used last_stamp last_used) (sym (steps_grow book entry))
    (in_turn_on limit (book_steps book) (entry_steps entry) stamp used middle mid_used last_stamp last_used x y)

-- the frees of an answer, done in turn behind all its charges, are above them
pub answer_above : (limit stamp used last_stamp last_used conv event : ℕ) (frees : List Free) (charges : List Charge)
    → IsInTurn limit (entry_steps (record { conv = conv; entry = E.Answer event no_advice frees })) stamp used last_stamp last_used
    → Each (λ charge. charge.stamp < stamp) charges → map (λ free. free.bytes) frees ≡ map (λ charge. charge.bytes) charges
    → AreAboveCharges charges frees
answer_above limit stamp used last_stamp last_used conv event frees charges turn below same =
    above_in_turn stamp charges frees below
    (frees_turn limit stamp used last_stamp last_used frees [] (subst (λ (l : List BudgetStep). IsInTurn limit l stamp used last_stamp last_used) (sym (append-nil (map GiveBack frees))) turn)).0 same

-- A chunk that is handed over: the charges that its answer gives back, and its line.

pub charges_delivered : (way : Way) (o : OpenChunk) → charges_in (delivered way o) ≡ map charge_for o.parts
charges_delivered way o = append-nil (map charge_for o.parts)

pub line_delivered : (conv : ℕ) (key : Key) (toward : Toward) (way : Way) (o : OpenChunk) → event_line conv (seen_by key toward (delivered way o)) ≡ data_line conv way o.start o.gap 0 0 (joined o.parts)
line_delivered conv key toward way o = refl

-- The worker's list.

pub one_zero_more : (n : ℕ) → replicate n zero ++ zero ∷ [] ≡ replicate (suc n) zero
one_zero_more zero = refl
one_zero_more (suc n) = ap (λ (l : List ℕ). zero ∷ l) (one_zero_more n)

pub all_zeros : (list : List ℕ) → Each (λ c. c ≡ 0) list → list ≡ replicate (length list) 0
all_zeros [] h = refl
all_zeros (c ∷ list) h = λ i. h.0 i ∷ all_zeros list h.1 i

-- The whole journal: its run is lawful, one budget history, and its worker's text is what was written.
pub replayed_journal : (terms : Terms) (last first : ℕ) (packets : List Packet) (journal : Journal) (book : List CoreEntry) (table : List Kept) (finished : Option ℕ) (n end : ℕ) (text : List ℕ)
    → journal.cores ≡ book ∷ [] → journal.workers ≡ replicate n 0 ∷ []
    → Replayed terms last first packets (map (line_of packets) book) table [] finished n text
    → Each (λ k. k.live ≡ false) table
    → IsInTurn terms.marks.limit (book_steps book) 0 0 end 0
    → IsBudgetHistory terms.marks.limit journal
    → Lawful (run_of terms packets (λ p. 0) 1 last (silent ∷ []) journal) × OneHistory (run_of terms packets (λ p. 0) 1 last (silent ∷ []) journal)
    × (worker_text (run_of terms packets (λ p. 0) 1 last (silent ∷ []) journal) (replicate n 0) ≡ text)
replayed_journal terms last first packets journal book table finished n end text cores workers r dead turn history =
    subst (λ (j : Journal). Lawful (run_of terms packets (λ p. 0) 1 last (silent ∷ []) j) × OneHistory (run_of terms packets (λ p. 0) 1 last (silent ∷ []) j)
    × (worker_text (run_of terms packets (λ p. 0) 1 last (silent ∷ []) j) (replicate n 0) ≡ text)) same (
      lawful.0,
      replayed_history terms last first packets book table [] finished n text terms.marks.limit 0 end 0 r turn
          (subst (IsBudgetHistory terms.marks.limit) (sym same) history),
      lawful.1,
    )
  where
    same : single book n ≡ journal
    same = single_is journal book n cores workers

    lawful : Lawful (single_run terms packets last book n) × (worker_text (single_run terms packets last book n) (replicate n 0) ≡ text)
    lawful = replayed_lawful terms last first packets book table finished n text r dead
