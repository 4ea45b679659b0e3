-- A replay of datagrams so far, one entry more, and the run at its end.
use Rattle.std.specs.Prelude.{◌≡◌, refl, ℕ, zero, suc, ◌<◌, Bool, true, false, cond, ◌&&◌, List, [], ◌∷◌, ◌++◌, length, take, drop, map, flat_map, replicate, Option, None, Some}
use Rattle.std.proofs.Common.{sym, ◌∙◌, ap, subst, arith, append-nil}
use Rattle.std.proofs.lemmas.List.{length-map, map-append, drop-map, take-append-le}
use Rattle.std.proofs.lemmas.List.Concat.{flat_map-append}
use Rattle.std.proofs.Math.Seq.{take-length}
use Rattle.evring.specs.Advice.{no_advice}
use Rattle.prio_budget.specs.declared.free.Free.{Free}
use Rattle.histbook.specs.declared.journal.Journal.{Journal}
use Rattle.histbook.specs.declared.core_entry.CoreEntry.{CoreEntry}
use Rattle.histbook.specs.Moves.{IsBudgetHistory}
use Rattle.streamdefs.specs.Lists.{Each}
use Rattle.streamdefs.specs.Packet.{Packet}
use Rattle.streamdefs.specs.Terms.{Terms}
use Rattle.streamdefs.specs.Reorder.{Charge}
use Rattle.streamdefs.specs.Handler.{event_line}
use Rattle.streamdefs.specs.Convo.{Convo, Event, seen_of, frees_in, events_in, released, given_back, answered_event, charges_of, kept_of, is_live}
use Rattle.streamdefs.specs.Convo.Act.{Answer}
use Rattle.streamdefs.specs.Convo.Event.{New, Chunk, Ended}
use Rattle.streamdefs.specs.Core.{Line, Core, Told, idle_core, core_after, core_at, found_by, find_convo, is_answer}
use Rattle.streamdefs.specs.Lawful.{Lawful, segs_in}
use Rattle.streamdefs.specs.Order.{OneHistory, AreAboveCharges}
use Rattle.streamdefs.specs.WorkerText.{lines_of, worker_text}
use Rattle.streamdefs.specs.Case.{line_of}
use Rattle.streamdefs.proofs.Pushes.{Along_push, core_at_push}
use Rattle.streamdefs.proofs.Histories.{found_is}
use Rattle.datagrams.specs.Flow.{plain}
use Rattle.datagrams.specs.Table.{Kept, StandsForCore, HasNoId, own}
use Rattle.histbook.specs.InTurn.{IsInTurn, book_steps}
use Rattle.datagrams.specs.Assembled.{FreesInTurn, FreesAbove}
use Rattle.datagrams.proofs.TableLemmas.{Split, split, none_has, find_at, own_next, drop_next}
use Rattle.datagrams.proofs.CoreSteps.{answer_core}
use Rattle.datagrams.proofs.AssembleLemmas.{lawful_book, lawful_single, single, single_run, single_text, single_order, all_answered}
use Rattle.datagrams.proofs.LinesGrow.{lines_grow}
use Rattle.datagrams.proofs.SameHistory.{same_history}
use Rattle.datagrams.specs.Replay.{AllOpened, IsLawfulEntry, Replayed, charges_in, line_among, line_told, seen_by}

-- before the first entry
pub replayed_none : (terms : Terms) (last first : ℕ) → Replayed terms last first [] [] [] [] None 0 []
replayed_none terms last first = record {
  laws = tt;
  above = tt;
  segs = refl;
  opened = tt;
  stands = record { all = tt; unanswered = refl; answered = omega arith; owed = refl; calm = tt; timed = refl; finished_is = refl };
  count = refl;
  written = refl;
}

-- one entry more in a journal's book
pub book_grows : (packets : List Packet) (book : List CoreEntry) (entry : CoreEntry) (line : Line) → line_of packets entry ≡ line
    → map (line_of packets) (book ++ entry ∷ []) ≡ map (line_of packets) book ++ line ∷ []
book_grows packets book entry line e = map-append (line_of packets) book (entry ∷ []) ∙ ap (λ (l : Line). map (line_of packets) book ++ l ∷ []) e

segs_grow : (xs ys : List Line) → segs_in (xs ++ ys) ≡ segs_in xs ++ segs_in ys
segs_grow xs ys = flat_map-append _ xs ys

-- what stands behind an entry
record Behind (first : ℕ) (table : List Kept) (waiting : List Told) (finished : Option ℕ) (answered : ℕ) (text : List ℕ) (core : Core) : Type 0 where
  opened : AllOpened core
  stands : StandsForCore first table waiting finished core
  count : core.answered ≡ answered
  written : flat_map (λ l. l) (take core.answered (lines_of core)) ≡ text

push : (terms : Terms) (last first : ℕ) (done more : List Packet) (lines : List Line) (line : Line) (table next_table : List Kept) (waiting next_waiting : List Told) (finished next_finished : Option ℕ)
    (answered next_answered : ℕ) (text next_text : List ℕ)
    → Replayed terms last first done lines table waiting finished answered text
    → IsLawfulEntry terms last (core_at terms idle_core lines) line → FreesAbove terms (core_at terms idle_core lines) line
    → segs_in (line ∷ []) ≡ map (λ p. (p, p.now)) more
    → Behind first next_table next_waiting next_finished next_answered next_text (core_after terms (core_at terms idle_core lines) line)
    → Replayed terms last first (done ++ more) (lines ++ line ∷ []) next_table next_waiting next_finished next_answered next_text
push terms last first done more lines line table next_table waiting next_waiting finished next_finished answered next_answered text next_text r law above seg here = record {
  laws = Along_push terms (IsLawfulEntry terms last) idle_core lines line r.laws law;
  above = Along_push terms (FreesAbove terms) idle_core lines line r.above above;
  segs = segs_grow lines (line ∷ []) ∙ (λ i. r.segs i ++ seg i) ∙ sym (map-append (λ p. (p, p.now)) done more);
  opened = behind.opened;
  stands = behind.stands;
  count = behind.count;
  written = behind.written;
}
  where
    behind : Behind first next_table next_waiting next_finished next_answered next_text (core_at terms idle_core (lines ++ line ∷ []))
    behind = subst (Behind first next_table next_waiting next_finished next_answered next_text) (sym (core_at_push terms idle_core lines line)) here

-- An entry that is no answer: with `seg_core`, `new_core` or `end_core`.
pub replayed_more : (terms : Terms) (last first : ℕ) (done more : List Packet) (lines : List Line) (line : Line) (table next_table : List Kept) (waiting next_waiting : List Told)
    (finished next_finished : Option ℕ) (answered : ℕ) (text : List ℕ)
    → Replayed terms last first done lines table waiting finished answered text
    → IsLawfulEntry terms last (core_at terms idle_core lines) line × StandsForCore first next_table next_waiting next_finished (core_after terms (core_at terms idle_core lines) line)
    → is_answer line.act ≡ false → frees_in line.act ≡ [] → segs_in (line ∷ []) ≡ map (λ p. (p, p.now)) more
    → Replayed terms last first (done ++ more) (lines ++ line ∷ []) next_table next_waiting next_finished answered text
replayed_more terms last first done more lines line table next_table waiting next_waiting finished next_finished answered text r step no_answer no_frees seg =
    push terms last first done more lines line table next_table waiting next_waiting finished next_finished answered answered text text r step.0
    (subst (AreAboveCharges (released terms (found_by core line) line.act)) (sym no_frees) tt) seg (record { opened = grown.1; stands = step.1; count = same ∙ r.count; written = unchanged })
  where
    core : Core
    core = core_at terms idle_core lines

    new : List (List ℕ)
    new = map (λ event. event_line line.conv (seen_of (found_by core line).first event)) (events_in terms (found_by core line) line.act)

    grown : (lines_of (core_after terms core line) ≡ lines_of core ++ new) × AllOpened (core_after terms core line)
    grown = lines_grow terms core line r.opened

    same : (core_after terms core line).answered ≡ core.answered
    same = ap (λ (b : Bool). cond b (suc core.answered) core.answered) no_answer

    unchanged : flat_map (λ l. l) (take (core_after terms core line).answered (lines_of (core_after terms core line))) ≡ text
    unchanged =
        (λ i. flat_map (λ l. l) (take (same i) (grown.0 i)))
        ∙ ap (flat_map (λ l. l)) (take-append-le core.answered (lines_of core) new (omega (arith, r.stands.answered, length-map core.events (line_among core.convos)))) ∙ r.written

seen_is : (first : Packet) (event : Event) → seen_of first event ≡ seen_by first.key first.toward event
seen_is first New = refl
seen_is first (Chunk d) = refl
seen_is first (Ended reason) = refl

take_next : {X : Type 0} (n : ℕ) (xs : List X) (y : X) (ys : List X) → drop n xs ≡ y ∷ ys → take (suc n) xs ≡ take n xs ++ y ∷ []
take_next zero [] y ys e = absurd cc
take_next {X = X} zero (x ∷ xs) y ys e = ap (λ (l : List X). take 1 l) e
take_next (suc n) [] y ys e = absurd cc
take_next {X = X} (suc n) (x ∷ xs) y ys e = ap (λ (l : List X). x ∷ l) (take_next n xs y ys e)

joined_next : (ls : List (List ℕ)) (l : List ℕ) → flat_map (λ l. l) (ls ++ l ∷ []) ≡ flat_map (λ l. l) ls ++ l
joined_next ls l = flat_map-append (λ l. l) ls (l ∷ []) ∙ ap (λ (m : List ℕ). flat_map (λ l. l) ls ++ m) (append-nil l)

given_is : (c : Convo) (event : Event) → given_back c no_advice (Some event) ≡ charges_in event
given_is c New = refl
given_is c (Chunk d) = by (is_live c)
  where
    by : (b : Bool) → cond (b && false) [] (charges_of (kept_of d)) ≡ charges_of (kept_of d)
    by true = refl
    by false = refl
given_is c (Ended reason) = refl

-- the conversation of the first event that waits
record Waited (core : Core) (w : Told) (k : Kept) : Type 0 where
  convo : Convo
  known : find_convo w.conv core.convos ≡ Some convo
  key : convo.first.key ≡ k.talk.key
  toward : convo.first.toward ≡ k.talk.toward
  next : answered_event convo ≡ Some w.event

waited : (first : ℕ) (xs : List Kept) (k : Kept) (ys : List Kept) (w : Told) (waiting : List Told) (finished : Option ℕ) (core : Core)
    → StandsForCore first (xs ++ k ∷ ys) (w ∷ waiting) finished core → HasNoId w.conv xs → k.talk.id ≡ w.conv → Waited core w k
waited first xs k ys w waiting finished core st ids same = record {
  convo = s.here.convo;
  known = ap (find_convo w.conv) s.is ∙ find_at w.conv s.before s.here s.behind (none_has first (w ∷ waiting) w.conv xs s.before s.earlier ids) here_id;
  key = s.one.talks.key;
  toward = s.one.talks.toward;
  next = (drop_next s.here.convo.answered s.here.convo.events w.event (own s.here.id waiting) (s.one.unanswered ∙ own_next w waiting s.here.id (sym here_id))).0;
}
  where
    s : Split first (w ∷ waiting) xs k ys core.convos
    s = split first (w ∷ waiting) xs k ys core.convos st.all

    here_id : s.here.id ≡ w.conv
    here_id = s.one.id ∙ same

-- An answer to the first event that waits writes its line.
pub replayed_answer : (t : Terms) (last first : ℕ) (done : List Packet) (lines : List Line) (xs : List Kept) (k : Kept) (ys : List Kept) (w : Told) (waiting : List Told) (finished : Option ℕ)
    (answered : ℕ) (text : List ℕ) (frees : List Free)
    → Replayed (plain t) last first done lines (xs ++ k ∷ ys) (w ∷ waiting) finished answered text
    → HasNoId w.conv xs → HasNoId w.conv ys → k.talk.id ≡ w.conv
    → map (λ free. free.bytes) frees ≡ map (λ charge. charge.bytes) (charges_in w.event)
    → AreAboveCharges (charges_in w.event) frees
    → Replayed (plain t) last first done (lines ++ record { conv = w.conv; act = Answer (suc answered) no_advice frees } ∷ []) (xs ++ k ∷ ys) waiting finished (suc answered)
    (text ++ event_line w.conv (seen_by k.talk.key k.talk.toward w.event))
replayed_answer t last first done lines xs k ys w waiting finished answered text frees r ids_x ids_y same freed above =
    subst (λ (l : List Packet). Replayed (plain t) last first l (lines ++ line ∷ []) (xs ++ k ∷ ys) waiting finished (suc answered) next_text) (append-nil done)
    (push (plain t) last first done [] lines line (xs ++ k ∷ ys) (xs ++ k ∷ ys) (w ∷ waiting) waiting finished finished answered (suc answered) text next_text r step.0 above_them refl
    (record { opened = grown.1; stands = step.1; count = ap suc r.count; written = written }))
  where
    core : Core
    core = core_at (plain t) idle_core lines

    line : Line
    line = record { conv = w.conv; act = Answer (suc answered) no_advice frees }

    own_line : List ℕ
    own_line = event_line w.conv (seen_by k.talk.key k.talk.toward w.event)

    next_text : List ℕ
    next_text = text ++ own_line

    of : Waited core w k
    of = waited first xs k ys w waiting finished core r.stands ids_x same

    numbered : ℕ → Line
    numbered n = record { conv = w.conv; act = Answer (suc n) no_advice frees }

    step : IsLawfulEntry (plain t) last core line × StandsForCore first (xs ++ k ∷ ys) waiting finished (core_after (plain t) core line)
    step = subst (λ (n : ℕ). IsLawfulEntry (plain t) last core (numbered n) × StandsForCore first (xs ++ k ∷ ys) waiting finished (core_after (plain t) core (numbered n))) r.count
        (answer_core t last first xs k ys w waiting finished core frees r.stands ids_x ids_y same freed)

    charges_are : released (plain t) (found_by core line) line.act ≡ charges_in w.event
    charges_are =
        ap (λ (c : Convo). given_back c no_advice (answered_event c)) (found_is core line of.convo of.known) ∙ ap (given_back of.convo no_advice) of.next ∙ given_is of.convo w.event

    above_them : FreesAbove (plain t) core line
    above_them = subst (λ (charges : List Charge). AreAboveCharges charges frees) (sym charges_are) above

    grown : (lines_of (core_after (plain t) core line) ≡ lines_of core ++ []) × AllOpened (core_after (plain t) core line)
    grown = lines_grow (plain t) core line r.opened

    line_is : line_among core.convos w ≡ own_line
    line_is =
        ap (line_told w) of.known ∙ ap (event_line w.conv) (seen_is of.convo.first w.event) ∙ (λ i. event_line w.conv (seen_by (of.key i) (of.toward i) w.event))

    left : drop core.answered (lines_of core) ≡ line_among core.convos w ∷ map (line_among core.convos) waiting
    left = drop-map (line_among core.convos) core.answered core.events ∙ ap (map (line_among core.convos)) r.stands.unanswered

    written : flat_map (λ l. l) (take (suc core.answered) (lines_of (core_after (plain t) core line))) ≡ next_text
    written =
        ap (λ (ls : List (List ℕ)). flat_map (λ l. l) (take (suc core.answered) ls)) (grown.0 ∙ append-nil (lines_of core))
        ∙ ap (flat_map (λ l. l)) (take_next core.answered (lines_of core) _ _ left) ∙ joined_next (take core.answered (lines_of core)) (line_among core.convos w) ∙ (λ i. r.written i ++ line_is i)

-- The frees of an answer that stand in turn, behind all its charges.
pub above_in_turn : (n : ℕ) (charges : List Charge) (frees : List Free) → Each (λ charge. charge.stamp < n) charges → FreesInTurn n frees
    → map (λ free. free.bytes) frees ≡ map (λ charge. charge.bytes) charges → AreAboveCharges charges frees
above_in_turn n charges [] below turn same = tt
above_in_turn n [] (free ∷ frees) below turn same = absurd cc
above_in_turn n (charge ∷ charges) (free ∷ frees) below turn same =
    (omega (arith, below.0, turn.0), above_in_turn (suc n) charges frees (raised n charges below.1) turn.1 (ap (λ (l : List ℕ). drop 1 l) same))
  where
    raised : (m : ℕ) (cs : List Charge) → Each (λ charge. charge.stamp < m) cs → Each (λ charge. charge.stamp < suc m) cs
    raised m [] h = tt
    raised m (c ∷ cs) h = (omega (arith, h.0), raised m cs h.1)

-- The run of a journal of one core and one worker whose replay is over.
pub replayed_lawful : (terms : Terms) (last first : ℕ) (packets : List Packet) (book : List CoreEntry) (table : List Kept) (finished : Option ℕ) (n : ℕ) (text : List ℕ)
    → Replayed terms last first packets (map (line_of packets) book) table [] finished n text
    → Each (λ k. k.live ≡ false) table
    → Lawful (single_run terms packets last book n) × (worker_text (single_run terms packets last book n) (replicate n 0) ≡ text)
replayed_lawful terms last first packets book table finished n text r dead = (
  lawful_single terms packets last book n (lawful_book terms last first packets lines table finished r.laws r.segs r.stands dead) served,
  single_text terms packets last book n served ∙ ap (flat_map (λ l. l)) (sym all) ∙ r.written,
)
  where
    lines : List Line
    lines = map (line_of packets) book

    core : Core
    core = core_at terms idle_core lines

    served : n ≡ length core.events
    served = sym r.count ∙ all_answered first table finished core r.stands

    all : take core.answered (lines_of core) ≡ lines_of core
    all =
        ap (λ (m : ℕ). take m (lines_of core)) (all_answered first table finished core r.stands ∙ sym (length-map core.events (line_among core.convos)))
        ∙ take-length (lines_of core)

-- Its budget history, whose steps were done in turn.
pub replayed_history : (terms : Terms) (last first : ℕ) (packets : List Packet) (book : List CoreEntry) (table : List Kept) (waiting : List Told) (finished : Option ℕ) (n : ℕ) (text : List ℕ)
    (limit used end last_used : ℕ)
    → Replayed terms last first packets (map (line_of packets) book) table waiting finished n text
    → IsInTurn limit (book_steps book) 0 used end last_used
    → IsBudgetHistory terms.marks.limit (single book n)
    → OneHistory (single_run terms packets last book n)
replayed_history terms last first packets book table waiting finished n text limit used end last_used r turn history =
    same_history terms packets (λ p. 0) 1 last _ (single book n) history (single_order terms packets last book n limit used end last_used turn r.above (sym r.count))

-- the journal of such a book and such a list
pub single_is : (journal : Journal) (book : List CoreEntry) (n : ℕ) → journal.cores ≡ book ∷ [] → journal.workers ≡ replicate n 0 ∷ [] → single book n ≡ journal
single_is journal book n cores workers = λ i. record { cores = sym cores i; workers = sym workers i }
