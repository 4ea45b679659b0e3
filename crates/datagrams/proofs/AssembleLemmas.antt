-- The laws of a run of datagrams on one core with one worker, from those of its entries.
use Rattle.std.specs.Prelude.{◌≡◌, refl, ⊤, ℕ, zero, suc, ◌+◌, ◌≤◌, Bool, true, false, cond, not, ◌&&◌, ◌==◌, nat_lt, List, [], ◌∷◌, ◌++◌, length, drop, map, filter, find, flat_map, replicate, Option, None, Some, slice_get, unwrap_or}
use Rattle.std.specs.List.{list_all}
use Rattle.std.proofs.Common.{sym, ◌∙◌, ap, subst, arith, append-nil}
use Rattle.std.proofs.lemmas.Bool.Decides.{nat_tests}
use Rattle.std.proofs.lemmas.List.{length-map}
use Rattle.std.proofs.Math.ListN.{length-drop}
use mathlib.Core.List.{append_assoc}
use Rattle.evring.specs.declared.reason.Reason.TheVariants.{Reset, Closed, Idle, Finish, Replaced}
use Rattle.histbook.specs.declared.look_entry.LookEntry.{LookEntry}
use Rattle.histbook.specs.declared.journal.Journal.{Journal}
use Rattle.histbook.specs.declared.core_entry.CoreEntry.{CoreEntry}
use Rattle.histbook.specs.declared.entry.Entry.{Entry}
use Rattle.histbook.specs.declared.entry.Entry.TheVariants as E
use Rattle.prio_budget.specs.declared.free.Free.{Free}
use Rattle.streamdefs.specs.Lists.{Each, how_many, or_nothing}
use Rattle.streamdefs.specs.Packet.{Packet, no_packet}
use Rattle.streamdefs.specs.Terms.{Terms}
use Rattle.streamdefs.specs.Convo.{Act, looks_in, frees_in, is_live}
use Rattle.streamdefs.specs.Convo.Act.{Seg, Answer, Time, End}
use Rattle.streamdefs.specs.Core.{Line, Core, Open, Told, idle_core, core_after, core_at, Along}
use Rattle.streamdefs.specs.Lawful.{CoreRun, LawfulBook, Lawful, Run, EachCore, core_run, segs_in, Segs, Conversations, Dues, Ends, Answers, Window, Looks, Frees, AllEnded, StandsUnder, IsInTime, EndsOnce, IsNextAnswer, HasRoom, HasLooks, HasFrees}
use Rattle.streamdefs.specs.Order.{Rise, FreesRise, LooksRise, WorkersRise, floor_behind, floors_of, AreAbove, AreAllAbove, frees_of_answers, along_served}
use Rattle.streamdefs.specs.WorkerText.{lines_of, served_text, worker_text}
use Rattle.streamdefs.specs.Case.{packet_of, act_of, line_of, run_of}
use Rattle.datagrams.specs.Table.{Kept, AllStand, IsCalm, StandsForCore}
use Rattle.histbook.specs.InTurn.{BudgetStep, Ask, GiveBack, book_steps, used_behind, IsInTurn}
use Rattle.datagrams.specs.Assembled.{RisesFrom, behind_look, behind_looks, behind_entry, LooksInTurn, FreesInTurn, EntryInTurn, BookInTurn, FreesAbove}
use Rattle.histbook.specs.Moves as H
use Rattle.datagrams.proofs.TableLemmas.{drop_next}
use Rattle.datagrams.specs.Replay.{IsLawfulEntry, silent}

-- Laws of each entry.

pub Along_map : (terms : Terms) (P Q : Core → Line → Type 0) → ((core : Core) (line : Line) → P core line → Q core line) → (core : Core) (lines : List Line)
    → Along terms P core lines → Along terms Q core lines
Along_map terms P Q f core [] h = tt
Along_map terms P Q f core (line ∷ lines) h = (f core line h.0, Along_map terms P Q f (core_after terms core line) lines h.1)

pub Along_both : (terms : Terms) (P Q : Core → Line → Type 0) (core : Core) (lines : List Line) → Along terms P core lines → Along terms Q core lines
    → Along terms (λ c line. P c line × Q c line) core lines
Along_both terms P Q core [] p q = tt
Along_both terms P Q core (line ∷ lines) p q = ((p.0, q.0), Along_both terms P Q (core_after terms core line) lines p.1 q.1)

-- The end of a book.

none_live : (first : ℕ) (waiting : List Told) (ks : List Kept) (os : List Open) → AllStand first waiting ks os → Each (λ k. k.live ≡ false) ks
    → list_all (λ o. not (is_live o.convo)) os ≡ true
none_live first waiting [] [] h ended = refl
none_live first waiting [] (o ∷ os) h ended = absurd h
none_live first waiting (k ∷ ks) [] h ended = absurd h
none_live first waiting (k ∷ ks) (o ∷ os) h ended = (λ i. not ((h.0.talks.alive_is ∙ ended.0) i) && none_live first waiting ks os h.1 ended.1 i)

all_ended : (core : Core) → list_all (λ o. not (is_live o.convo)) core.convos ≡ true → IsCalm core.last → AllEnded core
all_ended core dead calm = by core.last calm
  where
    by_act : (conv : ℕ) (a : Act) → IsCalm (Some (record { conv = conv; act = a })) → AllEnded (record core { last = Some (record { conv = conv; act = a }) })
    by_act conv (Seg p now looks frees) c = (dead, tt)
    by_act conv (Answer event advice frees) c = (dead, tt)
    by_act conv (Time at looks frees) c = (dead, tt)
    by_act conv (End at Reset looks frees) c = (dead, tt)
    by_act conv (End at Closed looks frees) c = (dead, tt)
    by_act conv (End at Idle looks frees) c = (dead, tt)
    by_act conv (End at Finish looks frees) c = (dead, tt)
    by_act conv (End at Replaced looks frees) c = absurd c

    by : (l : Option Line) → IsCalm l → AllEnded (record core { last = l })
    by None c = (dead, tt)
    by (Some line) c = by_act line.conv line.act c

-- all are answered where none waits
pub all_answered : (first : ℕ) (table : List Kept) (finished : Option ℕ) (core : Core) → StandsForCore first table [] finished core → core.answered ≡ length core.events
all_answered first table finished core st = omega (arith, length-drop core.answered core.events, ap length st.unanswered, st.answered)

-- The book is lawful.
pub lawful_book : (terms : Terms) (last first : ℕ) (packets : List Packet) (lines : List Line) (table : List Kept) (finished : Option ℕ)
    → Along terms (IsLawfulEntry terms last) idle_core lines
    → segs_in lines ≡ map (λ p. (p, p.now)) packets
    → StandsForCore first table [] finished (core_at terms idle_core lines)
    → Each (λ k. k.live ≡ false) table
    → LawfulBook (record { terms = terms; last = last; packets = packets; handler = silent; lines = lines })
lawful_book terms last first packets lines table finished laws segs st dead = record {
  segs = segs;
  conversations = of (StandsUnder terms) (λ core line h. h.conversations);
  dues = (of (IsInTime terms) (λ core line h. h.dues), omega (arith, st.timed));
  ends = (of (EndsOnce last) (λ core line h. h.ends), all_ended (core_at terms idle_core lines) (none_live first [] table _ st.all dead) st.calm);
  answers = (of (IsNextAnswer silent) (λ core line h. h.answers), all_answered first table finished (core_at terms idle_core lines) st);
  window = of HasRoom (λ core line h. h.window);
  looks = of (HasLooks terms) (λ core line h. h.looks);
  frees = of (HasFrees terms) (λ core line h. h.frees);
}
  where
    of : (Q : Core → Line → Type 0) → ((core : Core) (line : Line) → IsLawfulEntry terms last core line → Q core line) → Along terms Q idle_core lines
    of Q f = Along_map terms (IsLawfulEntry terms last) Q f idle_core lines laws

-- One core and one worker.

keep_all : (packets : List Packet) → filter (λ p. true) packets ≡ packets
keep_all [] = refl
keep_all (p ∷ packets) = ap (λ l. p ∷ l) (keep_all packets)

count_all : (n : ℕ) → how_many (λ c. c == 0) (replicate n 0) ≡ n
count_all zero = refl
count_all (suc n) = ap suc (count_all n)

all_below : (n : ℕ) → list_all (λ c. nat_lt c 1) (replicate n 0) ≡ true
all_below zero = refl
all_below (suc n) = all_below n

-- the journal of one core and one worker that served it as often
abbrev pub single : List CoreEntry → ℕ → Journal
single book n = record { cores = book ∷ []; workers = replicate n 0 ∷ [] }

-- the run that it tells of
abbrev pub single_run : Terms → List Packet → ℕ → List CoreEntry → ℕ → Run
single_run terms packets last book n = run_of terms packets (λ p. 0) 1 last (silent ∷ []) (single book n)

-- its only core's part
abbrev pub single_part : Terms → List Packet → ℕ → List Line → CoreRun
single_part terms packets last lines = record { terms = terms; last = last; packets = packets; handler = silent; lines = lines }

part_is : (terms : Terms) (packets : List Packet) (last : ℕ) (book : List CoreEntry) (n : ℕ) (lines : List Line)
    → core_run (single_run terms packets last book n) 0 lines ≡ single_part terms packets last lines
part_is terms packets last book n lines = ap (λ (ps : List Packet). single_part terms ps last lines) (keep_all packets)

each_single : (terms : Terms) (packets : List Packet) (last : ℕ) (book : List CoreEntry) (n : ℕ) (Part : CoreRun → Type 0)
    → Part (single_part terms packets last (map (line_of packets) book)) → EachCore (single_run terms packets last book n) Part
each_single terms packets last book n Part h = (subst Part (sym (part_is terms packets last book n (map (line_of packets) book))) h, tt)

pub lawful_single : (terms : Terms) (packets : List Packet) (last : ℕ) (book : List CoreEntry) (n : ℕ)
    → LawfulBook (single_part terms packets last (map (line_of packets) book))
    → n ≡ length (core_at terms idle_core (map (line_of packets) book)).events
    → Lawful (single_run terms packets last book n)
lawful_single terms packets last book n h served = record {
  segs = (of Segs h.segs, refl);
  conversations = of Conversations h.conversations;
  dues = of Dues h.dues;
  ends = of Ends h.ends;
  answers = of Answers h.answers;
  window = of Window h.window;
  looks = of Looks h.looks;
  frees = of Frees h.frees;
  served = ((((count_all n ∙ served, tt), all_below n), tt), refl);
}
  where
    of : (Part : CoreRun → Type 0) → Part (single_part terms packets last (map (line_of packets) book)) → EachCore (single_run terms packets last book n) Part
    of Part part = each_single terms packets last book n Part part

-- Packets by their numbers.

apart : (a b : ℕ) → suc a ≤ b → (a == b) ≡ false
apart a b h = grind (arith, nat_tests)

same_number : (n : ℕ) → (n == n) ≡ true
same_number n = grind (arith, nat_tests)

-- the numbers behind are no lower than the first
rises_lower : (m n : ℕ) (packets : List Packet) → m ≤ n → RisesFrom n packets → RisesFrom m packets
rises_lower m n [] h rises = tt
rises_lower m n (p ∷ packets) h rises = (omega (arith, h, rises.0), rises.1)

rises_to : (n : ℕ) (xs : List Packet) (p : Packet) (ys : List Packet) → RisesFrom n (xs ++ p ∷ ys) → n ≤ p.number
rises_to n [] p ys h = h.0
rises_to n (x ∷ xs) p ys h = omega (arith, h.0, rises_to (x.number + 1) xs p ys h.1)

pub packet_of_at : (n : ℕ) (xs : List Packet) (p : Packet) (ys : List Packet) → RisesFrom n (xs ++ p ∷ ys) → packet_of (xs ++ p ∷ ys) p.number ≡ p
packet_of_at n [] p ys h = ap (λ (b : Bool). unwrap_or (cond b (Some p) (find (λ q. q.number == p.number) ys)) no_packet) (same_number p.number)
packet_of_at n (x ∷ xs) p ys h =
    ap (λ (b : Bool). unwrap_or (cond b (Some x) (find (λ q. q.number == p.number) (xs ++ p ∷ ys))) no_packet) (apart x.number p.number (omega (arith, rises_to (x.number + 1) xs p ys h.1)))
    ∙ packet_of_at (x.number + 1) xs p ys h.1

each_found : (n : ℕ) (xs ys : List Packet) → RisesFrom n (xs ++ ys) → Each (λ p. packet_of (xs ++ ys) p.number ≡ p) ys
each_found n xs [] h = tt
each_found n xs (p ∷ ys) h = (
  packet_of_at n xs p ys h,
  subst (λ (l : List Packet). Each (λ q. packet_of l q.number ≡ q) ys) (append_assoc xs (p ∷ []) ys)
      (each_found n (xs ++ p ∷ []) ys (subst (RisesFrom n) (sym (append_assoc xs (p ∷ []) ys)) h)),
)

pub packets_found : (n : ℕ) (packets : List Packet) → RisesFrom n packets → Each (λ p. packet_of packets p.number ≡ p) packets
packets_found n packets h = each_found n [] packets h

-- the entry of a packet with its packet
pub line_at_seg : (packets : List Packet) (p : Packet) (conv now : ℕ) (looks : List LookEntry) (frees : List Free) → packet_of packets p.number ≡ p
    → line_of packets (record { conv = conv; entry = E.Seg p.number now looks frees }) ≡ record { conv = conv; act = Seg p now looks frees }
line_at_seg packets p conv now looks frees e = ap (λ (q : Packet). record { conv = conv; act = Seg q now looks frees }) e

-- A list that is served in order.

-- the place that comes next
at_place : {X : Type 0} (ls : List (List X)) (k : ℕ) (l : List X) (more : List (List X)) → drop k ls ≡ l ∷ more → or_nothing (slice_get ls k) ≡ l
at_place ls k l more e = ap or_nothing (drop_next k ls l more e).0

pub served_lines : (ls more : List (List ℕ)) (k m : ℕ) (seen : List ℕ) → how_many (λ c. c == 0) seen ≡ k → drop k ls ≡ more → length more ≡ m
    → served_text (ls ∷ []) seen (replicate m 0) ≡ flat_map (λ l. l) more
served_lines ls [] k zero seen e d n = refl
served_lines ls [] k (suc m) seen e d n = absurd (omega (arith, n))
served_lines ls (l ∷ more) k zero seen e d n = absurd (omega (arith, n))
served_lines ls (l ∷ more) k (suc m) seen e d n =
    (λ i. (ap (λ j. or_nothing (slice_get ls j)) e ∙ at_place ls k l more d) i ++ served_lines ls more (suc k) m (0 ∷ seen) (ap suc e) (drop_next k ls l more d).1 (omega (arith, n)) i)

pub served_frees : (answers more : List (List Free)) (k m : ℕ) (seen : List ℕ) → how_many (λ c. c == 0) seen ≡ k → drop k answers ≡ more → length more ≡ m
    → along_served (answers ∷ []) seen (replicate m 0) ≡ flat_map (λ l. l) more
served_frees answers [] k zero seen e d n = refl
served_frees answers [] k (suc m) seen e d n = absurd (omega (arith, n))
served_frees answers (l ∷ more) k zero seen e d n = absurd (omega (arith, n))
served_frees answers (l ∷ more) k (suc m) seen e d n =
    (λ i. (ap (λ j. or_nothing (slice_get answers j)) e ∙ at_place answers k l more d) i ++ served_frees answers more (suc k) m (0 ∷ seen) (ap suc e) (drop_next k answers l more d).1 (omega (arith, n)) i)

-- The worker's text is the lines of the core's events, joined in order.
pub single_text : (terms : Terms) (packets : List Packet) (last : ℕ) (book : List CoreEntry) (n : ℕ)
    → n ≡ length (core_at terms idle_core (map (line_of packets) book)).events
    → worker_text (single_run terms packets last book n) (replicate n 0) ≡ flat_map (λ l. l) (lines_of (core_at terms idle_core (map (line_of packets) book)))
single_text terms packets last book n e = served_lines lines lines 0 n [] refl refl (length-map core.events _ ∙ sym e)
  where
    core : Core
    core = core_at terms idle_core (map (line_of packets) book)

    lines : List (List ℕ)
    lines = lines_of core

-- The order of stamps.

-- frees that rise, from a stamp on
abbrev pub RiseFrom : ℕ → List Free → Type 0
RiseFrom n [] = ⊤
RiseFrom n (free ∷ frees) = (n ≤ free.stamp) × RiseFrom (suc free.stamp) frees

rise_from : (n : ℕ) (frees : List Free) → RiseFrom n frees → Rise frees
rise_from n [] h = tt
rise_from n (free ∷ []) h = tt
rise_from n (free ∷ next ∷ frees) h = (omega (arith, h.1.0), rise_from (suc free.stamp) (next ∷ frees) h.1)

rise_lower : (m n : ℕ) (frees : List Free) → m ≤ n → RiseFrom n frees → RiseFrom m frees
rise_lower m n [] h r = tt
rise_lower m n (free ∷ frees) h r = (omega (arith, h, r.0), r.1)

rise_before : (n : ℕ) (frees more : List Free) → FreesInTurn n frees → RiseFrom (n + length frees) more → RiseFrom n (frees ++ more)
rise_before n [] more t r = rise_lower n (n + 0) more (omega arith) r
rise_before n (free ∷ frees) more t r =
    (omega (arith, t.0), rise_lower (suc free.stamp) (suc n) (frees ++ more) (omega (arith, t.0)) (rise_before (suc n) frees more t.1 (rise_lower (suc n + length frees) (n + suc (length frees)) more (omega arith) r)))

frees_rise : (n : ℕ) (frees : List Free) → FreesInTurn n frees → Rise frees
frees_rise n frees t = rise_from n frees (subst (RiseFrom n) (append-nil frees) (rise_before n frees [] t tt))

-- a look's stamp is no lower than the one before it
no_lower : (n : ℕ) (granted : Bool) → n ≤ cond granted (suc n) n
no_lower n true = omega arith
no_lower n false = omega arith

looks_no_lower : (n : ℕ) (looks : List LookEntry) → n ≤ behind_looks n looks
looks_no_lower n [] = omega arith
looks_no_lower n (look ∷ looks) = omega (arith, no_lower n look.granted, looks_no_lower (behind_look n look) looks)

-- the frees that a worker did
answer_rises : (n conv : ℕ) (act : Act) (lines : List Line) → EntryInTurn n act → RiseFrom (behind_entry n act) (flat_map (λ l. l) (frees_of_answers lines))
    → RiseFrom n (flat_map (λ l. l) (frees_of_answers (record { conv = conv; act = act } ∷ lines)))
answer_rises n conv (Seg p now looks frees) lines t r = rise_lower n _ _ (omega (arith, looks_no_lower n looks)) r
answer_rises n conv (Answer event advice frees) lines t r = by advice.keep
  where
    more : List Free
    more = flat_map (λ l. l) (frees_of_answers lines)

    by : (keep : Bool) → RiseFrom n (cond keep [] frees ++ more)
    by true = rise_lower n (n + length frees) more (omega arith) r
    by false = rise_before n frees more t.1 r
answer_rises n conv (Time at looks frees) lines t r = rise_lower n _ _ (omega (arith, looks_no_lower n looks)) r
answer_rises n conv (End at reason looks frees) lines t r = rise_lower n _ _ (omega (arith, looks_no_lower n looks)) r

answers_rise : (n : ℕ) (lines : List Line) → BookInTurn n lines → RiseFrom n (flat_map (λ l. l) (frees_of_answers lines))
answers_rise n [] t = tt
answers_rise n (line ∷ lines) t = answer_rises n line.conv line.act lines t.0 (answers_rise (behind_entry n line.act) lines t.1)

-- how many answers a book has
one_answer : (terms : Terms) (core : Core) (conv : ℕ) (act : Act) (lines : List Line) (n : ℕ)
    → n ≡ (core_after terms core (record { conv = conv; act = act })).answered + length (frees_of_answers lines)
    → n ≡ core.answered + length (frees_of_answers (record { conv = conv; act = act } ∷ lines))
one_answer terms core conv (Seg p now looks frees) lines n h = h
one_answer terms core conv (Answer event advice frees) lines n h = omega (arith, h)
one_answer terms core conv (Time at looks frees) lines n h = h
one_answer terms core conv (End at reason looks frees) lines n h = h

pub answers_counted : (terms : Terms) (core : Core) (lines : List Line) → (core_at terms core lines).answered ≡ core.answered + length (frees_of_answers lines)
answers_counted terms core [] = omega arith
answers_counted terms core (line ∷ lines) =
    one_answer terms core line.conv line.act lines _ (answers_counted terms (core_after terms core line) lines)

-- looks above the floors of those before

raised : (m n : ℕ) (floors : List ℕ) → m ≤ n → Each (λ floor. floor ≤ m) floors → Each (λ floor. floor ≤ n) floors
raised m n [] h each = tt
raised m n (floor ∷ floors) h each = (omega (arith, h, each.0), raised m n floors h each.1)

both_within : (n : ℕ) (xs ys : List ℕ) → Each (λ floor. floor ≤ n) xs → Each (λ floor. floor ≤ n) ys → Each (λ floor. floor ≤ n) (xs ++ ys)
both_within n [] ys x y = y
both_within n (f ∷ xs) ys x y = (x.0, both_within n xs ys x.1 y)

floor_is : (n : ℕ) (look : LookEntry) → look.look.stamp ≡ n → floor_behind look ≡ behind_look n look
floor_is n look e = ap (λ (s : ℕ). cond look.granted (suc s) s) e

looks_above : (n : ℕ) (floors : List ℕ) (looks : List LookEntry) → Each (λ floor. floor ≤ n) floors → LooksInTurn n looks → AreAbove floors looks
looks_above n floors [] each t = tt
looks_above n floors (look ∷ looks) each t = (
  raised n look.look.stamp floors (omega (arith, t.0)) each,
  looks_above (behind_look n look) (floor_behind look ∷ floors) looks (omega (arith, floor_is n look t.0), raised n (behind_look n look) floors (no_lower n look.granted) each) t.1,
)

look_floors : (n : ℕ) (looks : List LookEntry) → LooksInTurn n looks → Each (λ floor. floor ≤ behind_looks n looks) (map floor_behind looks)
look_floors n [] t = tt
look_floors n (look ∷ looks) t = (omega (arith, floor_is n look t.0, looks_no_lower (behind_look n look) looks), look_floors (behind_look n look) looks t.1)

free_floors : (n : ℕ) (frees : List Free) → FreesInTurn n frees → Each (λ floor. floor ≤ n + length frees) (map (λ free. suc free.stamp) frees)
free_floors n [] t = tt
free_floors n (free ∷ frees) t = (omega (arith, t.0), raised (suc n + length frees) (n + suc (length frees)) _ (omega arith) (free_floors (suc n) frees t.1))

all_above : (n : ℕ) (floors : List ℕ) (lines : List Line) → Each (λ floor. floor ≤ n) floors → BookInTurn n lines → AreAllAbove floors lines
all_above n floors [] each t = tt
all_above n floors (line ∷ lines) each t = (
  looks_above n floors (looks_in line.act) each t.0.0,
  all_above next (floors ++ floors_of line.act) lines (both_within next floors (floors_of line.act) (raised n next floors (omega (arith, looks_no_lower n (looks_in line.act))) each) here) t.1,
)
  where
    middle : ℕ
    middle = behind_looks n (looks_in line.act)

    next : ℕ
    next = behind_entry n line.act

    here : Each (λ floor. floor ≤ next) (floors_of line.act)
    here = both_within next (map floor_behind (looks_in line.act)) (map (λ free. suc free.stamp) (frees_in line.act))
        (raised middle next _ (omega arith) (look_floors n (looks_in line.act) t.0.0)) (free_floors middle (frees_in line.act) t.0.1)

-- frees in order along a book
rises_along : (terms : Terms) (n : ℕ) (core : Core) (lines : List Line) → BookInTurn n lines → Along terms (λ c line. Rise (frees_in line.act)) core lines
rises_along terms n core [] t = tt
rises_along terms n core (line ∷ lines) t =
    (frees_rise (behind_looks n (looks_in line.act)) (frees_in line.act) t.0.1, rises_along terms (behind_entry n line.act) (core_after terms core line) lines t.1)

-- Steps in turn.

-- looks before other steps
pub looks_turn : (limit n used last_stamp last_used : ℕ) (looks : List LookEntry) (more : List BudgetStep) → IsInTurn limit (map Ask looks ++ more) n used last_stamp last_used
    → LooksInTurn n looks × ((now : ℕ) × IsInTurn limit more (behind_looks n looks) now last_stamp last_used)
looks_turn limit n used last_stamp last_used [] more t = (tt, (used, t))
looks_turn limit n used last_stamp last_used (look ∷ looks) more t =
    let rest = looks_turn limit (behind_look n look) (used_behind (Ask look) used) last_stamp last_used looks more t.1 in
    ((t.0.0, rest.0), rest.1)

-- frees before other steps
pub frees_turn : (limit n used last_stamp last_used : ℕ) (frees : List Free) (more : List BudgetStep) → IsInTurn limit (map GiveBack frees ++ more) n used last_stamp last_used
    → FreesInTurn n frees × ((now : ℕ) × IsInTurn limit more (n + length frees) now last_stamp last_used)
frees_turn limit n used last_stamp last_used [] more t = (tt, (used, subst (λ (m : ℕ). IsInTurn limit more m used last_stamp last_used) (omega arith) t))
frees_turn limit n used last_stamp last_used (free ∷ frees) more t =
    let rest = frees_turn limit (suc n) (used_behind (GiveBack free) used) last_stamp last_used frees more t.1 in
    ((t.0.0, rest.0), (rest.1.0, subst (λ (m : ℕ). IsInTurn limit more m rest.1.0 last_stamp last_used) (moved n (length frees)) rest.1.1))
  where
    moved : (a b : ℕ) → suc a + b ≡ a + suc b
    moved a b = omega arith

same_looks : (packets : List Packet) (e : Entry) → H.looks_in e ≡ looks_in (act_of packets e)
same_looks packets (E.Seg packet now looks frees) = refl
same_looks packets (E.Answer event advice frees) = refl
same_looks packets (E.Time at looks frees) = refl
same_looks packets (E.End at reason looks frees) = refl

same_frees : (packets : List Packet) (e : Entry) → H.frees_in e ≡ frees_in (act_of packets e)
same_frees packets (E.Seg packet now looks frees) = refl
same_frees packets (E.Answer event advice frees) = refl
same_frees packets (E.Time at looks frees) = refl
same_frees packets (E.End at reason looks frees) = refl

pub book_in_turn : (packets : List Packet) (limit n used last_stamp last_used : ℕ) (book : List CoreEntry) → IsInTurn limit (book_steps book) n used last_stamp last_used
    → BookInTurn n (map (line_of packets) book)
book_in_turn packets limit n used last_stamp last_used [] t = tt
book_in_turn packets limit n used last_stamp last_used (entry ∷ book) t =
    ((first.0, second.0), book_in_turn packets limit (behind_entry n act) second.1.0 last_stamp last_used book second.1.1)
  where
    act : Act
    act = act_of packets entry.entry

    steps : List BudgetStep
    steps = book_steps book

    all : IsInTurn limit (map Ask (looks_in act) ++ (map GiveBack (frees_in act) ++ steps)) n used last_stamp last_used
    all = subst (λ (s : List BudgetStep). IsInTurn limit s n used last_stamp last_used)
        (append_assoc (map Ask (H.looks_in entry.entry)) (map GiveBack (H.frees_in entry.entry)) steps ∙ (λ i. map Ask (same_looks packets entry.entry i) ++ (map GiveBack (same_frees packets entry.entry i) ++ steps))) t

    first : LooksInTurn n (looks_in act) × ((now : ℕ) × IsInTurn limit (map GiveBack (frees_in act) ++ steps) (behind_looks n (looks_in act)) now last_stamp last_used)
    first = looks_turn limit n used last_stamp last_used (looks_in act) (map GiveBack (frees_in act) ++ steps) all

    second : FreesInTurn (behind_looks n (looks_in act)) (frees_in act) × ((now : ℕ) × IsInTurn limit steps (behind_entry n act) now last_stamp last_used)
    second = frees_turn limit (behind_looks n (looks_in act)) first.1.0 last_stamp last_used (frees_in act) steps first.1.1

-- The order of stamps of a run of one core and one worker, whose steps are in turn.
pub single_order : (terms : Terms) (packets : List Packet) (last : ℕ) (book : List CoreEntry) (n limit used last_stamp last_used : ℕ)
    → IsInTurn limit (book_steps book) 0 used last_stamp last_used
    → Along terms (FreesAbove terms) idle_core (map (line_of packets) book)
    → n ≡ (core_at terms idle_core (map (line_of packets) book)).answered
    → EachCore (single_run terms packets last book n) FreesRise × EachCore (single_run terms packets last book n) LooksRise × WorkersRise (single_run terms packets last book n)
single_order terms packets last book n limit used last_stamp last_used turn above served = (
  (Along_both terms (FreesAbove terms) (λ c line. Rise (frees_in line.act)) idle_core lines above (rises_along terms 0 idle_core lines in_turn), tt),
  (all_above 0 [] lines tt in_turn, tt),
  (worker, tt),
)
  where
    lines : List Line
    lines = map (line_of packets) book

    in_turn : BookInTurn 0 lines
    in_turn = book_in_turn packets limit 0 used last_stamp last_used book turn

    answers : List (List Free)
    answers = frees_of_answers lines

    worker : Rise (along_served (answers ∷ []) [] (replicate n 0))
    worker = subst Rise (sym (served_frees answers answers 0 n [] refl refl (omega (arith, served, answers_counted terms idle_core lines)))) (rise_from 0 (flat_map (λ l. l) answers) (answers_rise 0 lines in_turn))
