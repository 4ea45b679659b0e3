-- A replay that is over.
use Rattle.std.specs.Prelude.{All, not, true, ◌^◌, ◌<◌, slice_index_or, ◌≡◌, refl, ℕ, zero, suc, ◌≤◌, false, List, [], ◌∷◌, length, map, flat_map, replicate}
use Rattle.std.proofs.Common.{sym, ◌∙◌, ap, subst, arith}
use Rattle.histbook.specs.declared.core_entry.CoreEntry.{CoreEntry}
use Rattle.histbook.specs.declared.journal.Journal.{Journal}
use Rattle.histbook.specs.InTurn.{book_steps, kept_peak}
use Rattle.histbook.specs.Runs.{HasShortRuns}
use Rattle.histbook.proofs.RunsLemmas.{short_lists}
use Rattle.std.proofs.lemmas.List.{length-replicate}
use Rattle.histbook.specs.Moves.{looks_in}
use Rattle.prio_budget.specs.MarkParts.{MarkParts}
use Rattle.prio_budget.specs.Marks.{mark_of}
use Rattle.streamdefs.specs.Lists.{Each, EachNumbered, total}
use Rattle.streamdefs.specs.Marks.{Marks, mark}
use Rattle.streamdefs.specs.Case.{line_of}
use Rattle.streamdefs.specs.Core.{Line, core_at, idle_core}
use Rattle.streamdefs.specs.Packet.{Packet}
use Rattle.streamdefs.specs.Terms.{Terms}
use Rattle.streamdefs.specs.Totals.{peak, refused}
use Rattle.std.specs.List.{list_all}
use Rattle.streamdefs.specs.Convo.{is_live}
use Rattle.streamdefs.specs.Lawful.{Ends, Lawful, core_run}
use Rattle.streamdefs.specs.Order.{OneHistory, all_looks, all_moves}
use Rattle.streamdefs.specs.WorkerText.{worker_text}
use Rattle.datagrams.specs.declared.conversation.Conversation.{Conversation}
use Rattle.datagrams.specs.Capture.{IsReplay, marks_of, run_for, text_of}
use Rattle.datagrams.specs.Flow.{plain}
use Rattle.datagrams.specs.Rows.{rows_of}
use Rattle.datagrams.specs.Sound.{bytes_in, held_bytes, open_bytes}
use Rattle.datagrams.specs.Stands.{IsShut, Standing, Stands, finished_in}
use Rattle.datagrams.specs.State.{State, Untold, fresh, told_as}
use Rattle.datagrams.specs.Sums.{Rises, Row, Tallies, bytes_open, kept_in, number_of}
use Rattle.datagrams.proofs.RowLemmas.{rows_dead, rows_numbers}
use Rattle.datagrams.proofs.Standing.{standing_whole}
use Rattle.datagrams.proofs.StandsSteps.{stands_none}
use Rattle.datagrams.proofs.TallyReport.{accounted_are, total_lines_are}
use Rattle.datagrams.proofs.WholeRun.{whole_budget}

-- what is shut holds nothing
none_open : (cs : List Conversation) → Each IsShut cs → total open_bytes cs ≡ 0
none_open [] h = refl
none_open (c ∷ cs) h = omega (arith, ap bytes_open h.0.0, ap bytes_open h.0.1, none_open cs h.1)

pub nothing_held : (cs : List Conversation) (waiting : List Untold) → Each IsShut cs → waiting ≡ [] → held_bytes cs waiting ≡ 0
nothing_held cs waiting shut calm = omega (arith, none_open cs shut, ap (total (λ (u : Untold). bytes_in u.event)) calm)

all_dead : (cs : List Conversation) → Each (λ k. k.live ≡ false) (kept_in (rows_of false cs))
all_dead [] = tt
all_dead (c ∷ cs) = (refl, all_dead cs)

-- what is known of it
pub whole_replay : (t : Terms) (last first : ℕ) (packets : List Packet) (s : State) (journal : Journal) → Stands t last first packets packets (length s.table) s → s.waiting ≡ [] → s.budget.used ≡ 0
    → journal.cores ≡ s.book ∷ [] → journal.workers ≡ replicate s.answered 0 ∷ []
    → IsReplay t packets last journal s.text s.table s.budget.stamp s.peak s.refused
whole_replay t last first packets s journal h calm unused cores workers = record {
  lawful = all.0;
  history = all.1;
  text_is = ap (λ (lists : List (List ℕ)). text_of (record (run_for t packets last journal) { served = lists })) workers ∙ all.2;
  one_core = ap (λ (l : List (List CoreEntry)). length l) cores;
  one_worker = ap (λ (l : List (List ℕ)). length l) workers;
  accounted = accounted_are t (run_for t packets last journal) (map (line_of packets) s.book) (rows_of false s.table) refl one_book tallies rising ended;
  lines = λ records outcome. total_lines_are t (run_for t packets last journal) (map (line_of packets) s.book) (rows_of false s.table) refl one_book tallies rising records outcome;
  stamps_are = budget.0;
  peak_is = budget.1 ∙ sym h.peak_is;
  refused_are = ap refused budget.2 ∙ sym h.refused_is;
}
  where
    one_book : map (map (line_of packets)) journal.cores ≡ map (line_of packets) s.book ∷ []
    one_book = ap (map (map (line_of packets))) cores

    tallies : Tallies t (map (line_of packets) s.book) (rows_of false s.table) (core_at (plain t) idle_core (map (line_of packets) s.book)).convos
    tallies = subst (λ (rows : List Row). Tallies t (map (line_of packets) s.book) rows (core_at (plain t) idle_core (map (line_of packets) s.book)).convos) (rows_dead s.table) h.tallies

    rising : Rises (map number_of (rows_of false s.table))
    rising = subst Rises (sym (ap (map number_of) (sym (rows_dead s.table)) ∙ rows_numbers (length s.table) s.table)) h.rise

    standing : Standing t last first packets packets s.book (kept_in (rows_of false s.table)) [] (finished_in (length s.table) s.table) s.answered s.text s.budget.stamp 0
    standing = subst (λ (x : List Row × List Untold × ℕ). Standing t last first packets packets s.book (kept_in x.0) (map told_as x.1) (finished_in (length s.table) s.table) s.answered s.text s.budget.stamp x.2)
        (λ i. (rows_dead s.table i, calm i, unused i)) h.standing

    all : Lawful (run_for t packets last journal) × OneHistory (run_for t packets last journal) × (worker_text (run_for t packets last journal) (replicate s.answered 0) ≡ s.text)
    all = standing_whole t last first packets journal s.book (kept_in (rows_of false s.table)) (finished_in (length s.table) s.table) s.answered s.budget.stamp s.text cores workers standing (all_dead s.table)

    ended : list_all (λ o. not (is_live o.convo)) (core_at (plain t) idle_core (map (line_of packets) s.book)).convos ≡ true
    ended = (subst (λ (books : List (List Line)). EachNumbered (λ core lines. Ends (core_run (run_for t packets last journal) core lines)) 0 books) one_book all.0.ends).0.1.0

    budget : (length (all_moves (run_for t packets last journal)) ≡ s.budget.stamp) × (peak (all_moves (run_for t packets last journal)) ≡ kept_peak (book_steps s.book) 0 0)
        × (all_looks (run_for t packets last journal) ≡ flat_map (λ (entry : CoreEntry). looks_in entry.entry) s.book)
    budget = whole_budget (plain t) last packets journal s.book s.budget.stamp s.budget.used cores h.standing.turn

-- the same, with its parts named anew
pub whole_named : (t : Terms) (last first : ℕ) (packets : List Packet) (s : State) (journal : Journal) (text : List ℕ) (table : List Conversation) (stamps peak_ refused_ : ℕ)
    → Stands t last first packets packets (length s.table) s → s.waiting ≡ [] → s.budget.used ≡ 0 → journal.cores ≡ s.book ∷ [] → journal.workers ≡ replicate s.answered 0 ∷ []
    → text ≡ s.text → table ≡ s.table → stamps ≡ s.budget.stamp → peak_ ≡ s.peak → refused_ ≡ s.refused
    → IsReplay t packets last journal text table stamps peak_ refused_
whole_named t last first packets s journal text table stamps peak_ refused_ h calm unused cores workers a b c d e =
    subst (λ (x : List ℕ × List Conversation × ℕ × ℕ × ℕ). IsReplay t packets last journal x.0 x.1 x.2 x.3 x.4) (λ i. (sym a i, sym b i, sym c i, sym d i, sym e i))
    (whole_replay t last first packets s journal h calm unused cores workers)

-- before any packet
pub begun : (t : Terms) (last first : ℕ) (packets : List Packet) (m : MarkParts) (chunk : ℕ) → mark_of m 0 ≤ m.limit → t.marks ≡ marks_of m → t.chunk ≡ chunk → Stands t last first packets [] 0 (fresh m.limit (mark_of m 0) chunk)
begun t last first packets m chunk within marks size =
    subst (Stands t last first packets [] 0) (λ i. fresh (marks i).limit (mark (marks i) 0) (size i))
    (stands_none t last first packets (subst (λ (x : Marks). mark x 0 ≤ x.limit) (sym marks) within))

-- the worker's list has short runs
pub short_workers : (n : ℕ) (workers : List (List ℕ)) → workers ≡ replicate n 0 ∷ [] → n < 2 ^ 64 → All HasShortRuns workers
short_workers n workers e less = subst (λ (l : List (List ℕ)). All HasShortRuns l) (sym e) one
  where
    one : (k : ℕ) (d : List ℕ) → k < length (replicate n zero ∷ []) → HasShortRuns (slice_index_or (replicate n zero ∷ []) k d)
    one zero d l = short_lists (replicate n zero) (omega (arith, less, length-replicate n zero))
    one (suc k) d l = absurd (omega arith)
