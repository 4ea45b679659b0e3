-- The packets of a capture of datagrams, and what a replay over all of them makes.
use Rattle.std.specs.Prelude.{◌≡◌, ℕ, ◌+◌, ◌<◌, ◌≤◌, false, List, [], ◌∷◌, ◌++◌, length, flat_map}
use Rattle.histbook.specs.declared.journal.Journal.{Journal}
use Rattle.prio_budget.specs.MarkParts.{MarkParts}
use Rattle.streamdefs.specs.Lists.{Each}
use Rattle.streamdefs.specs.Marks.{Marks}
use Rattle.streamdefs.specs.Packet.{Packet, is_tcp}
use Rattle.streamdefs.specs.Terms.{Terms}
use Rattle.streamdefs.specs.Accounts.{IsAccounted}
use Rattle.streamdefs.specs.Totals.{peak, refused}
use Rattle.streamdefs.specs.Lawful.{Lawful, Run}
use Rattle.streamdefs.specs.Order.{OneHistory, all_looks, all_moves}
use Rattle.streamdefs.specs.Report.{Outcome, RecordCounts, history_line, records_line, status_line, tallied_in, total_lines, totals_in}
use Rattle.streamdefs.specs.WorkerText.{worker_text}
use Rattle.streamdefs.specs.Case.{run_of}
use Rattle.datagrams.specs.declared.conversation.Conversation.{Conversation}
use Rattle.datagrams.specs.declared.datagram.Datagram.{Datagram}
use Rattle.datagrams.specs.Assembled.{RisesFrom}
use Rattle.datagrams.specs.Flow.{plain}
use Rattle.datagrams.specs.Replay.{silent}
use Rattle.datagrams.specs.Rows.{rows_of}
use Rattle.datagrams.specs.Sums.{row_lines, rows_line}

-- a datagram, as the rules of streams see it: it has no sequence number and no flags
abbrev pub packet_for : Datagram → Packet
packet_for d = record { number = d.number; now = d.clock; key = d.key; toward = d.toward; seq = 0; flags = 0; declared = d.declared; payload = d.payload.now }

-- the packets' numbers rise, all are datagrams, and the capture is shorter than the idle time
pub record IsCapture (t : Terms) (first : ℕ) (packets : List Packet) : Type 0 where
  pub rises : RisesFrom 1 packets
  pub udp : Each (λ p. is_tcp p ≡ false) packets
  pub from : Each (λ p. first ≤ p.now) packets
  pub until : Each (λ p. p.now < first + t.idle) packets

-- the marks, as the definitions have them
abbrev pub marks_of : MarkParts → Marks
marks_of m = record { limit = m.limit; base = m.base; priorities = m.count }

-- the run of a journal of one core and one worker that advises nothing
abbrev pub run_for : Terms → List Packet → ℕ → Journal → Run
run_for t packets last journal = run_of (plain t) packets (λ p. 0) 1 last (silent ∷ []) journal

-- the text of the worker
abbrev pub text_of : Run → List ℕ
text_of run = worker_text run (first run.served)
  where
    first : List (List ℕ) → List ℕ
    first [] = []
    first (list ∷ lists) = list

-- The journal is lawful for these packets, and one history of its budget; each byte that came in a direction is delivered once
-- or counted once; the text is that of the worker's events; the lines of the report behind the journal are those of the
-- conversations and of the budget's numbers.
pub record IsReplay (t : Terms) (packets : List Packet) (last : ℕ) (journal : Journal) (text : List ℕ) (table : List Conversation) (stamps peak_ refused_ : ℕ) : Type 0 where
  pub lawful : Lawful (run_for t packets last journal)
  pub history : OneHistory (run_for t packets last journal)
  pub accounted : Each IsAccounted (totals_in (tallied_in (run_for t packets last journal)))
  pub text_is : text_of (run_for t packets last journal) ≡ text
  pub one_core : length journal.cores ≡ 1
  pub one_worker : length journal.workers ≡ 1
  pub lines : (records : RecordCounts) (outcome : Outcome) → total_lines (run_for t packets last journal) records outcome
      ≡ flat_map row_lines (rows_of false table) ++ records_line records ++ rows_line (rows_of false table)
      ++ history_line (all_moves (run_for t packets last journal)) (all_looks (run_for t packets last journal)) ++ status_line outcome
  pub stamps_are : length (all_moves (run_for t packets last journal)) ≡ stamps
  pub peak_is : peak (all_moves (run_for t packets last journal)) ≡ peak_
  pub refused_are : refused (all_looks (run_for t packets last journal)) ≡ refused_
