-- The run of the whole journal of one core and one worker, and the numbers of its budget.
use Rattle.std.specs.Prelude.{◌≡◌, ℕ, false, List, [], ◌∷◌, length, map, flat_map, replicate, Option}
use Rattle.std.proofs.Common.{◌∙◌, ap, append-nil}
use Rattle.histbook.specs.declared.journal.Journal.{Journal}
use Rattle.histbook.specs.declared.core_entry.CoreEntry.{CoreEntry}
use Rattle.histbook.specs.Moves.{book_moves, journal_moves}
use Rattle.histbook.specs.Moves as H
use Rattle.histbook.specs.InTurn.{IsInTurn, book_steps, kept_peak}
use Rattle.histbook.proofs.InTurnLemmas.{core_is_a_history, book_peak}
use Rattle.streamdefs.specs.Lists.{Each}
use Rattle.streamdefs.specs.Packet.{Packet}
use Rattle.streamdefs.specs.Terms.{Terms}
use Rattle.streamdefs.specs.Totals.{peak}
use Rattle.streamdefs.specs.Lawful.{Lawful}
use Rattle.streamdefs.specs.Order.{OneHistory, all_moves, all_looks}
use Rattle.streamdefs.specs.WorkerText.{worker_text}
use Rattle.streamdefs.specs.Case.{line_of, run_of}
use Rattle.datagrams.specs.Table.{Kept}
use Rattle.datagrams.proofs.ReplaySteps.{replayed_journal}
use Rattle.datagrams.proofs.SameHistory.{same_budget_line}
use Rattle.datagrams.specs.Replay.{silent, Replayed}

-- It is lawful, one budget history, and its worker's text is what was written.
pub whole_run : (terms : Terms) (last first : ℕ) (packets : List Packet) (journal : Journal) (book : List CoreEntry) (table : List Kept) (finished : Option ℕ) (n end : ℕ) (text : List ℕ)
    → journal.cores ≡ book ∷ [] → journal.workers ≡ replicate n 0 ∷ []
    → Replayed terms last first packets (map (line_of packets) book) table [] finished n text
    → Each (λ k. k.live ≡ false) table
    → IsInTurn terms.marks.limit (book_steps book) 0 0 end 0
    → Lawful (run_of terms packets (λ p. 0) 1 last (silent ∷ []) journal) × OneHistory (run_of terms packets (λ p. 0) 1 last (silent ∷ []) journal)
    × (worker_text (run_of terms packets (λ p. 0) 1 last (silent ∷ []) journal) (replicate n 0) ≡ text)
whole_run terms last first packets journal book table finished n end text cores workers r dead turn =
    replayed_journal terms last first packets journal book table finished n end text cores workers r dead turn (core_is_a_history terms.marks.limit journal book end cores turn)

-- How many moves it has, its peak, and its looks.
pub whole_budget : (terms : Terms) (last : ℕ) (packets : List Packet) (journal : Journal) (book : List CoreEntry) (end used : ℕ)
    → journal.cores ≡ book ∷ [] → IsInTurn terms.marks.limit (book_steps book) 0 0 end used
    → (length (all_moves (run_of terms packets (λ p. 0) 1 last (silent ∷ []) journal)) ≡ end)
    × (peak (all_moves (run_of terms packets (λ p. 0) 1 last (silent ∷ []) journal)) ≡ kept_peak (book_steps book) 0 0)
    × (all_looks (run_of terms packets (λ p. 0) 1 last (silent ∷ []) journal) ≡ flat_map (λ entry. H.looks_in entry.entry) book)
whole_budget terms last packets journal book end used cores turn = (
  same.0 ∙ ap length moves_are ∙ ends.1,
  same.1 ∙ ap peak moves_are ∙ ends.0,
  same.2 ∙ ap (flat_map (λ book. flat_map (λ entry. H.looks_in entry.entry) book)) cores ∙ append-nil (flat_map (λ entry. H.looks_in entry.entry) book),
)
  where
    same : (length (all_moves (run_of terms packets (λ p. 0) 1 last (silent ∷ []) journal)) ≡ length (journal_moves journal))
        × (peak (all_moves (run_of terms packets (λ p. 0) 1 last (silent ∷ []) journal)) ≡ peak (journal_moves journal))
        × (all_looks (run_of terms packets (λ p. 0) 1 last (silent ∷ []) journal) ≡ flat_map (λ book. flat_map (λ entry. H.looks_in entry.entry) book) journal.cores)
    same = same_budget_line terms packets (λ p. 0) 1 last (silent ∷ []) journal

    moves_are : journal_moves journal ≡ book_moves book
    moves_are = ap (flat_map book_moves) cores ∙ append-nil (book_moves book)

    ends : (peak (book_moves book) ≡ kept_peak (book_steps book) 0 0) × (length (book_moves book) ≡ end)
    ends = book_peak terms.marks.limit book end used turn
