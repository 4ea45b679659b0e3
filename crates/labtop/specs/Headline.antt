-- docs/RULES.md, "The run": what the files of a drill are, by what the capture's records are and the journal.
use Rattle.std.specs.Prelude.{◌≡◌, ℕ, List, []}
use Rattle.histbook.specs.declared.journal.Journal.{Journal}
use Rattle.streamdefs.specs.Accounts.{IsAccounted}
use Rattle.streamdefs.specs.Lists.{Each}
use Rattle.streamdefs.specs.Lawful.{Lawful, Run}
use Rattle.streamdefs.specs.Order.{OneHistory}
use Rattle.streamdefs.specs.Report.{Outcome, report_text, tallied_in, totals_in}
use Rattle.streamdefs.specs.Terms.{Terms}
use Rattle.datagrams.specs.Capture.{run_for, text_of}
use Rattle.labtop.specs.Scapconf.{Captured}

-- the run of a journal for these packets, up to the capture's last clock: one core, one worker, and no advice
abbrev pub run_in : Terms → Captured → Journal → Run
run_in terms c journal = run_for terms c.packets c.last journal

-- The journal is lawful for the packets, and its grants and releases are one history of the budget. In each direction each byte
-- that came is delivered once, or counted once as duplicate, late, cut off or shed.
pub record IsRun (terms : Terms) (c : Captured) (journal : Journal) : Type 0 where
  pub lawful : Lawful (run_in terms c journal)
  pub history : OneHistory (run_in terms c journal)
  pub accounted : Each IsAccounted (totals_in (tallied_in (run_in terms c journal)))

-- the file of the deliveries: the lines of the events, in the order in which the worker served them
abbrev pub delivery_for : Terms → Captured → Journal → List ℕ
delivery_for terms c journal = text_of (run_in terms c journal)

-- the run is done
abbrev pub done : Outcome
done = record { status = 0; more = [] }

-- the report: the journal, and the totals, with how many records there are of each fate
abbrev pub report_for : Terms → Captured → Journal → List ℕ
report_for terms c journal = report_text (run_in terms c journal) journal c.counts done

-- nothing was decided
pub record IsEmpty (journal : Journal) : Type 0 where
  pub cores : journal.cores ≡ []
  pub workers : journal.workers ≡ []
