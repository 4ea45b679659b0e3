use Rattle.std.proofs.Common.{◌≡◌, ◌+◌, ◌≤◌, ◌⊎◌, rules, subst, sym}
use Rattle.std.specs.Prelude.{IfSome}
use Rattle.scap_world.specs.Causes.{Rose}
use Rattle.scap_world.specs.Files.{file_of, told_file, told_put}
use Rattle.scapconf.specs.declared.settings.Settings.{Settings}
use Rattle.capfilter.specs.Faults.{IsFault}
use Rattle.capfilter.specs.declared.filter_error.FilterFault.{FilterFault}
use Rattle.pcapgen.specs.Made.{made_file}
use Rattle.labtop.specs.MakeAnswers.{CompletesMake, IsOfMake}
use Rattle.labtop.specs.MatchAnswers.{no_filter, IsOfMatch, IsWritten, LeavesMatched}
use Rattle.labtop.specs.Matching.{IsEnd}
use Rattle.scapconf.specs.declared.status.Status.{Status}
use Rattle.scapconf.specs.declared.status.Status.TheVariants.{Done, Memory, WriteFault}
use Rattle.labtop.specs.Answers.{Completes, HasHistory, IsBefore, IsDoneBy, IsOfDrillBy, IsPart, LeavesBy, TakesFew}
use Rattle.labtop.specs.Drill.{asked_of}
use Rattle.labtop.specs.Causes.{RoseAtOutputs, RoseAtSettings}
use Rattle.labtop.specs.Settings.{GoesBy}
use Rattle.labtop.proofs.AnswerLemmas.{complete_by, neither}
use Rattle.labtop.proofs.MakeLemmas.{complete_make, not_before}
use Rattle.labtop.proofs.WordsLemmas.{at_drill, at_make, at_match, make_few, not_made, not_output, not_outputs}
use Rattle.labtop.specs.declared.limits.TheConstants.{MOST_BUILT}
use Rattle.labtop.proofs.top.lab_top.Goals as goal

pub returns-in-Ok-Drill-clause-others : goal.returns-in-Ok-Drill-clause-others
returns-in-Ok-Drill-clause-others g c = λ other h.
    let apart = not_outputs c.in-Ok-Drill.settings c.in-Ok-Drill.capture c.in-Ok-Drill.out _ other (rw c.in-Ok-Drill.field-0-is at c.in-Ok-Drill.ensures) h in
    c.drill_by.ensures.others other apart.0 apart.1

pub returns-in-Ok-Drill-clause-done : goal.returns-in-Ok-Drill-clause-done
returns-in-Ok-Drill-clause-done g c = at_drill
    (λ settings capture out. c.drill_by.result.status ≡ Done → IfSome (g.S.Shelf.files c.args.shelf.now)
    (λ files. IsDoneBy files settings capture out c.drill_by.result.journal (g.S.Shelf.files c.args.shelf.now) (g.S.Shelf.files c.drill_by.new.shelf)))
    c.in-Ok-Drill.settings c.in-Ok-Drill.capture c.in-Ok-Drill.out _ (rw c.in-Ok-Drill.field-0-is at c.in-Ok-Drill.ensures)
    c.drill_by.ensures.done

pub returns-in-Ok-Drill-clause-history : goal.returns-in-Ok-Drill-clause-history
returns-in-Ok-Drill-clause-history g c = at_drill (λ settings capture out. c.drill_by.result.status ≡ Done → HasHistory settings c.drill_by.result.journal)
    c.in-Ok-Drill.settings c.in-Ok-Drill.capture c.in-Ok-Drill.out _ (rw c.in-Ok-Drill.field-0-is at c.in-Ok-Drill.ensures)
    c.drill_by.ensures.history

pub returns-in-Ok-Drill-clause-kinds : goal.returns-in-Ok-Drill-clause-kinds
returns-in-Ok-Drill-clause-kinds g c = at_drill (λ settings capture out. IsOfDrillBy settings c.drill_by.result.status)
    c.in-Ok-Drill.settings c.in-Ok-Drill.capture c.in-Ok-Drill.out _ (rw c.in-Ok-Drill.field-0-is at c.in-Ok-Drill.ensures)
    c.drill_by.ensures.kinds

pub returns-in-Ok-Match-clause-match_kinds : goal.returns-in-Ok-Match-clause-match_kinds
returns-in-Ok-Match-clause-match_kinds g c = at_match (λ filter capture out. IsOfMatch filter c.without_report.result.status)
    c.in-Ok-Match.filter c.in-Ok-Match.capture c.in-Ok-Match.out _ (rw c.in-Ok-Match.field-0-is at c.in-Ok-Match.ensures)
    (subst (IsOfMatch c.in-Ok-Match.filter.now) (sym c.without_report.ensures.status) c.match_by-status.ensures.kinds)

pub returns-in-Ok-Drill-clause-few : goal.returns-in-Ok-Drill-clause-few
returns-in-Ok-Drill-clause-few g c = at_drill
    (λ settings capture out. c.drill_by.result.status ≡ Done → IfSome (g.S.Shelf.files c.args.shelf.now) (λ _. g.S.Shelf.taken c.drill_by.new.shelf capture ≤ MOST_BUILT + 1))
    c.in-Ok-Drill.settings c.in-Ok-Drill.capture c.in-Ok-Drill.out _ (rw c.in-Ok-Drill.field-0-is at c.in-Ok-Drill.ensures)
    c.drill_by.ensures.few

pub returns-in-Ok-Drill-clause-settings_few : goal.returns-in-Ok-Drill-clause-settings_few
returns-in-Ok-Drill-clause-settings_few g c = at_drill
    (λ settings capture out. IfSome (g.S.Shelf.files c.args.shelf.now) (λ _. TakesFew c.drill_by.result.status settings (g.S.Shelf.taken c.drill_by.new.shelf)))
    c.in-Ok-Drill.settings c.in-Ok-Drill.capture c.in-Ok-Drill.out _ (rw c.in-Ok-Drill.field-0-is at c.in-Ok-Drill.ensures)
    c.drill_by.ensures.settings_few

pub returns-in-Ok-Drill-clause-complete : goal.returns-in-Ok-Drill-clause-complete
returns-in-Ok-Drill-clause-complete g c = at_drill
    (λ settings capture out. (RoseAtSettings settings (g.S.Shelf.read_faults c.args.shelf.now) (g.S.Shelf.read_faults c.drill_by.new.shelf) → ⊥)
    → (Rose (g.S.Shelf.read_faults c.args.shelf.now capture) (g.S.Shelf.read_faults c.drill_by.new.shelf capture) → ⊥)
    → (RoseAtOutputs out (g.S.Shelf.write_faults c.args.shelf.now) (g.S.Shelf.write_faults c.drill_by.new.shelf) → ⊥)
    → IfSome (g.S.Shelf.files c.args.shelf.now) (λ files. (s : Settings) → GoesBy files settings s → Completes (asked_of s (file_of files capture)) c.drill_by.result.status))
    c.in-Ok-Drill.settings c.in-Ok-Drill.capture c.in-Ok-Drill.out _ (rw c.in-Ok-Drill.field-0-is at c.in-Ok-Drill.ensures)
    (λ named read writing. complete_by _ _ _ _ c.drill_by.ensures.answer
    (λ e. neither _ _ named (λ h. read h.0) (c.drill_by.ensures.read e)) (λ e. writing (c.drill_by.ensures.write e)))

pub returns-in-Ok-Drill-clause-parts : goal.returns-in-Ok-Drill-clause-parts
returns-in-Ok-Drill-clause-parts g c = at_drill
    (λ settings capture out. IfSome (g.S.Shelf.files c.args.shelf.now)
    (λ files. LeavesBy files settings capture out (g.S.Shelf.files c.args.shelf.now) (g.S.Shelf.files c.drill_by.new.shelf)))
    c.in-Ok-Drill.settings c.in-Ok-Drill.capture c.in-Ok-Drill.out _ (rw c.in-Ok-Drill.field-0-is at c.in-Ok-Drill.ensures)
    c.drill_by.ensures.parts

pub returns-in-Ok-Match-clause-others : goal.returns-in-Ok-Match-clause-others
returns-in-Ok-Match-clause-others g c = λ other h.
    c.match_by-status.ensures.others other (not_output c.in-Ok-Match.filter c.in-Ok-Match.capture c.in-Ok-Match.out _ other (rw c.in-Ok-Match.field-0-is at c.in-Ok-Match.ensures) h)

pub returns-in-Ok-Match-clause-match_refused : goal.returns-in-Ok-Match-clause-match_refused
returns-in-Ok-Match-clause-match_refused g c = at_match
    (λ filter capture out. (fault : FilterFault) → IsFault filter fault
    → ((c.without_report.result.status ≡ Memory) ⊎ (c.without_report.result.status ≡ no_filter)) × (c.match_by-status.new.shelf ≡ c.args.shelf.now))
    c.in-Ok-Match.filter c.in-Ok-Match.capture c.in-Ok-Match.out _ (rw c.in-Ok-Match.field-0-is at c.in-Ok-Match.ensures)
    (λ fault h. subst (λ (s : Status). ((s ≡ Memory) ⊎ (s ≡ no_filter)) × (c.match_by-status.new.shelf ≡ c.args.shelf.now)) (sym c.without_report.ensures.status) (c.match_by-status.ensures.refused fault h))

pub returns-in-Ok-Match-clause-match_written : goal.returns-in-Ok-Match-clause-match_written
returns-in-Ok-Match-clause-match_written g c = at_match
    (λ filter capture out. IsEnd c.without_report.result.status → IfSome (g.S.Shelf.files c.args.shelf.now)
    (λ files. IsWritten files filter capture out (g.S.Shelf.files c.args.shelf.now) (g.S.Shelf.files c.match_by-status.new.shelf)))
    c.in-Ok-Match.filter c.in-Ok-Match.capture c.in-Ok-Match.out _ (rw c.in-Ok-Match.field-0-is at c.in-Ok-Match.ensures)
    (λ h. c.match_by-status.ensures.written (subst IsEnd c.without_report.ensures.status h))

pub returns-in-Ok-Match-clause-match_parts : goal.returns-in-Ok-Match-clause-match_parts
returns-in-Ok-Match-clause-match_parts g c = at_match
    (λ filter capture out. IfSome (g.S.Shelf.files c.args.shelf.now)
    (λ files. LeavesMatched files filter capture out (g.S.Shelf.files c.args.shelf.now) (g.S.Shelf.files c.match_by-status.new.shelf)))
    c.in-Ok-Match.filter c.in-Ok-Match.capture c.in-Ok-Match.out _ (rw c.in-Ok-Match.field-0-is at c.in-Ok-Match.ensures)
    c.match_by-status.ensures.parts

pub make_run-status-requires : goal.make_run-status-requires
make_run-status-requires g c = (search rules, make_few c.in-Ok-Make.seed c.in-Ok-Make.count c.in-Ok-Make.capture _ (rw c.in-Ok-Make.field-0-is at c.in-Ok-Make.ensures))

pub returns-in-Ok-Make-clause-others : goal.returns-in-Ok-Make-clause-others
returns-in-Ok-Make-clause-others g c = λ other h.
    c.make_run-status.ensures.others other (not_made c.in-Ok-Make.seed c.in-Ok-Make.count c.in-Ok-Make.capture _ other (rw c.in-Ok-Make.field-0-is at c.in-Ok-Make.ensures) h)

pub returns-in-Ok-Make-clause-before : goal.returns-in-Ok-Make-clause-before
returns-in-Ok-Make-clause-before g c = λ h. absurd (not_before c.make_run-status.result c.make_run-status.ensures.kinds (subst IsBefore c.without_report-in-Ok-Make.ensures.status h))

pub returns-in-Ok-Make-clause-make_kinds : goal.returns-in-Ok-Make-clause-make_kinds
returns-in-Ok-Make-clause-make_kinds g c = at_make (λ seed count capture. IsOfMake c.without_report-in-Ok-Make.result.status)
    c.in-Ok-Make.seed c.in-Ok-Make.count c.in-Ok-Make.capture _ (rw c.in-Ok-Make.field-0-is at c.in-Ok-Make.ensures)
    (subst IsOfMake (sym c.without_report-in-Ok-Make.ensures.status) c.make_run-status.ensures.kinds)

pub returns-in-Ok-Make-clause-make_written : goal.returns-in-Ok-Make-clause-make_written
returns-in-Ok-Make-clause-make_written g c = at_make
    (λ seed count capture. c.without_report-in-Ok-Make.result.status ≡ Done
    → g.S.Shelf.files c.make_run-status.new.shelf ≡ told_put capture (made_file seed count) (g.S.Shelf.files c.args.shelf.now))
    c.in-Ok-Make.seed c.in-Ok-Make.count c.in-Ok-Make.capture _ (rw c.in-Ok-Make.field-0-is at c.in-Ok-Make.ensures)
    (λ h. c.make_run-status.ensures.written (subst (λ (s : Status). s ≡ Done) c.without_report-in-Ok-Make.ensures.status h))

pub returns-in-Ok-Make-clause-make_parts : goal.returns-in-Ok-Make-clause-make_parts
returns-in-Ok-Make-clause-make_parts g c = at_make
    (λ seed count capture. IsPart (made_file seed count) (told_file (g.S.Shelf.files c.args.shelf.now) capture) (told_file (g.S.Shelf.files c.make_run-status.new.shelf) capture))
    c.in-Ok-Make.seed c.in-Ok-Make.count c.in-Ok-Make.capture _ (rw c.in-Ok-Make.field-0-is at c.in-Ok-Make.ensures)
    c.make_run-status.ensures.part

pub returns-in-Ok-Make-clause-make_write : goal.returns-in-Ok-Make-clause-make_write
returns-in-Ok-Make-clause-make_write g c = at_make
    (λ seed count capture. c.without_report-in-Ok-Make.result.status ≡ WriteFault
    → Rose (g.S.Shelf.write_faults c.args.shelf.now capture) (g.S.Shelf.write_faults c.make_run-status.new.shelf capture))
    c.in-Ok-Make.seed c.in-Ok-Make.count c.in-Ok-Make.capture _ (rw c.in-Ok-Make.field-0-is at c.in-Ok-Make.ensures)
    (λ h. c.make_run-status.ensures.write (subst (λ (s : Status). s ≡ WriteFault) c.without_report-in-Ok-Make.ensures.status h))

pub returns-in-Ok-Make-clause-make_complete : goal.returns-in-Ok-Make-clause-make_complete
returns-in-Ok-Make-clause-make_complete g c = at_make
    (λ seed count capture. (Rose (g.S.Shelf.write_faults c.args.shelf.now capture) (g.S.Shelf.write_faults c.make_run-status.new.shelf capture) → ⊥) → CompletesMake c.without_report-in-Ok-Make.result.status)
    c.in-Ok-Make.seed c.in-Ok-Make.count c.in-Ok-Make.capture _ (rw c.in-Ok-Make.field-0-is at c.in-Ok-Make.ensures)
    (λ none. subst CompletesMake (sym c.without_report-in-Ok-Make.ensures.status) (complete_make _ _ c.make_run-status.ensures.kinds c.make_run-status.ensures.write none))
