use Rattle.scapconf.specs.declared.status.Status.TheVariants.{Done, WriteFault}
use Rattle.labtop.specs.Names.{delivery_name, report_name}
use Rattle.labtop.specs.Words.{told_word}
use Rattle.labtop.proofs.AnswerLemmas.{answer_by, done_by, done_refused, either_since, kinds_by, parts_by, parts_same, read_behind, refusal, refusal_not, refused_kinds, told_few, write_refused}
use Rattle.labtop.proofs.SettingsLemmas.{few_behind, few_without}
use Rattle.labtop.proofs.drill.drill_by.Goals as goal

pub returns-in-Ok-clause-answer : goal.returns-in-Ok-clause-answer
returns-in-Ok-clause-answer g c = answer_by c.in-Ok.settings _ _ _ _ _ c.in-Ok.ensures.files c.in-Ok.ensures.goes c.drill_with.ensures.kinds c.drill_with.ensures.verdict

pub returns-in-Ok-clause-kinds : goal.returns-in-Ok-clause-kinds
returns-in-Ok-clause-kinds g c = kinds_by (told_word c.args.settings) c.drill_with.result.status c.drill_with.ensures.kinds

pub returns-in-Ok-clause-history : goal.returns-in-Ok-clause-history
returns-in-Ok-clause-history g c = λ done. (c.in-Ok.settings, c.in-Ok.ensures.may, c.drill_with.ensures.history done)

pub returns-in-Ok-clause-few : goal.returns-in-Ok-clause-few
returns-in-Ok-clause-few g c = λ done. told_few _ _ _ c.in-Ok.ensures.files (c.drill_with.ensures.few done)

pub returns-in-Err-clause-few : goal.returns-in-Err-clause-few
returns-in-Err-clause-few g c = refusal_not _ (g.S.Shelf.files c.args.shelf.now) (told_word c.args.settings) _ _ Done c.without_report.ensures.status c.in-Err.ensures.refused (done_refused (g.S.Shelf.files c.args.shelf.now) (told_word c.args.settings))

pub returns-in-Ok-clause-done : goal.returns-in-Ok-clause-done
returns-in-Ok-clause-done g c = λ done. done_by c.in-Ok.settings _ _ _ _ _ _ _ c.in-Ok.ensures.files c.in-Ok.ensures.goes (c.drill_with.ensures.done done)

pub returns-in-Ok-clause-parts : goal.returns-in-Ok-clause-parts
returns-in-Ok-clause-parts g c = parts_by c.in-Ok.settings _ _ _ _ _ _ c.in-Ok.ensures.files c.in-Ok.ensures.goes c.drill_with.ensures.parts

pub returns-in-Ok-clause-read : goal.returns-in-Ok-clause-read
returns-in-Ok-clause-read g c = λ e. read_behind c.in-Ok.settings _ _ _ c.args.capture.now _ _ _ _ _ (c.in-Ok.ensures.read_later c.args.capture.now) c.in-Ok.ensures.files c.in-Ok.ensures.goes (c.drill_with.ensures.read e)

pub returns-in-Ok-clause-write : goal.returns-in-Ok-clause-write
returns-in-Ok-clause-write g c = λ e. either_since _ _ _ _ _ _ (c.in-Ok.ensures.write_later (delivery_name c.args.out.now)) (c.in-Ok.ensures.write_later (report_name c.args.out.now)) (c.drill_with.ensures.write e)

pub returns-in-Err-clause-answer : goal.returns-in-Err-clause-answer
returns-in-Err-clause-answer g c = refusal _ _ _ _ _ c.without_report.ensures.status c.in-Err.ensures.refused

pub returns-in-Err-clause-kinds : goal.returns-in-Err-clause-kinds
returns-in-Err-clause-kinds g c = refused_kinds (g.S.Shelf.files c.args.shelf.now) (told_word c.args.settings) _ _ c.without_report.ensures.status c.in-Err.ensures.refused

pub returns-in-Err-clause-history : goal.returns-in-Err-clause-history
returns-in-Err-clause-history g c = refusal_not _ (g.S.Shelf.files c.args.shelf.now) (told_word c.args.settings) _ _ Done c.without_report.ensures.status c.in-Err.ensures.refused (done_refused (g.S.Shelf.files c.args.shelf.now) (told_word c.args.settings))

pub returns-in-Err-clause-done : goal.returns-in-Err-clause-done
returns-in-Err-clause-done g c = refusal_not _ (g.S.Shelf.files c.args.shelf.now) (told_word c.args.settings) _ _ Done c.without_report.ensures.status c.in-Err.ensures.refused (done_refused (g.S.Shelf.files c.args.shelf.now) (told_word c.args.settings))

pub returns-in-Err-clause-parts : goal.returns-in-Err-clause-parts
returns-in-Err-clause-parts g c = parts_same _ _ _ _ _ c.in-Err.ensures.files

pub returns-in-Err-clause-write : goal.returns-in-Err-clause-write
returns-in-Err-clause-write g c = refusal_not _ (g.S.Shelf.files c.args.shelf.now) (told_word c.args.settings) _ _ WriteFault c.without_report.ensures.status c.in-Err.ensures.refused (write_refused (g.S.Shelf.files c.args.shelf.now) (told_word c.args.settings))

pub returns-in-Ok-clause-settings_few : goal.returns-in-Ok-clause-settings_few
returns-in-Ok-clause-settings_few g c = few_behind (g.S.Shelf.files c.args.shelf.now) c.drill_with.result.status (told_word c.args.settings) (g.S.Shelf.taken c.drill_with.new.shelf) c.drill_with.ensures.kinds

pub returns-in-Err-clause-settings_few : goal.returns-in-Err-clause-settings_few
returns-in-Err-clause-settings_few g c = few_without (g.S.Shelf.files c.args.shelf.now) _ _ (told_word c.args.settings) (g.S.Shelf.taken c.settings_by.new.shelf) c.without_report.ensures.status c.in-Err.ensures.few
