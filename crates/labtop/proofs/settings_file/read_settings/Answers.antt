use Rattle.labtop.proofs.SettingsLemmas.{few_read, goes_read, may_read, never_read, refused_read}
use Rattle.labtop.proofs.settings_file.read_settings.Goals as goal

pub returns-clause-goes : goal.returns-clause-goes
returns-clause-goes g c = goes_read _ _ c.in_ok-text.text.items _ c.in_ok-text.ensures.there c.in_ok-text.ensures.front (rw c.deref.ensures.value at c.settings_in.ensures.parsed)

pub returns-clause-may : goal.returns-clause-may
returns-clause-may g c = may_read c.args.name.now c.in_ok-text.text.items _ (rw c.deref.ensures.value at c.settings_in.ensures.parsed)

pub returns-clause-refused : goal.returns-clause-refused
returns-clause-refused g c = refused_read _ _ c.in_ok-text.text.items _ c.in_ok-text.ensures.there c.in_ok-text.ensures.front (rw c.deref.ensures.value at c.settings_in.ensures.refused)

pub returns-clause-cause : goal.returns-clause-cause
returns-clause-cause g c = never_read _ c.in_ok-text.text.items _ (rw c.deref.ensures.value at c.settings_in.ensures.refused)

pub returns-clause-few : goal.returns-clause-few
returns-clause-few g c = few_read (g.S.Shelf.files c.args.shelf.now) c.args.name.now (g.S.Shelf.taken c.read_file.new.shelf) _ c.in_ok-text.ensures.few
