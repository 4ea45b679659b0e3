use Rattle.std.proofs.Common.{◌∙◌, sym, subst, arith, refl, take, map}
use Rattle.std.specs.Str.Lines.{lines}
use Rattle.scapconf.specs.declared.settings_error.SettingsError.{SettingsError}
use Rattle.scapconf.specs.Lines.{said}
use Rattle.scapconf.specs.Faults.{IsFault}
use Rattle.scapconf.specs.Parser.{IsMemoryOrFault}
use Rattle.scapconf.proofs.ParseLemmas.{drop_more, stands_more, clean_taken, refused_next, reads_all, none_clean}
use Rattle.scapconf.proofs.settings.Settings.read.Goals as goal

pub loop-line-init : goal.loop-line-init
loop-line-init c =
    record {
      rest = refl;
      short = omega arith;
      few = omega arith;
      clean = none_clean (lines c.args.text.now);
      stands = c.in_ok-reader.ensures;
    }

pub loop-line-preserved : goal.loop-line-preserved
loop-line-preserved c =
    let ls = lines c.args.text.now in
    let n = c.loop-line.number in
    let next = sym c.loop-line.invariant.rest ∙ c.in-Some.ensures.line in
    let taken = c.in-Ok.ensures (map said (take n ls)) c.loop-line.invariant.stands in
    let shorter = c.in-Some.ensures.shorter in
    record {
      rest = sym (drop_more ls n _ _ next);
      short = c.loop-line.invariant.short;
      few = omega arith;
      clean = clean_taken ls n _ _ next c.loop-line.invariant.clean taken.0;
      stands = stands_more ls n _ _ c.take.new.self next taken.1;
    }

pub returns-in-Err-clause-refused : goal.returns-in-Err-clause-refused
returns-in-Err-clause-refused c =
    let ls = lines c.args.text.now in
    let n = c.loop-line.number in
    let next = sym c.loop-line.invariant.rest ∙ c.in-Some.ensures.line in
    let fault = refused_next c.args.text.now n _ _ c.in-Err.error c.loop-line.invariant.short next c.loop-line.invariant.clean (c.in-Err.ensures (map said (take n ls)) c.loop-line.invariant.stands) in
    subst (λ (e : SettingsError). IsMemoryOrFault (IsFault c.args.text.now) e) (sym c.at.ensures) fault

pub returns-clause-parsed : goal.returns-clause-parsed
returns-clause-parsed c =
    let ended = sym c.loop-line.invariant.rest ∙ c.in_default.ensures.line in
    reads_all c.args.text.now c.loop-line.number c.loop-line.reader c.into_settings.result c.loop-line.invariant.short ended c.loop-line.invariant.clean c.loop-line.invariant.stands c.into_settings.ensures
