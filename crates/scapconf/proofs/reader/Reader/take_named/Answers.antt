use Rattle.std.proofs.Common.{sym, ◌∙◌, ap, Bool, List}
use Rattle.std.proofs.lemmas.Result.{err_from_is_err_and}
use Rattle.linewords.specs.Words.{words}
use Rattle.scapconf.specs.Faults.{count_fits}
use Rattle.scapconf.specs.Parser.{IsPassed, has_key, with_key}
use Rattle.scapconf.proofs.StepLemmas.{stands_step}
use Rattle.scapconf.proofs.LineLemmas.{repeated_tells, full_tells, read_values, refused_by}
use Rattle.scapconf.proofs.reader.Reader.take_named.Goals as goal

pub returns-then-has : goal.returns-then-has
returns-then-has c before stands =
    let ws = words c.args.line.now in
    sym (c.has.ensures ∙ ap (has_key c.args.self.now.seen) c.key_of-key.ensures ∙ repeated_tells before c.args.self.now ws c.args.name stands c.requires.named) ∙ c.if-has.true

pub returns-then-is_full : goal.returns-then-is_full
returns-then-is_full c before stands =
    let ws = words c.args.line.now in (
      sym (c.has.ensures ∙ ap (has_key c.args.self.now.seen) c.key_of-key.ensures ∙ repeated_tells before c.args.self.now ws c.args.name stands c.requires.named) ∙ c.if-has.false,
      sym (c.is_full.ensures ∙ full_tells before c.args.self.now ws c.args.name stands c.requires.named) ∙ c.if-is_full.true,
    )

pub returns-then-not-fits : goal.returns-then-not-fits
returns-then-not-fits c before stands =
    let ws = words c.args.line.now in (
      sym (c.has.ensures ∙ ap (has_key c.args.self.now.seen) c.key_of-key.ensures ∙ repeated_tells before c.args.self.now ws c.args.name stands c.requires.named) ∙ c.if-has.false,
      sym (c.is_full.ensures ∙ full_tells before c.args.self.now ws c.args.name stands c.requires.named) ∙ c.if-is_full.false,
      sym (c.fits.ensures ∙ ap (count_fits c.args.name) c.count_words.ensures) ∙ c.if-not-fits.true,
    )

pub returns-in_err-setting : goal.returns-in_err-setting
returns-in_err-setting c before stands =
    let ws = words c.args.line.now in
    let once = sym (c.has.ensures ∙ ap (has_key c.args.self.now.seen) c.key_of-key.ensures ∙ repeated_tells before c.args.self.now ws c.args.name stands c.requires.named) ∙ c.if-has.false in
    let few = sym (c.is_full.ensures ∙ full_tells before c.args.self.now ws c.args.name stands c.requires.named) ∙ c.if-is_full.false in
    let counted = sym (c.fits.ensures ∙ ap (count_fits c.args.name) c.count_words.ensures) ∙ c.if-not-fits.false in
    let passed : IsPassed before c.args.name ws = record { once = once; few = few; counted = counted } in
    let refusal = refused_by before c.args.name ws c.in_err-setting.field-0.0 passed c.in_err-setting.ensures in
    let p = err_from_is_err_and c.from_residual.result c.from_residual.ensures.1 in
    rw (p.1, p.2) refusal

pub returns : goal.returns
returns c before stands =
    let ws = words c.args.line.now in
    let once = sym (c.has.ensures ∙ ap (has_key c.args.self.now.seen) c.key_of-key.ensures ∙ repeated_tells before c.args.self.now ws c.args.name stands c.requires.named) ∙ c.if-has.false in
    let few = sym (c.is_full.ensures ∙ full_tells before c.args.self.now ws c.args.name stands c.requires.named) ∙ c.if-is_full.false in
    let counted = sym (c.fits.ensures ∙ ap (count_fits c.args.name) c.count_words.ensures) ∙ c.if-not-fits.false in
    let read = c.in_ok-setting.ensures in (
      record {
        passed = record { once = once; few = few; counted = counted };
        values = read_values c.args.name ws c.in_ok-setting.setting read.means;
        no_budget_fault = read.no_budget_fault;
        no_filter_fault = read.no_filter_fault;
        no_rule_fault = read.no_rule_fault;
      },
      stands_step before ws c.args.name c.in_ok-setting.setting c.args.self.now c.mark.new.self c.requires.named read.means once
          (c.mark.ensures.same ∙ c.in_ok-apply.ensures.settings) (c.mark.ensures.seen ∙ ap (λ (s : List Bool). with_key s c.key_of-key.result) c.in_ok-apply.ensures.seen ∙ ap (with_key c.args.self.now.seen) c.key_of-key.ensures) stands,
    )
