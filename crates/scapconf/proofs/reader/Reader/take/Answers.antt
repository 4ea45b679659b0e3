use Rattle.std.proofs.Common.{sym, ◌∙◌, subst, ◌++◌, ◌∷◌, []}
use Rattle.linewords.specs.Words.{Words}
use Rattle.scapconf.specs.Parser.{Stands}
use Rattle.scapconf.proofs.StepLemmas.{silent_step}
use Rattle.scapconf.proofs.LineLemmas.{named_result, first_named, said_comment, said_words, silent_clean, text_fault, word_fault}
use Rattle.scapconf.proofs.reader.Reader.take.Goals as goal

pub returns-then-not-is_text : goal.returns-then-not-is_text
returns-then-not-is_text c before stands = text_fault before c.args.line.now (sym c.is_text.ensures ∙ c.if-not-is_text.true)

pub returns-then-is_comment : goal.returns-then-is_comment
returns-then-is_comment c before stands =
    let line = c.args.line.now in
    let silent = said_comment line (sym c.is_comment.ensures ∙ c.if-is_comment.true) in (
      silent_clean before line (sym c.is_text.ensures ∙ c.if-not-is_text.false) silent,
      subst (λ (ws : Words). Stands (before ++ ws ∷ []) c.args.self.now) (sym silent) (silent_step before c.args.self.now stands),
    )

pub returns-in-None : goal.returns-in-None
returns-in-None c before stands =
    let line = c.args.line.now in
    let silent = said_words line (sym c.is_comment.ensures ∙ c.if-is_comment.false) ∙ c.in-None.ensures.word in (
      silent_clean before line (sym c.is_text.ensures ∙ c.if-not-is_text.false) silent,
      subst (λ (ws : Words). Stands (before ++ ws ∷ []) c.args.self.now) (sym silent) (silent_step before c.args.self.now stands),
    )

pub returns-in-None-of : goal.returns-in-None-of
returns-in-None-of c before stands =
    let line = c.args.line.now in
    word_fault before line _ _ (sym c.is_text.ensures ∙ c.if-not-is_text.false) (said_words line (sym c.is_comment.ensures ∙ c.if-is_comment.false) ∙ c.in-Some.ensures.word) (sym c.in-None-of.ensures)

pub returns-in-Some-of : goal.returns-in-Some-of
returns-in-Some-of c before stands =
    let line = c.args.line.now in
    let named = first_named line _ _ c.in-Some-of.name c.in-Some.ensures.word (sym c.in-Some-of.ensures) in
    named_result before line c.in-Some-of.name c.take_named.new.self c.take_named.result (sym c.is_text.ensures ∙ c.if-not-is_text.false)
    (said_words line (sym c.is_comment.ensures ∙ c.if-is_comment.false)) named (c.take_named.ensures before stands)
