use Rattle.std.proofs.Common.{◌≡◌, ◌++◌, ap, sym, ◌∙◌, List, ℕ}
use Rattle.linewords.specs.Words.{words}
use Rattle.scapconf.proofs.WordLemmas.{spaced, joined_first}
use Rattle.scapconf.proofs.word.joined_words.Goals as goal

pub loop-word-init : goal.loop-word-init
loop-word-init c =
    let made : c.extend_from_slice.new.self.items ≡ c.in-Some.first.now = c.in_ok-extend_from_slice.ensures.items ∙ ap (λ (t : List ℕ). t ++ c.in-Some.first.now) c.new-text.ensures.items in
    joined_first (words c.args.line.now) c.in-Some.first.now (words c.in-Some.behind.now) c.in-Some.ensures.word ∙ ap (λ (t : List ℕ). t ++ spaced (words c.in-Some.behind.now)) (sym made)
