use Rattle.std.proofs.Common.{[], ◌∷◌, ◌++◌, ◌∙◌, List, ℕ, ap}
use Rattle.std.proofs.lemmas.List.{append-nil}
use Rattle.std.proofs.lemmas.Grind.{flat_map-append}
use Rattle.histbook.specs.JournalText.{entry_line, book_lines}
use Rattle.histbook.proofs.laws.text_grows_by_a_line.Goals as goal

pub returns : goal.returns
returns c = λ book entry. flat_map-append entry_line book (entry ∷ []) ∙ ap (λ (l : List ℕ). book_lines book ++ l) (append-nil (entry_line entry))
