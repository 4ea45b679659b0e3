use Rattle.std.specs.Prelude.{ℕ, Bool, ◌||◌, not, List, [], length, nat_eq, filter, slice_index_or}
use Rattle.std.specs.List.{slice_split}

-- The words of a line.

-- a space or a tab
abbrev pub is_blank : ℕ → Bool
is_blank b = nat_eq b 32 || nat_eq b 9

-- words, each by its bytes
abbrev pub Words : Type 0
Words = List (List ℕ)

abbrev pub is_some_word : List ℕ → Bool
is_some_word w = not (nat_eq (length w) 0)

-- what stands between the blanks of a line
unfoldable pub words : List ℕ → Words
words line = filter is_some_word (slice_split is_blank line)

-- a word by its place, from 0; one that is missing is empty
abbrev pub word_at : ℕ → Words → List ℕ
word_at i ws = slice_index_or ws i []
