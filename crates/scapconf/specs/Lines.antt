use Rattle.std.specs.Prelude.{ℕ, Bool, false, ◌&&◌, ◌||◌, List, [], ◌∷◌, nat_eq, nat_le, if◌then◌else◌}
use Rattle.std.specs.List.{list_all, join_with_byte}
use Rattle.linewords.specs.Words.{Words, words}

-- Lines and words of a settings text: docs/FORMATS.md, "Settings". The lines are those of `Str.Lines`: each ends with a
-- line feed, which the last may lack, and one carriage return before the line feed is dropped.

-- a tab, or a printable byte of ASCII
abbrev pub is_text_byte : ℕ → Bool
is_text_byte b = nat_eq b 9 || (nat_le 32 b && nat_le b 126)

abbrev pub is_text : List ℕ → Bool
is_text = list_all is_text_byte

-- a comment begins with `#`
abbrev pub is_comment : List ℕ → Bool
is_comment [] = false
is_comment (b ∷ bs) = nat_eq b 35

-- the words that a line says: a comment says none
abbrev pub said : List ℕ → Words
said line = if is_comment line then [] else words line

-- words joined by one space
abbrev pub joined : Words → List ℕ
joined = join_with_byte 32
