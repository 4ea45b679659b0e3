use Rattle.std.specs.Prelude.{ℕ, ◌+◌, Bool, false, ◌&&◌, ◌||◌, not, List, [], ◌∷◌, nat_eq, if◌then◌else◌}

-- a token: where it begins in the text, and its bytes
pub record Token : Type 0 where
  pub at : ℕ
  pub bytes : List ℕ

-- a space or a tab
abbrev pub is_blank : ℕ → Bool
is_blank b = nat_eq b 32 || nat_eq b 9

abbrev pub is_bracket : ℕ → Bool
is_bracket b = nat_eq b 40 || nat_eq b 41

-- any other byte
abbrev pub is_plain : ℕ → Bool
is_plain b = not (is_blank b || is_bracket b)

abbrev pub begins_plain : List ℕ → Bool
begins_plain [] = false
begins_plain (b ∷ bs) = is_plain b

-- the tokens with a plain byte before them: it joins a plain token that stands right behind it
abbrev pub with_plain : ℕ → ℕ → List Token → List Token
with_plain at b [] = record { at = at; bytes = b ∷ [] } ∷ []
with_plain at b (t ∷ ts) =
    if nat_eq t.at (at + 1) && begins_plain t.bytes
    then record { at = at; bytes = b ∷ t.bytes } ∷ ts
    else record { at = at; bytes = b ∷ [] } ∷ t ∷ ts

-- the tokens of a text that begins at that offset: brackets, each by itself, and the longest runs of plain bytes
abbrev pub tokens : ℕ → List ℕ → List Token
tokens at [] = []
tokens at (b ∷ bs) =
    if is_blank b then tokens (at + 1) bs else
    if is_bracket b then record { at = at; bytes = b ∷ [] } ∷ tokens (at + 1) bs else
    with_plain at b (tokens (at + 1) bs)
