use Rattle.std.specs.Prelude.{ℕ, ◌≡◌, ◌≤◌, ◌-◌, ◌^◌, List, [], ◌∷◌, Bool, false, ◌&&◌, ◌||◌, not, nat_eq, nat_lt, codes, if◌then◌else◌, Option, Some, None}
use Rattle.std.specs.Borrow.{Bor}
use Rattle.std.specs.Str.{bytes_eq}
use Rattle.pcapgen.specs.declared.limits.TheConstants.{MOST_RECORDS}
use Rattle.textout.specs.Numbers.{number}
use Rattle.labtop.specs.declared.limits.TheConstants.{MOST_DIGITS}
use Rattle.labtop.specs.Names.{delivery_name, report_name, match_name}
use Rattle.labtop.specs.declared.words.Asked.{Asked}
use Rattle.labtop.specs.declared.words.Asked.TheVariants as asked

-- docs/RULES.md, "The run" and "Answers".

-- what words ask for: `Later` are those of commands and options that are not built yet, `Wrong` all others
pub data Command : Type 0 where
  Drill : (settings : Option (List ℕ)) → (capture out : List ℕ) → Command
  Match : (filter capture out : List ℕ) → Command
  Make : (seed count : ℕ) → (capture : List ℕ) → Command
  Wrong : Command
  Later : Command

-- the bytes of the words
abbrev pub texts : List (Bor (List ℕ)) → List (List ℕ)
texts [] = []
texts (word ∷ words) = word.now ∷ texts words

-- a positional isn't empty and doesn't begin with a dash
abbrev pub is_positional : List ℕ → Bool
is_positional [] = false
is_positional (c ∷ cs) = not (nat_eq c 45)

-- the commands that are not built yet
unfoldable pub is_later_command : List ℕ → Bool
is_later_command word = bytes_eq word (codes "audit")

-- the options of drill that are not built yet
unfoldable pub is_later_option : List ℕ → Bool
is_later_option word = bytes_eq word (codes "--cores") || bytes_eq word (codes "--workers") || bytes_eq word (codes "--seed")

abbrev pub has_later : List (List ℕ) → Bool
has_later [] = false
has_later (word ∷ words) = is_later_option word || has_later words

-- two positionals, and no output of a drill has the name of a file that is read
unfoldable pub is_output : (out name : List ℕ) → Bool
is_output out name = bytes_eq (delivery_name out) name || bytes_eq (report_name out) name

abbrev pub is_option : (out : List ℕ) → Option (List ℕ) → Bool
is_option out None = false
is_option out (Some name) = is_output out name

unfoldable pub is_drill : (settings : Option (List ℕ)) → (capture out : List ℕ) → Bool
is_drill settings capture out = is_positional capture && is_positional out && not (is_output out capture) && not (is_option out settings)

abbrev pub drill_of : Option (List ℕ) → List (List ℕ) → Command
drill_of settings [] = Wrong
drill_of settings (capture ∷ []) = Wrong
drill_of settings (capture ∷ out ∷ []) = if is_drill settings capture out then Drill settings capture out else Wrong
drill_of settings (capture ∷ out ∷ more ∷ words) = Wrong

-- `[--settings FILE] CAPTURE OUT`
abbrev pub drill_words : List (List ℕ) → Command
drill_words [] = Wrong
drill_words (word ∷ []) = Wrong
drill_words (word ∷ next ∷ words) =
    if bytes_eq word (codes "--settings") then drill_of (Some next) words else drill_of None (word ∷ next ∷ words)

-- three positionals, and the output doesn't have the capture's name
unfoldable pub is_match : (filter capture out : List ℕ) → Bool
is_match filter capture out =
    is_positional filter && is_positional capture && is_positional out && not (bytes_eq (match_name out) capture)

-- `FILTER CAPTURE OUT`
abbrev pub match_words : List (List ℕ) → Command
match_words [] = Wrong
match_words (filter ∷ []) = Wrong
match_words (filter ∷ capture ∷ []) = Wrong
match_words (filter ∷ capture ∷ out ∷ []) = if is_match filter capture out then Match filter capture out else Wrong
match_words (filter ∷ capture ∷ out ∷ more ∷ words) = Wrong

-- a number of 64 bits, and one of records: in decimal digits, zeros may lead
unfoldable pub seed_in : List ℕ → Option ℕ
seed_in word = number 10 MOST_DIGITS (2 ^ 64 - 1) word

unfoldable pub count_in : List ℕ → Option ℕ
count_in word = number 10 MOST_DIGITS MOST_RECORDS word

-- at least one record is made
abbrev pub make_of : (seed count : Option ℕ) → (capture : List ℕ) → Command
make_of None count capture = Wrong
make_of (Some seed) None capture = Wrong
make_of (Some seed) (Some count) capture = if nat_lt 0 count && is_positional capture then Make seed count capture else Wrong

-- `SEED COUNT CAPTURE`
abbrev pub make_words : List (List ℕ) → Command
make_words [] = Wrong
make_words (seed ∷ []) = Wrong
make_words (seed ∷ count ∷ []) = Wrong
make_words (seed ∷ count ∷ capture ∷ []) = make_of (seed_in seed) (count_in count) capture
make_words (seed ∷ count ∷ capture ∷ more ∷ words) = Wrong

-- a command and its words, behind the program's name; what is not built yet comes before what is wrong
abbrev pub command_of : List (List ℕ) → Command
command_of [] = Wrong
command_of (program ∷ []) = Wrong
command_of (program ∷ command ∷ words) =
    if is_later_command command then Later else
    if bytes_eq command (codes "drill") then (if has_later words then Later else drill_words words) else
    if bytes_eq command (codes "match") then match_words words else
    if bytes_eq command (codes "make") then make_words words else Wrong

-- something holds of the words of a drill, of a match, and of a make
abbrev pub OfDrill : List (Bor (List ℕ)) → (Option (List ℕ) → (capture out : List ℕ) → Type 0) → Type 0
OfDrill words P = (settings : Option (List ℕ)) (capture out : List ℕ) → command_of (texts words) ≡ Drill settings capture out → P settings capture out

abbrev pub OfMatch : List (Bor (List ℕ)) → ((filter capture out : List ℕ) → Type 0) → Type 0
OfMatch words P = (filter capture out : List ℕ) → command_of (texts words) ≡ Match filter capture out → P filter capture out

abbrev pub OfMake : List (Bor (List ℕ)) → ((seed count : ℕ) → (capture : List ℕ) → Type 0) → Type 0
OfMake words P = (seed count : ℕ) (capture : List ℕ) → command_of (texts words) ≡ Make seed count capture → P seed count capture

-- the files that a command creates
abbrev pub outputs_of : Command → List (List ℕ)
outputs_of (Drill settings capture out) = delivery_name out ∷ report_name out ∷ []
outputs_of (Match filter capture out) = match_name out ∷ []
outputs_of (Make seed count capture) = capture ∷ []
outputs_of Wrong = []
outputs_of Later = []

-- the bytes of an option's value
abbrev pub told_word : Option (Bor (List ℕ)) → Option (List ℕ)
told_word None = None
told_word (Some word) = Some word.now

-- what the code found is that command
abbrev pub Means : Asked → Command → Type 0
Means (asked.Drill s c o) (Drill settings capture out) = (told_word s ≡ settings) × (c.now ≡ capture) × (o.now ≡ out)
Means (asked.Match f c o) (Match filter capture out) = (f.now ≡ filter) × (c.now ≡ capture) × (o.now ≡ out)
Means (asked.Make s n c) (Make seed count capture) = (s ≡ seed) × (n ≡ count) × (n ≤ MOST_RECORDS) × (c.now ≡ capture)
Means asked.Wrong Wrong = Unit {0}
Means asked.Later Later = Unit {0}
Means _ _ = ⊥
