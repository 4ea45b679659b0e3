use Rattle.std.specs.Prelude.{ℕ, Bool, true, false, List, [], ◌∷◌, Option, None, codes, find, take, if◌then◌else◌}
use Rattle.std.specs.Cmp.Lexicographic.{pointwise}
use Rattle.std.specs.Str.{bytes_eq}
use Rattle.scapconf.specs.declared.size.Size.{Size}
use Rattle.scapconf.specs.declared.size.Size.TheVariants.{Chunk, Overlap, Reorder}
use Rattle.scapconf.specs.declared.time.Time.{Time}
use Rattle.scapconf.specs.declared.time.Time.TheVariants.{Flush, Hole, Idle}
use Rattle.scapconf.specs.declared.place.Place.{Place}
use Rattle.scapconf.specs.declared.place.Place.TheVariants.{Default, Fore, Back}
use Rattle.scapconf.specs.declared.name.Name.{Name}
use Rattle.scapconf.specs.declared.name.Name.TheVariants as names
use Rattle.scapconf.specs.declared.key.Key.{Key}
use Rattle.scapconf.specs.declared.key.Key.TheVariants as keys
use Rattle.linewords.specs.Words.{Words}

-- The words that lines begin with, and by which a line says what another said before.

abbrev pub size_word : Size → List ℕ
size_word Chunk = codes "chunk"
size_word Overlap = codes "overlap"
size_word Reorder = codes "reorder"

abbrev pub time_word : Time → List ℕ
time_word Flush = codes "flush"
time_word Hole = codes "hole"
time_word Idle = codes "idle"

abbrev pub place_word : Place → List ℕ
place_word Default = codes "default"
place_word Fore = codes "fore"
place_word Back = codes "back"

abbrev pub spelling : Name → List ℕ
spelling names.Mode = codes "mode"
spelling names.Policy = codes "policy"
spelling (names.Size size) = size_word size
spelling (names.Time time) = time_word time
spelling names.Filter = codes "filter"
spelling names.Cutoff = codes "cutoff"
spelling names.Class = codes "class"
spelling names.Budget = codes "budget"
spelling names.Rule = codes "rule"

abbrev pub all_names : List Name
all_names =
    names.Mode ∷ names.Policy ∷ names.Size Chunk ∷ names.Size Overlap ∷ names.Size Reorder ∷ names.Time Flush ∷ names.Time Hole
    ∷ names.Time Idle ∷ names.Filter ∷ names.Cutoff ∷ names.Class ∷ names.Budget ∷ names.Rule ∷ []

-- the name that a word is
unfoldable pub name : List ℕ → Option Name
name word = find (λ n. bytes_eq (spelling n) word) all_names

-- the streams that a cutoff's second word names
unfoldable pub place : List ℕ → Option Place
place word = find (λ p. bytes_eq (place_word p) word) (Default ∷ Fore ∷ Back ∷ [])

-- the name of a line of these words
abbrev pub name_in : Words → Option Name
name_in [] = None
name_in (w ∷ ws) = name w

-- classes and rules may be many
abbrev pub stands_once : Name → Bool
stands_once names.Class = false
stands_once names.Rule = false
stands_once names.Mode = true
stands_once names.Policy = true
stands_once (names.Size size) = true
stands_once (names.Time time) = true
stands_once names.Filter = true
stands_once names.Cutoff = true
stands_once names.Budget = true

-- lines say the same where they have the same first word, and cutoffs where they have the same first two
abbrev pub heading : Words → Words
heading [] = []
heading (w ∷ ws) = w ∷ (if bytes_eq w (codes "cutoff") then take 1 ws else [])

abbrev pub words_eq : Words → Words → Bool
words_eq = pointwise bytes_eq

-- the line with that heading
abbrev pub line_with : Words → List Words → Option Words
line_with head = find (λ ws. words_eq (heading ws) head)

-- the heading of what is said once at most
abbrev pub head : Key → Words
head keys.Mode = codes "mode" ∷ []
head keys.Policy = codes "policy" ∷ []
head (keys.Size size) = size_word size ∷ []
head (keys.Time time) = time_word time ∷ []
head keys.Filter = codes "filter" ∷ []
head (keys.Cutoff place) = codes "cutoff" ∷ place_word place ∷ []
head keys.Budget = codes "budget" ∷ []
