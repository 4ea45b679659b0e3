use Rattle.std.proofs.Common.{◌≡◌, ℕ, Bool, true, false, cond, List, [], ◌∷◌, ◌++◌, take, get_or, Option, Some, None, find, codes, sym, ◌∙◌, ap, refl, subst, nat_eq}
use Rattle.std.specs.Option.{option_or}
use Rattle.std.specs.Str.{bytes_eq}
use Rattle.std.proofs.lemmas.List.Folds.{find-append}
use Rattle.std.proofs.lemmas.Slice.Eq.{bytes_eq-Decides, slice_eq-Decides}
use Rattle.scapconf.specs.declared.size.Size.{Size}
use Rattle.scapconf.specs.declared.size.Size.TheVariants.{Chunk, Overlap, Reorder}
use Rattle.scapconf.specs.declared.time.Time.{Time}
use Rattle.scapconf.specs.declared.time.Time.TheVariants.{Flush, Hole, Idle}
use Rattle.scapconf.specs.declared.place.Place.{Place}
use Rattle.scapconf.specs.declared.place.Place.TheVariants.{Default, Fore, Back}
use Rattle.scapconf.specs.declared.key.Key.{Key}
use Rattle.scapconf.specs.declared.key.Key.TheVariants as keys
use Rattle.scapconf.specs.declared.name.Name.{Name}
use Rattle.scapconf.specs.declared.name.Name.TheVariants as names
use Rattle.scapconf.specs.declared.setting.Setting.{Setting}
use Rattle.scapconf.specs.declared.setting.Setting.TheVariants as settings
use Rattle.linewords.specs.Words.{Words, word_at}
use Rattle.scapconf.specs.Names.{name, place, spelling, place_word, all_names, name_in, heading, words_eq, line_with, head}
use Rattle.scapconf.specs.Parser.{index, Means}

-- Words that name something, and headings of lines.

find_passes : {X : Type 0} (p : X → Bool) (xs : List X) (x : X) → find p xs ≡ Some x → p x ≡ true
find_passes p [] x h = absurd (cc)
find_passes {X} p (y ∷ ys) x h = by_test (p y) refl h (find_passes p ys x)
  where
    by_test : (b : Bool) → p y ≡ b → cond b (Some y) (find p ys) ≡ Some x → (find p ys ≡ Some x → p x ≡ true) → p x ≡ true
    by_test true e g later = let same : y ≡ x = cc in subst (λ (z : X). p z ≡ true) same e
    by_test false e g later = later g

pub same_bytes : (a b : List ℕ) → bytes_eq a b ≡ true → a ≡ b
same_bytes a b = (bytes_eq-Decides a b).0

pub same_words : (a b : Words) → words_eq a b ≡ true → a ≡ b
same_words a b = (slice_eq-Decides bytes_eq-Decides a b (words_eq a b) refl).0

pub words_same : (a : Words) → words_eq a a ≡ true
words_same a = (slice_eq-Decides bytes_eq-Decides a a (words_eq a a) refl).1 refl

name_is : (w : List ℕ) (n : Name) → name w ≡ Some n → w ≡ spelling n
unfolding name
name_is w n h = sym (same_bytes (spelling n) w (find_passes (λ m. bytes_eq (spelling m) w) all_names n h))

place_is : (w : List ℕ) (p : Place) → place w ≡ Some p → w ≡ place_word p
unfolding place
place_is w p h = sym (same_bytes (place_word p) w (find_passes (λ m. bytes_eq (place_word m) w) (Default ∷ Fore ∷ Back ∷ []) p h))

no_place : place [] ≡ None
unfolding place
no_place = refl

pub place_back : (p : Place) → place (place_word p) ≡ Some p
unfolding place
place_back Default = refl
place_back Fore = refl
place_back Back = refl

pub named_words : (ws : Words) (n : Name) → name_in ws ≡ Some n → (r : Words) × (ws ≡ spelling n ∷ r)
named_words [] n h = absurd (cc)
named_words (w ∷ r) n h = (r, ap (λ (v : List ℕ). v ∷ r) (name_is w n h))

-- the heading of what was read
abbrev pub heading_of : Setting → Words
heading_of (settings.Mode m) = head keys.Mode
heading_of (settings.Policy p) = head keys.Policy
heading_of (settings.Size which n) = head (keys.Size which)
heading_of (settings.Time which n) = head (keys.Time which)
heading_of (settings.Filter e) = head keys.Filter
heading_of (settings.Cutoff p c) = head (keys.Cutoff p)
heading_of (settings.Class rule) = codes "class" ∷ []
heading_of (settings.Budget m) = head keys.Budget
heading_of (settings.Rule rule) = codes "rule" ∷ []

-- the first words of lines of one name
abbrev pub heading_named : Name → Words → Words
heading_named n r = spelling n ∷ cond (bytes_eq (spelling n) (codes "cutoff")) (take 1 r) []

pub heading_is : (ws : Words) (n : Name) (r : Words) → ws ≡ spelling n ∷ r → heading ws ≡ heading_named n r
heading_is ws n r h = ap heading h

one_word : (r : Words) (p : Place) → place (get_or r 0 []) ≡ Some p → take 1 r ≡ place_word p ∷ []
one_word [] p h = absurd (cc (no_place))
one_word (x ∷ xs) p h = ap (λ (w : List ℕ). w ∷ []) (place_is x p h)

pub cutoff_heading : (ws : Words) (p : Place) → name_in ws ≡ Some names.Cutoff → place (word_at 1 ws) ≡ Some p → heading ws ≡ head (keys.Cutoff p)
cutoff_heading ws p h g =
    let it = named_words ws names.Cutoff h in
    heading_is ws names.Cutoff it.0 it.1
    ∙ ap (λ (t : Words). codes "cutoff" ∷ t) (one_word it.0 p (ap (λ (v : Words). place (word_at 1 v)) (sym it.1) ∙ g))

one_heading : (ws : Words) (n : Name) → name_in ws ≡ Some n → bytes_eq (spelling n) (codes "cutoff") ≡ false → heading ws ≡ spelling n ∷ []
one_heading ws n h other =
    let it = named_words ws n h in
    heading_is ws n it.0 it.1 ∙ ap (λ (b : Bool). spelling n ∷ cond b (take 1 it.0) []) other

size_other : (which : Size) → bytes_eq (spelling (names.Size which)) (codes "cutoff") ≡ false
size_other Chunk = refl
size_other Overlap = refl
size_other Reorder = refl

time_other : (which : Time) → bytes_eq (spelling (names.Time which)) (codes "cutoff") ≡ false
time_other Flush = refl
time_other Hole = refl
time_other Idle = refl

-- the heading of a line of a name, but for cutoffs
pub name_other : (n : Name) → (n ≡ names.Cutoff → ⊥) → bytes_eq (spelling n) (codes "cutoff") ≡ false
name_other names.Mode ne = refl
name_other names.Policy ne = refl
name_other (names.Size which) ne = size_other which
name_other (names.Time which) ne = time_other which
name_other names.Filter ne = refl
name_other names.Cutoff ne = absurd (ne refl)
name_other names.Class ne = refl
name_other names.Budget ne = refl
name_other names.Rule ne = refl

pub plain_heading : (ws : Words) (n : Name) → name_in ws ≡ Some n → (n ≡ names.Cutoff → ⊥) → heading ws ≡ spelling n ∷ []
plain_heading ws n h ne = one_heading ws n h (name_other n ne)

named_as : (ws : Words) (n m : Name) → name_in ws ≡ Some n → n ≡ m → name_in ws ≡ Some m
named_as ws n m h e = h ∙ ap (λ (k : Name). Some k) e

-- what was read tells the heading of its line
pub read_heading : (ws : Words) (n : Name) (s : Setting) → name_in ws ≡ Some n → Means n ws s → heading ws ≡ heading_of s
read_heading ws n (settings.Mode m) h g = plain_heading ws names.Mode (named_as ws n names.Mode h g.0) (λ e. absurd (cc))
read_heading ws n (settings.Policy p) h g = plain_heading ws names.Policy (named_as ws n names.Policy h g.0) (λ e. absurd (cc))
read_heading ws n (settings.Size which k) h g = plain_heading ws (names.Size which) (named_as ws n (names.Size which) h g.0) (λ e. absurd (cc))
read_heading ws n (settings.Time which k) h g = plain_heading ws (names.Time which) (named_as ws n (names.Time which) h g.0) (λ e. absurd (cc))
read_heading ws n (settings.Filter e) h g = plain_heading ws names.Filter (named_as ws n names.Filter h g.0) (λ e. absurd (cc))
read_heading ws n (settings.Cutoff p c) h g = cutoff_heading ws p (named_as ws n names.Cutoff h g.0) g.1
read_heading ws n (settings.Class rule) h g = plain_heading ws names.Class (named_as ws n names.Class h g.0) (λ e. absurd (cc))
read_heading ws n (settings.Budget m) h g = plain_heading ws names.Budget (named_as ws n names.Budget h g.0) (λ e. absurd (cc))
read_heading ws n (settings.Rule rule) h g = plain_heading ws names.Rule (named_as ws n names.Rule h g.0) (λ e. absurd (cc))

-- Lines that have a heading, with one line more.

or_none : (o : Option Words) → option_or o None ≡ o
or_none None = refl
or_none (Some ws) = refl

line_more : (h : Words) (before : List Words) (ws : Words) → line_with h (before ++ ws ∷ []) ≡ option_or (line_with h before) (cond (words_eq (heading ws) h) (Some ws) None)
line_more h before ws = find-append (λ v. words_eq (heading v) h) before (ws ∷ [])

pub line_same : (h : Words) (before : List Words) (ws : Words) → words_eq (heading ws) h ≡ false → line_with h (before ++ ws ∷ []) ≡ line_with h before
line_same h before ws apart = line_more h before ws ∙ ap (λ (b : Bool). option_or (line_with h before) (cond b (Some ws) None)) apart ∙ or_none (line_with h before)

pub line_new : (h : Words) (before : List Words) (ws : Words) → line_with h before ≡ None → words_eq (heading ws) h ≡ true → line_with h (before ++ ws ∷ []) ≡ Some ws
line_new h before ws none same =
    line_more h before ws ∙ ap (λ (b : Bool). option_or (line_with h before) (cond b (Some ws) None)) same ∙ ap (λ (o : Option Words). option_or o (Some ws)) none

-- Keys.

unfoldable all_keys : List Key
all_keys =
    keys.Mode ∷ keys.Policy ∷ keys.Size Chunk ∷ keys.Size Overlap ∷ keys.Size Reorder ∷ keys.Time Flush ∷ keys.Time Hole ∷ keys.Time Idle
    ∷ keys.Filter ∷ keys.Cutoff Default ∷ keys.Cutoff Fore ∷ keys.Cutoff Back ∷ keys.Budget ∷ []

unfoldable key_of_head : Words → Option Key
key_of_head h = find (λ k. words_eq (head k) h) all_keys

head_back : (k : Key) → key_of_head (head k) ≡ Some k
unfolding key_of_head all_keys
head_back keys.Mode = refl
head_back keys.Policy = refl
head_back (keys.Size Chunk) = refl
head_back (keys.Size Overlap) = refl
head_back (keys.Size Reorder) = refl
head_back (keys.Time Flush) = refl
head_back (keys.Time Hole) = refl
head_back (keys.Time Idle) = refl
head_back keys.Filter = refl
head_back (keys.Cutoff Default) = refl
head_back (keys.Cutoff Fore) = refl
head_back (keys.Cutoff Back) = refl
head_back keys.Budget = refl

unfoldable key_at : ℕ → Option Key
key_at i = find (λ k. nat_eq (index k) i) all_keys

index_back : (k : Key) → key_at (index k) ≡ Some k
unfolding key_at all_keys
index_back keys.Mode = refl
index_back keys.Policy = refl
index_back (keys.Size Chunk) = refl
index_back (keys.Size Overlap) = refl
index_back (keys.Size Reorder) = refl
index_back (keys.Time Flush) = refl
index_back (keys.Time Hole) = refl
index_back (keys.Time Idle) = refl
index_back keys.Filter = refl
index_back (keys.Cutoff Default) = refl
index_back (keys.Cutoff Fore) = refl
index_back (keys.Cutoff Back) = refl
index_back keys.Budget = refl

some_same : (k key : Key) → Some k ≡ Some key → k ≡ key
some_same k key h = cc

-- keys of one heading are one
pub head_tells : (k key : Key) → words_eq (head k) (head key) ≡ true → k ≡ key
head_tells k key h = some_same k key (sym (head_back k) ∙ ap key_of_head (same_words (head k) (head key) h) ∙ head_back key)

-- and keys of one index
pub index_tells : (k key : Key) → index k ≡ index key → k ≡ key
index_tells k key h = some_same k key (sym (index_back k) ∙ ap key_at h ∙ index_back key)
