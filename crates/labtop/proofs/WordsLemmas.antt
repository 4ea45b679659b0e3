use Rattle.std.proofs.Common.{◌≡◌, ◌≢◌, ℕ, List, [], ◌∷◌, ◌<◌, ◌≤◌, arith, length, refl, subst, ap, ◌∙◌}
use Rattle.std.specs.Prelude.{All, Option}
use Rattle.std.specs.Borrow.{Bor}
use Rattle.pcapgen.specs.declared.limits.TheConstants.{MOST_RECORDS}
use Rattle.labtop.specs.declared.words.Asked.TheVariants as asked
use Rattle.labtop.specs.Names.{delivery_name, match_name, report_name}
use Rattle.labtop.specs.Words.{Means, Command, Drill, Match, Make, Wrong, Later, command_of, drill_of, drill_words, make_words, match_words, outputs_of, texts, told_word}

pub wrong_drill : (settings : Option (List ℕ)) (words : List (Bor (List ℕ))) → (length words ≡ 2 → ⊥) → Means asked.Wrong (drill_of settings (texts words))
wrong_drill settings [] h = tt
wrong_drill settings (a ∷ []) h = tt
wrong_drill settings (a ∷ b ∷ []) h = absurd (h refl)
wrong_drill settings (a ∷ b ∷ c ∷ words) h = tt

pub wrong_match : (words : List (Bor (List ℕ))) → (length words ≡ 3 → ⊥) → Means asked.Wrong (match_words (texts words))
wrong_match [] h = tt
wrong_match (a ∷ []) h = tt
wrong_match (a ∷ b ∷ []) h = tt
wrong_match (a ∷ b ∷ c ∷ []) h = absurd (h refl)
wrong_match (a ∷ b ∷ c ∷ d ∷ words) h = tt

pub wrong_make : (words : List (Bor (List ℕ))) → (length words ≡ 3 → ⊥) → Means asked.Wrong (make_words (texts words))
wrong_make [] h = tt
wrong_make (a ∷ []) h = tt
wrong_make (a ∷ b ∷ []) h = tt
wrong_make (a ∷ b ∷ c ∷ []) h = absurd (h refl)
wrong_make (a ∷ b ∷ c ∷ d ∷ words) h = tt

pub wrong_few : (words : List (Bor (List ℕ))) → length words < 2 → Means asked.Wrong (drill_words (texts words))
wrong_few [] h = tt
wrong_few (a ∷ []) h = tt
wrong_few (a ∷ b ∷ words) h = absurd (omega arith)

pub wrong_short : (words : List (Bor (List ℕ))) → length words < 2 → Means asked.Wrong (command_of (texts words))
wrong_short [] h = tt
wrong_short (a ∷ []) h = tt
wrong_short (a ∷ b ∷ words) h = absurd (omega arith)

pub drill_means : (s : Option (Bor (List ℕ))) (c o : Bor (List ℕ)) (x : Command) (settings : Option (List ℕ)) (capture out : List ℕ) → Means (asked.Drill s c o) x → x ≡ Drill settings capture out
    → (told_word s ≡ settings) × (c.now ≡ capture) × (o.now ≡ out)
drill_means s c o x settings capture out m e = let P : Command → Type 0 = Means (asked.Drill s c o) in subst P e m

-- what holds of the words of a drill holds of the command
pub at_drill : (P : Option (List ℕ) → List ℕ → List ℕ → Type 0) (s : Option (Bor (List ℕ))) (c o : Bor (List ℕ)) (x : Command) → Means (asked.Drill s c o) x
    → P (told_word s) c.now o.now → (settings : Option (List ℕ)) (capture out : List ℕ) → x ≡ Drill settings capture out → P settings capture out
at_drill P s c o x m h settings capture out e =
    let same = drill_means s c o x settings capture out m e in
    subst (λ (t : Option (List ℕ)). P t capture out) same.0 (subst (λ (t : List ℕ). P (told_word s) t out) same.1 (subst (λ (t : List ℕ). P (told_word s) c.now t) same.2 h))

pub match_means : (f c o : Bor (List ℕ)) (x : Command) (filter capture out : List ℕ) → Means (asked.Match f c o) x → x ≡ Match filter capture out
    → (f.now ≡ filter) × (c.now ≡ capture) × (o.now ≡ out)
match_means f c o x filter capture out m e = let P : Command → Type 0 = Means (asked.Match f c o) in subst P e m

pub at_match : (P : List ℕ → List ℕ → List ℕ → Type 0) (f c o : Bor (List ℕ)) (x : Command) → Means (asked.Match f c o) x
    → P f.now c.now o.now → (filter capture out : List ℕ) → x ≡ Match filter capture out → P filter capture out
at_match P f c o x m h filter capture out e =
    let same = match_means f c o x filter capture out m e in
    subst (λ (t : List ℕ). P t capture out) same.0 (subst (λ (t : List ℕ). P f.now t out) same.1 (subst (λ (t : List ℕ). P f.now c.now t) same.2 h))

pub make_means : (s n : ℕ) (c : Bor (List ℕ)) (x : Command) (seed count : ℕ) (capture : List ℕ) → Means (asked.Make s n c) x → x ≡ Make seed count capture
    → (s ≡ seed) × (n ≡ count) × (n ≤ MOST_RECORDS) × (c.now ≡ capture)
make_means s n c x seed count capture m e = let P : Command → Type 0 = Means (asked.Make s n c) in subst P e m

pub at_make : (P : ℕ → ℕ → List ℕ → Type 0) (s n : ℕ) (c : Bor (List ℕ)) (x : Command) → Means (asked.Make s n c) x
    → P s n c.now → (seed count : ℕ) (capture : List ℕ) → x ≡ Make seed count capture → P seed count capture
at_make P s n c x m h seed count capture e =
    let same = make_means s n c x seed count capture m e in
    subst (λ (t : ℕ). P t count capture) same.0 (subst (λ (t : ℕ). P s t capture) same.1 (subst (λ (t : List ℕ). P s n t) same.3 h))

pub make_few : (s n : ℕ) (c : Bor (List ℕ)) (x : Command) → Means (asked.Make s n c) x → n ≤ MOST_RECORDS
make_few s n c (Drill settings capture out) m = absurd m
make_few s n c (Match filter capture out) m = absurd m
make_few s n c (Make seed count capture) m = m.2
make_few s n c Wrong m = absurd m
make_few s n c Later m = absurd m

pub wrong_means : (x : Command) → Means asked.Wrong x → x ≡ Wrong
wrong_means (Drill s a b) m = absurd m
wrong_means (Match f a b) m = absurd m
wrong_means (Make s n a) m = absurd m
wrong_means Wrong m = refl
wrong_means Later m = absurd m

pub later_means : (x : Command) → Means asked.Later x → x ≡ Later
later_means (Drill s a b) m = absurd m
later_means (Match f a b) m = absurd m
later_means (Make s n a) m = absurd m
later_means Wrong m = absurd m
later_means Later m = refl

-- a name that is none of a command's outputs
pub not_outputs : (s : Option (Bor (List ℕ))) (c o : Bor (List ℕ)) (x : Command) (other : List ℕ) → Means (asked.Drill s c o) x → All (λ name. other ≢ name) (outputs_of x)
    → (other ≢ delivery_name o.now) × (other ≢ report_name o.now)
not_outputs s c o (Drill settings capture out) other m h = (λ e. h 0 [] (omega arith) (e ∙ ap delivery_name m.2), λ e. h 1 [] (omega arith) (e ∙ ap report_name m.2))
not_outputs s c o (Match filter capture out) other m h = absurd m
not_outputs s c o (Make seed count capture) other m h = absurd m
not_outputs s c o Wrong other m h = absurd m
not_outputs s c o Later other m h = absurd m

pub not_output : (f c o : Bor (List ℕ)) (x : Command) (other : List ℕ) → Means (asked.Match f c o) x → All (λ name. other ≢ name) (outputs_of x) → other ≢ match_name o.now
not_output f c o (Drill settings capture out) other m h = absurd m
not_output f c o (Match filter capture out) other m h = λ e. h 0 [] (omega arith) (e ∙ ap match_name m.2)
not_output f c o (Make seed count capture) other m h = absurd m
not_output f c o Wrong other m h = absurd m
not_output f c o Later other m h = absurd m

pub not_made : (s n : ℕ) (c : Bor (List ℕ)) (x : Command) (other : List ℕ) → Means (asked.Make s n c) x → All (λ name. other ≢ name) (outputs_of x) → other ≢ c.now
not_made s n c (Drill settings capture out) other m h = absurd m
not_made s n c (Match filter capture out) other m h = absurd m
not_made s n c (Make seed count capture) other m h = λ e. h 0 [] (omega arith) (e ∙ m.3)
not_made s n c Wrong other m h = absurd m
not_made s n c Later other m h = absurd m
