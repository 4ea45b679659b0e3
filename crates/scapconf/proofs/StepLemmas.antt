use Rattle.std.proofs.Common.{◌≡◌, ◌<◌, ℕ, ◌+◌, Bool, true, false, cond, ◌&&◌, List, [], ◌∷◌, ◌++◌, length, get_or, set, Option, Some, None, codes, sym, ◌∙◌, ap, refl, subst, arith, filter, get_or-set_same, get_or-set_other, length-set}
use Rattle.std.specs.Prelude.{is_some, MatchOption, count_by}
use Rattle.std.specs.List.{AllZip}
use Rattle.std.specs.Option.{option_map}
use Rattle.std.proofs.lemmas.List.Elements.{filter-append}
use Rattle.std.proofs.lemmas.List.Sums.{length-filter}
use Rattle.std.proofs.lemmas.List.{append-nil, length-append}
use Rattle.std.proofs.lemmas.Bool.{false≢true}
use Rattle.cutclass.specs.declared.class_rule.ClassRule.{ClassRule}
use Rattle.handler.specs.Grammar.{IsRule}
use Rattle.scapconf.specs.declared.size.Size.{Size}
use Rattle.scapconf.specs.declared.size.Size.TheVariants.{Chunk, Overlap, Reorder}
use Rattle.scapconf.specs.declared.time.Time.{Time}
use Rattle.scapconf.specs.declared.time.Time.TheVariants.{Flush, Hole, Idle}
use Rattle.scapconf.specs.declared.place.Place.{Place}
use Rattle.scapconf.specs.declared.place.Place.TheVariants.{Default, Fore, Back}
use Rattle.scapconf.specs.declared.key.Key.{Key}
use Rattle.scapconf.specs.declared.key.Key.TheVariants as keys
use Rattle.scapconf.specs.declared.name.Name.{Name}
use Rattle.scapconf.specs.declared.setting.Setting.{Setting}
use Rattle.scapconf.specs.declared.setting.Setting.TheVariants as settings
use Rattle.scapconf.specs.declared.settings.Settings.{Settings}
use Rattle.scapconf.specs.declared.reader.Reader.{Reader}
use Rattle.linewords.specs.Words.{Words, word_at}
use Rattle.scapconf.specs.Names.{place, place_word, size_word, time_word, stands_once, name_in, heading, words_eq, line_with, head}
use Rattle.scapconf.specs.Faults.{is_repeated}
use Rattle.scapconf.specs.Says.{IsDefault, IsValue, IsClass, begins, Says}
use Rattle.scapconf.specs.Parser.{index, key_in, with_key, Means, applied, Stands}
use Rattle.scapconf.proofs.HeadLemmas.{heading_of, head_tells, index_tells, line_same, line_new, read_heading, words_same, same_words, place_back}

-- One line more.

-- what a line says once
abbrev pub key_of : Setting → Option Key
key_of (settings.Mode m) = Some keys.Mode
key_of (settings.Policy p) = Some keys.Policy
key_of (settings.Size which n) = Some (keys.Size which)
key_of (settings.Time which n) = Some (keys.Time which)
key_of (settings.Filter e) = Some keys.Filter
key_of (settings.Cutoff p c) = Some (keys.Cutoff p)
key_of (settings.Class rule) = None
key_of (settings.Budget m) = Some keys.Budget
key_of (settings.Rule rule) = None

-- what is set for a key stays
abbrev Stays : Key → Settings → Settings → Type 0
Stays key s t = (IsDefault key s → IsDefault key t) × ((ws : Words) → IsValue key ws s → IsValue key ws t)

abbrev same : {A : Type 0} {B : Words → Type 0} → (A → A) × ((ws : Words) → B ws → B ws)
same = (λ h. h, λ ws h. h)

-- a line changes what it speaks of alone
others : (setting : Setting) (s : Settings) (key : Key) → (key_of setting ≡ Some key → ⊥) → Stays key s (applied setting s)
others (settings.Mode m) s (keys.Size Chunk) ne = same
others (settings.Mode m) s (keys.Size Overlap) ne = same
others (settings.Mode m) s (keys.Size Reorder) ne = same
others (settings.Mode m) s (keys.Time Flush) ne = same
others (settings.Mode m) s (keys.Time Hole) ne = same
others (settings.Mode m) s (keys.Time Idle) ne = same
others (settings.Mode m) s keys.Mode ne = absurd (ne refl)
others (settings.Mode m) s _ ne = same
others (settings.Policy p) s (keys.Size Chunk) ne = same
others (settings.Policy p) s (keys.Size Overlap) ne = same
others (settings.Policy p) s (keys.Size Reorder) ne = same
others (settings.Policy p) s (keys.Time Flush) ne = same
others (settings.Policy p) s (keys.Time Hole) ne = same
others (settings.Policy p) s (keys.Time Idle) ne = same
others (settings.Policy p) s keys.Policy ne = absurd (ne refl)
others (settings.Policy p) s _ ne = same
others (settings.Size Chunk n) s (keys.Size Chunk) ne = absurd (ne refl)
others (settings.Size Chunk n) s (keys.Size Overlap) ne = same
others (settings.Size Chunk n) s (keys.Size Reorder) ne = same
others (settings.Size Chunk n) s (keys.Time Flush) ne = same
others (settings.Size Chunk n) s (keys.Time Hole) ne = same
others (settings.Size Chunk n) s (keys.Time Idle) ne = same
others (settings.Size Chunk n) s _ ne = same
others (settings.Size Overlap n) s (keys.Size Chunk) ne = same
others (settings.Size Overlap n) s (keys.Size Overlap) ne = absurd (ne refl)
others (settings.Size Overlap n) s (keys.Size Reorder) ne = same
others (settings.Size Overlap n) s (keys.Time Flush) ne = same
others (settings.Size Overlap n) s (keys.Time Hole) ne = same
others (settings.Size Overlap n) s (keys.Time Idle) ne = same
others (settings.Size Overlap n) s _ ne = same
others (settings.Size Reorder n) s (keys.Size Chunk) ne = same
others (settings.Size Reorder n) s (keys.Size Overlap) ne = same
others (settings.Size Reorder n) s (keys.Size Reorder) ne = absurd (ne refl)
others (settings.Size Reorder n) s (keys.Time Flush) ne = same
others (settings.Size Reorder n) s (keys.Time Hole) ne = same
others (settings.Size Reorder n) s (keys.Time Idle) ne = same
others (settings.Size Reorder n) s _ ne = same
others (settings.Time Flush n) s (keys.Size Chunk) ne = same
others (settings.Time Flush n) s (keys.Size Overlap) ne = same
others (settings.Time Flush n) s (keys.Size Reorder) ne = same
others (settings.Time Flush n) s (keys.Time Flush) ne = absurd (ne refl)
others (settings.Time Flush n) s (keys.Time Hole) ne = same
others (settings.Time Flush n) s (keys.Time Idle) ne = same
others (settings.Time Flush n) s _ ne = same
others (settings.Time Hole n) s (keys.Size Chunk) ne = same
others (settings.Time Hole n) s (keys.Size Overlap) ne = same
others (settings.Time Hole n) s (keys.Size Reorder) ne = same
others (settings.Time Hole n) s (keys.Time Flush) ne = same
others (settings.Time Hole n) s (keys.Time Hole) ne = absurd (ne refl)
others (settings.Time Hole n) s (keys.Time Idle) ne = same
others (settings.Time Hole n) s _ ne = same
others (settings.Time Idle n) s (keys.Size Chunk) ne = same
others (settings.Time Idle n) s (keys.Size Overlap) ne = same
others (settings.Time Idle n) s (keys.Size Reorder) ne = same
others (settings.Time Idle n) s (keys.Time Flush) ne = same
others (settings.Time Idle n) s (keys.Time Hole) ne = same
others (settings.Time Idle n) s (keys.Time Idle) ne = absurd (ne refl)
others (settings.Time Idle n) s _ ne = same
others (settings.Filter e) s keys.Filter ne = absurd (ne refl)
others (settings.Filter e) s _ ne = same
others (settings.Cutoff Default c) s (keys.Cutoff Default) ne = absurd (ne refl)
others (settings.Cutoff Default c) s (keys.Cutoff Fore) ne = same
others (settings.Cutoff Default c) s (keys.Cutoff Back) ne = same
others (settings.Cutoff Default c) s _ ne = same
others (settings.Cutoff Fore c) s (keys.Cutoff Default) ne = same
others (settings.Cutoff Fore c) s (keys.Cutoff Fore) ne = absurd (ne refl)
others (settings.Cutoff Fore c) s (keys.Cutoff Back) ne = same
others (settings.Cutoff Fore c) s _ ne = same
others (settings.Cutoff Back c) s (keys.Cutoff Default) ne = same
others (settings.Cutoff Back c) s (keys.Cutoff Fore) ne = same
others (settings.Cutoff Back c) s (keys.Cutoff Back) ne = absurd (ne refl)
others (settings.Cutoff Back c) s _ ne = same
others (settings.Class rule) s (keys.Cutoff Default) ne = same
others (settings.Class rule) s (keys.Cutoff Fore) ne = same
others (settings.Class rule) s (keys.Cutoff Back) ne = same
others (settings.Class rule) s _ ne = same
others (settings.Budget m) s keys.Budget ne = absurd (ne refl)
others (settings.Budget m) s _ ne = same
others (settings.Rule rule) s keys.Mode ne = same
others (settings.Rule rule) s _ ne = same

-- a key that no line of that heading speaks of
abbrev Apart : Setting → Key → Type 0
Apart setting key = words_eq (heading_of setting) (head key) ≡ false

key_heading : (setting : Setting) (k : Key) → key_of setting ≡ Some k → heading_of setting ≡ head k
key_heading (settings.Mode m) k h = let e : keys.Mode ≡ k = cc in ap head e
key_heading (settings.Policy p) k h = let e : keys.Policy ≡ k = cc in ap head e
key_heading (settings.Size which n) k h = let e : keys.Size which ≡ k = cc in ap head e
key_heading (settings.Time which n) k h = let e : keys.Time which ≡ k = cc in ap head e
key_heading (settings.Filter x) k h = let e : keys.Filter ≡ k = cc in ap head e
key_heading (settings.Cutoff p c) k h = let e : keys.Cutoff p ≡ k = cc in ap head e
key_heading (settings.Class rule) k h = absurd (cc)
key_heading (settings.Budget m) k h = let e : keys.Budget ≡ k = cc in ap head e
key_heading (settings.Rule rule) k h = absurd (cc)

match_map : {X : Type 0} {A C : Type 0} {B D : X → Type 0} (o : Option X) → (A → C) → ((x : X) → B x → D x) → MatchOption o A B → MatchOption o C D
match_map None f g h = f h
match_map (Some x) f g h = g x h

-- what is said once, where the line says nothing of it
once_other : (before : List Words) (ws : Words) (setting : Setting) (s : Settings) (key : Key) → heading ws ≡ heading_of setting
    → words_eq (heading_of setting) (head key) ≡ false
    → MatchOption (line_with (head key) before) (IsDefault key s) (λ v. IsValue key v s)
    → MatchOption (line_with (head key) (before ++ ws ∷ [])) (IsDefault key (applied setting s)) (λ v. IsValue key v (applied setting s))
once_other before ws setting s key e apart h =
    let ne : key_of setting ≡ Some key → ⊥ = λ f. absurd (cc (apart, ap (λ (t : Words). words_eq t (head key)) (key_heading setting key f), words_same (head key))) in
    let stay = others setting s key ne in
    subst (λ (o : Option Words). MatchOption o (IsDefault key (applied setting s)) (λ v. IsValue key v (applied setting s)))
    (sym (line_same (head key) before ws (ap (λ (t : Words). words_eq t (head key)) e ∙ apart)))
    (match_map (line_with (head key) before) stay.0 stay.1 h)

-- and where it says it
once_own : (before : List Words) (ws : Words) (t : Settings) (key : Key) → heading ws ≡ head key → line_with (head key) before ≡ None → IsValue key ws t
    → MatchOption (line_with (head key) (before ++ ws ∷ [])) (IsDefault key t) (λ v. IsValue key v t)
once_own before ws t key e none value =
    subst (λ (o : Option Words). MatchOption o (IsDefault key t) (λ v. IsValue key v t))
    (sym (line_new (head key) before ws none (ap (λ (h : Words). words_eq h (head key)) e ∙ words_same (head key)))) value

-- classes and rules are said as often as one likes
class_apart : (key : Key) → words_eq (codes "class" ∷ []) (head key) ≡ false
class_apart keys.Mode = refl
class_apart keys.Policy = refl
class_apart (keys.Size Chunk) = refl
class_apart (keys.Size Overlap) = refl
class_apart (keys.Size Reorder) = refl
class_apart (keys.Time Flush) = refl
class_apart (keys.Time Hole) = refl
class_apart (keys.Time Idle) = refl
class_apart keys.Filter = refl
class_apart (keys.Cutoff p) = refl
class_apart keys.Budget = refl

rule_apart : (key : Key) → words_eq (codes "rule" ∷ []) (head key) ≡ false
rule_apart keys.Mode = refl
rule_apart keys.Policy = refl
rule_apart (keys.Size Chunk) = refl
rule_apart (keys.Size Overlap) = refl
rule_apart (keys.Size Reorder) = refl
rule_apart (keys.Time Flush) = refl
rule_apart (keys.Time Hole) = refl
rule_apart (keys.Time Idle) = refl
rule_apart keys.Filter = refl
rule_apart (keys.Cutoff p) = refl
rule_apart keys.Budget = refl

-- a key of the heading is the key of the line
own_key : (setting : Setting) (key : Key) → words_eq (heading_of setting) (head key) ≡ true → key_of setting ≡ Some key
own_key (settings.Mode m) key h = ap (λ (k : Key). Some k) (head_tells keys.Mode key h)
own_key (settings.Policy p) key h = ap (λ (k : Key). Some k) (head_tells keys.Policy key h)
own_key (settings.Size which n) key h = ap (λ (k : Key). Some k) (head_tells (keys.Size which) key h)
own_key (settings.Time which n) key h = ap (λ (k : Key). Some k) (head_tells (keys.Time which) key h)
own_key (settings.Filter e) key h = ap (λ (k : Key). Some k) (head_tells keys.Filter key h)
own_key (settings.Cutoff p c) key h = ap (λ (k : Key). Some k) (head_tells (keys.Cutoff p) key h)
own_key (settings.Class rule) key h = absurd (false≢true (sym (class_apart key) ∙ h))
own_key (settings.Budget m) key h = ap (λ (k : Key). Some k) (head_tells keys.Budget key h)
own_key (settings.Rule rule) key h = absurd (false≢true (sym (rule_apart key) ∙ h))

-- what was read is what is set
applied_value : (n : Name) (ws : Words) (setting : Setting) (s : Settings) → Means n ws setting → MatchOption (key_of setting) (Unit {0}) (λ k. IsValue k ws (applied setting s))
applied_value n ws (settings.Mode m) s h = h.1
applied_value n ws (settings.Policy p) s h = h.1
applied_value n ws (settings.Size Chunk k) s h = h.1
applied_value n ws (settings.Size Overlap k) s h = h.1
applied_value n ws (settings.Size Reorder k) s h = h.1
applied_value n ws (settings.Time Flush k) s h = h.1
applied_value n ws (settings.Time Hole k) s h = h.1
applied_value n ws (settings.Time Idle k) s h = h.1
applied_value n ws (settings.Filter e) s h = h.1
applied_value n ws (settings.Cutoff Default c) s h = h.2
applied_value n ws (settings.Cutoff Fore c) s h = h.2
applied_value n ws (settings.Cutoff Back c) s h = h.2
applied_value n ws (settings.Class rule) s h = tt
applied_value n ws (settings.Budget m) s h = h.1
applied_value n ws (settings.Rule rule) s h = tt

none_there : (o : Option Words) → is_some o ≡ false → o ≡ None
none_there None h = refl
none_there (Some ws) h = absurd (cc)

and_true : (a b : Bool) → a ≡ true → (a && b) ≡ false → b ≡ false
and_true true b e h = h
and_true false b e h = absurd (cc)

first_of : (before : List Words) (n : Name) (ws : Words) (k : Key) → stands_once n ≡ true → is_repeated before n ws ≡ false → heading ws ≡ head k → line_with (head k) before ≡ None
first_of before n ws k once new e =
    ap (λ (h : Words). line_with h before) (sym e) ∙ none_there (line_with (heading ws) before) (and_true (stands_once n) _ once new)

-- what is not repeated was not said
unsaid : (before : List Words) (n : Name) (ws : Words) (setting : Setting) → Means n ws setting → is_repeated before n ws ≡ false → heading ws ≡ heading_of setting
    → MatchOption (key_of setting) (Unit {0}) (λ k. line_with (head k) before ≡ None)
unsaid before n ws (settings.Mode m) h new e = first_of before n ws keys.Mode (ap stands_once h.0) new e
unsaid before n ws (settings.Policy p) h new e = first_of before n ws keys.Policy (ap stands_once h.0) new e
unsaid before n ws (settings.Size which k) h new e = first_of before n ws (keys.Size which) (ap stands_once h.0) new e
unsaid before n ws (settings.Time which k) h new e = first_of before n ws (keys.Time which) (ap stands_once h.0) new e
unsaid before n ws (settings.Filter x) h new e = first_of before n ws keys.Filter (ap stands_once h.0) new e
unsaid before n ws (settings.Cutoff p c) h new e = first_of before n ws (keys.Cutoff p) (ap stands_once h.0) new e
unsaid before n ws (settings.Class rule) h new e = tt
unsaid before n ws (settings.Budget m) h new e = first_of before n ws keys.Budget (ap stands_once h.0) new e
unsaid before n ws (settings.Rule rule) h new e = tt

at_key : (o : Option Key) (P : Key → Type 0) (key : Key) → MatchOption o (Unit {0}) P → o ≡ Some key → P key
at_key o P key h e = subst (λ (x : Option Key). MatchOption x (Unit {0}) P) e h

once_step : (before : List Words) (ws : Words) (n : Name) (setting : Setting) (s : Settings) → heading ws ≡ heading_of setting → Means n ws setting
    → MatchOption (key_of setting) (Unit {0}) (λ k. line_with (head k) before ≡ None)
    → ((key : Key) → MatchOption (line_with (head key) before) (IsDefault key s) (λ v. IsValue key v s))
    → (key : Key) → MatchOption (line_with (head key) (before ++ ws ∷ [])) (IsDefault key (applied setting s)) (λ v. IsValue key v (applied setting s))
once_step before ws n setting s e means new h key = by_test (words_eq (heading_of setting) (head key)) refl
  where
    by_test : (b : Bool) → words_eq (heading_of setting) (head key) ≡ b
        → MatchOption (line_with (head key) (before ++ ws ∷ [])) (IsDefault key (applied setting s)) (λ v. IsValue key v (applied setting s))
    by_test true t =
        let own = own_key setting key t in
        once_own before ws (applied setting s) key (e ∙ same_words (heading_of setting) (head key) t)
        (at_key (key_of setting) (λ k. line_with (head k) before ≡ None) key new own)
        (at_key (key_of setting) (λ k. IsValue k ws (applied setting s)) key (applied_value n ws setting s means) own)
    by_test false t = once_other before ws setting s key e t (h key)

-- Flags.

index_small : (key : Key) → index key < 13
index_small keys.Mode = omega arith
index_small keys.Policy = omega arith
index_small (keys.Size Chunk) = omega arith
index_small (keys.Size Overlap) = omega arith
index_small (keys.Size Reorder) = omega arith
index_small (keys.Time Flush) = omega arith
index_small (keys.Time Hole) = omega arith
index_small (keys.Time Idle) = omega arith
index_small keys.Filter = omega arith
index_small (keys.Cutoff Default) = omega arith
index_small (keys.Cutoff Fore) = omega arith
index_small (keys.Cutoff Back) = omega arith
index_small keys.Budget = omega arith

flag_set : (seen : List Bool) (key : Key) → length seen ≡ 13 → get_or (set seen (index key) true) (index key) false ≡ true
flag_set seen key size = let within : index key < length seen = omega (arith, index_small key) in rw get_or-set_same refl

flag_kept : (seen : List Bool) (o : Option Key) (key : Key) → (o ≡ Some key → ⊥) → get_or (with_key seen o) (index key) false ≡ get_or seen (index key) false
flag_kept seen None key ne = refl
flag_kept seen (Some k) key ne =
    let apart : index key ≡ index k → ⊥ = λ e. ne (ap (λ (x : Key). Some x) (index_tells k key (sym e))) in get_or-set_other seen (index k) (index key) true false apart

seen_step : (before : List Words) (ws : Words) (setting : Setting) (seen : List Bool) → length seen ≡ 13 → heading ws ≡ heading_of setting
    → MatchOption (key_of setting) (Unit {0}) (λ k. line_with (head k) before ≡ None)
    → ((key : Key) → get_or seen (index key) false ≡ is_some (line_with (head key) before))
    → (key : Key) → get_or (with_key seen (key_of setting)) (index key) false ≡ is_some (line_with (head key) (before ++ ws ∷ []))
seen_step before ws setting seen size e new h key = by_test (words_eq (heading_of setting) (head key)) refl
  where
    by_test : (b : Bool) → words_eq (heading_of setting) (head key) ≡ b → get_or (with_key seen (key_of setting)) (index key) false ≡ is_some (line_with (head key) (before ++ ws ∷ []))
    by_test true t =
        let own = own_key setting key t in
        let none = at_key (key_of setting) (λ k. line_with (head k) before ≡ None) key new own in
        ap (λ (o : Option Key). get_or (with_key seen o) (index key) false) own ∙ flag_set seen key size
        ∙ sym (ap is_some (line_new (head key) before ws none (ap (λ (x : Words). words_eq x (head key)) e ∙ t)))
    by_test false t =
        let ne : key_of setting ≡ Some key → ⊥ = λ f. false≢true (sym t ∙ ap (λ (x : Words). words_eq x (head key)) (key_heading setting key f) ∙ words_same (head key)) in
        flag_kept seen (key_of setting) key ne ∙ h key ∙ sym (ap is_some (line_same (head key) before ws (ap (λ (x : Words). words_eq x (head key)) e ∙ t)))

-- the key that the parser takes is that of what was read
read_key : (n : Name) (ws : Words) (setting : Setting) → Means n ws setting → key_in n ws ≡ key_of setting
read_key n ws (settings.Mode m) h = ap (λ (k : Name). key_in k ws) h.0
read_key n ws (settings.Policy p) h = ap (λ (k : Name). key_in k ws) h.0
read_key n ws (settings.Size which k) h = ap (λ (m : Name). key_in m ws) h.0
read_key n ws (settings.Time which k) h = ap (λ (m : Name). key_in m ws) h.0
read_key n ws (settings.Filter e) h = ap (λ (k : Name). key_in k ws) h.0
read_key n ws (settings.Cutoff p c) h = ap (λ (k : Name). key_in k ws) h.0 ∙ ap (λ (o : Option Place). option_map (λ q. keys.Cutoff q) o) h.1
read_key n ws (settings.Class rule) h = ap (λ (k : Name). key_in k ws) h.0
read_key n ws (settings.Budget m) h = ap (λ (k : Name). key_in k ws) h.0
read_key n ws (settings.Rule rule) h = ap (λ (k : Name). key_in k ws) h.0

-- Classes and rules.

begins_by : (word : List ℕ) (ws : Words) (setting : Setting) → heading ws ≡ heading_of setting → begins word ws ≡ words_eq (heading_of setting) (word ∷ [])
begins_by word ws setting e = ap (λ (h : Words). words_eq h (word ∷ [])) e

filter_none : (p : Words → Bool) (before : List Words) (ws : Words) → p ws ≡ false → filter p (before ++ ws ∷ []) ≡ filter p before
filter_none p before ws h = filter-append p before (ws ∷ []) ∙ ap (λ (b : Bool). filter p before ++ cond b (ws ∷ []) []) h ∙ append-nil (filter p before)

filter_one : (p : Words → Bool) (before : List Words) (ws : Words) → p ws ≡ true → filter p (before ++ ws ∷ []) ≡ filter p before ++ ws ∷ []
filter_one p before ws h = filter-append p before (ws ∷ []) ∙ ap (λ (b : Bool). filter p before ++ cond b (ws ∷ []) []) h

zip_more : {A : Type 0} (R : Words → A → Type 0) (xs : List Words) (ys : List A) (ws : Words) (rule : A) → AllZip R xs ys → R ws rule → AllZip R (xs ++ ws ∷ []) (ys ++ rule ∷ [])
zip_more R [] [] ws rule h g = (g, tt)
zip_more R [] (y ∷ ys) ws rule h g = absurd h
zip_more R (x ∷ xs) [] ws rule h g = absurd h
zip_more R (x ∷ xs) (y ∷ ys) ws rule h g = (h.0, zip_more R xs ys ws rule h.1 g)

unfoldable AreClasses : List Words → Settings → Type 0
AreClasses before s = AllZip IsClass (filter (begins (codes "class")) before) s.set.cutoffs.classes

no_class : (before : List Words) (ws : Words) (s : Settings) → begins (codes "class") ws ≡ false → AreClasses before s → AreClasses (before ++ ws ∷ []) s
unfolding AreClasses
no_class before ws s h g = subst (λ (xs : List Words). AllZip IsClass xs s.set.cutoffs.classes) (sym (filter_none (begins (codes "class")) before ws h)) g

size_no_class : (which : Size) → words_eq (size_word which ∷ []) (codes "class" ∷ []) ≡ false
size_no_class Chunk = refl
size_no_class Overlap = refl
size_no_class Reorder = refl

time_no_class : (which : Time) → words_eq (time_word which ∷ []) (codes "class" ∷ []) ≡ false
time_no_class Flush = refl
time_no_class Hole = refl
time_no_class Idle = refl

size_no_rule : (which : Size) → words_eq (size_word which ∷ []) (codes "rule" ∷ []) ≡ false
size_no_rule Chunk = refl
size_no_rule Overlap = refl
size_no_rule Reorder = refl

time_no_rule : (which : Time) → words_eq (time_word which ∷ []) (codes "rule" ∷ []) ≡ false
time_no_rule Flush = refl
time_no_rule Hole = refl
time_no_rule Idle = refl

classes_step : (before : List Words) (ws : Words) (n : Name) (setting : Setting) (s : Settings) → heading ws ≡ heading_of setting → Means n ws setting
    → AreClasses before s → AreClasses (before ++ ws ∷ []) (applied setting s)
unfolding AreClasses
classes_step before ws n (settings.Mode m) s e h g = no_class before ws s (begins_by (codes "class") ws (settings.Mode m) e) g
classes_step before ws n (settings.Policy p) s e h g = no_class before ws s (begins_by (codes "class") ws (settings.Policy p) e) g
classes_step before ws n (settings.Size which k) s e h g = no_class before ws s (begins_by (codes "class") ws (settings.Size which k) e ∙ size_no_class which) g
classes_step before ws n (settings.Time which k) s e h g = no_class before ws s (begins_by (codes "class") ws (settings.Time which k) e ∙ time_no_class which) g
classes_step before ws n (settings.Filter x) s e h g = no_class before ws s (begins_by (codes "class") ws (settings.Filter x) e) g
classes_step before ws n (settings.Cutoff Default c) s e h g = no_class before ws s (begins_by (codes "class") ws (settings.Cutoff Default c) e) g
classes_step before ws n (settings.Cutoff Fore c) s e h g = no_class before ws s (begins_by (codes "class") ws (settings.Cutoff Fore c) e) g
classes_step before ws n (settings.Cutoff Back c) s e h g = no_class before ws s (begins_by (codes "class") ws (settings.Cutoff Back c) e) g
classes_step before ws n (settings.Budget m) s e h g = no_class before ws s (begins_by (codes "class") ws (settings.Budget m) e) g
classes_step before ws n (settings.Rule rule) s e h g = no_class before ws s (begins_by (codes "class") ws (settings.Rule rule) e) g
classes_step before ws n (settings.Class rule) s e h g =
    subst (λ (xs : List Words). AllZip IsClass xs (s.set.cutoffs.classes ++ rule ∷ []))
    (sym (filter_one (begins (codes "class")) before ws (begins_by (codes "class") ws (settings.Class rule) e)))
    (zip_more IsClass (filter (begins (codes "class")) before) s.set.cutoffs.classes ws rule g h.1)

unfoldable AreRules : List Words → Settings → Type 0
AreRules before s = AllZip IsRule (filter (begins (codes "rule")) before) s.rules

no_rule : (before : List Words) (ws : Words) (s : Settings) → begins (codes "rule") ws ≡ false → AreRules before s → AreRules (before ++ ws ∷ []) s
unfolding AreRules
no_rule before ws s h g = subst (λ (xs : List Words). AllZip IsRule xs s.rules) (sym (filter_none (begins (codes "rule")) before ws h)) g

rules_step : (before : List Words) (ws : Words) (n : Name) (setting : Setting) (s : Settings) → heading ws ≡ heading_of setting → Means n ws setting
    → AreRules before s → AreRules (before ++ ws ∷ []) (applied setting s)
unfolding AreRules
rules_step before ws n (settings.Mode m) s e h g = no_rule before ws s (begins_by (codes "rule") ws (settings.Mode m) e) g
rules_step before ws n (settings.Policy p) s e h g = no_rule before ws s (begins_by (codes "rule") ws (settings.Policy p) e) g
rules_step before ws n (settings.Size which k) s e h g = no_rule before ws s (begins_by (codes "rule") ws (settings.Size which k) e ∙ size_no_rule which) g
rules_step before ws n (settings.Time which k) s e h g = no_rule before ws s (begins_by (codes "rule") ws (settings.Time which k) e ∙ time_no_rule which) g
rules_step before ws n (settings.Filter x) s e h g = no_rule before ws s (begins_by (codes "rule") ws (settings.Filter x) e) g
rules_step before ws n (settings.Cutoff p c) s e h g = no_rule before ws s (begins_by (codes "rule") ws (settings.Cutoff p c) e) g
rules_step before ws n (settings.Class rule) s e h g = no_rule before ws s (begins_by (codes "rule") ws (settings.Class rule) e) g
rules_step before ws n (settings.Budget m) s e h g = no_rule before ws s (begins_by (codes "rule") ws (settings.Budget m) e) g
rules_step before ws n (settings.Rule rule) s e h g =
    subst (λ (xs : List Words). AllZip IsRule xs (s.rules ++ rule ∷ []))
    (sym (filter_one (begins (codes "rule")) before ws (begins_by (codes "rule") ws (settings.Rule rule) e)))
    (zip_more IsRule (filter (begins (codes "rule")) before) s.rules ws rule g h.1)

-- Cutoffs whose second word names nothing were not said.

size_no_cutoff : (which : Size) (rest : Words) → words_eq (size_word which ∷ []) (codes "cutoff" ∷ rest) ≡ false
size_no_cutoff Chunk rest = refl
size_no_cutoff Overlap rest = refl
size_no_cutoff Reorder rest = refl

time_no_cutoff : (which : Time) (rest : Words) → words_eq (time_word which ∷ []) (codes "cutoff" ∷ rest) ≡ false
time_no_cutoff Flush rest = refl
time_no_cutoff Hole rest = refl
time_no_cutoff Idle rest = refl

other_place : (p : Place) (rest : Words) → place (get_or rest 0 []) ≡ None → words_eq (codes "cutoff" ∷ place_word p ∷ []) (codes "cutoff" ∷ rest) ≡ false
other_place p rest h = by_test (words_eq (codes "cutoff" ∷ place_word p ∷ []) (codes "cutoff" ∷ rest)) refl
  where
    by_test : (b : Bool) → words_eq (codes "cutoff" ∷ place_word p ∷ []) (codes "cutoff" ∷ rest) ≡ b → words_eq (codes "cutoff" ∷ place_word p ∷ []) (codes "cutoff" ∷ rest) ≡ false
    by_test false t = t
    by_test true t =
        let e : get_or (codes "cutoff" ∷ place_word p ∷ []) 1 [] ≡ get_or (codes "cutoff" ∷ rest) 1 [] = ap (λ (ws : Words). get_or ws 1 []) (same_words (codes "cutoff" ∷ place_word p ∷ []) (codes "cutoff" ∷ rest) t) in
        let f : Some p ≡ None = sym (place_back p) ∙ ap place e ∙ h in
        absurd (cc)

no_cutoff : (setting : Setting) (rest : Words) → place (get_or rest 0 []) ≡ None → words_eq (heading_of setting) (codes "cutoff" ∷ rest) ≡ false
no_cutoff (settings.Mode m) rest h = refl
no_cutoff (settings.Policy p) rest h = refl
no_cutoff (settings.Size which n) rest h = size_no_cutoff which rest
no_cutoff (settings.Time which n) rest h = time_no_cutoff which rest
no_cutoff (settings.Filter e) rest h = refl
no_cutoff (settings.Cutoff p c) rest h = other_place p rest h
no_cutoff (settings.Class rule) rest h = refl
no_cutoff (settings.Budget m) rest h = refl
no_cutoff (settings.Rule rule) rest h = refl

unfoldable ArePlaces : List Words → Type 0
ArePlaces before = (rest : Words) → place (word_at 0 rest) ≡ None → line_with (codes "cutoff" ∷ rest) before ≡ None

places_step : (before : List Words) (ws : Words) (setting : Setting) → heading ws ≡ heading_of setting → ArePlaces before → ArePlaces (before ++ ws ∷ [])
unfolding ArePlaces
places_step before ws setting e h rest none =
    line_same (codes "cutoff" ∷ rest) before ws (ap (λ (x : Words). words_eq x (codes "cutoff" ∷ rest)) e ∙ no_cutoff setting rest none) ∙ h rest none

flags_length : (seen : List Bool) (o : Option Key) → length seen ≡ 13 → length (with_key seen o) ≡ 13
flags_length seen None h = h
flags_length seen (Some k) h = simp length-set h

stands_by : (before : List Words) (settings : Settings) (seen : List Bool) (reader : Reader) → reader.settings ≡ settings → reader.seen ≡ seen
    → Stands before (record { settings = settings; seen = seen }) → Stands before reader
stands_by before settings seen reader e f h =
    record {
      says = subst (λ (s : Settings). Says before s) (sym e) h.says;
      flags = ap length f ∙ h.flags;
      seen = λ key. ap (λ (x : List Bool). get_or x (index key) false) f ∙ h.seen key;
      places = h.places;
    }

-- a line that was read
pub stands_step : (before : List Words) (ws : Words) (n : Name) (setting : Setting) (old new : Reader) → name_in ws ≡ Some n → Means n ws setting → is_repeated before n ws ≡ false
    → new.settings ≡ applied setting old.settings → new.seen ≡ with_key old.seen (key_in n ws) → Stands before old → Stands (before ++ ws ∷ []) new
unfolding AreClasses AreRules ArePlaces
stands_step before ws n setting old new named means once e f h =
    let heads = read_heading ws n setting named means in
    let unsaid_yet = unsaid before n ws setting means once heads in
    stands_by (before ++ ws ∷ []) (applied setting old.settings) (with_key old.seen (key_of setting)) new e (f ∙ ap (with_key old.seen) (read_key n ws setting means))
    (record {
      says = record {
        once = once_step before ws n setting old.settings heads means unsaid_yet h.says.once;
        classes = classes_step before ws n setting old.settings heads means h.says.classes;
        rules = rules_step before ws n setting old.settings heads means h.says.rules;
      };
      flags = flags_length old.seen (key_of setting) h.flags;
      seen = seen_step before ws setting old.seen h.flags heads unsaid_yet h.seen;
      places = places_step before ws setting heads h.places;
    })

silent_apart : (key : Key) → words_eq [] (head key) ≡ false
silent_apart keys.Mode = refl
silent_apart keys.Policy = refl
silent_apart (keys.Size which) = refl
silent_apart (keys.Time which) = refl
silent_apart keys.Filter = refl
silent_apart (keys.Cutoff p) = refl
silent_apart keys.Budget = refl

-- a line that says nothing
pub silent_step : (before : List Words) (reader : Reader) → Stands before reader → Stands (before ++ [] ∷ []) reader
unfolding AreClasses AreRules
silent_step before reader h =
    record {
      says = record {
        once = λ key. subst (λ (o : Option Words). MatchOption o (IsDefault key reader.settings) (λ v. IsValue key v reader.settings)) (sym (line_same (head key) before [] (silent_apart key))) (h.says.once key);
        classes = no_class before [] reader.settings refl h.says.classes;
        rules = no_rule before [] reader.settings refl h.says.rules;
      };
      flags = h.flags;
      seen = λ key. h.seen key ∙ sym (ap is_some (line_same (head key) before [] (silent_apart key)));
      places = λ rest none. line_same (codes "cutoff" ∷ rest) before [] refl ∙ h.places rest none;
    }
