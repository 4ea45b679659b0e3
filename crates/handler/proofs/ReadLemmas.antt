use Rattle.std.specs.Prelude.{codes}
use Rattle.std.proofs.Common.{◌≡◌, ◌⊎◌, ℕ, zero, suc, ◌+◌, Bool, true, false, cond, List, [], ◌∷◌, drop, Option, Some, None, refl, sym, ◌∙◌, ap, subst, arith, inl, inr}
use Rattle.std.specs.Option.{option_map}
use Rattle.std.specs.Str.{bytes_eq}
use Rattle.std.proofs.lemmas.Slice.Eq.{bytes_eq-Decides}
use Rattle.linewords.specs.Words.{Words, word_at}
use Rattle.handler.specs.declared.condition.NewTest.TheVariants as news
use Rattle.handler.specs.declared.condition.NewTest.{NewTest}
use Rattle.handler.specs.declared.condition.DataTest.TheVariants as datas
use Rattle.handler.specs.declared.condition.DataTest.{DataTest}
use Rattle.handler.specs.declared.condition.Condition.{Condition}
use Rattle.handler.specs.declared.condition.Condition.TheVariants.{New, Data}
use Rattle.handler.specs.declared.part.Part.{Part}
use Rattle.handler.specs.declared.part.Part.TheVariants.{Keep, Discard, Cutoff, Priority}
use Rattle.handler.specs.Values.{port, position, priority, front}
use Rattle.handler.specs.Parts.{condition_words, new_words, data_words, part_words}
use Rattle.handler.specs.Reader.{new_test, data_test, condition_of, condition_in, part}
use Rattle.handler.specs.Grammar.{IsValued, IsNewTest, IsDataTest, IsCondition, IsPart}

-- What is read word by word is what the grammar says of these words, and nothing else.

-- Tests that gave a value.

some_is : {A : Type 0} (x y : A) → Some x ≡ Some y → x ≡ y
some_is x y h = cc

-- a name was this word, or the others were tried
by_name : {A : Type 0} (name word : List ℕ) (x y : Option A) (v : A) → cond (bytes_eq name word) x y ≡ Some v → ((name ≡ word) × (x ≡ Some v)) ⊎ (y ≡ Some v)
by_name {A} name word x y v h = by_test (bytes_eq name word) refl h
  where
    by_test : (b : Bool) → bytes_eq name word ≡ b → cond b x y ≡ Some v → ((name ≡ word) × (x ≡ Some v)) ⊎ (y ≡ Some v)
    by_test true e g = inl ((bytes_eq-Decides name word).0 e, g)
    by_test false e g = inr g

mapped : {A B : Type 0} (f : A → B) (o : Option A) (v : B) → option_map f o ≡ Some v → (x : A) × (o ≡ Some x) × (f x ≡ v)
mapped f None v h = absurd (cc)
mapped f (Some x) v h = (x, refl, some_is _ _ h)

none_is_some : {A B : Type 0} (v : A) → None ≡ Some v → B
none_is_some v h = absurd (cc)

-- Words that are there.

there : (i : ℕ) (ws : Words) → (word_at i ws ≡ [] → ⊥) → drop i ws ≡ word_at i ws ∷ drop (i + 1) ws
there zero [] h = absurd (h refl)
there zero (w ∷ ws) h = refl
there (suc i) [] h = absurd (h refl)
there (suc i) (w ∷ ws) h =
    let e : suc i + 1 ≡ suc (i + 1) = omega arith in
    there i ws h ∙ ap (λ (n : ℕ). word_at i ws ∷ drop n (w ∷ ws)) (sym e)

not_nothing : (v : List ℕ) (x : ℕ) (xs : List ℕ) → v ≡ x ∷ xs → v ≡ [] → ⊥
not_nothing v x xs h e = cc

named : (i : ℕ) (ws : Words) (x : ℕ) (xs : List ℕ) → word_at i ws ≡ x ∷ xs → drop i ws ≡ (x ∷ xs) ∷ drop (i + 1) ws
named i ws x xs h = there i ws (not_nothing _ x xs h) ∙ ap (λ (w : List ℕ). w ∷ drop (i + 1) ws) h

-- a word that stands for something isn't missing
is_some_word : {A : Type 0} (means : List ℕ → Option A) (w : List ℕ) (v : A) → means [] ≡ None → means w ≡ Some v → w ≡ [] → ⊥
is_some_word means w v none h e = none_is_some v (sym none ∙ ap means (sym e) ∙ h)

valued : {A : Type 0} (means : List ℕ → Option A) (i : ℕ) (ws : Words) (x : ℕ) (xs : List ℕ) (v : A) → means [] ≡ None → word_at i ws ≡ x ∷ xs → means (word_at (i + 1) ws) ≡ Some v
    → IsValued (x ∷ xs) (λ w u. means w ≡ Some u) v (drop i ws) (drop (i + 1 + 1) ws)
valued means i ws x xs v none h m =
    (word_at (i + 1) ws, named i ws x xs h ∙ ap (λ (r : Words). (x ∷ xs) ∷ r) (there (i + 1) ws (is_some_word means _ v none m)), m)

no_port : port [] ≡ None
unfolding port
no_port = refl

no_position : position [] ≡ None
unfolding position
no_position = refl

no_priority : priority [] ≡ None
unfolding priority
no_priority = refl

no_front : front [] ≡ None
unfolding front
no_front = refl

-- Conditions.

abbrev NewOf : NewTest → (name value : List ℕ) → Type 0
NewOf news.Any name value = name ≡ codes "any"
NewOf (news.Port n) name value = (name ≡ codes "port") × (port value ≡ Some n)

new_of : (name value : List ℕ) (t : NewTest) → new_test name value ≡ Some t → NewOf t name value
unfolding new_test
new_of name value t h =
    elim (by_name name (codes "any") _ _ t h) [
      | inl q ↦ subst (λ (u : NewTest). NewOf u name value) (some_is _ _ q.1) q.0
      | inr others ↦ elim (by_name name (codes "port") _ _ t others) [
        | inl q ↦ let m = mapped news.Port (port value) t q.1 in subst (λ (u : NewTest). NewOf u name value) m.2 (q.0, m.1)
        | inr none ↦ none_is_some t none
      ]
    ]

abbrev DataOf : DataTest → (name value : List ℕ) → Type 0
DataOf datas.Any name value = name ≡ codes "any"
DataOf (datas.Port n) name value = (name ≡ codes "port") × (port value ≡ Some n)
DataOf (datas.Before n) name value = (name ≡ codes "before") × (position value ≡ Some n)
DataOf (datas.From n) name value = (name ≡ codes "from") × (position value ≡ Some n)
DataOf (datas.Begins bytes) name value = (name ≡ codes "begins") × (front value ≡ Some bytes)

data_of : (name value : List ℕ) (t : DataTest) → data_test name value ≡ Some t → DataOf t name value
unfolding data_test
data_of name value t h =
    elim (by_name name (codes "any") _ _ t h) [
      | inl q ↦ subst (λ (u : DataTest). DataOf u name value) (some_is _ _ q.1) q.0
      | inr others ↦ elim (by_name name (codes "port") _ _ t others) [
        | inl q ↦ let m = mapped datas.Port (port value) t q.1 in subst (λ (u : DataTest). DataOf u name value) m.2 (q.0, m.1)
        | inr others ↦ elim (by_name name (codes "before") _ _ t others) [
          | inl q ↦ let m = mapped datas.Before (position value) t q.1 in subst (λ (u : DataTest). DataOf u name value) m.2 (q.0, m.1)
          | inr others ↦ elim (by_name name (codes "from") _ _ t others) [
            | inl q ↦ let m = mapped datas.From (position value) t q.1 in subst (λ (u : DataTest). DataOf u name value) m.2 (q.0, m.1)
            | inr others ↦ elim (by_name name (codes "begins") _ _ t others) [
              | inl q ↦ let m = mapped datas.Begins (front value) t q.1 in subst (λ (u : DataTest). DataOf u name value) m.2 (q.0, m.1)
              | inr none ↦ none_is_some t none
            ]
          ]
        ]
      ]
    ]

abbrev ConditionOf : Condition → (first subject name value : List ℕ) → Type 0
ConditionOf (New t) first subject name value = (first ≡ codes "rule") × (subject ≡ codes "new") × NewOf t name value
ConditionOf (Data t) first subject name value = (first ≡ codes "rule") × (subject ≡ codes "data") × DataOf t name value

of_words : (first subject name value : List ℕ) (c : Condition) → condition_of first subject name value ≡ Some c → ConditionOf c first subject name value
unfolding condition_of
of_words first subject name value c h =
    elim (by_name first (codes "rule") _ _ c h) [
      | inl f ↦ elim (by_name subject (codes "new") _ _ c f.1) [
        | inl q ↦ let m = mapped New (new_test name value) c q.1 in
            subst (λ (u : Condition). ConditionOf u first subject name value) m.2 (f.0, q.0, new_of name value m.0 m.1)
        | inr others ↦ elim (by_name subject (codes "data") _ _ c others) [
          | inl q ↦ let m = mapped Data (data_test name value) c q.1 in
              subst (λ (u : Condition). ConditionOf u first subject name value) m.2 (f.0, q.0, data_of name value m.0 m.1)
          | inr none ↦ none_is_some c none
        ]
      ]
      | inr none ↦ none_is_some c none
    ]

new_there : (ws : Words) (t : NewTest) → NewOf t (word_at 2 ws) (word_at 3 ws) → IsNewTest t (drop 2 ws) (drop (new_words t) ws)
new_there ws news.Any h = named 2 ws _ _ h
new_there ws (news.Port n) h = valued port 2 ws _ _ n no_port h.0 h.1

data_there : (ws : Words) (t : DataTest) → DataOf t (word_at 2 ws) (word_at 3 ws) → IsDataTest t (drop 2 ws) (drop (data_words t) ws)
data_there ws datas.Any h = named 2 ws _ _ h
data_there ws (datas.Port n) h = valued port 2 ws _ _ n no_port h.0 h.1
data_there ws (datas.Before n) h = valued position 2 ws _ _ n no_position h.0 h.1
data_there ws (datas.From n) h = valued position 2 ws _ _ n no_position h.0 h.1
data_there ws (datas.Begins bytes) h = valued front 2 ws _ _ bytes no_front h.0 h.1

two_there : (ws : Words) (subject : ℕ) (more : List ℕ) → word_at 0 ws ≡ codes "rule" → word_at 1 ws ≡ subject ∷ more → ws ≡ codes "rule" ∷ (subject ∷ more) ∷ drop 2 ws
two_there ws subject more h g = named 0 ws _ _ h ∙ ap (λ (r : Words). codes "rule" ∷ r) (named 1 ws subject more g)

-- a condition that is read is one of the grammar
pub condition_is : (ws : Words) (c : Condition) → condition_in ws ≡ Some c → IsCondition c ws (drop (condition_words c) ws)
condition_is ws c h = by c (of_words _ _ _ _ c h)
  where
    by : (d : Condition) → ConditionOf d (word_at 0 ws) (word_at 1 ws) (word_at 2 ws) (word_at 3 ws) → IsCondition d ws (drop (condition_words d) ws)
    by (New t) q = (drop 2 ws, two_there ws _ _ q.0 q.1, new_there ws t q.2)
    by (Data t) q = (drop 2 ws, two_there ws _ _ q.0 q.1, data_there ws t q.2)

-- a condition is read from words, and so many of them are left
abbrev ReadsCondition : Words → Condition → Words → Type 0
ReadsCondition rest c ws = (condition_in ws ≡ Some c) × (rest ≡ drop (condition_words c) ws)

-- and one of the grammar is read
pub condition_read : (c : Condition) (ws rest : Words) → IsCondition c ws rest → (condition_in ws ≡ Some c) × (rest ≡ drop (condition_words c) ws)
unfolding condition_of new_test data_test
condition_read (New t) ws rest h = by t h.2
  where
    any_read : ReadsCondition rest (New news.Any) (codes "rule" ∷ codes "new" ∷ codes "any" ∷ rest)
    any_read = (refl, refl)

    port_read : (n : ℕ) (w : List ℕ) → port w ≡ Some n → ReadsCondition rest (New (news.Port n)) (codes "rule" ∷ codes "new" ∷ codes "port" ∷ w ∷ rest)
    port_read n w m = (ap (λ (o : Option ℕ). option_map New (option_map news.Port o)) m, refl)

    whole : (behind : Words) → h.0 ≡ behind → ws ≡ codes "rule" ∷ codes "new" ∷ behind
    whole behind e = h.1 ∙ ap (λ (r : Words). codes "rule" ∷ codes "new" ∷ r) e

    by : (u : NewTest) → IsNewTest u h.0 rest → ReadsCondition rest (New u) ws
    by news.Any e = subst (ReadsCondition rest (New news.Any)) (sym (whole _ e)) any_read
    by (news.Port n) q = subst (ReadsCondition rest (New (news.Port n))) (sym (whole _ q.1)) (port_read n q.0 q.2)
condition_read (Data t) ws rest h = by t h.2
  where
    any_read : ReadsCondition rest (Data datas.Any) (codes "rule" ∷ codes "data" ∷ codes "any" ∷ rest)
    any_read = (refl, refl)

    port_read : (n : ℕ) (w : List ℕ) → port w ≡ Some n → ReadsCondition rest (Data (datas.Port n)) (codes "rule" ∷ codes "data" ∷ codes "port" ∷ w ∷ rest)
    port_read n w m = (ap (λ (o : Option ℕ). option_map Data (option_map datas.Port o)) m, refl)

    before_read : (n : ℕ) (w : List ℕ) → position w ≡ Some n → ReadsCondition rest (Data (datas.Before n)) (codes "rule" ∷ codes "data" ∷ codes "before" ∷ w ∷ rest)
    before_read n w m = (ap (λ (o : Option ℕ). option_map Data (option_map datas.Before o)) m, refl)

    from_read : (n : ℕ) (w : List ℕ) → position w ≡ Some n → ReadsCondition rest (Data (datas.From n)) (codes "rule" ∷ codes "data" ∷ codes "from" ∷ w ∷ rest)
    from_read n w m = (ap (λ (o : Option ℕ). option_map Data (option_map datas.From o)) m, refl)

    begins_read : (bytes : List ℕ) (w : List ℕ) → front w ≡ Some bytes → ReadsCondition rest (Data (datas.Begins bytes)) (codes "rule" ∷ codes "data" ∷ codes "begins" ∷ w ∷ rest)
    begins_read bytes w m = (ap (λ (o : Option (List ℕ)). option_map Data (option_map datas.Begins o)) m, refl)

    whole : (behind : Words) → h.0 ≡ behind → ws ≡ codes "rule" ∷ codes "data" ∷ behind
    whole behind e = h.1 ∙ ap (λ (r : Words). codes "rule" ∷ codes "data" ∷ r) e

    by : (u : DataTest) → IsDataTest u h.0 rest → ReadsCondition rest (Data u) ws
    by datas.Any e = subst (ReadsCondition rest (Data datas.Any)) (sym (whole _ e)) any_read
    by (datas.Port n) q = subst (ReadsCondition rest (Data (datas.Port n))) (sym (whole _ q.1)) (port_read n q.0 q.2)
    by (datas.Before n) q = subst (ReadsCondition rest (Data (datas.Before n))) (sym (whole _ q.1)) (before_read n q.0 q.2)
    by (datas.From n) q = subst (ReadsCondition rest (Data (datas.From n))) (sym (whole _ q.1)) (from_read n q.0 q.2)
    by (datas.Begins bytes) q = subst (ReadsCondition rest (Data (datas.Begins bytes))) (sym (whole _ q.1)) (begins_read bytes q.0 q.2)

-- Parts of advice.

abbrev PartOf : Part → (name value : List ℕ) → Type 0
PartOf Keep name value = name ≡ codes "keep"
PartOf Discard name value = name ≡ codes "discard"
PartOf (Cutoff n) name value = (name ≡ codes "cutoff") × (position value ≡ Some n)
PartOf (Priority p) name value = (name ≡ codes "priority") × (priority value ≡ Some p)

part_of : (name value : List ℕ) (p : Part) → part name value ≡ Some p → PartOf p name value
unfolding part
part_of name value p h =
    elim (by_name name (codes "keep") _ _ p h) [
      | inl q ↦ subst (λ (u : Part). PartOf u name value) (some_is _ _ q.1) q.0
      | inr others ↦ elim (by_name name (codes "discard") _ _ p others) [
        | inl q ↦ subst (λ (u : Part). PartOf u name value) (some_is _ _ q.1) q.0
        | inr others ↦ elim (by_name name (codes "cutoff") _ _ p others) [
          | inl q ↦ let m = mapped Cutoff (position value) p q.1 in subst (λ (u : Part). PartOf u name value) m.2 (q.0, m.1)
          | inr others ↦ elim (by_name name (codes "priority") _ _ p others) [
            | inl q ↦ let m = mapped Priority (priority value) p q.1 in subst (λ (u : Part). PartOf u name value) m.2 (q.0, m.1)
            | inr none ↦ none_is_some p none
          ]
        ]
      ]
    ]

-- a part that is read is one of the grammar
pub part_is : (ws : Words) (p : Part) → part (word_at 0 ws) (word_at 1 ws) ≡ Some p → IsPart p ws (drop (part_words p) ws)
part_is ws p h = by p (part_of _ _ p h)
  where
    by : (u : Part) → PartOf u (word_at 0 ws) (word_at 1 ws) → IsPart u ws (drop (part_words u) ws)
    by Keep q = named 0 ws _ _ q
    by Discard q = named 0 ws _ _ q
    by (Cutoff n) q = valued position 0 ws _ _ n no_position q.0 q.1
    by (Priority n) q = valued priority 0 ws _ _ n no_priority q.0 q.1

-- a part has a word
pub part_there : (p : Part) (ws rest : Words) → IsPart p ws rest → ws ≡ [] → ⊥
part_there Keep ws rest h e = cc
part_there Discard ws rest h e = cc
part_there (Cutoff n) ws rest h e = let g = h.1 in cc
part_there (Priority n) ws rest h e = let g = h.1 in cc

-- a part is read from words, and so many of them are left
abbrev ReadsPart : Words → Part → Words → Type 0
ReadsPart rest p ws = (part (word_at 0 ws) (word_at 1 ws) ≡ Some p) × (rest ≡ drop (part_words p) ws)

-- and one of the grammar is read
pub part_read : (p : Part) (ws rest : Words) → IsPart p ws rest → (part (word_at 0 ws) (word_at 1 ws) ≡ Some p) × (rest ≡ drop (part_words p) ws)
unfolding part
part_read p ws rest h = by p h
  where
    keep_read : ReadsPart rest Keep (codes "keep" ∷ rest)
    keep_read = (refl, refl)

    discard_read : ReadsPart rest Discard (codes "discard" ∷ rest)
    discard_read = (refl, refl)

    cutoff_read : (n : ℕ) (w : List ℕ) → position w ≡ Some n → ReadsPart rest (Cutoff n) (codes "cutoff" ∷ w ∷ rest)
    cutoff_read n w m = (ap (λ (o : Option ℕ). option_map Cutoff o) m, refl)

    priority_read : (n : ℕ) (w : List ℕ) → priority w ≡ Some n → ReadsPart rest (Priority n) (codes "priority" ∷ w ∷ rest)
    priority_read n w m = (ap (λ (o : Option ℕ). option_map Priority o) m, refl)

    by : (u : Part) → IsPart u ws rest → ReadsPart rest u ws
    by Keep e = subst (ReadsPart rest Keep) (sym e) keep_read
    by Discard e = subst (ReadsPart rest Discard) (sym e) discard_read
    by (Cutoff n) q = subst (ReadsPart rest (Cutoff n)) (sym q.1) (cutoff_read n q.0 q.2)
    by (Priority n) q = subst (ReadsPart rest (Priority n)) (sym q.1) (priority_read n q.0 q.2)
