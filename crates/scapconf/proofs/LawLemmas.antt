use Rattle.std.proofs.Common.{◌≡◌, ◌≤◌, ◌<◌, ◌⊎◌, ℕ, ◌+◌, List, [], ◌∷◌, length, take, map, Option, Some, None, Result, Ok, Err, sym, ◌∙◌, ap, refl, subst, arith, inl, inr, nat_eq, find, filter}
use Rattle.std.specs.Prelude.{MatchOption, MatchResult, IfOk, IfErr, IsErrAnd, IsSomeAnd}
use Rattle.std.specs.List.{AllZip}
use Rattle.std.specs.Str.Lines.{lines}
use Rattle.std.proofs.lemmas.Grind.{common_steps}
use Rattle.capfilter.specs.declared.filter.Filter.{Filter}
use Rattle.capfilter.specs.Faults as filters
use Rattle.capfilter.proofs.LawLemmas.{one_tree}
use Rattle.cutclass.specs.declared.cut.Cut.{Cut}
use Rattle.cutclass.specs.declared.class_rule.ClassRule.{ClassRule}
use Rattle.handler.specs.declared.rule.Rule.{Rule}
use Rattle.handler.specs.Grammar.{IsRule}
use Rattle.handler.proofs.RuleLemmas.{one_rule}
use Rattle.cutclass.specs.declared.cutoffs.Cutoffs.{Cutoffs}
use Rattle.overpolicy.specs.declared.mode.Mode.{Mode}
use Rattle.overpolicy.specs.declared.policy.Policy.{Policy}
use Rattle.overpolicy.specs.declared.shape.Shape.{Shape}
use Rattle.prio_budget.specs.MarkParts.{MarkParts}
use Rattle.scapconf.specs.declared.size.Size.TheVariants.{Chunk, Overlap, Reorder}
use Rattle.scapconf.specs.declared.time.Time.TheVariants.{Flush, Hole, Idle}
use Rattle.scapconf.specs.declared.place.Place.TheVariants.{Default, Fore, Back}
use Rattle.scapconf.specs.declared.key.Key.{Key}
use Rattle.scapconf.specs.declared.key.Key.TheVariants as keys
use Rattle.scapconf.specs.declared.settings.Settings.{Settings}
use Rattle.scapconf.specs.declared.settings_error.SettingsError.{SettingsError}
use Rattle.scapconf.specs.declared.settings_error.SettingsError.TheVariants as refusals
use Rattle.scapconf.specs.declared.settings_error.SettingsKind.{SettingsKind}
use Rattle.scapconf.specs.declared.settings_error.SettingsKind.TheVariants as kinds
use Rattle.linewords.specs.Words.{Words}
use Rattle.scapconf.specs.Lines.{said}
use Rattle.scapconf.specs.Names.{line_with, head}
use Rattle.scapconf.specs.Faults.{IsFault, IsFaultAt, IsFaultOf, IsClean, AreClean, line_at, rank}
use Rattle.scapconf.specs.Says.{size_of, time_of, cutoff_of, IsDefault, IsValue, IsClass, Says, Reads}
use Rattle.scapconf.specs.Parser.{IsMemoryOrFault}
use Rattle.scapconf.specs.Laws.{HasOneMeaning, HasOneFault}

-- A fault is the first one.

taken_twice : (ls : List (List ℕ)) (i n : ℕ) → i < n → take i (take n ls) ≡ take i ls
taken_twice ls i n h = grind (arith, common_steps)

line_taken : (ls : List (List ℕ)) (i n : ℕ) → i < n → line_at i (take n ls) ≡ line_at i ls
line_taken ls i n h = grind (arith, common_steps)

within_taken : (ls : List (List ℕ)) (i n : ℕ) → i < n → i < length ls → i < length (take n ls)
within_taken ls i n h within = grind (arith, common_steps)

clean_at : (ls : List (List ℕ)) (i n : ℕ) → i < n → i < length ls → AreClean (take n ls) → IsClean (map said (take i ls)) (line_at i ls)
clean_at ls i n h within clean =
    subst (λ (xs : List (List ℕ)). IsClean (map said xs) (line_at i ls)) (taken_twice ls i n h)
    (subst (λ (l : List ℕ). IsClean (map said (take i (take n ls))) l) (line_taken ls i n h) (clean i (within_taken ls i n h within)))

three_ways : (i n : ℕ) → (i < n) ⊎ ((i ≡ n) ⊎ (n < i))
three_ways i n = grind arith

same_place : (ls : List (List ℕ)) (n m : ℕ) (k j : SettingsKind) (f : IsFaultAt ls n k) (g : IsFaultAt ls m j) → f.at ≡ g.at
same_place ls n m k j f g =
    elim (three_ways f.at g.at) [
      | inl lt ↦ absurd (clean_at ls f.at g.at lt f.within g.clean k f.fault.has)
      | inr rest ↦ elim rest [ inl e ↦ e | inr gt ↦ absurd (clean_at ls g.at f.at gt g.within f.clean j g.fault.has) ]
    ]

unfoldable all_kinds : List SettingsKind
all_kinds =
    kinds.Long ∷ kinds.Text ∷ kinds.Word ∷ kinds.Repeated ∷ kinds.Many ∷ kinds.Count ∷ kinds.Number ∷ kinds.Budget ∷ kinds.Filter ∷ kinds.Rule ∷ []

unfoldable kind_of_rank : ℕ → Option SettingsKind
kind_of_rank n = find (λ k. nat_eq (rank k) n) all_kinds

rank_back : (k : SettingsKind) → kind_of_rank (rank k) ≡ Some k
unfolding kind_of_rank all_kinds
rank_back kinds.Long = refl
rank_back kinds.Text = refl
rank_back kinds.Word = refl
rank_back kinds.Repeated = refl
rank_back kinds.Many = refl
rank_back kinds.Count = refl
rank_back kinds.Number = refl
rank_back kinds.Budget = refl
rank_back kinds.Filter = refl
rank_back kinds.Rule = refl

some_kind : (k j : SettingsKind) → Some k ≡ Some j → k ≡ j
some_kind k j h = cc

rank_tells : (k j : SettingsKind) → rank k ≡ rank j → k ≡ j
rank_tells k j h = some_kind k j (sym (rank_back k) ∙ ap kind_of_rank h ∙ rank_back j)

same_kind : (before : List Words) (line : List ℕ) (k j : SettingsKind) → IsFaultOf before line k → IsFaultOf before line j → k ≡ j
same_kind before line k j f g =
    elim (three_ways (rank k) (rank j)) [
      | inl lt ↦ absurd (g.first k lt f.has)
      | inr rest ↦ elim rest [ inl e ↦ rank_tells k j e | inr gt ↦ absurd (f.first j gt g.has) ]
    ]

one_fault_at : (ls : List (List ℕ)) (n m : ℕ) (k j : SettingsKind) → IsFaultAt ls n k → IsFaultAt ls m j → (n ≡ m) × (k ≡ j)
one_fault_at ls n m k j f g =
    let e = same_place ls n m k j f g in (
      f.number_is ∙ ap (λ (i : ℕ). i + 1) e ∙ sym g.number_is,
      same_kind (map said (take g.at ls)) (line_at g.at ls) k j (subst (λ (i : ℕ). IsFaultOf (map said (take i ls)) (line_at i ls) k) e f.fault) g.fault,
    )

pub one_fault : (text : List ℕ) → HasOneFault text
one_fault text n m k j (inl f) (inl g) = (f.1 ∙ sym g.1, f.2 ∙ sym g.2)
one_fault text n m k j (inl f) (inr g) = let long = f.0 in let short = g.0 in absurd (past long short)
  where
    past : 65536 < length text → length text ≤ 65536 → ⊥
    past a b = omega arith
one_fault text n m k j (inr f) (inl g) = let long = g.0 in let short = f.0 in absurd (past long short)
  where
    past : 65536 < length text → length text ≤ 65536 → ⊥
    past a b = omega arith
one_fault text n m k j (inr f) (inr g) = one_fault_at (lines text) n m k j f.1 g.1

long_and_short : (n : ℕ) → 65536 < n → n ≤ 65536 → ⊥
long_and_short n a b = omega arith

pub read_or_refused : (text : List ℕ) (s : Settings) (n : ℕ) (k : SettingsKind) → Reads text s → ¬ IsFault text n k
read_or_refused text s n k reads (inl f) = long_and_short (length text) f.0 reads.short
read_or_refused text s n k reads (inr f) = reads.clean f.1.at f.1.within k f.1.fault.has

-- Settings are told whole.

some_both : {A : Type 0} (o : Option A) (a b : A) → o ≡ Some a → o ≡ Some b → a ≡ b
some_both o a b h g = let e : Some a ≡ Some b = sym h ∙ g in cc

filter_both : (o p : Option Filter) (text : List ℕ) → IsSomeAnd o (filters.Reads text) → IsSomeAnd p (filters.Reads text) → o ≡ p
filter_both None p text h g = absurd h
filter_both (Some e) None text h g = absurd g
filter_both (Some e) (Some f) text h g = ap (λ (x : Filter). Some x) (one_tree text e f h g)

module _ (s t : Settings) where
  -- what a key is set to is the same
  abbrev Agrees : Key → Type 0
  Agrees keys.Mode = s.set.shape.mode ≡ t.set.shape.mode
  Agrees keys.Policy = s.set.shape.policy ≡ t.set.shape.policy
  Agrees (keys.Size which) = size_of which s.set.shape ≡ size_of which t.set.shape
  Agrees (keys.Time which) = time_of which s.set.shape ≡ time_of which t.set.shape
  Agrees keys.Filter = s.filter ≡ t.filter
  Agrees (keys.Cutoff p) = cutoff_of p s.set.cutoffs ≡ cutoff_of p t.set.cutoffs
  Agrees keys.Budget = s.set.marks ≡ t.set.marks

  defaults_agree : (key : Key) → IsDefault key s → IsDefault key t → Agrees key
  defaults_agree keys.Mode h g = h ∙ sym g
  defaults_agree keys.Policy h g = h ∙ sym g
  defaults_agree (keys.Size which) h g = h ∙ sym g
  defaults_agree (keys.Time which) h g = h ∙ sym g
  defaults_agree keys.Filter h g = h ∙ sym g
  defaults_agree (keys.Cutoff p) h g = h ∙ sym g
  defaults_agree keys.Budget h g = h ∙ sym g

  values_agree : (key : Key) (ws : Words) → IsValue key ws s → IsValue key ws t → Agrees key
  values_agree keys.Mode ws h g = some_both _ _ _ h g
  values_agree keys.Policy ws h g = some_both _ _ _ h g
  values_agree (keys.Size which) ws h g = some_both _ _ _ h g
  values_agree (keys.Time which) ws h g = some_both _ _ _ h g
  values_agree keys.Filter ws h g = filter_both s.filter t.filter _ h g
  values_agree (keys.Cutoff p) ws h g = some_both _ _ _ h g
  values_agree keys.Budget ws h g = some_both _ _ _ h g

  agree : (key : Key) (o : Option Words) → MatchOption o (IsDefault key s) (λ ws. IsValue key ws s) → MatchOption o (IsDefault key t) (λ ws. IsValue key ws t) → Agrees key
  agree key None h g = defaults_agree key h g
  agree key (Some ws) h g = values_agree key ws h g

abbrev class_of : ℕ → Cut → Filter → ClassRule
class_of priority cut filter = record { priority = priority; cut = cut; filter = filter }

same_class : (ws : Words) (a b : ClassRule) → IsClass ws a → IsClass ws b → a ≡ b
same_class ws a b h g =
    ap (λ (p : ℕ). class_of p a.cut a.filter) (some_both _ _ _ h.priority g.priority)
    ∙ ap (λ (c : Cut). class_of b.priority c a.filter) (some_both _ _ _ h.cut g.cut)
    ∙ ap (λ (f : Filter). class_of b.priority b.cut f) (one_tree _ a.filter b.filter h.filter g.filter)

same_classes : (ls : List Words) (xs ys : List ClassRule) → AllZip IsClass ls xs → AllZip IsClass ls ys → xs ≡ ys
same_classes [] [] [] h g = refl
same_classes [] [] (y ∷ ys) h g = absurd g
same_classes [] (x ∷ xs) ys h g = absurd h
same_classes (ws ∷ ls) [] ys h g = absurd h
same_classes (ws ∷ ls) (x ∷ xs) [] h g = absurd g
same_classes (ws ∷ ls) (x ∷ xs) (y ∷ ys) h g =
    ap (λ (c : ClassRule). c ∷ xs) (same_class ws x y h.0 g.0) ∙ ap (λ (cs : List ClassRule). y ∷ cs) (same_classes ls xs ys h.1 g.1)

same_rules : (ls : List Words) (xs ys : List Rule) → AllZip IsRule ls xs → AllZip IsRule ls ys → xs ≡ ys
same_rules [] [] [] h g = refl
same_rules [] [] (y ∷ ys) h g = absurd g
same_rules [] (x ∷ xs) ys h g = absurd h
same_rules (ws ∷ ls) [] ys h g = absurd h
same_rules (ws ∷ ls) (x ∷ xs) [] h g = absurd g
same_rules (ws ∷ ls) (x ∷ xs) (y ∷ ys) h g =
    ap (λ (c : Rule). c ∷ xs) (one_rule ws x y h.0 g.0) ∙ ap (λ (cs : List Rule). y ∷ cs) (same_rules ls xs ys h.1 g.1)

abbrev shape_of : Mode → Policy → (chunk overlap flush hole reorder idle : ℕ) → Shape
shape_of m p c o f h r i = record { mode = m; policy = p; chunk = c; overlap = o; flush = f; hole = h; reorder = r; idle = i }

same_shape : (s t : Shape) → s.mode ≡ t.mode → s.policy ≡ t.policy → s.chunk ≡ t.chunk → s.overlap ≡ t.overlap → s.flush ≡ t.flush → s.hole ≡ t.hole → s.reorder ≡ t.reorder → s.idle ≡ t.idle → s ≡ t
same_shape s t m p c o f h r i =
    ap (λ (x : Mode). shape_of x s.policy s.chunk s.overlap s.flush s.hole s.reorder s.idle) m
    ∙ ap (λ (x : Policy). shape_of t.mode x s.chunk s.overlap s.flush s.hole s.reorder s.idle) p
    ∙ ap (λ (x : ℕ). shape_of t.mode t.policy x s.overlap s.flush s.hole s.reorder s.idle) c
    ∙ ap (λ (x : ℕ). shape_of t.mode t.policy t.chunk x s.flush s.hole s.reorder s.idle) o
    ∙ ap (λ (x : ℕ). shape_of t.mode t.policy t.chunk t.overlap x s.hole s.reorder s.idle) f
    ∙ ap (λ (x : ℕ). shape_of t.mode t.policy t.chunk t.overlap t.flush x s.reorder s.idle) h
    ∙ ap (λ (x : ℕ). shape_of t.mode t.policy t.chunk t.overlap t.flush t.hole x s.idle) r
    ∙ ap (λ (x : ℕ). shape_of t.mode t.policy t.chunk t.overlap t.flush t.hole t.reorder x) i

abbrev cutoffs_of : Cut → Cut → Cut → List ClassRule → Cutoffs
cutoffs_of d f b c = record { default = d; fore = f; back = b; classes = c }

same_cutoffs : (s t : Cutoffs) → s.default ≡ t.default → s.fore ≡ t.fore → s.back ≡ t.back → s.classes ≡ t.classes → s ≡ t
same_cutoffs s t d f b c =
    ap (λ (x : Cut). cutoffs_of x s.fore s.back s.classes) d ∙ ap (λ (x : Cut). cutoffs_of t.default x s.back s.classes) f
    ∙ ap (λ (x : Cut). cutoffs_of t.default t.fore x s.classes) b ∙ ap (λ (x : List ClassRule). cutoffs_of t.default t.fore t.back x) c

abbrev settings_of : Shape → Cutoffs → MarkParts → Option Filter → List Rule → Settings
settings_of shape cutoffs marks filter rules = record { set = record { shape = shape; cutoffs = cutoffs; marks = marks }; filter = filter; rules = rules }

same_settings : (s t : Settings) → s.set.shape ≡ t.set.shape → s.set.cutoffs ≡ t.set.cutoffs → s.set.marks ≡ t.set.marks → s.filter ≡ t.filter → s.rules ≡ t.rules → s ≡ t
same_settings s t a b c d e =
    ap (λ (x : Shape). settings_of x s.set.cutoffs s.set.marks s.filter s.rules) a
    ∙ ap (λ (x : Cutoffs). settings_of t.set.shape x s.set.marks s.filter s.rules) b
    ∙ ap (λ (x : MarkParts). settings_of t.set.shape t.set.cutoffs x s.filter s.rules) c
    ∙ ap (λ (x : Option Filter). settings_of t.set.shape t.set.cutoffs t.set.marks x s.rules) d
    ∙ ap (λ (x : List Rule). settings_of t.set.shape t.set.cutoffs t.set.marks t.filter x) e

says_one : (ls : List Words) (s t : Settings) → Says ls s → Says ls t → s ≡ t
says_one ls s t h g =
    let a : (key : Key) → Agrees s t key = λ key. agree s t key (line_with (head key) ls) (h.once key) (g.once key) in
    same_settings s t
    (same_shape s.set.shape t.set.shape (a keys.Mode) (a keys.Policy) (a (keys.Size Chunk)) (a (keys.Size Overlap)) (a (keys.Time Flush)) (a (keys.Time Hole)) (a (keys.Size Reorder)) (a (keys.Time Idle)))
    (same_cutoffs s.set.cutoffs t.set.cutoffs (a (keys.Cutoff Default)) (a (keys.Cutoff Fore)) (a (keys.Cutoff Back)) (same_classes _ _ _ h.classes g.classes))
    (a keys.Budget) (a keys.Filter) (same_rules _ _ _ h.rules g.rules)

pub one_meaning : (text : List ℕ) → HasOneMeaning text
one_meaning text s t h g = says_one (map said (lines text)) s t h.says g.says

-- What a call that tells settings or a fault tells.

pub gave_only : (text : List ℕ) (result : Result Settings SettingsError) → IfOk result (Reads text) → IfErr result (IsMemoryOrFault (IsFault text))
    → (s : Settings) → Reads text s → MatchResult result (λ r. r ≡ s) (λ e. e ≡ refusals.Memory)
gave_only text (Ok r) h g s reads = one_meaning text r s h reads
gave_only text (Err refusals.Memory) h g s reads = refl
gave_only text (Err (refusals.Fault n k)) h g s reads = absurd (read_or_refused text s n k reads g)

pub gave_least : (text : List ℕ) (result : Result Settings SettingsError) → IfOk result (Reads text) → IfErr result (IsMemoryOrFault (IsFault text))
    → (n : ℕ) (k : SettingsKind) → IsFault text n k → IsErrAnd result (IsMemoryOrFault (λ m j. (m ≡ n) × (j ≡ k)))
gave_least text (Ok r) h g n k fault = read_or_refused text r n k h fault
gave_least text (Err refusals.Memory) h g n k fault = tt
gave_least text (Err (refusals.Fault m j)) h g n k fault = one_fault text m n j k g fault
