use Rattle.std.proofs.Common.{◌≡◌, ◌<◌, ◌≤◌, ◌&&◌, ℕ, Bool, true, false, cond, List, [], ◌∷◌, ◌++◌, length, take, get_or, Option, Some, None, Result, Ok, Err, codes, sym, ◌∙◌, ap, refl, subst, arith, filter, nat_le}
use Rattle.std.specs.Prelude.{is_some, MatchOption, MatchResult, count_by}
use Rattle.std.specs.Option.{option_map}
use Rattle.std.proofs.lemmas.List.Sums.{length-filter}
use Rattle.std.proofs.lemmas.Slice.Zip.{AllZip-long}
use Rattle.std.proofs.lemmas.Bool.{false≢true}
use Rattle.std.proofs.lemmas.Bool.Decides.{nat_tests}
use Rattle.handler.specs.Grammar.{IsRule}
use Rattle.scapconf.specs.declared.place.Place.{Place}
use Rattle.scapconf.specs.declared.key.Key.{Key}
use Rattle.scapconf.specs.declared.key.Key.TheVariants as keys
use Rattle.scapconf.specs.declared.name.Name.{Name}
use Rattle.scapconf.specs.declared.name.Name.TheVariants as names
use Rattle.scapconf.specs.declared.setting.Setting.{Setting}
use Rattle.scapconf.specs.declared.setting.Setting.TheVariants as settings
use Rattle.scapconf.specs.declared.settings.Settings.{Settings}
use Rattle.scapconf.specs.declared.settings_error.SettingsKind.{SettingsKind}
use Rattle.scapconf.specs.declared.settings_error.SettingsKind.TheVariants as kinds
use Rattle.scapconf.specs.declared.line_error.LineError.{LineError}
use Rattle.scapconf.specs.declared.line_error.LineError.TheVariants as errors
use Rattle.scapconf.specs.declared.reader.Reader.{Reader}
use Rattle.linewords.specs.Words.{Words, words, word_at}
use Rattle.scapconf.specs.Lines.{is_text, is_comment, said}
use Rattle.scapconf.specs.Names.{name, place, name_in, heading, words_eq, line_with, head}
use Rattle.scapconf.specs.Faults.{Has, IsClean, IsFaultOf, rank, Named, IsUnknown, is_repeated, is_one_too_many, are_values, count_fits, IsNoBudget, IsNoFilter, IsNoRule}
use Rattle.scapconf.specs.Says.{IsClass, begins}
use Rattle.scapconf.specs.Parser.{index, key_in, has_key, is_full, Means, HasRoom, IsPassed, IsMemoryOr, Refuses, IsNamedFault, IsNamedClean, Stands}
use Rattle.scapconf.proofs.HeadLemmas.{named_words, heading_is, plain_heading, cutoff_heading}

-- What the flags and the counts tell of a line.

flag_tells : (before : List Words) (reader : Reader) (ws : Words) (k : Key) → Stands before reader → heading ws ≡ head k
    → get_or reader.seen (index k) false ≡ is_some (line_with (heading ws) before)
flag_tells before reader ws k h e = h.seen k ∙ ap (λ (x : Words). is_some (line_with x before)) (sym e)

get_take : (r : Words) → get_or (take 1 r) 0 [] ≡ get_or r 0 []
get_take [] = refl
get_take (x ∷ xs) = refl

cutoff_tells : (before : List Words) (reader : Reader) (ws : Words) → Stands before reader → name_in ws ≡ Some names.Cutoff → (o : Option Place) → place (word_at 1 ws) ≡ o
    → has_key reader.seen (option_map (λ p. keys.Cutoff p) o) ≡ is_some (line_with (heading ws) before)
cutoff_tells before reader ws h named None e =
    let it = named_words ws names.Cutoff named in
    let heads = heading_is ws names.Cutoff it.0 it.1 in
    let none : place (get_or (take 1 it.0) 0 []) ≡ None = ap place (get_take it.0) ∙ ap (λ (v : Words). place (word_at 1 v)) (sym it.1) ∙ e in
    sym (ap (λ (x : Words). is_some (line_with x before)) heads ∙ ap is_some (h.places (take 1 it.0) none))
cutoff_tells before reader ws h named (Some p) e = flag_tells before reader ws (keys.Cutoff p) h (cutoff_heading ws p named e)

-- a repeated line is seen
pub repeated_tells : (before : List Words) (reader : Reader) (ws : Words) (n : Name) → Stands before reader → name_in ws ≡ Some n → has_key reader.seen (key_in n ws) ≡ is_repeated before n ws
repeated_tells before reader ws names.Mode h named = flag_tells before reader ws keys.Mode h (plain_heading ws names.Mode named (λ e. absurd (cc)))
repeated_tells before reader ws names.Policy h named = flag_tells before reader ws keys.Policy h (plain_heading ws names.Policy named (λ e. absurd (cc)))
repeated_tells before reader ws (names.Size which) h named = flag_tells before reader ws (keys.Size which) h (plain_heading ws (names.Size which) named (λ e. absurd (cc)))
repeated_tells before reader ws (names.Time which) h named = flag_tells before reader ws (keys.Time which) h (plain_heading ws (names.Time which) named (λ e. absurd (cc)))
repeated_tells before reader ws names.Filter h named = flag_tells before reader ws keys.Filter h (plain_heading ws names.Filter named (λ e. absurd (cc)))
repeated_tells before reader ws names.Cutoff h named = cutoff_tells before reader ws h named (place (word_at 1 ws)) refl
repeated_tells before reader ws names.Class h named = refl
repeated_tells before reader ws names.Budget h named = flag_tells before reader ws keys.Budget h (plain_heading ws names.Budget named (λ e. absurd (cc)))
repeated_tells before reader ws names.Rule h named = refl

-- so are classes and rules that are too many
pub full_tells : (before : List Words) (reader : Reader) (ws : Words) (n : Name) → Stands before reader → name_in ws ≡ Some n → is_full n reader.settings ≡ is_one_too_many before n ws
full_tells before reader ws names.Class h named =
    let heads = plain_heading ws names.Class named (λ e. absurd (cc)) in
    ap (nat_le 32) (AllZip-long IsClass (filter (begins (codes "class")) before) reader.settings.set.cutoffs.classes h.says.classes ∙ length-filter (begins (codes "class")) before)
    ∙ ap (λ (x : Words). nat_le 32 (count_by (λ earlier. words_eq (heading earlier) x) before)) (sym heads)
full_tells before reader ws names.Rule h named =
    let heads = plain_heading ws names.Rule named (λ e. absurd (cc)) in
    ap (nat_le 32) (AllZip-long IsRule (filter (begins (codes "rule")) before) reader.settings.rules h.says.rules ∙ length-filter (begins (codes "rule")) before)
    ∙ ap (λ (x : Words). nat_le 32 (count_by (λ earlier. words_eq (heading earlier) x) before)) (sym heads)
full_tells before reader ws names.Mode h named = refl
full_tells before reader ws names.Policy h named = refl
full_tells before reader ws (names.Size which) h named = refl
full_tells before reader ws (names.Time which) h named = refl
full_tells before reader ws names.Filter h named = refl
full_tells before reader ws names.Cutoff h named = refl
full_tells before reader ws names.Budget h named = refl

below_of : (n : ℕ) → nat_le 32 n ≡ false → n < 32
below_of n h = grind (arith, nat_tests)

-- there is room for what was read
pub room : (n : Name) (ws : Words) (setting : Setting) (s : Settings) → is_full n s ≡ false → Means n ws setting → HasRoom setting s
room n ws (settings.Mode m) s h g = tt
room n ws (settings.Policy p) s h g = tt
room n ws (settings.Size which k) s h g = tt
room n ws (settings.Time which k) s h g = tt
room n ws (settings.Filter e) s h g = tt
room n ws (settings.Cutoff p c) s h g = tt
room n ws (settings.Class rule) s h g = below_of (length s.set.cutoffs.classes) (ap (λ (m : Name). is_full m s) (sym g.0) ∙ h)
room n ws (settings.Budget m) s h g = tt
room n ws (settings.Rule rule) s h g = tt

both : (x y : Bool) → x ≡ true → y ≡ true → (x && y) ≡ true
both x y h g = ap (λ (b : Bool). b && y) h ∙ g

-- what was read has values
pub read_values : (n : Name) (ws : Words) (setting : Setting) → Means n ws setting → are_values n ws ≡ true
read_values n ws (settings.Mode m) h = ap (λ (k : Name). are_values k ws) h.0 ∙ ap is_some h.1
read_values n ws (settings.Policy p) h = ap (λ (k : Name). are_values k ws) h.0 ∙ ap is_some h.1
read_values n ws (settings.Size which m) h = ap (λ (k : Name). are_values k ws) h.0 ∙ ap is_some h.1
read_values n ws (settings.Time which m) h = ap (λ (k : Name). are_values k ws) h.0 ∙ ap is_some h.1
read_values n ws (settings.Filter e) h = ap (λ (k : Name). are_values k ws) h.0
read_values n ws (settings.Cutoff p c) h = ap (λ (k : Name). are_values k ws) h.0 ∙ both _ _ (ap is_some h.1) (ap is_some h.2)
read_values n ws (settings.Class rule) h = ap (λ (k : Name). are_values k ws) h.0 ∙ both _ _ (ap is_some h.1.priority) (ap is_some h.1.cut)
read_values n ws (settings.Budget m) h = ap (λ (k : Name). are_values k ws) h.0 ∙ ap is_some h.1
read_values n ws (settings.Rule rule) h = ap (λ (k : Name). are_values k ws) h.0

-- The fault of a line.

named_has : (ws : Words) (n : Name) (P : Name → Type 0) → name_in ws ≡ Some n → P n → Named P ws
named_has ws n P named h = subst (λ (o : Option Name). MatchOption o ⊥ P) (sym named) h

named_gives : (ws : Words) (n : Name) (P : Name → Type 0) → name_in ws ≡ Some n → Named P ws → P n
named_gives ws n P named h = subst (λ (o : Option Name). MatchOption o ⊥ P) named h

not_unknown : (ws : Words) (n : Name) → name_in ws ≡ Some n → IsUnknown ws → ⊥
not_unknown [] n named h = absurd (cc)
not_unknown (w ∷ r) n named h = false≢true (sym h ∙ ap is_some named)

no_both : (b : Bool) → b ≡ false → b ≡ true → ⊥
no_both b h g = false≢true (sym h ∙ g)

-- kinds before one are refuted one by one
firsts : (before : List Words) (line : List ℕ) (n : ℕ) → (1 < n → ¬ Has before line kinds.Text) → (2 < n → ¬ Has before line kinds.Word) → (3 < n → ¬ Has before line kinds.Repeated)
    → (4 < n → ¬ Has before line kinds.Many) → (5 < n → ¬ Has before line kinds.Count) → (6 < n → ¬ Has before line kinds.Number) → (7 < n → ¬ Has before line kinds.Budget)
    → (8 < n → ¬ Has before line kinds.Filter) → n ≤ 9 → (other : SettingsKind) → rank other < n → ¬ Has before line other
firsts before line n text word repeated many count number budget filter most kinds.Long lt = λ h. h
firsts before line n text word repeated many count number budget filter most kinds.Text lt = text lt
firsts before line n text word repeated many count number budget filter most kinds.Word lt = word lt
firsts before line n text word repeated many count number budget filter most kinds.Repeated lt = repeated lt
firsts before line n text word repeated many count number budget filter most kinds.Many lt = many lt
firsts before line n text word repeated many count number budget filter most kinds.Count lt = count lt
firsts before line n text word repeated many count number budget filter most kinds.Number lt = number lt
firsts before line n text word repeated many count number budget filter most kinds.Budget lt = budget lt
firsts before line n text word repeated many count number budget filter most kinds.Filter lt = filter lt
firsts before line n text word repeated many count number budget filter most kinds.Rule lt = absurd (omega arith)

filters_are_no_budgets : (n : Name) (ws : Words) → IsNoFilter n ws → IsNoBudget n ws → ⊥
filters_are_no_budgets names.Filter ws h g = g
filters_are_no_budgets names.Class ws h g = g
filters_are_no_budgets names.Mode ws h g = g
filters_are_no_budgets names.Policy ws h g = g
filters_are_no_budgets (names.Size which) ws h g = g
filters_are_no_budgets (names.Time which) ws h g = g
filters_are_no_budgets names.Cutoff ws h g = g
filters_are_no_budgets names.Budget ws h g = h
filters_are_no_budgets names.Rule ws h g = g

rules_are_no_budgets : (n : Name) (ws : Words) → IsNoRule n ws → IsNoBudget n ws → ⊥
rules_are_no_budgets names.Rule ws h g = g
rules_are_no_budgets names.Filter ws h g = h
rules_are_no_budgets names.Class ws h g = h
rules_are_no_budgets names.Mode ws h g = h
rules_are_no_budgets names.Policy ws h g = h
rules_are_no_budgets (names.Size which) ws h g = h
rules_are_no_budgets (names.Time which) ws h g = h
rules_are_no_budgets names.Cutoff ws h g = h
rules_are_no_budgets names.Budget ws h g = h

rules_are_no_filters : (n : Name) (ws : Words) → IsNoRule n ws → IsNoFilter n ws → ⊥
rules_are_no_filters names.Rule ws h g = g
rules_are_no_filters names.Filter ws h g = h
rules_are_no_filters names.Class ws h g = h
rules_are_no_filters names.Mode ws h g = h
rules_are_no_filters names.Policy ws h g = h
rules_are_no_filters (names.Size which) ws h g = h
rules_are_no_filters (names.Time which) ws h g = h
rules_are_no_filters names.Cutoff ws h g = h
rules_are_no_filters names.Budget ws h g = h

module _ (before : List Words) (line : List ℕ) (n : Name) (text : is_text line ≡ true) (named : name_in (said line) ≡ Some n) where
  no_text : ¬ Has before line kinds.Text
  no_text h = no_both (is_text line) h text

  no_word : ¬ Has before line kinds.Word
  no_word h = not_unknown (said line) n named h

  no_repeated : is_repeated before n (said line) ≡ false → ¬ Has before line kinds.Repeated
  no_repeated e h = no_both (is_repeated before n (said line)) e (named_gives (said line) n (λ m. is_repeated before m (said line) ≡ true) named h)

  no_many : is_one_too_many before n (said line) ≡ false → ¬ Has before line kinds.Many
  no_many e h = no_both (is_one_too_many before n (said line)) e (named_gives (said line) n (λ m. is_one_too_many before m (said line) ≡ true) named h)

  no_count : count_fits n (length (said line)) ≡ true → ¬ Has before line kinds.Count
  no_count e h = no_both (count_fits n (length (said line))) (named_gives (said line) n (λ m. count_fits m (length (said line)) ≡ false) named h) e

  no_number : are_values n (said line) ≡ true → ¬ Has before line kinds.Number
  no_number e h = no_both (are_values n (said line)) (named_gives (said line) n (λ m. are_values m (said line) ≡ false) named h) e

  no_budget : (¬ IsNoBudget n (said line)) → ¬ Has before line kinds.Budget
  no_budget e h = e (named_gives (said line) n (λ m. IsNoBudget m (said line)) named h)

  no_rule : (¬ IsNoRule n (said line)) → ¬ Has before line kinds.Rule
  no_rule e h = e (named_gives (said line) n (λ m. IsNoRule m (said line)) named h)

  no_filter : (¬ IsNoFilter n (said line)) → ¬ Has before line kinds.Filter
  no_filter e h = e (named_gives (said line) n (λ m. IsNoFilter m (said line)) named h)

  -- the fault of a line that has a name
  pub named_fault : (kind : SettingsKind) → IsNamedFault before n (said line) kind → IsFaultOf before line kind
  named_fault kinds.Long h = absurd h
  named_fault kinds.Text h = absurd h
  named_fault kinds.Word h = absurd h
  named_fault kinds.Repeated h =
      record {
        has = named_has (said line) n (λ m. is_repeated before m (said line) ≡ true) named h;
        first = firsts before line 3 (λ _. no_text) (λ _. no_word) (λ lt. absurd (omega arith)) (λ lt. absurd (omega arith)) (λ lt. absurd (omega arith)) (λ lt. absurd (omega arith))
            (λ lt. absurd (omega arith)) (λ lt. absurd (omega arith)) (omega arith);
      }
  named_fault kinds.Many h =
      record {
        has = named_has (said line) n (λ m. is_one_too_many before m (said line) ≡ true) named h.1;
        first = firsts before line 4 (λ _. no_text) (λ _. no_word) (λ _. no_repeated h.0) (λ lt. absurd (omega arith)) (λ lt. absurd (omega arith)) (λ lt. absurd (omega arith))
            (λ lt. absurd (omega arith)) (λ lt. absurd (omega arith)) (omega arith);
      }
  named_fault kinds.Count h =
      record {
        has = named_has (said line) n (λ m. count_fits m (length (said line)) ≡ false) named h.2;
        first = firsts before line 5 (λ _. no_text) (λ _. no_word) (λ _. no_repeated h.0) (λ _. no_many h.1) (λ lt. absurd (omega arith)) (λ lt. absurd (omega arith))
            (λ lt. absurd (omega arith)) (λ lt. absurd (omega arith)) (omega arith);
      }
  named_fault kinds.Number h =
      record {
        has = named_has (said line) n (λ m. are_values m (said line) ≡ false) named h.1;
        first = firsts before line 6 (λ _. no_text) (λ _. no_word) (λ _. no_repeated h.0.once) (λ _. no_many h.0.few) (λ _. no_count h.0.counted) (λ lt. absurd (omega arith))
            (λ lt. absurd (omega arith)) (λ lt. absurd (omega arith)) (omega arith);
      }
  named_fault kinds.Budget h =
      record {
        has = named_has (said line) n (λ m. IsNoBudget m (said line)) named h.1.1;
        first = firsts before line 7 (λ _. no_text) (λ _. no_word) (λ _. no_repeated h.0.once) (λ _. no_many h.0.few) (λ _. no_count h.0.counted) (λ _. no_number h.1.0)
            (λ lt. absurd (omega arith)) (λ lt. absurd (omega arith)) (omega arith);
      }
  named_fault kinds.Filter h =
      record {
        has = named_has (said line) n (λ m. IsNoFilter m (said line)) named h.1.1;
        first = firsts before line 8 (λ _. no_text) (λ _. no_word) (λ _. no_repeated h.0.once) (λ _. no_many h.0.few) (λ _. no_count h.0.counted) (λ _. no_number h.1.0)
            (λ _. no_budget (filters_are_no_budgets n (said line) h.1.1)) (λ lt. absurd (omega arith)) (omega arith);
      }
  named_fault kinds.Rule h =
      record {
        has = named_has (said line) n (λ m. IsNoRule m (said line)) named h.1.1;
        first = firsts before line 9 (λ _. no_text) (λ _. no_word) (λ _. no_repeated h.0.once) (λ _. no_many h.0.few) (λ _. no_count h.0.counted) (λ _. no_number h.1.0)
            (λ _. no_budget (rules_are_no_budgets n (said line) h.1.1)) (λ _. no_filter (rules_are_no_filters n (said line) h.1.1)) (omega arith);
      }

  pub named_clean : IsNamedClean before n (said line) → IsClean before line
  named_clean h kinds.Long = λ x. x
  named_clean h kinds.Text = no_text
  named_clean h kinds.Word = no_word
  named_clean h kinds.Repeated = no_repeated h.passed.once
  named_clean h kinds.Many = no_many h.passed.few
  named_clean h kinds.Count = no_count h.passed.counted
  named_clean h kinds.Number = no_number h.values
  named_clean h kinds.Budget = no_budget h.no_budget_fault
  named_clean h kinds.Filter = no_filter h.no_filter_fault
  named_clean h kinds.Rule = no_rule h.no_rule_fault

-- a line with a byte that no line may have
pub text_fault : (before : List Words) (line : List ℕ) → is_text line ≡ false → IsFaultOf before line kinds.Text
text_fault before line h =
    record {
      has = h;
      first = firsts before line 1 (λ lt. absurd (omega arith)) (λ lt. absurd (omega arith)) (λ lt. absurd (omega arith)) (λ lt. absurd (omega arith)) (λ lt. absurd (omega arith))
          (λ lt. absurd (omega arith)) (λ lt. absurd (omega arith)) (λ lt. absurd (omega arith)) (omega arith);
    }

unknown_by : (ws : Words) (w : List ℕ) (r : Words) → ws ≡ w ∷ r → name w ≡ None → IsUnknown ws
unknown_by ws w r e h = subst (λ (x : Words). IsUnknown x) (sym e) (ap is_some h)

-- a line that begins with no name
pub word_fault : (before : List Words) (line : List ℕ) (w : List ℕ) (r : Words) → is_text line ≡ true → said line ≡ w ∷ r → name w ≡ None → IsFaultOf before line kinds.Word
word_fault before line w r text e h =
    record {
      has = unknown_by (said line) w r e h;
      first = firsts before line 2 (λ _ t. no_both (is_text line) t text) (λ lt. absurd (omega arith)) (λ lt. absurd (omega arith)) (λ lt. absurd (omega arith)) (λ lt. absurd (omega arith))
          (λ lt. absurd (omega arith)) (λ lt. absurd (omega arith)) (λ lt. absurd (omega arith)) (omega arith);
    }

nothing_named : (ws : Words) (P : Name → Type 0) → ws ≡ [] → Named P ws → ⊥
nothing_named ws P e h = subst (λ (x : Words). Named P x) e h

-- a line that says nothing has no fault
pub silent_clean : (before : List Words) (line : List ℕ) → is_text line ≡ true → said line ≡ [] → IsClean before line
silent_clean before line text e kinds.Long = λ x. x
silent_clean before line text e kinds.Text = λ h. no_both (is_text line) h text
silent_clean before line text e kinds.Word = λ h. let no : IsUnknown [] = subst (λ (x : Words). IsUnknown x) e h in no
silent_clean before line text e kinds.Repeated = nothing_named (said line) (λ m. is_repeated before m (said line) ≡ true) e
silent_clean before line text e kinds.Many = nothing_named (said line) (λ m. is_one_too_many before m (said line) ≡ true) e
silent_clean before line text e kinds.Count = nothing_named (said line) (λ m. count_fits m (length (said line)) ≡ false) e
silent_clean before line text e kinds.Number = nothing_named (said line) (λ m. are_values m (said line) ≡ false) e
silent_clean before line text e kinds.Budget = nothing_named (said line) (λ m. IsNoBudget m (said line)) e
silent_clean before line text e kinds.Filter = nothing_named (said line) (λ m. IsNoFilter m (said line)) e
silent_clean before line text e kinds.Rule = nothing_named (said line) (λ m. IsNoRule m (said line)) e

-- what words say is refused behind lines that they don't repeat
pub refused_by : (before : List Words) (n : Name) (ws : Words) (error : LineError) → IsPassed before n ws → Refuses n ws error → IsMemoryOr (IsNamedFault before n ws) error
refused_by before n ws errors.Memory passed h = tt
refused_by before n ws (errors.Fault kinds.Number) passed h = (passed, h)
refused_by before n ws (errors.Fault kinds.Budget) passed h = (passed, h)
refused_by before n ws (errors.Fault kinds.Filter) passed h = (passed, h)
refused_by before n ws (errors.Fault kinds.Long) passed h = absurd h
refused_by before n ws (errors.Fault kinds.Text) passed h = absurd h
refused_by before n ws (errors.Fault kinds.Word) passed h = absurd h
refused_by before n ws (errors.Fault kinds.Repeated) passed h = absurd h
refused_by before n ws (errors.Fault kinds.Many) passed h = absurd h
refused_by before n ws (errors.Fault kinds.Count) passed h = absurd h
refused_by before n ws (errors.Fault kinds.Rule) passed h = (passed, h)

error_map : (error : LineError) (P Q : SettingsKind → Type 0) → ((kind : SettingsKind) → P kind → Q kind) → IsMemoryOr P error → IsMemoryOr Q error
error_map errors.Memory P Q f h = tt
error_map (errors.Fault kind) P Q f h = f kind h

-- what a line of a name gave is what the line gives
pub named_result : (before : List Words) (line : List ℕ) (n : Name) (new : Reader) (result : Result (Unit {0}) LineError) → is_text line ≡ true → said line ≡ words line → name_in (words line) ≡ Some n
    → MatchResult result (λ _. IsNamedClean before n (words line) × Stands (before ++ words line ∷ []) new) (IsMemoryOr (IsNamedFault before n (words line)))
    → MatchResult result (λ _. IsClean before line × Stands (before ++ said line ∷ []) new) (IsMemoryOr (IsFaultOf before line))
named_result before line n new (Ok u) text e named h = (
  named_clean before line n text (ap name_in e ∙ named) (subst (λ (ws : Words). IsNamedClean before n ws) (sym e) h.0),
  subst (λ (ws : Words). Stands (before ++ ws ∷ []) new) (sym e) h.1,
)
named_result before line n new (Err error) text e named h =
    error_map error (IsNamedFault before n (words line)) (IsFaultOf before line)
    (λ kind fault. named_fault before line n text (ap name_in e ∙ named) kind (subst (λ (ws : Words). IsNamedFault before n ws kind) (sym e) fault)) h

pub first_named : (line w : List ℕ) (r : Words) (n : Name) → words line ≡ w ∷ r → name w ≡ Some n → name_in (words line) ≡ Some n
first_named line w r n e h = ap name_in e ∙ h

-- a comment says nothing, and any other line its words
pub said_comment : (line : List ℕ) → is_comment line ≡ true → said line ≡ []
said_comment line h = ap (λ (b : Bool). cond b [] (words line)) h

pub said_words : (line : List ℕ) → is_comment line ≡ false → said line ≡ words line
said_words line h = ap (λ (b : Bool). cond b [] (words line)) h
