-- Each text says settings or has a fault: its lines are taken one after the other, up to the first that has one.
use Rattle.std.proofs.Common.{◌≡◌, ◌≤◌, ◌<◌, ◌⊎◌, ℕ, ◌+◌, ◌&&◌, Bool, true, false, List, [], ◌∷◌, ◌++◌, length, take, drop, map, get_or, Option, Some, None, sym, ◌∙◌, ap, refl, subst, arith, inl, inr}
use Rattle.std.specs.Prelude.{is_some, nat_le, nat_lt, replicate}
use Rattle.std.proofs.lemmas.Bool.Decides.{nat_tests}
use Rattle.std.specs.Str.Lines.{lines}
use Rattle.capfilter.specs.Expr.{Expr}
use Rattle.capfilter.specs.declared.filter_error.FilterFault.{FilterFault}
use Rattle.capfilter.specs.Faults as filters
use Rattle.capfilter.proofs.LawLemmas as trees
use Rattle.cutclass.specs.declared.cut.Cut.{Cut}
use Rattle.handler.specs.declared.rule.Rule.{Rule}
use Rattle.handler.specs.Grammar.{IsRule}
use Rattle.handler.proofs.DecideLemmas.{rule_decided}
use Rattle.prio_budget.specs.MarkParts.{MarkParts}
use Rattle.prio_budget.specs.Marks.{IsFirstFault}
use Rattle.prio_budget.specs.declared.mark_fault.MarkFault.{MarkFault}
use Rattle.prio_budget.specs.declared.mark_fault.MarkFault.TheVariants as marks
use Rattle.prio_budget.specs.declared.marks.TheConstants.{LEAST_LIMIT, GREATEST_LIMIT, MOST_PRIORITIES}
use Rattle.scapconf.specs.declared.size.Size.TheVariants.{Chunk, Overlap, Reorder}
use Rattle.scapconf.specs.declared.time.Time.TheVariants.{Flush, Hole, Idle}
use Rattle.scapconf.specs.declared.place.Place.{Place}
use Rattle.scapconf.specs.declared.place.Place.TheVariants.{Default, Fore, Back}
use Rattle.scapconf.specs.declared.key.Key.{Key}
use Rattle.scapconf.specs.declared.key.Key.TheVariants as keys
use Rattle.scapconf.specs.declared.name.Name.{Name}
use Rattle.scapconf.specs.declared.name.Name.TheVariants as names
use Rattle.scapconf.specs.declared.setting.Setting.{Setting}
use Rattle.scapconf.specs.declared.setting.Setting.TheVariants as settings
use Rattle.scapconf.specs.declared.settings_error.SettingsKind.{SettingsKind}
use Rattle.scapconf.specs.declared.settings_error.SettingsKind.TheVariants as kinds
use Rattle.scapconf.specs.declared.line_error.LineError.TheVariants as errors
use Rattle.scapconf.specs.declared.settings.Settings.{Settings}
use Rattle.scapconf.specs.declared.reader.Reader.{Reader}
use Rattle.scapconf.specs.Defaults.{default_settings}
use Rattle.linewords.specs.Words.{Words, word_at}
use Rattle.scapconf.specs.Lines.{is_text, said, joined}
use Rattle.scapconf.specs.Names.{name, name_in, place}
use Rattle.scapconf.specs.Values.{mode, policy, size, time, cutoff, class_cut, class_priority}
use Rattle.scapconf.specs.Faults.{IsFault, IsFaultOf, IsClean, AreClean, budget_in, count_fits, is_repeated, is_one_too_many}
use Rattle.scapconf.specs.Says.{IsDefault, Reads}
use Rattle.scapconf.specs.Parser.{IsRead, IsWrong, IsPassed, Stands, index, key_in, with_key, applied}
use Rattle.scapconf.specs.Laws.{IsReadOrRefused}
use Rattle.scapconf.proofs.StepLemmas.{stands_step, silent_step}
use Rattle.scapconf.proofs.LineLemmas.{read_values, refused_by, named_fault, named_clean, text_fault, word_fault, silent_clean}
use Rattle.scapconf.proofs.ParseLemmas.{drop_more, stands_more, clean_taken, refused_next, reads_all, none_clean}
use Rattle.scapconf.proofs.LawLemmas.{read_or_refused}

-- What the words of a line say by themselves.

abbrev Said : Name → Words → Type 0
Said n ws = ((s : Setting) × IsRead n ws s) ⊎ ((k : SettingsKind) × IsWrong n ws k)

nothing : ⊥ → ⊥
nothing h = h

mode_said : (ws : Words) (o : Option _) → mode (word_at 1 ws) ≡ o → Said names.Mode ws
mode_said ws None e = inr (kinds.Number, ap is_some e)
mode_said ws (Some m) e = inl (settings.Mode m, record { means = (refl, e); no_budget_fault = nothing; no_filter_fault = nothing; no_rule_fault = nothing })

policy_said : (ws : Words) (o : Option _) → policy (word_at 1 ws) ≡ o → Said names.Policy ws
policy_said ws None e = inr (kinds.Number, ap is_some e)
policy_said ws (Some p) e = inl (settings.Policy p, record { means = (refl, e); no_budget_fault = nothing; no_filter_fault = nothing; no_rule_fault = nothing })

size_said : (which : _) (ws : Words) (o : Option ℕ) → size which (word_at 1 ws) ≡ o → Said (names.Size which) ws
size_said which ws None e = inr (kinds.Number, ap is_some e)
size_said which ws (Some n) e = inl (settings.Size which n, record { means = (refl, e); no_budget_fault = nothing; no_filter_fault = nothing; no_rule_fault = nothing })

time_said : (which : _) (ws : Words) (o : Option ℕ) → time which (word_at 1 ws) ≡ o → Said (names.Time which) ws
time_said which ws None e = inr (kinds.Number, ap is_some e)
time_said which ws (Some n) e = inl (settings.Time which n, record { means = (refl, e); no_budget_fault = nothing; no_filter_fault = nothing; no_rule_fault = nothing })

neither : (a b : Bool) → a ≡ false → (a && b) ≡ false
neither a b h = ap (λ x. x && b) h

nor : (a b : Bool) → a ≡ true → b ≡ false → (a && b) ≡ false
nor a b h g = ap (λ x. x && b) h ∙ g

yes : (a b : Bool) → a ≡ true → b ≡ true → (a && b) ≡ true
yes a b h g = ap (λ x. x && b) h ∙ g

cutoff_said : (ws : Words) (p : Option Place) (c : Option Cut) → place (word_at 1 ws) ≡ p → cutoff (word_at 2 ws) ≡ c → Said names.Cutoff ws
cutoff_said ws None c e f = inr (kinds.Number, neither (is_some (place (word_at 1 ws))) (is_some (cutoff (word_at 2 ws))) (ap is_some e))
cutoff_said ws (Some p) None e f = inr (kinds.Number, nor (is_some (place (word_at 1 ws))) (is_some (cutoff (word_at 2 ws))) (ap is_some e) (ap is_some f))
cutoff_said ws (Some p) (Some c) e f = inl (settings.Cutoff p c, record { means = (refl, e, f); no_budget_fault = nothing; no_filter_fault = nothing; no_rule_fault = nothing })

filter_said : (ws : Words) → ((e : Expr) × filters.Reads (joined (drop 1 ws)) e) ⊎ ((f : FilterFault) × filters.IsFault (joined (drop 1 ws)) f) → Said names.Filter ws
filter_said ws (inl r) =
    inl (settings.Filter r.0, record { means = (refl, r.1); no_budget_fault = nothing; no_filter_fault = λ no. (trees.read_or_refused (joined (drop 1 ws))).apart r.0 no.0 r.1 no.1; no_rule_fault = nothing })
filter_said ws (inr f) = inr (kinds.Filter, (refl, f))

class_said : (ws : Words) (p : Option ℕ) (c : Option Cut) → class_priority (word_at 1 ws) ≡ p → class_cut (word_at 2 ws) ≡ c
    → ((e : Expr) × filters.Reads (joined (drop 3 ws)) e) ⊎ ((f : FilterFault) × filters.IsFault (joined (drop 3 ws)) f) → Said names.Class ws
class_said ws None c e f g = inr (kinds.Number, neither (is_some (class_priority (word_at 1 ws))) (is_some (class_cut (word_at 2 ws))) (ap is_some e))
class_said ws (Some p) None e f g = inr (kinds.Number, nor (is_some (class_priority (word_at 1 ws))) (is_some (class_cut (word_at 2 ws))) (ap is_some e) (ap is_some f))
class_said ws (Some p) (Some c) e f (inr wrong) = inr (kinds.Filter, (yes (is_some (class_priority (word_at 1 ws))) (is_some (class_cut (word_at 2 ws))) (ap is_some e) (ap is_some f), wrong))
class_said ws (Some p) (Some c) e f (inl r) =
    inl (
      settings.Class (record { priority = p; cut = c; filter = r.0 }),
      record {
        means = (refl, record { priority = e; cut = f; filter = r.1 });
        no_budget_fault = nothing;
        no_filter_fault = λ no. (trees.read_or_refused (joined (drop 3 ws))).apart r.0 no.0 r.1 no.1;
        no_rule_fault = nothing;
      },
    )

-- three numbers have a first fault, or none
marks_fault : (limit base count : ℕ) → ((fault : MarkFault) × IsFirstFault limit base count fault) ⊎ ((fault : MarkFault) → ¬ IsFirstFault limit base count fault)
marks_fault limit base count = by (nat_lt limit LEAST_LIMIT) (nat_lt GREATEST_LIMIT limit) (nat_lt limit base) (nat_lt count 1) (nat_lt MOST_PRIORITIES count) refl refl refl refl refl
  where
    by : (a b c d e : Bool) → nat_lt limit LEAST_LIMIT ≡ a → nat_lt GREATEST_LIMIT limit ≡ b → nat_lt limit base ≡ c → nat_lt count 1 ≡ d → nat_lt MOST_PRIORITIES count ≡ e
        → ((fault : MarkFault) × IsFirstFault limit base count fault) ⊎ ((fault : MarkFault) → ¬ IsFirstFault limit base count fault)
    by true b c d e la lb lc ld le = inl (marks.Limit, inl (grind (arith, nat_tests)))
    by false true c d e la lb lc ld le = inl (marks.Limit, inr (grind (arith, nat_tests)))
    by false false true d e la lb lc ld le = inl (marks.Base, ((grind (arith, nat_tests), grind (arith, nat_tests)), grind (arith, nat_tests)))
    by false false false true e la lb lc ld le = inl (marks.Count, ((grind (arith, nat_tests), grind (arith, nat_tests)), grind (arith, nat_tests), inl (grind (arith, nat_tests))))
    by false false false false true la lb lc ld le = inl (marks.Count, ((grind (arith, nat_tests), grind (arith, nat_tests)), grind (arith, nat_tests), inr (grind (arith, nat_tests))))
    by false false false false false la lb lc ld le = inr none
      where
        none : (fault : MarkFault) → ¬ IsFirstFault limit base count fault
        none marks.Limit (inl h) = grind (arith, nat_tests)
        none marks.Limit (inr h) = grind (arith, nat_tests)
        none marks.Base h = let over = h.1 in grind (arith, nat_tests)
        none marks.Count h = one_of h.2
          where
            one_of : (count < 1) ⊎ (MOST_PRIORITIES < count) → ⊥
            one_of (inl l) = grind (arith, nat_tests)
            one_of (inr l) = grind (arith, nat_tests)

some_same : {A : Type 0} (a b : A) → Some a ≡ Some b → a ≡ b
some_same a b h = cc

budget_said : (ws : Words) (o : Option MarkParts) → budget_in ws ≡ o → Said names.Budget ws
budget_said ws None e = inr (kinds.Number, ap is_some e)
budget_said ws (Some m) e = by (marks_fault m.limit m.base m.count)
  where
    by : ((fault : MarkFault) × IsFirstFault m.limit m.base m.count fault) ⊎ ((fault : MarkFault) → ¬ IsFirstFault m.limit m.base m.count fault) → Said names.Budget ws
    by (inl f) = inr (kinds.Budget, (ap is_some e, (m, f.0, e, f.1)))
    by (inr fine) =
        inl (
          settings.Budget m,
          record {
            means = (refl, e);
            no_budget_fault = λ h. fine h.1 (subst (λ (x : MarkParts). IsFirstFault x.limit x.base x.count h.1) (some_same h.0 m (sym h.2 ∙ e)) h.3);
            no_filter_fault = nothing;
            no_rule_fault = nothing;
          },
        )

rule_said : (ws : Words) → ((rule : Rule) × IsRule ws rule) ⊎ ((rule : Rule) → ¬ IsRule ws rule) → Said names.Rule ws
rule_said ws (inl r) = inl (settings.Rule r.0, record { means = (refl, r.1); no_budget_fault = nothing; no_filter_fault = nothing; no_rule_fault = λ none. none r.0 r.1 })
rule_said ws (inr none) = inr (kinds.Rule, (refl, none))

-- settings, or a fault
words_said : (n : Name) (ws : Words) → Said n ws
words_said names.Mode ws = mode_said ws (mode (word_at 1 ws)) refl
words_said names.Policy ws = policy_said ws (policy (word_at 1 ws)) refl
words_said (names.Size which) ws = size_said which ws (size which (word_at 1 ws)) refl
words_said (names.Time which) ws = time_said which ws (time which (word_at 1 ws)) refl
words_said names.Filter ws = filter_said ws (trees.read_or_refused (joined (drop 1 ws))).one
words_said names.Cutoff ws = cutoff_said ws (place (word_at 1 ws)) (cutoff (word_at 2 ws)) refl refl
words_said names.Class ws = class_said ws (class_priority (word_at 1 ws)) (class_cut (word_at 2 ws)) refl refl (trees.read_or_refused (joined (drop 3 ws))).one
words_said names.Budget ws = budget_said ws (budget_in ws) refl
words_said names.Rule ws = rule_said ws (rule_decided ws)

-- One line.

abbrev Taken : List Words → List ℕ → Type 0
Taken before line = ((new : Reader) × IsClean before line × Stands (before ++ said line ∷ []) new) ⊎ ((k : SettingsKind) × IsFaultOf before line k)

module _ (before : List Words) (reader : Reader) (stands : Stands before reader) (line : List ℕ) (text : is_text line ≡ true) where
  read_line : (n : Name) → name_in (said line) ≡ Some n → IsPassed before n (said line) → Said n (said line) → Taken before line
  read_line n named passed (inr wrong) = inr (wrong.0, named_fault before line n text named wrong.0 (refused_by before n (said line) (errors.Fault wrong.0) passed wrong.1))
  read_line n named passed (inl read) =
      let new : Reader = record { settings = applied read.0 reader.settings; seen = with_key reader.seen (key_in n (said line)) } in
      inl (
        new,
        named_clean before line n text named (record {
          passed = passed;
          values = read_values n (said line) read.0 read.1.means;
          no_budget_fault = read.1.no_budget_fault;
          no_filter_fault = read.1.no_filter_fault;
          no_rule_fault = read.1.no_rule_fault;
        }),
        stands_step before (said line) n read.0 reader new named read.1.means passed.once refl refl stands,
      )

  named_line : (n : Name) → name_in (said line) ≡ Some n → (a b c : Bool) → is_repeated before n (said line) ≡ a → is_one_too_many before n (said line) ≡ b → count_fits n (length (said line)) ≡ c
      → Taken before line
  named_line n named true b c ea eb ec = inr (kinds.Repeated, named_fault before line n text named kinds.Repeated ea)
  named_line n named false true c ea eb ec = inr (kinds.Many, named_fault before line n text named kinds.Many (ea, eb))
  named_line n named false false false ea eb ec = inr (kinds.Count, named_fault before line n text named kinds.Count (ea, eb, ec))
  named_line n named false false true ea eb ec = read_line n named (record { once = ea; few = eb; counted = ec }) (words_said n (said line))

  first_word : (w : List ℕ) (ws : Words) → said line ≡ w ∷ ws → (o : Option Name) → name w ≡ o → Taken before line
  first_word w ws e None h = inr (kinds.Word, word_fault before line w ws text e h)
  first_word w ws e (Some n) h = named_line n (ap name_in e ∙ h) _ _ _ refl refl refl

  text_line : (ws : Words) → said line ≡ ws → Taken before line
  text_line [] e = inl (reader, silent_clean before line text e, subst (λ (ws : Words). Stands (before ++ ws ∷ []) reader) (sym e) (silent_step before reader stands))
  text_line (w ∷ ws) e = first_word w ws e (name w) refl

take_line : (before : List Words) (reader : Reader) → Stands before reader → (line : List ℕ) (b : Bool) → is_text line ≡ b → Taken before line
take_line before reader stands line false e = inr (kinds.Text, text_fault before line e)
take_line before reader stands line true e = text_line before reader stands line e (said line) refl

-- All lines.

abbrev Outcome : List ℕ → Type 0
Outcome text = ((s : Settings) × Reads text s) ⊎ ((n : ℕ) × (k : SettingsKind) × IsFault text n k)

unfoldable fresh : Reader
fresh = record { settings = default_settings; seen = replicate 13 false }

said_none : (key : Key) → IsDefault key default_settings
said_none keys.Mode = refl
said_none keys.Policy = refl
said_none (keys.Size which) = refl
said_none (keys.Time which) = refl
said_none keys.Filter = refl
said_none (keys.Cutoff p) = refl
said_none keys.Budget = refl

seen_none : (key : Key) → get_or (replicate 13 false) (index key) false ≡ false
seen_none keys.Mode = refl
seen_none keys.Policy = refl
seen_none (keys.Size Chunk) = refl
seen_none (keys.Size Overlap) = refl
seen_none (keys.Size Reorder) = refl
seen_none (keys.Time Flush) = refl
seen_none (keys.Time Hole) = refl
seen_none (keys.Time Idle) = refl
seen_none keys.Filter = refl
seen_none (keys.Cutoff Default) = refl
seen_none (keys.Cutoff Fore) = refl
seen_none (keys.Cutoff Back) = refl
seen_none keys.Budget = refl

fresh_stands : Stands [] fresh
unfolding fresh
fresh_stands = record {
  says = record { once = said_none; classes = tt; rules = tt };
  flags = refl;
  seen = seen_none;
  places = λ rest none. refl;
}

-- the first line that has a fault, or none
next_line : (text : List ℕ) (n : ℕ) (line : List ℕ) (rest : List (List ℕ)) → length text ≤ 65536 → drop n (lines text) ≡ line ∷ rest → AreClean (take n (lines text))
    → ((new : Reader) → AreClean (take (n + 1) (lines text)) → Stands (map said (take (n + 1) (lines text))) new → Outcome text) → Taken (map said (take n (lines text))) line → Outcome text
next_line text n line rest short left clean on (inr fault) = inr (n + 1, fault.0, refused_next text n line rest (errors.Fault fault.0) short left clean fault.1)
next_line text n line rest short left clean on (inl new) = on new.0 (clean_taken (lines text) n line rest left clean new.1) (stands_more (lines text) n line rest new.0 left new.2)

take_lines : (text : List ℕ) (rest : List (List ℕ)) (n : ℕ) (reader : Reader) → length text ≤ 65536 → drop n (lines text) ≡ rest → AreClean (take n (lines text))
    → Stands (map said (take n (lines text))) reader → Outcome text
take_lines text [] n reader short left clean stands = inl (reader.settings, reads_all text n reader reader.settings short left clean stands refl)
take_lines text (line ∷ rest) n reader short left clean stands =
    next_line text n line rest short left clean (λ new clean_then stands_then. take_lines text rest (n + 1) new short (drop_more (lines text) n line rest left) clean_then stands_then)
    (take_line (map said (take n (lines text))) reader stands line (is_text line) refl)

outcome : (text : List ℕ) (b : Bool) → nat_le (length text) 65536 ≡ b → Outcome text
outcome text true e = take_lines text (lines text) 0 fresh (grind (arith, nat_tests)) refl (none_clean (lines text)) fresh_stands
outcome text false e = inr (0, kinds.Long, inl (grind (arith, nat_tests), refl, refl))

pub meaning_or_fault : (text : List ℕ) → IsReadOrRefused text
meaning_or_fault text = record { one = outcome text (nat_le (length text) 65536) refl; apart = read_or_refused text }
