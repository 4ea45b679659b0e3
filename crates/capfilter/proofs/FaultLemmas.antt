use Rattle.std.proofs.Common.{◌≡◌, ◌≤◌, ◌<◌, ℕ, ◌+◌, List, [], ◌∷◌, ◌++◌, length, Option, Some, None, is_some, sym, ◌∙◌, ap, refl, arith, subst, ◌⊎◌, inl, inr, Bool, true, false, cond, ◌||◌, nat_le}
use Rattle.std.specs.Option.{option_and_then, option_map}
use Rattle.std.proofs.lemmas.List.{append-nil, length-map, map-append}
use Rattle.std.proofs.lemmas.Option.{same_Some}
use Rattle.capfilter.specs.declared.word.Word.{Word}
use Rattle.capfilter.specs.declared.word.Word.TheVariants as words
use Rattle.capfilter.specs.declared.end_test.Field.{Field}
use Rattle.capfilter.specs.declared.end_test.Field.TheVariants as fields
use Rattle.capfilter.specs.declared.end_test.EndTest.{EndTest}
use Rattle.capfilter.specs.declared.prim.Side.{Side}
use Rattle.capfilter.specs.declared.filter_error.FilterKind.{FilterKind}
use Rattle.capfilter.specs.declared.filter_error.FilterKind.TheVariants as kinds
use Rattle.capfilter.specs.declared.filter_error.FilterFault.{FilterFault}
use Rattle.capfilter.specs.declared.prim.Primitive.TheVariants.{OfEnd}
use Rattle.capfilter.specs.Expr.{Expr, Test}
use Rattle.capfilter.specs.Words.{word, spelling}
use Rattle.capfilter.specs.Ends.{end_test, is_end_test}
use Rattle.capfilter.specs.Addresses.{address, version_4, version_6}
use Rattle.capfilter.specs.Tokens.{Token, tokens}
use Rattle.capfilter.specs.Grammar.{Tokens, IsExprOf, Begins, BeginsAny}
use Rattle.capfilter.specs.Faults.{bytes_of, Reads, IsWord, IsEndTest, ExpectsEndTest, OpensTooMany, IsKind, IsFaultAt, EndsEarly, IsFault}
use Rattle.capfilter.specs.Reader.{Frame, Next, Operand, Word_of_end, Text_of_end, Operator, State, start, levels, completed, step, at_operand, at_word_of_end, at_operator, is_known, fault_kind, Parsed, Refused, at_end, read, outcome}
use Rattle.capfilter.proofs.RunLemmas.{Runs, Runs-append, Runs-split, Runs-more, Runs-same, Runs-levels, at_next, word_spelled, expr_runs, begins_runs}
use Rattle.capfilter.proofs.ReachLemmas.{word_is, runs_expr}
use Rattle.capfilter.proofs.ViableLemmas.{sample, sample_test, sample_is, runs_begins}
use Rattle.capfilter.proofs.OutcomeLemmas.{Why, TooLong, NoStep, TooDeep, StoppedAt, StoppedEnd, Tells, tells, read_over, at_end_parsed, at_end_cases, shallow_means, deep_means, one_full, one_wrong, one_deep}

-- no word is an address, a net or a port
words_are_none : (field : Field) (w : Word) → end_test field (spelling w) ≡ None
unfolding end_test address version_4 version_6
words_are_none fields.Host words.And = refl
words_are_none fields.Host words.Or = refl
words_are_none fields.Host words.Not = refl
words_are_none fields.Host words.Open = refl
words_are_none fields.Host words.Close = refl
words_are_none fields.Host words.Tcp = refl
words_are_none fields.Host words.Udp = refl
words_are_none fields.Host words.Ip = refl
words_are_none fields.Host words.Ip6 = refl
words_are_none fields.Host words.Source = refl
words_are_none fields.Host words.Target = refl
words_are_none fields.Host words.Host = refl
words_are_none fields.Host words.Net = refl
words_are_none fields.Host words.Port = refl
words_are_none fields.Net words.And = refl
words_are_none fields.Net words.Or = refl
words_are_none fields.Net words.Not = refl
words_are_none fields.Net words.Open = refl
words_are_none fields.Net words.Close = refl
words_are_none fields.Net words.Tcp = refl
words_are_none fields.Net words.Udp = refl
words_are_none fields.Net words.Ip = refl
words_are_none fields.Net words.Ip6 = refl
words_are_none fields.Net words.Source = refl
words_are_none fields.Net words.Target = refl
words_are_none fields.Net words.Host = refl
words_are_none fields.Net words.Net = refl
words_are_none fields.Net words.Port = refl
words_are_none fields.Port words.And = refl
words_are_none fields.Port words.Or = refl
words_are_none fields.Port words.Not = refl
words_are_none fields.Port words.Open = refl
words_are_none fields.Port words.Close = refl
words_are_none fields.Port words.Tcp = refl
words_are_none fields.Port words.Udp = refl
words_are_none fields.Port words.Ip = refl
words_are_none fields.Port words.Ip6 = refl
words_are_none fields.Port words.Source = refl
words_are_none fields.Port words.Target = refl
words_are_none fields.Port words.Host = refl
words_are_none fields.Port words.Net = refl
words_are_none fields.Port words.Port = refl

no_word_by : (field : Field) (token : List ℕ) (t : EndTest) (o : Option Word) → end_test field token ≡ Some t → word token ≡ o → word token ≡ None
no_word_by field token t None h e = e
no_word_by field token t (Some w) h e =
    let none : end_test field token ≡ None = ap (end_test field) (word_is token w e) ∙ words_are_none field w in
    absurd (cc)

no_word : (field : Field) (token : List ℕ) (t : EndTest) → end_test field token ≡ Some t → word token ≡ None
no_word field token t h = no_word_by field token t (word token) h refl

-- where no end's text is expected, no such text may stand
abbrev pub AsksForWord : Next → Type 0
AsksForWord Operand = Unit {0}
AsksForWord (Word_of_end side) = Unit {0}
AsksForWord (Text_of_end side field) = ⊥
AsksForWord (Operator e) = Unit {0}

no_step : (frames : List Frame) (next : Next) (token : List ℕ) → AsksForWord next → word token ≡ None → step frames next token ≡ None
no_step frames Operand token asks h = ap (option_and_then (at_operand frames)) h
no_step frames (Word_of_end side) token asks h = ap (option_and_then (at_word_of_end side frames)) h
no_step frames (Text_of_end side field) token asks h = absurd asks
no_step frames (Operator e) token asks h = ap (option_and_then (at_operator e frames)) h

-- what may stand behind tokens that are run over
module _ (before : Tokens) (m : State) (runs : Runs 64 start before m) where
  -- a token that some expression has there
  step_there : (n : ℕ) (token : List ℕ) → Begins n (before ++ token ∷ []) → (u : State) × (step m.frames m.next token ≡ Some u) × (levels u.frames ≤ n)
  step_there n token h =
      let run = begins_runs n (before ++ token ∷ []) h in
      let both = Runs-split n start run.0 before (token ∷ []) run.1 in
      let same : both.0 ≡ m = Runs-same n 64 start both.0 m before both.1 runs in
      let last = subst (λ (x : State). Runs n x (token ∷ []) run.0) same both.2 in
      (last.0, last.1, last.2)

  -- and the other way round
  begins_there : (token : List ℕ) (u : State) → step m.frames m.next token ≡ Some u → BeginsAny (before ++ token ∷ [])
  begins_there token u h =
      let n : ℕ = 64 + levels u.frames in
      let far = Runs-more 64 n start m before (omega arith) runs in
      (n, runs_begins n u (before ++ token ∷ []) (omega arith) (Runs-append n start m u before (token ∷ []) far (u, h, omega arith, refl)))

  none_there : (token : List ℕ) → step m.frames m.next token ≡ None → ¬ BeginsAny (before ++ token ∷ [])
  none_there token h (n, begins) = let there = step_there n token begins in let is = there.1 in cc

  step_none : (token : List ℕ) → (¬ BeginsAny (before ++ token ∷ [])) → step m.frames m.next token ≡ None
  step_none token h = by_case (step m.frames m.next token) refl
    where
      by_case : (o : Option State) → step m.frames m.next token ≡ o → step m.frames m.next token ≡ None
      by_case None e = e
      by_case (Some u) e = absurd (h (begins_there token u e))

  expects_text : (side : Side) (field : Field) → m.next ≡ Text_of_end side field → ExpectsEndTest before
  expects_text side field h =
      let e : Expr = Test (OfEnd side (sample_test field)) in
      let go : step m.frames (Text_of_end side field) (sample field) ≡ Some (completed m.frames e) = ap (option_map (λ t. completed m.frames (Test (OfEnd side t)))) (sample_is field) in
      (sample field, (field, sample_test field, sample_is field), begins_there (sample field) (completed m.frames e) (ap (λ (x : Next). step m.frames x (sample field)) h ∙ go))

  expects_no_text : AsksForWord m.next → ¬ ExpectsEndTest before
  expects_no_text asks (token, (field, t, is), (n, begins)) =
      let there = step_there n token begins in
      let none = no_step m.frames m.next token asks (no_word field token t is) in
      let go = there.1 in
      cc

-- what a token is known as
some_is : {A : Type 0} (o : Option A) → is_some o ≡ true → (x : A) × (o ≡ Some x)
some_is None h = absurd (cc)
some_is (Some x) h = (x, refl)

or_cases : (a b : Bool) → (a || b) ≡ true → (a ≡ true) ⊎ (b ≡ true)
or_cases true b h = inl refl
or_cases false b h = inr h

or_left : (a b : Bool) → (a || b) ≡ false → a ≡ false
or_left true b h = h
or_left false b h = refl

or_right : (a b : Bool) → (a || b) ≡ false → b ≡ false
or_right true b h = absurd (cc)
or_right false b h = h

not_some : {A : Type 0} (o : Option A) (x : A) → is_some o ≡ false → o ≡ Some x → ⊥
not_some None x h e = cc
not_some (Some y) x h e = cc

found_test : (token : List ℕ) → is_end_test token ≡ true → IsEndTest token
unfolding is_end_test
found_test token h = by_case (or_cases (is_some (end_test fields.Host token) || is_some (end_test fields.Net token)) (is_some (end_test fields.Port token)) h)
  where
    at_field : (field : Field) → is_some (end_test field token) ≡ true → IsEndTest token
    at_field field h = let is = some_is (end_test field token) h in (field, is.0, is.1)

    front : (is_some (end_test fields.Host token) ≡ true) ⊎ (is_some (end_test fields.Net token) ≡ true) → IsEndTest token
    front (inl h) = at_field fields.Host h
    front (inr h) = at_field fields.Net h

    by_case : ((is_some (end_test fields.Host token) || is_some (end_test fields.Net token)) ≡ true) ⊎ (is_some (end_test fields.Port token) ≡ true) → IsEndTest token
    by_case (inl h) = front (or_cases (is_some (end_test fields.Host token)) (is_some (end_test fields.Net token)) h)
    by_case (inr h) = at_field fields.Port h

no_test : (token : List ℕ) (field : Field) → is_end_test token ≡ false → is_some (end_test field token) ≡ false
unfolding is_end_test
no_test token fields.Host h = or_left (is_some (end_test fields.Host token)) (is_some (end_test fields.Net token)) (or_left (is_some (end_test fields.Host token) || is_some (end_test fields.Net token)) (is_some (end_test fields.Port token)) h)
no_test token fields.Net h = or_right (is_some (end_test fields.Host token)) (is_some (end_test fields.Net token)) (or_left (is_some (end_test fields.Host token) || is_some (end_test fields.Net token)) (is_some (end_test fields.Port token)) h)
no_test token fields.Port h = or_right (is_some (end_test fields.Host token) || is_some (end_test fields.Net token)) (is_some (end_test fields.Port token)) h

known_means : (token : List ℕ) → is_known token ≡ true → IsWord token ⊎ IsEndTest token
known_means token h = by_case (or_cases (is_some (word token)) (is_end_test token) h)
  where
    by_case : (is_some (word token) ≡ true) ⊎ (is_end_test token ≡ true) → IsWord token ⊎ IsEndTest token
    by_case (inl h) = let is = some_is (word token) h in inl (is.0, word_is token is.0 is.1)
    by_case (inr h) = inr (found_test token h)

unknown_means : (token : List ℕ) → is_known token ≡ false → ¬ (IsWord token ⊎ IsEndTest token)
unknown_means token h (inl (w, e)) = not_some (word token) w (or_left (is_some (word token)) (is_end_test token) h) (ap word e ∙ word_spelled w)
unknown_means token h (inr (field, t, is)) = not_some (end_test field token) t (no_test token field (or_right (is_some (word token)) (is_end_test token) h)) is

-- of which kind a fault is
module _ (before : Tokens) (m : State) (runs : Runs 64 start before m) (token : List ℕ) where
  kind_known : length before < 512 → step m.frames m.next token ≡ None → AsksForWord m.next → (b : Bool) → is_known token ≡ b → IsKind before token (cond b kinds.Unexpected kinds.Token)
  kind_known room none asks true e = (room, none_there before m runs token none, expects_no_text before m runs asks, known_means token e)
  kind_known room none asks false e = (room, none_there before m runs token none, expects_no_text before m runs asks, unknown_means token e)

  kind_by : length before < 512 → step m.frames m.next token ≡ None → (next : Next) → m.next ≡ next → IsKind before token (fault_kind next token)
  kind_by room none Operand e = kind_known room none (subst AsksForWord (sym e) tt) (is_known token) refl
  kind_by room none (Word_of_end side) e = kind_known room none (subst AsksForWord (sym e) tt) (is_known token) refl
  kind_by room none (Text_of_end side field) e = (room, none_there before m runs token none, expects_text before m runs side field e)
  kind_by room none (Operator x) e = kind_known room none (subst AsksForWord (sym e) tt) (is_known token) refl

  kind_deep : (u : State) → step m.frames m.next token ≡ Some u → 64 < levels u.frames → OpensTooMany before token
  kind_deep u go deep = (begins_there before m runs token u go, too_deep)
    where
      too_deep : ¬ Begins 64 (before ++ token ∷ [])
      too_deep begins =
          let there = step_there before m runs 64 token begins in
          let same : there.0 ≡ u = same_Some there.0 u (sym there.1 ∙ go) in
          let few : levels u.frames ≤ 64 = subst (λ (x : State). levels x.frames ≤ 64) same there.2 in
          absurd (omega arith)

  is_kind : (n : ℕ) (kind : FilterKind) → n ≡ length before → Why n m token kind → IsKind before token kind
  is_kind n kind e (TooLong full) = omega arith
  is_kind n kind e (NoStep room none) = kind_by (omega arith) none m.next refl
  is_kind n kind e (TooDeep u room go deep) = (omega arith, kind_deep u go deep)

-- the other way round: the kind tells how reading stops
module _ (end : ℕ) (before : List Token) (m : State) (runs : Runs 64 start (bytes_of before) m) (few : length before ≤ 512) (token : Token) (behind : List Token) where
  reads_on : read end 0 start (before ++ token ∷ behind) ≡ read end (length before) m (token ∷ behind)
  reads_on =
      let none : 0 + length before ≡ length before = omega arith in
      read_over end 0 start m before (token ∷ behind) runs (omega arith) ∙ ap (λ (n : ℕ). read end n m (token ∷ behind)) none

  same_length : length (bytes_of before) ≡ length before
  same_length = length-map before (λ (t : Token). t.bytes)

  wrong : length before < 512 → (¬ BeginsAny (bytes_of before ++ token.bytes ∷ [])) → read end 0 start (before ++ token ∷ behind) ≡ Refused token.at (fault_kind m.next token.bytes)
  wrong room none = reads_on ∙ one_wrong end (length before) m token behind room (step_none (bytes_of before) m runs token.bytes none)

  value_by : ExpectsEndTest (bytes_of before) → (next : Next) → m.next ≡ next → fault_kind next token.bytes ≡ kinds.Value
  value_by expects Operand e = absurd (expects_no_text (bytes_of before) m runs (subst AsksForWord (sym e) tt) expects)
  value_by expects (Word_of_end side) e = absurd (expects_no_text (bytes_of before) m runs (subst AsksForWord (sym e) tt) expects)
  value_by expects (Text_of_end side field) e = refl
  value_by expects (Operator x) e = absurd (expects_no_text (bytes_of before) m runs (subst AsksForWord (sym e) tt) expects)

  known_by : (¬ ExpectsEndTest (bytes_of before)) → (next : Next) → m.next ≡ next → fault_kind next token.bytes ≡ cond (is_known token.bytes) kinds.Unexpected kinds.Token
  known_by none Operand e = refl
  known_by none (Word_of_end side) e = refl
  known_by none (Text_of_end side field) e = absurd (none (expects_text (bytes_of before) m runs side field e))
  known_by none (Operator x) e = refl

  is_known_when : (IsWord token.bytes ⊎ IsEndTest token.bytes) → (b : Bool) → is_known token.bytes ≡ b → b ≡ true
  is_known_when h true e = refl
  is_known_when h false e = absurd (unknown_means token.bytes e h)

  is_unknown_when : (¬ (IsWord token.bytes ⊎ IsEndTest token.bytes)) → (b : Bool) → is_known token.bytes ≡ b → b ≡ false
  is_unknown_when h true e = absurd (h (known_means token.bytes e))
  is_unknown_when h false e = refl

  deep_by : OpensTooMany (bytes_of before) token.bytes → (n : ℕ) → Begins n (bytes_of before ++ token.bytes ∷ []) → length before < 512
      → read end 0 start (before ++ token ∷ behind) ≡ Refused token.at kinds.Deep
  deep_by h n begins room =
      let there = step_there (bytes_of before) m runs n token.bytes begins in
      let go = there.1 in
      reads_on ∙ one_deep end (length before) m token behind there.0 room go (too_many there.0 go (nat_le (levels there.0.frames) 64) refl)
    where
      too_many : (u : State) → step m.frames m.next token.bytes ≡ Some u → (b : Bool) → nat_le (levels u.frames) 64 ≡ b → 64 < levels u.frames
      too_many u go true e =
          let le : levels u.frames ≤ 64 = shallow_means (levels u.frames) e in
          absurd (h.1 (runs_begins 64 u (bytes_of before ++ token.bytes ∷ []) le (Runs-append 64 start m u (bytes_of before) (token.bytes ∷ []) runs (u, go, le, refl))))
      too_many u go false e = deep_means (levels u.frames) e

  stops : (kind : FilterKind) → IsKind (bytes_of before) token.bytes kind → read end 0 start (before ++ token ∷ behind) ≡ Refused token.at kind
  stops kinds.Long h = reads_on ∙ one_full end (length before) m token behind (omega (arith, same_length))
  stops kinds.Deep (room, h) = deep_by h h.0.0 h.0.1 (omega (arith, same_length))
  stops kinds.Value (room, none, expects) = wrong (omega (arith, same_length)) none ∙ ap (Refused token.at) (value_by expects m.next refl)
  stops kinds.Unexpected (room, none, no_text, known) =
      wrong (omega (arith, same_length)) none ∙ ap (Refused token.at) (known_by no_text m.next refl ∙ ap (λ (b : Bool). cond b kinds.Unexpected kinds.Token) (is_known_when known (is_known token.bytes) refl))
  stops kinds.Token (room, none, no_text, unknown) =
      wrong (omega (arith, same_length)) none ∙ ap (Refused token.at) (known_by no_text m.next refl ∙ ap (λ (b : Bool). cond b kinds.Unexpected kinds.Token) (is_unknown_when unknown (is_known token.bytes) refl))
  stops kinds.End h = absurd h

bytes-append : (xs ys : List Token) → bytes_of (xs ++ ys) ≡ bytes_of xs ++ bytes_of ys
bytes-append xs ys = map-append (λ (t : Token). t.bytes) xs ys

-- what is parsed is an expression within the limits
pub parsed_reads : (text : List ℕ) (e : Expr) → outcome text ≡ Parsed e → Reads text e
parsed_reads text e h =
    let told = subst (Tells (length text) 0 start (tokens 0 text)) h (tells (length text) 0 start (tokens 0 text) (omega arith)) in
    let few = told.few in
    record { few = omega (arith, few); is = runs_expr 64 (bytes_of (tokens 0 text)) e told.runs }

pub reads_parsed : (text : List ℕ) (e : Expr) → Reads text e → outcome text ≡ Parsed e
reads_parsed text e h =
    let all : List Token = tokens 0 text in
    let few = h.few in
    ap (read (length text) 0 start) (sym (append-nil all)) ∙ read_over (length text) 0 start (at_next [] (Operator e)) all [] (expr_runs 64 (bytes_of all) e h.is) (omega (arith, few))

-- what is refused has that fault
fault_at : (text : List ℕ) (at : ℕ) (kind : FilterKind) → StoppedAt 0 start (tokens 0 text) at kind → IsFaultAt (tokens 0 text) (record { at = at; kind = kind })
fault_at text at kind h =
    let few = h.few in
    let n : 0 + length h.before ≡ length (bytes_of h.before) = omega (arith, length-map h.before (λ (t : Token). t.bytes)) in
    record {
      before = h.before;
      token = h.token;
      behind = h.behind;
      split = h.split;
      place = h.place;
      few = omega (arith, few);
      begins = runs_begins 64 h.state (bytes_of h.before) (Runs-levels 64 start h.state (bytes_of h.before) (omega arith) h.runs) h.runs;
      kind = is_kind (bytes_of h.before) h.state h.runs h.token.bytes (0 + length h.before) kind n h.why;
    }

fault_end : (text : List ℕ) (at : ℕ) (kind : FilterKind) → StoppedEnd (length text) 0 start (tokens 0 text) at kind → EndsEarly text (record { at = at; kind = kind })
fault_end text at kind h =
    let few = h.few in
    record {
      place = h.place;
      kind = h.too_early;
      few = omega (arith, few);
      begins = runs_begins 64 h.state (bytes_of (tokens 0 text)) (Runs-levels 64 start h.state (bytes_of (tokens 0 text)) (omega arith) h.runs) h.runs;
      unfinished = not_whole;
    }
  where
    not_whole : (e : Expr) → ¬ IsExprOf 64 (bytes_of (tokens 0 text)) e
    not_whole e is =
        let same : h.state ≡ at_next [] (Operator e) = Runs-same 64 64 start h.state (at_next [] (Operator e)) (bytes_of (tokens 0 text)) h.runs (expr_runs 64 (bytes_of (tokens 0 text)) e is) in
        let ends : at_end (length text) h.state.frames h.state.next ≡ Parsed e = ap (λ (x : State). at_end (length text) x.frames x.next) same in
        let early = h.unfinished in
        cc

pub refused_fault : (text : List ℕ) (at : ℕ) (kind : FilterKind) → outcome text ≡ Refused at kind → IsFault text (record { at = at; kind = kind })
refused_fault text at kind h = by_case (subst (Tells (length text) 0 start (tokens 0 text)) h (tells (length text) 0 start (tokens 0 text) (omega arith)))
  where
    by_case : StoppedAt 0 start (tokens 0 text) at kind ⊎ StoppedEnd (length text) 0 start (tokens 0 text) at kind → IsFault text (record { at = at; kind = kind })
    by_case (inl h) = inl (fault_at text at kind h)
    by_case (inr h) = inr (fault_end text at kind h)

early_by : (end : ℕ) (m : State) (all : Tokens) → Runs 64 start all m → ((e : Expr) → ¬ IsExprOf 64 all e) → at_end end m.frames m.next ≡ Refused end kinds.End
early_by end m all runs unfinished = by_case (at_end_cases end m.frames m.next)
  where
    by_case : ((e : Expr) × (at_end end m.frames m.next ≡ Parsed e)) ⊎ (at_end end m.frames m.next ≡ Refused end kinds.End) → at_end end m.frames m.next ≡ Refused end kinds.End
    by_case (inl (e, p)) = absurd (unfinished e (runs_expr 64 all e (subst (Runs 64 start all) (at_end_parsed end m.frames m.next e p) runs)))
    by_case (inr p) = p

pub fault_refused : (text : List ℕ) (fault : FilterFault) → IsFault text fault → outcome text ≡ Refused fault.at fault.kind
fault_refused text fault (inl h) =
    let run = begins_runs 64 (bytes_of h.before) h.begins in
    ap (read (length text) 0 start) h.split ∙ stops (length text) h.before run.0 run.1 h.few h.token h.behind fault.kind h.kind ∙ ap (λ (n : ℕ). Refused n fault.kind) (sym h.place)
fault_refused text fault (inr h) =
    let all : List Token = tokens 0 text in
    let run = begins_runs 64 (bytes_of all) h.begins in
    let few = h.few in
    ap (read (length text) 0 start) (sym (append-nil all)) ∙ read_over (length text) 0 start run.0 all [] run.1 (omega (arith, few))
    ∙ early_by (length text) run.0 (bytes_of all) run.1 h.unfinished
    ∙ ap (λ (n : ℕ). Refused n kinds.End) (sym h.place) ∙ ap (Refused fault.at) (sym h.kind)
