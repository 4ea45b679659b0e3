use Rattle.std.proofs.Common.{◌≡◌, ◌≤◌, ◌<◌, ℕ, ◌+◌, List, [], ◌∷◌, ◌++◌, length, Option, Some, None, ◌∙◌, ap, refl, arith, subst, ◌⊎◌, inl, inr, Bool, true, false, cond, nat_le}
use Rattle.std.proofs.lemmas.Bool.Decides.{nat_tests}
use Rattle.capfilter.specs.declared.filter_error.FilterKind.{FilterKind}
use Rattle.capfilter.specs.declared.filter_error.FilterKind.TheVariants as kinds
use Rattle.capfilter.specs.Expr.{Expr}
use Rattle.capfilter.specs.Tokens.{Token}
use Rattle.capfilter.specs.Faults.{bytes_of}
use Rattle.capfilter.specs.Reader.{Frame, Next, Operand, Word_of_end, Text_of_end, Operator, State, levels, step, fault_kind, Outcome, Parsed, Refused, at_end, behind_step, read}
use Rattle.capfilter.proofs.RunLemmas.{Runs, at_next}

not_full : (count : ℕ) → count < 512 → nat_le 512 count ≡ false
not_full count h = grind (arith, nat_tests)

is_full : (count : ℕ) → 512 ≤ count → nat_le 512 count ≡ true
is_full count h = grind (arith, nat_tests)

full_means : (count : ℕ) → nat_le 512 count ≡ true → 512 ≤ count
full_means count h = grind (arith, nat_tests)

room_means : (count : ℕ) → nat_le 512 count ≡ false → count < 512
room_means count h = grind (arith, nat_tests)

is_shallow : (n : ℕ) → n ≤ 64 → nat_le n 64 ≡ true
is_shallow n h = grind (arith, nat_tests)

is_deep : (n : ℕ) → 64 < n → nat_le n 64 ≡ false
is_deep n h = grind (arith, nat_tests)

pub shallow_means : (n : ℕ) → nat_le n 64 ≡ true → n ≤ 64
shallow_means n h = grind (arith, nat_tests)

pub deep_means : (n : ℕ) → nat_le n 64 ≡ false → 64 < n
deep_means n h = grind (arith, nat_tests)

-- one token, where there is room for it
module _ (end count : ℕ) (s : State) (t : Token) (ts : List Token) where
  more : State → Outcome
  more m = read end (count + 1) m ts

  pub one_full : 512 ≤ count → read end count s (t ∷ ts) ≡ Refused t.at kinds.Long
  one_full h = ap (λ (b : Bool). cond b (Refused t.at kinds.Long) (behind_step (λ m. read end (count + 1) m ts) t.at (fault_kind s.next t.bytes) (step s.frames s.next t.bytes))) (is_full count h)

  one_step : count < 512 → read end count s (t ∷ ts) ≡ behind_step (λ m. read end (count + 1) m ts) t.at (fault_kind s.next t.bytes) (step s.frames s.next t.bytes)
  one_step h = ap (λ (b : Bool). cond b (Refused t.at kinds.Long) (behind_step (λ m. read end (count + 1) m ts) t.at (fault_kind s.next t.bytes) (step s.frames s.next t.bytes))) (not_full count h)

  pub one_wrong : count < 512 → step s.frames s.next t.bytes ≡ None → read end count s (t ∷ ts) ≡ Refused t.at (fault_kind s.next t.bytes)
  one_wrong h none = one_step h ∙ ap (behind_step (λ m. read end (count + 1) m ts) t.at (fault_kind s.next t.bytes)) none

  one_by : (m : State) → count < 512 → step s.frames s.next t.bytes ≡ Some m → read end count s (t ∷ ts) ≡ cond (nat_le (levels m.frames) 64) (read end (count + 1) m ts) (Refused t.at kinds.Deep)
  one_by m h go = one_step h ∙ ap (behind_step (λ m. read end (count + 1) m ts) t.at (fault_kind s.next t.bytes)) go

  pub one_good : (m : State) → count < 512 → step s.frames s.next t.bytes ≡ Some m → levels m.frames ≤ 64 → read end count s (t ∷ ts) ≡ read end (count + 1) m ts
  one_good m h go le = one_by m h go ∙ ap (λ (b : Bool). cond b (read end (count + 1) m ts) (Refused t.at kinds.Deep)) (is_shallow (levels m.frames) le)

  pub one_deep : (m : State) → count < 512 → step s.frames s.next t.bytes ≡ Some m → 64 < levels m.frames → read end count s (t ∷ ts) ≡ Refused t.at kinds.Deep
  one_deep m h go deep = one_by m h go ∙ ap (λ (b : Bool). cond b (read end (count + 1) m ts) (Refused t.at kinds.Deep)) (is_deep (levels m.frames) deep)

-- reading goes on behind tokens that are run over
pub read_over : (end count : ℕ) (s u : State) (ts more : List Token) → Runs 64 s (bytes_of ts) u → count + length ts ≤ 512
    → read end count s (ts ++ more) ≡ read end (count + length ts) u more
read_over end count s u [] more run few =
    let same : count ≡ count + length {A = Token} [] = omega arith in
    ap (λ (x : State). read end count x more) run ∙ ap (λ (n : ℕ). read end n u more) same
read_over end count s u (t ∷ ts) more (m, go, le, run) few =
    let same : count + 1 + length ts ≡ count + length (t ∷ ts) = omega arith in
    one_good end count s t (ts ++ more) m (omega arith) go le ∙ read_over end (count + 1) m u ts more run (omega arith)
    ∙ ap (λ (n : ℕ). read end n u more) same

-- what is said where reading ends
pub at_end_parsed : (end : ℕ) (frames : List Frame) (next : Next) (e : Expr) → at_end end frames next ≡ Parsed e → at_next frames next ≡ at_next [] (Operator e)
at_end_parsed end frames Operand e h = absurd (cc)
at_end_parsed end frames (Word_of_end side) e h = absurd (cc)
at_end_parsed end frames (Text_of_end side field) e h = absurd (cc)
at_end_parsed end [] (Operator x) e h = let same : x ≡ e = cc in ap (λ (y : Expr). at_next [] (Operator y)) same
at_end_parsed end (frame ∷ frames) (Operator x) e h = absurd (cc)

-- the end comes too early, or the operand is the tree
pub at_end_cases : (end : ℕ) (frames : List Frame) (next : Next) → ((e : Expr) × (at_end end frames next ≡ Parsed e)) ⊎ (at_end end frames next ≡ Refused end kinds.End)
at_end_cases end frames Operand = inr refl
at_end_cases end frames (Word_of_end side) = inr refl
at_end_cases end frames (Text_of_end side field) = inr refl
at_end_cases end [] (Operator x) = inl (x, refl)
at_end_cases end (frame ∷ frames) (Operator x) = inr refl

-- what is parsed was run over
pub record ParsedBy (count : ℕ) (s : State) (ts : List Token) (e : Expr) : Type 0 where
  pub few : count + length ts ≤ 512
  pub runs : Runs 64 s (bytes_of ts) (at_next [] (Operator e))

-- why a token is refused
pub data Why (n : ℕ) (m : State) (t : List ℕ) : FilterKind → Type 0 where
  TooLong : 512 ≤ n → Why n m t kinds.Long
  NoStep : n < 512 → step m.frames m.next t ≡ None → Why n m t (fault_kind m.next t)
  TooDeep : (u : State) → n < 512 → step m.frames m.next t ≡ Some u → 64 < levels u.frames → Why n m t kinds.Deep

pub record StoppedAt (count : ℕ) (s : State) (ts : List Token) (at : ℕ) (kind : FilterKind) : Type 0 where
  pub before : List Token
  pub token : Token
  pub behind : List Token
  pub split : ts ≡ before ++ token ∷ behind
  pub few : count + length before ≤ 512
  pub state : State
  pub runs : Runs 64 s (bytes_of before) state
  pub place : at ≡ token.at
  pub why : Why (count + length before) state token.bytes kind

pub record StoppedEnd (end count : ℕ) (s : State) (ts : List Token) (at : ℕ) (kind : FilterKind) : Type 0 where
  pub few : count + length ts ≤ 512
  pub state : State
  pub runs : Runs 64 s (bytes_of ts) state
  pub place : at ≡ end
  pub too_early : kind ≡ kinds.End
  pub unfinished : at_end end state.frames state.next ≡ Refused end kinds.End

-- what reading tells
abbrev pub Tells : ℕ → ℕ → State → List Token → Outcome → Type 0
Tells end count s ts (Parsed e) = ParsedBy count s ts e
Tells end count s ts (Refused at kind) = StoppedAt count s ts at kind ⊎ StoppedEnd end count s ts at kind

tells_end : (end count : ℕ) (s : State) → count ≤ 512 → (o : Outcome) → at_end end s.frames s.next ≡ o → Tells end count s [] o
tells_end end count s le (Parsed e) h = record { few = omega arith; runs = at_end_parsed end s.frames s.next e h }
tells_end end count s le (Refused at kind) h = inr (by_case (at_end_cases end s.frames s.next))
  where
    by_case : ((e : Expr) × (at_end end s.frames s.next ≡ Parsed e)) ⊎ (at_end end s.frames s.next ≡ Refused end kinds.End) → StoppedEnd end count s [] at kind
    by_case (inl (e, p)) = absurd (cc)
    by_case (inr p) = record { few = omega arith; state = s; runs = refl; place = cc; too_early = cc; unfinished = p }

-- with a token in front
one_more : (end count : ℕ) (s m : State) (t : Token) (ts : List Token) → count < 512 → step s.frames s.next t.bytes ≡ Some m → levels m.frames ≤ 64
    → (o : Outcome) → Tells end (count + 1) m ts o → Tells end count s (t ∷ ts) o
one_more end count s m t ts room go le (Parsed e) h = let few = h.few in record { few = omega (arith, few); runs = (m, go, le, h.runs) }
one_more end count s m t ts room go le (Refused at kind) (inl h) =
    let few = h.few in
    let same : count + 1 + length h.before ≡ count + length (t ∷ h.before) = omega arith in
    inl (record {
      before = t ∷ h.before;
      token = h.token;
      behind = h.behind;
      split = ap (λ (l : List Token). t ∷ l) h.split;
      few = omega (arith, few);
      state = h.state;
      runs = (m, go, le, h.runs);
      place = h.place;
      why = subst (λ (n : ℕ). Why n h.state h.token.bytes kind) same h.why;
    })
one_more end count s m t ts room go le (Refused at kind) (inr h) =
    let few = h.few in
    inr (record { few = omega (arith, few); state = h.state; runs = (m, go, le, h.runs); place = h.place; too_early = h.too_early; unfinished = h.unfinished })

stopped_here : (end count : ℕ) (s : State) (t : Token) (ts : List Token) → count ≤ 512 → (kind : FilterKind) → Why count s t.bytes kind → Tells end count s (t ∷ ts) (Refused t.at kind)
stopped_here end count s t ts le kind why =
    let none : count ≡ count + length {A = Token} [] = omega arith in
    inl (record { before = []; token = t; behind = ts; split = refl; few = omega arith; state = s; runs = refl; place = refl; why = subst (λ (n : ℕ). Why n s t.bytes kind) none why })

tells_deep : (end count : ℕ) (s m : State) (t : Token) (ts : List Token) → count < 512 → step s.frames s.next t.bytes ≡ Some m
    → Tells end (count + 1) m ts (read end (count + 1) m ts) → (b : Bool) → nat_le (levels m.frames) 64 ≡ b
    → Tells end count s (t ∷ ts) (cond b (read end (count + 1) m ts) (Refused t.at kinds.Deep))
tells_deep end count s m t ts room go h true e = one_more end count s m t ts room go (shallow_means (levels m.frames) e) (read end (count + 1) m ts) h
tells_deep end count s m t ts room go h false e = stopped_here end count s t ts (omega arith) kinds.Deep (TooDeep m room go (deep_means (levels m.frames) e))

tells_step : (end count : ℕ) (s : State) (t : Token) (ts : List Token) → count < 512
    → ((m : State) → Tells end (count + 1) m ts (read end (count + 1) m ts)) → (o : Option State) → step s.frames s.next t.bytes ≡ o
    → Tells end count s (t ∷ ts) (behind_step (λ m. read end (count + 1) m ts) t.at (fault_kind s.next t.bytes) o)
tells_step end count s t ts room h None e = stopped_here end count s t ts (omega arith) (fault_kind s.next t.bytes) (NoStep room e)
tells_step end count s t ts room h (Some m) e = tells_deep end count s m t ts room e (h m) (nat_le (levels m.frames) 64) refl

tells_token : (end count : ℕ) (s : State) (t : Token) (ts : List Token) → count ≤ 512
    → (count < 512 → (m : State) → Tells end (count + 1) m ts (read end (count + 1) m ts)) → (b : Bool) → nat_le 512 count ≡ b
    → Tells end count s (t ∷ ts) (cond b (Refused t.at kinds.Long) (behind_step (λ m. read end (count + 1) m ts) t.at (fault_kind s.next t.bytes) (step s.frames s.next t.bytes)))
tells_token end count s t ts le h true e = stopped_here end count s t ts le kinds.Long (TooLong (full_means count e))
tells_token end count s t ts le h false e = tells_step end count s t ts (room_means count e) (h (room_means count e)) (step s.frames s.next t.bytes) refl

pub tells : (end count : ℕ) (s : State) (ts : List Token) → count ≤ 512 → Tells end count s ts (read end count s ts)
tells end count s [] le = tells_end end count s le (at_end end s.frames s.next) refl
tells end count s (t ∷ ts) le = tells_token end count s t ts le (λ room m. tells end (count + 1) m ts (omega arith)) (nat_le 512 count) refl
