use Rattle.std.proofs.Common.{◌≡◌, ◌≤◌, ◌<◌, ℕ, suc, zero, ◌-◌, List, [], ◌∷◌, ◌++◌, Option, Some, None, sym, ◌∙◌, ap, refl, arith, subst, inl, inr, Bool, true, false, cond, find}
use Rattle.std.specs.Option.{option_and_then, option_map}
use Rattle.std.specs.Str.{bytes_eq}
use Rattle.std.proofs.lemmas.Option.{same_Some}
use Rattle.std.proofs.lemmas.Slice.Eq.{bytes_eq-Decides}
use mathlib.Core.List.{append_assoc}
use Rattle.std.proofs.lemmas.List.{append-nil}
use Rattle.capfilter.specs.declared.word.Word.{Word}
use Rattle.capfilter.specs.declared.word.Word.TheVariants as words
use Rattle.capfilter.specs.declared.end_test.Field.{Field}
use Rattle.capfilter.specs.declared.end_test.Field.TheVariants as fields
use Rattle.capfilter.specs.declared.end_test.EndTest.{EndTest}
use Rattle.capfilter.specs.declared.prim.Side.{Side}
use Rattle.capfilter.specs.declared.prim.Side.TheVariants as sides
use Rattle.capfilter.specs.declared.prim.Primitive.{Primitive}
use Rattle.capfilter.specs.declared.prim.Primitive.TheVariants.{Tcp, Udp, Ip, Ip6, OfEnd}
use Rattle.capfilter.specs.Expr.{Expr, Test, Not, And, Or}
use Rattle.capfilter.specs.Words.{word, spelling, all_words}
use Rattle.capfilter.specs.Ends.{end_test}
use Rattle.capfilter.specs.Grammar.{Tokens, side_words, field_word, IsPrim, IsExpr, IsPrimTerm, IsTerm, IsExprOf}
use Rattle.capfilter.specs.Reader.{Frame, NotFrame, OpenFrame, AndFrame, OrFrame, Next, Operand, Word_of_end, Text_of_end, Operator, State, start, levels, completed, closed, step, at_operand, at_word_of_end, at_operator}
use Rattle.capfilter.specs.Parser.{IsFresh}
use Rattle.capfilter.proofs.RunLemmas.{Runs, completed_fresh, at_next}

-- the tokens in front of the operand that comes next, with these frames open
abbrev pub OpensAs : ℕ → List Frame → Tokens → Type 0
OpensAs most [] ts = ts ≡ []
OpensAs most (NotFrame ∷ frames) ts = (us : Tokens) × (ts ≡ us ++ spelling words.Not ∷ []) × OpensAs most frames us × (levels frames < most)
OpensAs most (OpenFrame ∷ frames) ts = (us : Tokens) × (ts ≡ us ++ spelling words.Open ∷ []) × OpensAs most frames us × (levels frames < most)
OpensAs most (AndFrame left ∷ frames) ts = (us ws : Tokens) × (ts ≡ us ++ (ws ++ spelling words.And ∷ [])) × OpensAs most frames us × IsExprOf (most - levels frames) ws left × IsFresh frames
OpensAs most (OrFrame left ∷ frames) ts = (us ws : Tokens) × (ts ≡ us ++ (ws ++ spelling words.Or ∷ [])) × OpensAs most frames us × IsExprOf (most - levels frames) ws left × IsFresh frames

-- the tokens behind those: of the end that is under way, or the operand
abbrev pub Stands : ℕ → List Frame → Next → Tokens → Type 0
Stands most frames Operand ws = ws ≡ []
Stands most frames (Word_of_end side) ws = ws ≡ side_words side
Stands most frames (Text_of_end side field) ws = ws ≡ side_words side ++ spelling (field_word field) ∷ []
Stands most frames (Operator e) ws = IsExprOf (most - levels frames) ws e × IsFresh frames

-- tokens that lead to a state
pub record Leads (most : ℕ) (ts : Tokens) (s : State) : Type 0 where
  pub front : Tokens
  pub back : Tokens
  pub split : ts ≡ front ++ back
  pub opens : OpensAs most s.frames front
  pub stands : Stands most s.frames s.next back

-- a term is an expression
expr_of_term : (Term : Tokens → Expr → Type 0) (ts : Tokens) (e : Expr) → Term ts e → IsExpr Term ts e
expr_of_term Term ts (Test prim) h = h
expr_of_term Term ts (Not inner) h = h
expr_of_term Term ts (And left right) h = inl h
expr_of_term Term ts (Or left right) h = inl h

-- an operand that is whole
leads_fresh : (most : ℕ) (frames : List Frame) (e : Expr) (us ws : Tokens) → OpensAs most frames us → IsExprOf (most - levels frames) ws e → IsFresh frames
    → Leads most (us ++ ws) (completed frames e)
leads_fresh most frames e us ws opens is fresh =
    subst (Leads most (us ++ ws)) (sym (completed_fresh frames e fresh)) (record { front = us; back = ws; split = refl; opens = opens; stands = (is, fresh) })

pub leads_completed : (most : ℕ) (frames : List Frame) (e : Expr) (us ws : Tokens) → OpensAs most frames us → IsTerm (most - levels frames) ws e
    → Leads most (us ++ ws) (completed frames e)
leads_completed most [] e us ws opens term = leads_fresh most [] e us ws opens (expr_of_term (IsTerm (most - levels [])) ws e term) tt
leads_completed most (NotFrame ∷ frames) e us ws (front, split, opens, less) term =
    let room : most - levels frames ≡ suc (most - levels (NotFrame ∷ frames)) = omega arith in
    let whole : IsTerm (most - levels frames) (spelling words.Not ∷ ws) (Not e) =
    subst (λ (n : ℕ). IsTerm n (spelling words.Not ∷ ws) (Not e)) (sym room) (inr (inl (ws, refl, term))) in
    let same : us ++ ws ≡ front ++ spelling words.Not ∷ ws = ap (λ (l : Tokens). l ++ ws) split ∙ append_assoc front (spelling words.Not ∷ []) ws in
    subst (λ (l : Tokens). Leads most l (completed frames (Not e))) (sym same) (leads_completed most frames (Not e) front (spelling words.Not ∷ ws) opens whole)
leads_completed most (OpenFrame ∷ frames) e us ws opens term = leads_fresh most (OpenFrame ∷ frames) e us ws opens (expr_of_term (IsTerm (most - levels (OpenFrame ∷ frames))) ws e term) tt
leads_completed most (AndFrame left ∷ frames) e us ws (front, first, split, opens, is, fresh) term =
    let whole : IsExprOf (most - levels frames) (first ++ spelling words.And ∷ ws) (And left e) = inr (first, ws, refl, is, term) in
    let same : us ++ ws ≡ front ++ (first ++ spelling words.And ∷ ws) =
    ap (λ (l : Tokens). l ++ ws) split ∙ append_assoc front (first ++ spelling words.And ∷ []) ws ∙ ap (λ (l : Tokens). front ++ l) (append_assoc first (spelling words.And ∷ []) ws) in
    subst (λ (l : Tokens). Leads most l (completed frames (And left e))) (sym same) (leads_fresh most frames (And left e) front (first ++ spelling words.And ∷ ws) opens whole fresh)
leads_completed most (OrFrame left ∷ frames) e us ws (front, first, split, opens, is, fresh) term =
    let whole : IsExprOf (most - levels frames) (first ++ spelling words.Or ∷ ws) (Or left e) = inr (first, ws, refl, is, term) in
    let same : us ++ ws ≡ front ++ (first ++ spelling words.Or ∷ ws) =
    ap (λ (l : Tokens). l ++ ws) split ∙ append_assoc front (first ++ spelling words.Or ∷ []) ws ∙ ap (λ (l : Tokens). front ++ l) (append_assoc first (spelling words.Or ∷ []) ws) in
    subst (λ (l : Tokens). Leads most l (completed frames (Or left e))) (sym same) (leads_fresh most frames (Or left e) front (first ++ spelling words.Or ∷ ws) opens whole fresh)

find_by : (p : Word → Bool) (x : Word) (xs : List Word) (w : Word) (b : Bool) → p x ≡ b → cond b (Some x) (find p xs) ≡ Some w → (find p xs ≡ Some w → p w ≡ true) → p w ≡ true
find_by p x xs w true e h rest = subst (λ (y : Word). p y ≡ true) (same_Some x w h) e
find_by p x xs w false e h rest = rest h

find_passes : (p : Word → Bool) (ws : List Word) (w : Word) → find p ws ≡ Some w → p w ≡ true
find_passes p [] w h = absurd (cc)
find_passes p (x ∷ xs) w h = find_by p x xs w (p x) refl h (find_passes p xs w)

-- a token is the word that it is found to be
pub word_is : (token : List ℕ) (w : Word) → word token ≡ Some w → token ≡ spelling w
unfolding word
word_is token w h = sym ((bytes_eq-Decides (spelling w) token).0 (find_passes (λ w. bytes_eq (spelling w) token) all_words w h))

prim_term : (n : ℕ) (ts : Tokens) (e : Expr) → IsPrimTerm ts e → IsTerm n ts e
prim_term zero ts e h = h
prim_term (suc n) ts e h = inl h

-- an operand or a join has come
module _ (most : ℕ) (frames : List Frame) (front : Tokens) (opens : OpensAs most frames front) where
  leads_prim : (ws : Tokens) (prim : Primitive) → IsPrim ws prim → Leads most (front ++ ws) (completed frames (Test prim))
  leads_prim ws prim h = leads_completed most frames (Test prim) front ws opens (prim_term (most - levels frames) ws (Test prim) h)

  leads_end : (side : Side) (field : Field) (ws : Tokens) → ws ≡ side_words side ++ spelling (field_word field) ∷ [] → Leads most (front ++ ws) (at_next frames (Text_of_end side field))
  leads_end side field ws h = record { front = front; back = ws; split = refl; opens = opens; stands = h }

  leads_side : (side : Side) (ws : Tokens) → ws ≡ side_words side → Leads most (front ++ ws) (at_next frames (Word_of_end side))
  leads_side side ws h = record { front = front; back = ws; split = refl; opens = opens; stands = h }

  leads_open : (frame : Frame) (ws : Tokens) → OpensAs most (frame ∷ frames) (front ++ ws) → Leads most (front ++ ws) (at_next (frame ∷ frames) Operand)
  leads_open frame ws h = record { front = front ++ ws; back = []; split = sym (append-nil (front ++ ws)); opens = h; stands = refl }

  after_operand : (w : Word) (m : State) → at_operand frames w ≡ Some m → levels m.frames ≤ most → Leads most (front ++ spelling w ∷ []) m
  after_operand words.And m h le = absurd (cc)
  after_operand words.Or m h le = absurd (cc)
  after_operand words.Not m h le =
      let same : at_next (NotFrame ∷ frames) Operand ≡ m = same_Some _ _ h in
      let room : levels (NotFrame ∷ frames) ≤ most = subst (λ (x : State). levels x.frames ≤ most) (sym same) le in
      subst (Leads most (front ++ spelling words.Not ∷ [])) same (leads_open NotFrame (spelling words.Not ∷ []) (front, refl, opens, omega arith))
  after_operand words.Open m h le =
      let same : at_next (OpenFrame ∷ frames) Operand ≡ m = same_Some _ _ h in
      let room : levels (OpenFrame ∷ frames) ≤ most = subst (λ (x : State). levels x.frames ≤ most) (sym same) le in
      subst (Leads most (front ++ spelling words.Open ∷ [])) same (leads_open OpenFrame (spelling words.Open ∷ []) (front, refl, opens, omega arith))
  after_operand words.Close m h le = absurd (cc)
  after_operand words.Tcp m h le = subst (Leads most (front ++ spelling words.Tcp ∷ [])) (same_Some _ _ h) (leads_prim (spelling words.Tcp ∷ []) Tcp refl)
  after_operand words.Udp m h le = subst (Leads most (front ++ spelling words.Udp ∷ [])) (same_Some _ _ h) (leads_prim (spelling words.Udp ∷ []) Udp refl)
  after_operand words.Ip m h le = subst (Leads most (front ++ spelling words.Ip ∷ [])) (same_Some _ _ h) (leads_prim (spelling words.Ip ∷ []) Ip refl)
  after_operand words.Ip6 m h le = subst (Leads most (front ++ spelling words.Ip6 ∷ [])) (same_Some _ _ h) (leads_prim (spelling words.Ip6 ∷ []) Ip6 refl)
  after_operand words.Source m h le = subst (Leads most (front ++ spelling words.Source ∷ [])) (same_Some _ _ h) (leads_side sides.Source (spelling words.Source ∷ []) refl)
  after_operand words.Target m h le = subst (Leads most (front ++ spelling words.Target ∷ [])) (same_Some _ _ h) (leads_side sides.Target (spelling words.Target ∷ []) refl)
  after_operand words.Host m h le = subst (Leads most (front ++ spelling words.Host ∷ [])) (same_Some _ _ h) (leads_end sides.Either fields.Host (spelling words.Host ∷ []) refl)
  after_operand words.Net m h le = subst (Leads most (front ++ spelling words.Net ∷ [])) (same_Some _ _ h) (leads_end sides.Either fields.Net (spelling words.Net ∷ []) refl)
  after_operand words.Port m h le = subst (Leads most (front ++ spelling words.Port ∷ [])) (same_Some _ _ h) (leads_end sides.Either fields.Port (spelling words.Port ∷ []) refl)

  -- the word of an end behind `src` or `dst`
  after_side : (side : Side) (w : Word) (m : State) → at_word_of_end side frames w ≡ Some m → Leads most (front ++ (side_words side ++ spelling w ∷ [])) m
  after_side side words.And m h = absurd (cc)
  after_side side words.Or m h = absurd (cc)
  after_side side words.Not m h = absurd (cc)
  after_side side words.Open m h = absurd (cc)
  after_side side words.Close m h = absurd (cc)
  after_side side words.Tcp m h = absurd (cc)
  after_side side words.Udp m h = absurd (cc)
  after_side side words.Ip m h = absurd (cc)
  after_side side words.Ip6 m h = absurd (cc)
  after_side side words.Source m h = absurd (cc)
  after_side side words.Target m h = absurd (cc)
  after_side side words.Host m h = subst (Leads most (front ++ (side_words side ++ spelling words.Host ∷ []))) (same_Some _ _ h) (leads_end side fields.Host (side_words side ++ spelling words.Host ∷ []) refl)
  after_side side words.Net m h = subst (Leads most (front ++ (side_words side ++ spelling words.Net ∷ []))) (same_Some _ _ h) (leads_end side fields.Net (side_words side ++ spelling words.Net ∷ []) refl)
  after_side side words.Port m h = subst (Leads most (front ++ (side_words side ++ spelling words.Port ∷ []))) (same_Some _ _ h) (leads_end side fields.Port (side_words side ++ spelling words.Port ∷ []) refl)

  after_text : (side : Side) (field : Field) (text : List ℕ) (t : EndTest) → end_test field text ≡ Some t
      → Leads most (front ++ ((side_words side ++ spelling (field_word field) ∷ []) ++ text ∷ [])) (completed frames (Test (OfEnd side t)))
  after_text side field text t h =
      leads_prim ((side_words side ++ spelling (field_word field) ∷ []) ++ text ∷ []) (OfEnd side t) (field, text, h, append_assoc (side_words side) (spelling (field_word field) ∷ []) (text ∷ []))

-- a closing bracket
after_close : (most : ℕ) (frames : List Frame) (e : Expr) (us ws : Tokens) (m : State) → OpensAs most frames us → IsExprOf (most - levels frames) ws e
    → closed frames e ≡ Some m → Leads most (us ++ (ws ++ spelling words.Close ∷ [])) m
after_close most [] e us ws m opens is h = absurd (cc)
after_close most (NotFrame ∷ frames) e us ws m opens is h = absurd (cc)
after_close most (OpenFrame ∷ frames) e us ws m (front, split, opens, less) is h =
    let room : most - levels frames ≡ suc (most - levels (OpenFrame ∷ frames)) = omega arith in
    let term : IsTerm (most - levels frames) (spelling words.Open ∷ ws ++ spelling words.Close ∷ []) e =
    subst (λ (n : ℕ). IsTerm n (spelling words.Open ∷ ws ++ spelling words.Close ∷ []) e) (sym room) (inr (inr (ws, refl, is))) in
    let same : us ++ (ws ++ spelling words.Close ∷ []) ≡ front ++ (spelling words.Open ∷ ws ++ spelling words.Close ∷ []) =
    ap (λ (l : Tokens). l ++ (ws ++ spelling words.Close ∷ [])) split ∙ append_assoc front (spelling words.Open ∷ []) (ws ++ spelling words.Close ∷ []) in
    subst (λ (l : Tokens). Leads most l m) (sym same) (subst (Leads most (front ++ (spelling words.Open ∷ ws ++ spelling words.Close ∷ []))) (same_Some _ _ h)
    (leads_completed most frames e front (spelling words.Open ∷ ws ++ spelling words.Close ∷ []) opens term))
after_close most (AndFrame left ∷ frames) e us ws m opens is h = absurd (cc)
after_close most (OrFrame left ∷ frames) e us ws m opens is h = absurd (cc)

-- what comes behind an operand
after_operator : (most : ℕ) (frames : List Frame) (e : Expr) (us ws : Tokens) → OpensAs most frames us → IsExprOf (most - levels frames) ws e → IsFresh frames
    → (w : Word) (m : State) → at_operator e frames w ≡ Some m → Leads most (us ++ (ws ++ spelling w ∷ [])) m
after_operator most frames e us ws opens is fresh words.And m h =
    subst (Leads most (us ++ (ws ++ spelling words.And ∷ []))) (same_Some _ _ h) (leads_open most frames us opens (AndFrame e) (ws ++ spelling words.And ∷ []) (us, ws, refl, opens, is, fresh))
after_operator most frames e us ws opens is fresh words.Or m h =
    subst (Leads most (us ++ (ws ++ spelling words.Or ∷ []))) (same_Some _ _ h) (leads_open most frames us opens (OrFrame e) (ws ++ spelling words.Or ∷ []) (us, ws, refl, opens, is, fresh))
after_operator most frames e us ws opens is fresh words.Not m h = absurd (cc)
after_operator most frames e us ws opens is fresh words.Open m h = absurd (cc)
after_operator most frames e us ws opens is fresh words.Close m h = after_close most frames e us ws m opens is h
after_operator most frames e us ws opens is fresh words.Tcp m h = absurd (cc)
after_operator most frames e us ws opens is fresh words.Udp m h = absurd (cc)
after_operator most frames e us ws opens is fresh words.Ip m h = absurd (cc)
after_operator most frames e us ws opens is fresh words.Ip6 m h = absurd (cc)
after_operator most frames e us ws opens is fresh words.Source m h = absurd (cc)
after_operator most frames e us ws opens is fresh words.Target m h = absurd (cc)
after_operator most frames e us ws opens is fresh words.Host m h = absurd (cc)
after_operator most frames e us ws opens is fresh words.Net m h = absurd (cc)
after_operator most frames e us ws opens is fresh words.Port m h = absurd (cc)

-- a step by a word
by_word : (most : ℕ) (ts front back : Tokens) (t : List ℕ) (m : State) (go : Word → Option State) (o : Option Word) → ts ≡ front ++ back → word t ≡ o → option_and_then go o ≡ Some m
    → ((w : Word) → go w ≡ Some m → Leads most (front ++ (back ++ spelling w ∷ [])) m) → Leads most (ts ++ t ∷ []) m
by_word most ts front back t m go None split e h leads = absurd (cc)
by_word most ts front back t m go (Some w) split e h leads =
    let same : ts ++ t ∷ [] ≡ front ++ (back ++ spelling w ∷ []) =
    ap (λ (l : Tokens). l ++ t ∷ []) split ∙ append_assoc front back (t ∷ []) ∙ ap (λ (x : List ℕ). front ++ (back ++ x ∷ [])) (word_is t w e) in
    subst (λ (l : Tokens). Leads most l m) (sym same) (leads w h)

by_text : (most : ℕ) (ts front back : Tokens) (t : List ℕ) (m : State) (go : EndTest → State) (o : Option EndTest) → ts ≡ front ++ back → option_map go o ≡ Some m
    → ((x : EndTest) → o ≡ Some x → Leads most (front ++ (back ++ t ∷ [])) (go x)) → Leads most (ts ++ t ∷ []) m
by_text most ts front back t m go None split h leads = absurd (cc)
by_text most ts front back t m go (Some x) split h leads =
    let same : ts ++ t ∷ [] ≡ front ++ (back ++ t ∷ []) = ap (λ (l : Tokens). l ++ t ∷ []) split ∙ append_assoc front back (t ∷ []) in
    subst (λ (l : Tokens). Leads most l m) (sym same) (subst (Leads most (front ++ (back ++ t ∷ []))) (same_Some _ _ h) (leads x refl))

pub leads_step : (most : ℕ) (frames : List Frame) (next : Next) (ts : Tokens) (t : List ℕ) (m : State) → Leads most ts (at_next frames next) → step frames next t ≡ Some m → levels m.frames ≤ most
    → Leads most (ts ++ t ∷ []) m
leads_step most frames Operand ts t m h go le =
    by_word most ts h.front [] t m (at_operand frames) (word t) (h.split ∙ ap (λ (l : Tokens). h.front ++ l) h.stands) refl go
    (λ w there. after_operand most frames h.front h.opens w m there le)
leads_step most frames (Word_of_end side) ts t m h go le =
    by_word most ts h.front (side_words side) t m (at_word_of_end side frames) (word t) (h.split ∙ ap (λ (l : Tokens). h.front ++ l) h.stands) refl go
    (λ w there. after_side most frames h.front h.opens side w m there)
leads_step most frames (Text_of_end side field) ts t m h go le =
    by_text most ts h.front (side_words side ++ spelling (field_word field) ∷ []) t m (λ x. completed frames (Test (OfEnd side x))) (end_test field t) (h.split ∙ ap (λ (l : Tokens). h.front ++ l) h.stands) go
    (λ x is. after_text most frames h.front h.opens side field t x is)
leads_step most frames (Operator e) ts t m h go le =
    by_word most ts h.front h.back t m (at_operator e frames) (word t) h.split refl go
    (λ w there. after_operator most frames e h.front h.back h.opens h.stands.0 h.stands.1 w m there)

pub leads_runs : (most : ℕ) (s u : State) (before ts : Tokens) → Leads most before s → Runs most s ts u → Leads most (before ++ ts) u
leads_runs most s u before [] h run = subst (λ (l : Tokens). Leads most l u) (sym (append-nil before)) (subst (Leads most before) run h)
leads_runs most s u before (t ∷ ts) h (m, go, le, run) =
    let next = leads_step most s.frames s.next before t m h go le in
    subst (λ (l : Tokens). Leads most l u) (append_assoc before (t ∷ []) ts) (leads_runs most m u (before ++ t ∷ []) ts next run)

pub leads_start : (most : ℕ) → Leads most [] start
leads_start most = record { front = []; back = []; split = refl; opens = refl; stands = refl }

pub leads_from_start : (most : ℕ) (u : State) (ts : Tokens) → Runs most start ts u → Leads most ts u
leads_from_start most u ts run = leads_runs most start u [] ts (leads_start most) run

-- what is read as a tree is an expression
pub runs_expr : (most : ℕ) (ts : Tokens) (e : Expr) → Runs most start ts (at_next [] (Operator e)) → IsExprOf most ts e
runs_expr most ts e run =
    let h = leads_from_start most (at_next [] (Operator e)) ts run in
    let room : most - levels [] ≡ most = omega arith in
    let same : ts ≡ h.back = h.split ∙ ap (λ (l : Tokens). l ++ h.back) h.opens in
    subst (λ (l : Tokens). IsExprOf most l e) (sym same) (subst (λ (n : ℕ). IsExprOf n h.back e) room h.stands.0)
