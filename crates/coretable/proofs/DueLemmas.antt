-- What is due first.
use Rattle.std.specs.Prelude.{◌≡◌, refl, ℕ, suc, ◌+◌, Bool, true, false, cond, ◌&&◌, ◌||◌, ◌==◌, nat_lt, List, [], ◌∷◌, ◌++◌, map, flat_map, Option, None, Some}
use Rattle.std.specs.List.{list_all}
use Rattle.std.proofs.Common.{sym, ◌∙◌, ap, arith, subst}
use Rattle.std.proofs.lemmas.Bool.Decides.{nat_tests}
use Rattle.streamdefs.specs.Lists.{Each}
use Rattle.streamdefs.specs.Terms.{Terms}
use Rattle.streamdefs.specs.Direction.{dues_in}
use Rattle.streamdefs.specs.Convo.{Convo, is_live, time_dues, idle_dues}
use Rattle.streamdefs.specs.Core.{Core, Open, Due, find_convo, put_convo, dues, dues_of, first_due, sooner, is_sooner}
use Rattle.coretable.specs.Orderly.{Rises}
use Rattle.coretable.proofs.Places.{StandsAt, further, here, above, not_above, found_at, put_at}

pub none_due : (ds : List Due) → first_due ds ≡ None → ds ≡ []
none_due [] e = refl
none_due (d ∷ ds) e = absurd cc

no_later : (a b now : ℕ) (rest : Bool) → (nat_lt a b || ((a == b) && rest)) ≡ true → nat_lt now a ≡ true → nat_lt now b ≡ true
no_later a b now true s h = grind (arith, nat_tests)
no_later a b now false s h = grind (arith, nat_tests)

not_sooner : (a b now : ℕ) (rest : Bool) → (nat_lt a b || ((a == b) && rest)) ≡ false → nat_lt now b ≡ true → nat_lt now a ≡ true
not_sooner a b now true s h = grind (arith, nat_tests)
not_sooner a b now false s h = grind (arith, nat_tests)

both : (a b : Bool) → a ≡ true → b ≡ true → (a && b) ≡ true
both a b e f = grind arith

-- where the first is later than a moment, all are
later_due : (now : ℕ) (x y : Due) (ds : List Due) (d : Due) (b : Bool) → is_sooner y x ≡ b → Some (cond b y x) ≡ Some d → nat_lt now d.at ≡ true
    → (nat_lt now y.at ≡ true → list_all (λ e. nat_lt now e.at) ds ≡ true) → list_all (λ e. nat_lt now e.at) (x ∷ ds) ≡ true
later_due now x y ds d true s g h rest =
    let same : y ≡ d = cc in
    let later_y : nat_lt now y.at ≡ true = ap (λ (q : Due). nat_lt now q.at) same ∙ h in
    both (nat_lt now x.at) (list_all (λ e. nat_lt now e.at) ds) (no_later y.at x.at now _ s later_y) (rest later_y)
later_due now x y ds d false s g h rest =
    let same : x ≡ d = cc in
    let later_x : nat_lt now x.at ≡ true = ap (λ (q : Due). nat_lt now q.at) same ∙ h in
    both (nat_lt now x.at) (list_all (λ e. nat_lt now e.at) ds) later_x (rest (not_sooner y.at x.at now _ s later_x))

later_of : (now : ℕ) (x : Due) (ds : List Due) (d : Due) (o : Option Due) → first_due ds ≡ o → Some (sooner x o) ≡ Some d → nat_lt now d.at ≡ true
    → ((y : Due) → first_due ds ≡ Some y → nat_lt now y.at ≡ true → list_all (λ e. nat_lt now e.at) ds ≡ true) → list_all (λ e. nat_lt now e.at) (x ∷ ds) ≡ true
later_of now x ds d None f g h rest =
    let same : x ≡ d = cc in
    both (nat_lt now x.at) (list_all (λ e. nat_lt now e.at) ds) (ap (λ (q : Due). nat_lt now q.at) same ∙ h) (ap (list_all (λ e. nat_lt now e.at)) (none_due ds f))
later_of now x ds d (Some y) f g h rest = later_due now x y ds d (is_sooner y x) refl g h (rest y f)

pub all_later : (now : ℕ) (ds : List Due) (d : Due) → first_due ds ≡ Some d → nat_lt now d.at ≡ true → list_all (λ e. nat_lt now e.at) ds ≡ true
all_later now [] d e h = absurd cc
all_later now (x ∷ ds) d e h = later_of now x ds d (first_due ds) refl e h (λ y f l. all_later now ds y f l)

-- What is due of a core is due of a live conversation of its list.
pub record IsDueOf (terms : Terms) (os : List Open) (d : Due) : Type 0 where
  pub one : Open
  pub stands : StandsAt os one
  pub live : is_live one.convo ≡ true
  pub conv : d.conv ≡ one.id

pub each_first : (P : Due → Type 0) (ds : List Due) (d : Due) → Each P ds → first_due ds ≡ Some d → P d
each_first P [] d h e = absurd cc
each_first P (x ∷ ds) d h e = by (first_due ds) refl e (λ y f. each_first P ds y h.1 f)
  where
    chosen : (b : Bool) (y : Due) → P y → cond b y x ≡ d → P d
    chosen true y py e = subst P e py
    chosen false y py e = subst P e h.0

    by : (o : Option Due) → first_due ds ≡ o → Some (sooner x o) ≡ Some d → ((y : Due) → first_due ds ≡ Some y → P y) → P d
    by None f e rest = let same : x ≡ d = cc in subst P same h.0
    by (Some y) f e rest = let same : cond (is_sooner y x) y x ≡ d = cc in chosen (is_sooner y x) y (rest y f) same

each_mapped : (P : Due → Type 0) (g : ℕ → Due) (ats : List ℕ) → ((at : ℕ) → P (g at)) → Each P (map g ats)
each_mapped P g [] h = tt
each_mapped P g (at ∷ ats) h = (h at, each_mapped P g ats h)

each_joined : (P : Due → Type 0) (xs ys : List Due) → Each P xs → Each P ys → Each P (xs ++ ys)
each_joined P [] ys a b = b
each_joined P (x ∷ xs) ys a b = (a.0, each_joined P xs ys a.1 b)

each_due : (P Q : Due → Type 0) (ds : List Due) → ((d : Due) → P d → Q d) → Each P ds → Each Q ds
each_due P Q [] f h = tt
each_due P Q (d ∷ ds) f h = (f d h.0, each_due P Q ds f h.1)

-- an ended conversation has nothing due
pub dead_dues : (terms : Terms) (o : Open) → is_live o.convo ≡ false → dues_of terms o ≡ []
dead_dues terms o e = λ i. map timed (cond (e i) (dues_in terms o.convo.directions.fore ++ dues_in terms o.convo.directions.back) []) ++ map idled (cond (e i) ((o.convo.clock + terms.idle) ∷ []) [])
  where
    timed : ℕ → Due
    timed at = record { at = at; conv = o.id; idle = false }

    idled : ℕ → Due
    idled at = record { at = at; conv = o.id; idle = true }

one_due : (terms : Terms) (os : List Open) (o : Open) (b : Bool) → is_live o.convo ≡ b → StandsAt os o → Each (IsDueOf terms os) (dues_of terms o)
one_due terms os o true l s =
    each_joined (IsDueOf terms os) _ _ (each_mapped (IsDueOf terms os) _ (time_dues terms o.convo) (λ at. record { one = o; stands = s; live = l; conv = refl }))
    (each_mapped (IsDueOf terms os) _ (idle_dues terms o.convo) (λ at. record { one = o; stands = s; live = l; conv = refl }))
one_due terms os o false l s = subst (Each (IsDueOf terms os)) (sym (dead_dues terms o l)) tt

due_further : (terms : Terms) (from : ℕ) (o : Open) (os : List Open) (d : Due) → Rises from (o ∷ os) → IsDueOf terms os d → IsDueOf terms (o ∷ os) d
due_further terms from o os d r h = record {
  one = h.one;
  stands = further o os h.one (not_above o.id h.one.id (above (suc o.id) os h.one h.stands r.2)) h.stands;
  live = h.live;
  conv = h.conv;
}

all_due : (terms : Terms) (from : ℕ) (os : List Open) → Rises from os → Each (IsDueOf terms os) (flat_map (dues_of terms) os)
all_due terms from [] r = tt
all_due terms from (o ∷ os) r =
    each_joined (IsDueOf terms (o ∷ os)) (dues_of terms o) (flat_map (dues_of terms) os) (one_due terms (o ∷ os) o (is_live o.convo) refl (here from o os r))
    (each_due (IsDueOf terms os) (IsDueOf terms (o ∷ os)) (flat_map (dues_of terms) os) (λ d h. due_further terms from o os d r h) (all_due terms (suc o.id) os r.2))

pub due_of : (terms : Terms) (core : Core) (d : Due) → Rises 0 core.convos → first_due (dues terms core) ≡ Some d → IsDueOf terms core.convos d
due_of terms core d r e = each_first (IsDueOf terms core.convos) (flat_map (dues_of terms) core.convos) d (all_due terms 0 core.convos r) e

-- Nothing is due once a conversation is put anew, of which nothing more is due.
joined_and : (a b c : Bool) → (a && (b && c)) ≡ ((a && b) && c)
joined_and true b c = refl
joined_and false b c = refl

all_joined : (P : Due → Bool) (xs ys : List Due) → list_all P (xs ++ ys) ≡ (list_all P xs && list_all P ys)
all_joined P [] ys = refl
all_joined P (x ∷ xs) ys = ap (λ b. P x && b) (all_joined P xs ys) ∙ joined_and (P x) (list_all P xs) (list_all P ys)

and_less : (a a' b : Bool) → (a ≡ true → a' ≡ true) → (a && b) ≡ true → (a' && b) ≡ true
and_less true a' b h e = (λ i. h refl i && b) ∙ e
and_less false a' b h e = absurd cc

and_more : (a b b' : Bool) → (b ≡ true → b' ≡ true) → (a && b) ≡ true → (a && b') ≡ true
and_more true b b' h e = h e
and_more false b b' h e = absurd cc

pub none_due_anew : (terms : Terms) (now : ℕ) (xs : List Open) (o o' : Open) (ys : List Open)
    → (list_all (λ d. nat_lt now d.at) (dues_of terms o) ≡ true → list_all (λ d. nat_lt now d.at) (dues_of terms o') ≡ true)
    → list_all (λ d. nat_lt now d.at) (flat_map (dues_of terms) (xs ++ o ∷ ys)) ≡ true
    → list_all (λ d. nat_lt now d.at) (flat_map (dues_of terms) (xs ++ o' ∷ ys)) ≡ true
none_due_anew terms now [] o o' ys h e =
    all_joined (λ d. nat_lt now d.at) (dues_of terms o') (flat_map (dues_of terms) ys)
    ∙ and_less _ _ _ h (sym (all_joined (λ d. nat_lt now d.at) (dues_of terms o) (flat_map (dues_of terms) ys)) ∙ e)
none_due_anew terms now (x ∷ xs) o o' ys h e =
    all_joined (λ d. nat_lt now d.at) (dues_of terms x) (flat_map (dues_of terms) (xs ++ o' ∷ ys))
    ∙ and_more (list_all (λ d. nat_lt now d.at) (dues_of terms x)) _ _ (none_due_anew terms now xs o o' ys h)
    (sym (all_joined (λ d. nat_lt now d.at) (dues_of terms x) (flat_map (dues_of terms) (xs ++ o ∷ ys))) ∙ e)

pub nothing_due_put : (terms : Terms) (os : List Open) (k : ℕ) (c c' : Convo) (now : ℕ) → Rises 0 os → find_convo k os ≡ Some c
    → dues_of terms (record { id = k; convo = c' }) ≡ dues_of terms (record { id = k; convo = c })
    → list_all (λ d. nat_lt now d.at) (flat_map (dues_of terms) os) ≡ true
    → list_all (λ d. nat_lt now d.at) (flat_map (dues_of terms) (put_convo k c' os)) ≡ true
nothing_due_put terms os k c c' now r f due e =
    ap (λ l. list_all (λ d. nat_lt now d.at) (flat_map (dues_of terms) l)) (ap (put_convo k c') s.is ∙ put_at k c' s.before (record { id = k; convo = c }) s.behind s.none_before refl)
    ∙ none_due_anew terms now s.before (record { id = k; convo = c }) (record { id = k; convo = c' }) s.behind
    (λ h. ap (list_all (λ d. nat_lt now d.at)) due ∙ h) (ap (λ l. list_all (λ d. nat_lt now d.at) (flat_map (dues_of terms) l)) (sym s.is) ∙ e)
  where
    s : StandsAt os (record { id = k; convo = c })
    s = found_at 0 k c os r f
