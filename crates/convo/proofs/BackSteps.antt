-- An answer comes back.
use Rattle.evring.specs.Charges.{charges_of_all}
use Rattle.std.proofs.Common.{◌≡◌, refl, sym, ◌∙◌, ap, subst, ℕ, zero, suc, Bool, true, false, not, cond, List, [], ◌∷◌, ◌++◌, map, drop, length, Option, Some, None, is_none, arith, inl}
use Rattle.std.specs.Prelude.{◌&&◌}
use Rattle.evring.specs.declared.way.Way.{Way}
use Rattle.evring.specs.declared.way.Way.TheVariants.{Fore, Back}
use Rattle.evring.specs.declared.advice.Advice.{Advice}
use Rattle.prio_budget.specs.declared.free.Free.{Free}
use Rattle.cutclass.specs.declared.cut.Cut.{Cut}
use Rattle.cutclass.specs.declared.cut.Cut.TheVariants.{At}
use Rattle.chunkpart.specs.ChunkParts.{ChunkParts}
use Rattle.streamdefs.specs.Both.{Both, of_way, with_way}
use Rattle.streamdefs.specs.Lists.{or_else}
use Rattle.streamdefs.specs.Terms.{Terms}
use Rattle.streamdefs.specs.Reorder.{Charge}
use Rattle.streamdefs.specs.Convo.{Convo as Made, Event as EventMade, Kept as KeptPiece, Delivery, is_live, answered_event, given_back, own_after, keep_after, kept_of, charges_of}
use Rattle.streamdefs.specs.Convo.Event.{New as NewMade, Chunk as ChunkMade, Ended as EndedMade}
use Rattle.streamdefs.specs.Convo.Act.{Answer as AnswerAct}
use Rattle.convo.specs.Seen.{kept_for, IsWant}
use Rattle.convo.specs.Going.{charges_going}
use Rattle.convo.specs.Talk.{Talk, IsWantOf, IsOf, back_with, owed_for, talk_after}
use Rattle.convo.specs.Standing.{IsResting, half_of, own_of, with_half}
use Rattle.convo.specs.Stands.{Stands, IsMoving}
use Rattle.convo.specs.Advised.{own_by, advised_by}
use Rattle.convo.specs.declared.talk.Convo.{Convo}
use Rattle.convo.specs.declared.stage.Stage.TheVariants as at
use Rattle.convo.specs.declared.going.Going.{Going}
use Rattle.convo.specs.declared.answered_event.AnsweredEvent.{AnsweredEvent}
use Rattle.convo.specs.declared.answered_event.AnsweredEvent.TheVariants as answered
use Rattle.convo.specs.declared.want.Want.{Want}
use Rattle.convo.specs.declared.want.Want.TheVariants.{Free as FreeWant, Rest}
use Rattle.convo.proofs.DefSteps.{want_gives, want_rests}
use Rattle.convo.proofs.GoingSteps.{charges_all}
use Rattle.convo.proofs.GivesSteps.{gives_head, gives_end, gives_in}
use Rattle.convo.proofs.SumSteps.{counts_on}

module _ {C : Type 0} (paid : C → Charge) (t : Terms) where
  resting_going : (x : Convo C) (spent going : Going C) (k : Talk) → charges_going going ≡ [] → IsResting paid t (record x { going = spent; stage = at.Resting }) k
      → IsResting paid t (record x { going = going; stage = at.Resting }) k
  resting_going x spent going k e r = record {
    quiet = record { plain = r.quiet.plain; kept = r.quiet.kept; begun = r.quiet.begun; opens = r.quiet.opens; over = r.quiet.over; fore_first = r.quiet.fore_first; back_first = r.quiet.back_first; gone = e; fore_sums = r.quiet.fore_sums; back_sums = r.quiet.back_sums };
    kinds = r.kinds;
    fore = r.fore;
    back = r.back;
    stage = refl;
  }

  -- a charge of an answer goes back
  pub answer_gives : (k : Talk) (x : Convo C) (going spent : Going C) (c : C) (event : ℕ) (advice : Advice) (frees : List Free)
      → x.stage ≡ at.Answered → charges_going spent ≡ [] → IsResting paid t (record x { going = spent; stage = at.Resting }) (talk_after t k (AnswerAct event advice frees))
      → map paid (charges_going x.going) ≡ drop (length frees) (given_back k.convo advice (answered_event k.convo)) → charges_going x.going ≡ c ∷ charges_going going
      → IsWantOf paid (Stands paid (record x { going = going }) t) t k (AnswerAct event advice frees) 0 (FreeWant c)
  answer_gives k x going spent c event advice frees st none r l e =
      let all : List Charge = given_back k.convo advice (answered_event k.convo) in
      let h = gives_head (length frees) all (paid c) (map paid (charges_going going)) (sym l ∙ ap (map paid) e) in (
        subst (λ wanted. IsWant paid k.convo.first wanted (FreeWant c)) (sym (want_gives t k.convo (AnswerAct event advice frees) 0 (paid c) h.0)) refl,
        inl (
          subst (λ n. IsMoving n) (sym h.0) tt,
          refl,
          record { spent = spent; is_spent = none; resting = r; stage = st; few = gives_in all (length frees) (paid c) h.0; going = sym h.1 },
        ),
      )

  -- none is left
  pub answer_rests : (k : Talk) (x : Convo C) (going spent : Going C) (event : ℕ) (advice : Advice) (frees : List Free)
      → charges_going going ≡ [] → IsResting paid t (record x { going = spent; stage = at.Resting }) (talk_after t k (AnswerAct event advice frees))
      → map paid (charges_going x.going) ≡ drop (length frees) (given_back k.convo advice (answered_event k.convo)) → charges_going x.going ≡ []
      → IsWantOf paid (Stands paid (record x { going = going; stage = at.Resting }) t) t k (AnswerAct event advice frees) 0 Rest
  answer_rests k x going spent event advice frees gone r l e = (
    want_rests t k.convo (AnswerAct event advice frees) 0 (gives_end (length frees) (given_back k.convo advice (answered_event k.convo)) (sym l ∙ ap (map paid) e)) refl,
    resting_going x spent going (talk_after t k (AnswerAct event advice frees)) gone r,
  )

  -- of an ended conversation
  pub dead_rests : (k : Talk) (x : Convo C) (event : ℕ) (advice : Advice) (frees : List Free) → is_live k.convo ≡ false → IsResting paid t x k
      → IsResting paid t (record x { stage = at.Resting }) (talk_after t k (AnswerAct event advice frees))
  dead_rests k x event advice frees live r =
      let k2 = talk_after t k (AnswerAct event advice frees) in
      subst (λ c. IsResting paid t (record x { stage = at.Resting }) (record { convo = c; owed = k.owed; sums = k2.sums })) (dead_after (is_live k.convo) live)
      (record {
        quiet = record {
          plain = record { origin_is = r.quiet.plain.origin_is; own_is = r.quiet.plain.own_is; advised_is = r.quiet.plain.advised_is; clock_is = r.quiet.plain.clock_is; ended_is = r.quiet.plain.ended_is; owed_is = r.quiet.plain.owed_is; early = r.quiet.plain.early; settled = r.quiet.plain.settled };
          kept = r.quiet.kept;
          begun = r.quiet.begun;
          opens = r.quiet.opens;
          over = r.quiet.over;
          fore_first = r.quiet.fore_first;
          back_first = r.quiet.back_first;
          gone = r.quiet.gone;
          fore_sums = counts_on r.quiet.fore_sums refl;
          back_sums = counts_on r.quiet.back_sums refl;
        };
        kinds = r.kinds;
        fore = r.fore;
        back = r.back;
        stage = refl;
      })
    where
      dead_after : (b : Bool) → b ≡ false → record k.convo { answered = suc k.convo.answered } ≡ cond b (record k.convo {
        own = own_after k.convo advice (answered_event k.convo);
        advised = or_else advice.priority k.convo.advised;
        kept = keep_after k.convo advice (answered_event k.convo);
        answered = suc k.convo.answered;
      }) (record k.convo { answered = suc k.convo.answered })
      dead_after true e = absurd (cc)
      dead_after false e = refl

  -- of a live one
  pub live_rests : (k : Talk) (x : Convo C) (own : Both Cut) (advised : Option ℕ) (kept : Both (List (ChunkParts C))) (event : ℕ) (advice : Advice) (frees : List Free) → is_live k.convo ≡ true → IsResting paid t x k
      → own_after k.convo advice (answered_event k.convo) ≡ own → or_else advice.priority k.convo.advised ≡ advised
      → keep_after k.convo advice (answered_event k.convo) ≡ record { fore = map (kept_for paid) kept.fore; back = map (kept_for paid) kept.back }
      → IsResting paid t (record x { fore = record x.fore { own = own.fore; kept = kept.fore }; back = record x.back { own = own.back; kept = kept.back }; advised = advised; stage = at.Resting })
      (talk_after t k (AnswerAct event advice frees))
  live_rests k x own advised kept event advice frees live r own_is advised_is kept_is =
      let k2 = talk_after t k (AnswerAct event advice frees) in
      let y : Convo C = record x { fore = record x.fore { own = own.fore; kept = kept.fore }; back = record x.back { own = own.back; kept = kept.back }; advised = advised; stage = at.Resting } in
      subst (λ c. IsResting paid t y (record { convo = c; owed = k.owed; sums = k2.sums })) (live_after (is_live k.convo) live)
      (record {
        quiet = record {
          plain = record { origin_is = r.quiet.plain.origin_is; own_is = own_is; advised_is = advised_is; clock_is = r.quiet.plain.clock_is; ended_is = r.quiet.plain.ended_is; owed_is = r.quiet.plain.owed_is; early = r.quiet.plain.early; settled = r.quiet.plain.settled };
          kept = kept_is;
          begun = r.quiet.begun;
          opens = r.quiet.opens;
          over = r.quiet.over;
          fore_first = r.quiet.fore_first;
          back_first = r.quiet.back_first;
          gone = r.quiet.gone;
          fore_sums = counts_on r.quiet.fore_sums refl;
          back_sums = counts_on r.quiet.back_sums refl;
        };
        kinds = record { fore_is = r.kinds.fore_is; back_is = r.kinds.back_is };
        fore = r.fore;
        back = r.back;
        stage = refl;
      })
    where
      live_after : (b : Bool) → b ≡ true → record k.convo {
        own = own_after k.convo advice (answered_event k.convo);
        advised = or_else advice.priority k.convo.advised;
        kept = keep_after k.convo advice (answered_event k.convo);
        answered = suc k.convo.answered;
      } ≡ cond b (record k.convo {
        own = own_after k.convo advice (answered_event k.convo);
        advised = or_else advice.priority k.convo.advised;
        kept = keep_after k.convo advice (answered_event k.convo);
        answered = suc k.convo.answered;
      }) (record k.convo { answered = suc k.convo.answered })
      live_after true e = refl
      live_after false e = absurd (cc)

-- how advice sets cutoffs
own_eq : (c : Made) (keep discard : Bool) (cutoff priority : Option ℕ) (of : AnsweredEvent) (e : EventMade) → IsOf of e
    → own_after c (record { keep = keep; discard = discard; cutoff = cutoff; priority = priority }) (Some e) ≡ own_by of (record { keep = keep; discard = discard; cutoff = cutoff; priority = priority }) c.own
own_eq c keep true cutoff priority of e h = refl
own_eq c keep false None priority of e h = none of e h
  where
    none : (of : AnsweredEvent) (e : EventMade) → IsOf of e
        → own_after c (record { keep = keep; discard = false; cutoff = None; priority = priority }) (Some e) ≡ own_by of (record { keep = keep; discard = false; cutoff = None; priority = priority }) c.own
    none of NewMade h = refl
    none of (ChunkMade d) h = refl
    none of (EndedMade r) h = refl
own_eq c keep false (Some position) priority answered.New NewMade h = refl
own_eq c keep false (Some position) priority (answered.Chunk way) (ChunkMade d) h = ap (λ way. with_way way (At position) c.own) (sym h)
own_eq c keep false (Some position) priority answered.Ended (EndedMade r) h = refl
own_eq c keep false (Some position) priority answered.New (ChunkMade d) h = absurd h
own_eq c keep false (Some position) priority answered.New (EndedMade r) h = absurd h
own_eq c keep false (Some position) priority (answered.Chunk way) NewMade h = absurd h
own_eq c keep false (Some position) priority (answered.Chunk way) (EndedMade r) h = absurd h
own_eq c keep false (Some position) priority answered.Ended NewMade h = absurd h
own_eq c keep false (Some position) priority answered.Ended (ChunkMade d) h = absurd h

pub own_is_by : (c : Made) (advice : Advice) (of : AnsweredEvent) (e : EventMade) (own : Both Cut) → answered_event c ≡ Some e → IsOf of e → c.own ≡ own → own_after c advice (answered_event c) ≡ own_by of advice own
own_is_by c advice of e own a h o =
    ap (λ e. own_after c advice e) a ∙ own_eq c advice.keep advice.discard advice.cutoff advice.priority of e h ∙ ap (λ own. own_by of advice own) o

-- what isn't kept
abbrev pub IsGiven : Made → Advice → EventMade → Type 0
IsGiven c advice (ChunkMade d) = (is_live c && advice.keep) ≡ false
IsGiven c advice _ = Unit {0}

drop_none : {X : Type 0} (n : ℕ) (xs : List X) → xs ≡ [] → drop n xs ≡ []
drop_none zero xs e = e
drop_none (suc n) [] e = refl
drop_none (suc n) (x ∷ xs) e = absurd (cc)

drop_whole : {X : Type 0} (xs : List X) (n : ℕ) → n ≡ length xs → drop n xs ≡ []
drop_whole [] n e = drop_none n [] refl
drop_whole (x ∷ xs) zero e = absurd (omega arith)
drop_whole (x ∷ xs) (suc n) e = drop_whole xs n (omega arith)

module _ {C : Type 0} (paid : C → Charge) where
  -- the charges of what came back are those that the worker didn't give back
  back_going_by : (c : Made) (advice : Advice) (live keep : Bool) (frees : List Free) (kept : List (ChunkParts C)) (all : List KeptPiece) → (live && keep) ≡ false
      → length frees ≡ length (cond keep [] (charges_of all)) → map (kept_for paid) kept ≡ cond keep all []
      → map paid (charges_of_all kept) ≡ drop (length frees) (cond (live && keep) [] (charges_of all))
  back_going_by c advice true true frees kept all g n k = absurd (cc)
  back_going_by c advice false true frees kept all g n k = charges_all paid kept ∙ ap charges_of k ∙ ap (λ n. drop n (charges_of all)) (sym n)
  back_going_by c advice true false frees kept all g n k = charges_all paid kept ∙ ap charges_of k ∙ sym (drop_whole (charges_of all) (length frees) n)
  back_going_by c advice false false frees kept all g n k = charges_all paid kept ∙ ap charges_of k ∙ sym (drop_whole (charges_of all) (length frees) n)

  pub back_going : (c : Made) (advice : Advice) (frees : List Free) (kept : List (ChunkParts C)) (e : EventMade) → answered_event c ≡ Some e → IsGiven c advice e
      → length frees ≡ length (owed_for advice e) → map (kept_for paid) kept ≡ back_with advice e
      → map paid (charges_of_all kept) ≡ drop (length frees) (given_back c advice (answered_event c))
  back_going c advice frees kept NewMade a g n k = charges_all paid kept ∙ ap charges_of k ∙ sym (ap (λ e. drop (length frees) (given_back c advice e)) a ∙ drop_none (length frees) [] refl)
  back_going c advice frees kept (EndedMade r) a g n k = charges_all paid kept ∙ ap charges_of k ∙ sym (ap (λ e. drop (length frees) (given_back c advice e)) a ∙ drop_none (length frees) [] refl)
  back_going c advice frees kept (ChunkMade d) a g n k =
      back_going_by c advice (is_live c) advice.keep frees kept (kept_of d) g n k ∙ sym (ap (λ e. drop (length frees) (given_back c advice e)) a)

-- nothing is kept
keep_none_by : (c : Made) (keep : Bool) (advice : Advice) (d : Delivery) → advice.keep ≡ keep → keep ≡ false → keep_after c advice (Some (ChunkMade d)) ≡ c.kept
keep_none_by c true advice d e f = absurd (cc)
keep_none_by c false advice d e f = rw e refl

pub keep_none : (c : Made) (advice : Advice) (e : EventMade) → answered_event c ≡ Some e → IsGiven c advice e → is_live c ≡ true → keep_after c advice (answered_event c) ≡ c.kept
keep_none c advice NewMade a g live = ap (λ e. keep_after c advice e) a
keep_none c advice (EndedMade r) a g live = ap (λ e. keep_after c advice e) a
keep_none c advice (ChunkMade d) a g live = ap (λ e. keep_after c advice e) a ∙ keep_none_by c advice.keep advice d refl (sym (ap (λ b. b && advice.keep) live) ∙ g)

map_behind : {C : Type 0} (paid : C → Charge) (xs ys : List (ChunkParts C)) → map (kept_for paid) (xs ++ ys) ≡ map (kept_for paid) xs ++ map (kept_for paid) ys
map_behind paid [] ys = refl
map_behind paid (x ∷ xs) ys = ap (λ l. kept_for paid x ∷ l) (map_behind paid xs ys)

module _ {C : Type 0} (paid : C → Charge) (t : Terms) where
  -- advice is taken, and nothing kept
  pub advised_rests : (k : Talk) (x : Convo C) (of : AnsweredEvent) (advice : Advice) (e : EventMade) (event : ℕ) (frees : List Free) → is_live k.convo ≡ true → IsResting paid t x k
      → answered_event k.convo ≡ Some e → IsOf of e → IsGiven k.convo advice e
      → IsResting paid t (record (advised_by of advice x) { stage = at.Resting }) (talk_after t k (AnswerAct event advice frees))
  advised_rests k x of advice e event frees live r a o g =
      live_rests paid t k x (own_by of advice (own_of x)) (or_else advice.priority x.advised) (record { fore = x.fore.kept; back = x.back.kept }) event advice frees live r
      (own_is_by k.convo advice of e (own_of x) a o r.quiet.plain.own_is) (ap (λ p. or_else advice.priority p) r.quiet.plain.advised_is) (keep_none k.convo advice e a g live ∙ r.quiet.kept)

  -- chunks are kept
  pub holds : (k : Talk) (x : Convo C) (way : Way) (advice : Advice) (kept : List (ChunkParts C)) (e : EventMade) (event : ℕ) (frees : List Free) → is_live k.convo ≡ true → advice.keep ≡ true → IsResting paid t x k
      → answered_event k.convo ≡ Some e → IsOf (answered.Chunk way) e → map (kept_for paid) kept ≡ back_with advice e
      → IsWantOf paid (Stands paid (record (with_half way (record (half_of way (advised_by (answered.Chunk way) advice x)) { kept = (half_of way (advised_by (answered.Chunk way) advice x)).kept ++ kept }) (advised_by (answered.Chunk way) advice x)) { stage = at.Resting }) t)
      t k (AnswerAct event advice frees) 0 Rest
  holds k x way advice kept NewMade event frees live keep r a o b = absurd o
  holds k x way advice kept (EndedMade reason) event frees live keep r a o b = absurd o
  holds k x Fore advice kept (ChunkMade d) event frees live keep r a o b =
      let c = k.convo in
      let nothing : given_back c advice (answered_event c) ≡ [] = ap (λ e. given_back c advice e) a ∙ ap (λ b. cond (b && advice.keep) [] (charges_of (kept_of d))) live ∙ ap (λ b. cond b [] (charges_of (kept_of d))) keep in
      let came : map (kept_for paid) kept ≡ kept_of d = b ∙ ap (λ b. cond b (kept_of d) []) keep in (
        want_rests t c (AnswerAct event advice frees) 0 (gives_end (length frees) (given_back c advice (answered_event c)) (drop_none (length frees) (given_back c advice (answered_event c)) nothing)) refl,
        live_rests paid t k x (own_by (answered.Chunk Fore) advice (own_of x)) (or_else advice.priority x.advised) (record { fore = x.fore.kept ++ kept; back = x.back.kept }) event advice frees live r
            (own_is_by c advice (answered.Chunk Fore) (ChunkMade d) (own_of x) a o r.quiet.plain.own_is) (ap (λ p. or_else advice.priority p) r.quiet.plain.advised_is)
            (ap (λ e. keep_after c advice e) a ∙ ap (λ b. cond b (with_way d.way (of_way d.way c.kept ++ kept_of d) c.kept) c.kept) keep ∙ ap (λ w. with_way w (of_way w c.kept ++ kept_of d) c.kept) (sym o)
            ∙ ap (λ kept. record { fore = kept.fore ++ kept_of d; back = kept.back }) r.quiet.kept
            ∙ ap (λ more. record { fore = map (kept_for paid) x.fore.kept ++ more; back = map (kept_for paid) x.back.kept }) (sym came)
            ∙ ap (λ ks. record { fore = ks; back = map (kept_for paid) x.back.kept }) (sym (map_behind paid x.fore.kept kept))),
      )
  holds k x Back advice kept (ChunkMade d) event frees live keep r a o b =
      let c = k.convo in
      let nothing : given_back c advice (answered_event c) ≡ [] = ap (λ e. given_back c advice e) a ∙ ap (λ b. cond (b && advice.keep) [] (charges_of (kept_of d))) live ∙ ap (λ b. cond b [] (charges_of (kept_of d))) keep in
      let came : map (kept_for paid) kept ≡ kept_of d = b ∙ ap (λ b. cond b (kept_of d) []) keep in (
        want_rests t c (AnswerAct event advice frees) 0 (gives_end (length frees) (given_back c advice (answered_event c)) (drop_none (length frees) (given_back c advice (answered_event c)) nothing)) refl,
        live_rests paid t k x (own_by (answered.Chunk Back) advice (own_of x)) (or_else advice.priority x.advised) (record { fore = x.fore.kept; back = x.back.kept ++ kept }) event advice frees live r
            (own_is_by c advice (answered.Chunk Back) (ChunkMade d) (own_of x) a o r.quiet.plain.own_is) (ap (λ p. or_else advice.priority p) r.quiet.plain.advised_is)
            (ap (λ e. keep_after c advice e) a ∙ ap (λ b. cond b (with_way d.way (of_way d.way c.kept ++ kept_of d) c.kept) c.kept) keep ∙ ap (λ w. with_way w (of_way w c.kept ++ kept_of d) c.kept) (sym o)
            ∙ ap (λ kept. record { fore = kept.fore; back = kept.back ++ kept_of d }) r.quiet.kept
            ∙ ap (λ more. record { fore = map (kept_for paid) x.fore.kept; back = map (kept_for paid) x.back.kept ++ more }) (sym came)
            ∙ ap (λ ks. record { fore = map (kept_for paid) x.fore.kept; back = ks }) (sym (map_behind paid x.back.kept kept))),
      )

  -- a live conversation
  pub live_is : (k : Talk) (x : Convo C) → IsResting paid t x k → is_live k.convo ≡ is_none x.ended
  live_is k x r = ap is_none r.quiet.plain.ended_is

pub given_dead : (c : Made) (advice : Advice) (e : EventMade) → is_live c ≡ false → IsGiven c advice e
given_dead c advice NewMade d = tt
given_dead c advice (EndedMade r) d = tt
given_dead c advice (ChunkMade e) d = ap (λ b. b && advice.keep) d

and_none : (b : Bool) → (b && false) ≡ false
and_none true = refl
and_none false = refl

pub given_unkept : (c : Made) (advice : Advice) (e : EventMade) → advice.keep ≡ false → IsGiven c advice e
given_unkept c advice NewMade d = tt
given_unkept c advice (EndedMade r) d = tt
given_unkept c advice (ChunkMade e) d = ap (λ b. is_live c && b) d ∙ and_none (is_live c)

pub given_new : (c : Made) (advice : Advice) (e : EventMade) → IsOf answered.New e → IsGiven c advice e
given_new c advice NewMade d = tt
given_new c advice (EndedMade r) d = tt
given_new c advice (ChunkMade e) d = absurd d

pub given_ended : (c : Made) (advice : Advice) (e : EventMade) → IsOf answered.Ended e → IsGiven c advice e
given_ended c advice NewMade d = tt
given_ended c advice (EndedMade r) d = tt
given_ended c advice (ChunkMade e) d = absurd d

pub off_of : (b : Bool) → not b ≡ true → b ≡ false
off_of true e = absurd (cc)
off_of false e = refl

pub on_of : (b : Bool) → not b ≡ false → b ≡ true
on_of true e = refl
on_of false e = absurd (cc)

module _ {C : Type 0} (paid : C → Charge) (t : Terms) where
  pub holds_at : (k : Talk) (x x1 x2 : Convo C) (of : AnsweredEvent) (way : Way) (advice : Advice) (kept : List (ChunkParts C)) (e : EventMade) (event : ℕ) (frees : List Free) (out : Want C)
      → is_live k.convo ≡ true → advice.keep ≡ true → IsResting paid t x k → answered_event k.convo ≡ Some e → IsOf of e → map (kept_for paid) kept ≡ back_with advice e
      → of ≡ answered.Chunk way → x1 ≡ advised_by of advice x → out ≡ Rest
      → x2 ≡ record (with_half way (record (half_of way x1) { kept = (half_of way x1).kept ++ kept }) x1) { stage = at.Resting }
      → IsWantOf paid (Stands paid x2 t) t k (AnswerAct event advice frees) 0 out
  holds_at k x x1 x2 of way advice kept e event frees out live keep r a o b of_is e1 out_is e2 =
      subst (λ x. IsWantOf paid (Stands paid x t) t k (AnswerAct event advice frees) 0 out) (sym e2)
      (subst (λ out. IsWantOf paid (Stands paid (record (with_half way (record (half_of way x1) { kept = (half_of way x1).kept ++ kept }) x1) { stage = at.Resting }) t) t k (AnswerAct event advice frees) 0 out) (sym out_is)
      (subst (λ x1. IsWantOf paid (Stands paid (record (with_half way (record (half_of way x1) { kept = (half_of way x1).kept ++ kept }) x1) { stage = at.Resting }) t) t k (AnswerAct event advice frees) 0 Rest)
      (sym (e1 ∙ ap (λ of. advised_by of advice x) of_is))
      (holds paid t k x way advice kept e event frees live keep r a (subst (λ of. IsOf of e) of_is o) b)))
