-- What a worker's step makes of the event in hand.
use Rattle.std.proofs.Common.{◌≡◌, ℕ, zero, suc, List, [], ◌∷◌, ◌++◌, map, take, drop, length, refl, ap, ◌∙◌, sym}
use Rattle.std.specs.Prelude.{Bool, true, false, cond, Option, Some, None, slice_get, unwrap_or}
use Rattle.prio_budget.specs.declared.free.Free.{Free}
use Rattle.chunkpart.specs.ChunkParts.{ChunkParts}
use Rattle.evring.specs.declared.advice.Advice.{Advice}
use Rattle.evring.specs.declared.event.Event.{Event}
use Rattle.evring.specs.declared.event.Event.TheVariants.{New, Chunk, Ended}
use Rattle.evring.specs.declared.way.Way.{Way}
use Rattle.evring.specs.Charges.{charges_in}
use Rattle.streamkey.specs.declared.key.Key.{Key}
use Rattle.streamdefs.specs.Lawful.{Handler}
use Rattle.workrun.specs.declared.release.Release.{Release}
use Rattle.workrun.specs.declared.work.Work.{Work}
use Rattle.workrun.specs.declared.work.Work.TheVariants.{Nothing, Waits}
use Rattle.workrun.specs.declared.work_turn.WorkTurn.{WorkTurn}
use Rattle.workrun.specs.declared.work_turn.WorkTurn.TheVariants as turns
use Rattle.workrun.specs.AtWork.{Hand, advice_of, kept_for, owed_for, stated_of, taken, with_advice}
use Rattle.workrun.specs.Outgoing.{charges_left}
use Rattle.workrun.specs.Steps.{IsReleasing, Worked}

-- Lists

-- what stands first behind a place is what stands there
pub at_drop : {X : Type 0} (xs : List X) (n : ℕ) (x : X) (rest : List X) → drop n xs ≡ x ∷ rest → slice_get xs n ≡ Some x
at_drop [] zero x rest e = cc
at_drop [] (suc n) x rest e = cc
at_drop (y ∷ ys) zero x rest e = let h : y ≡ x = cc in ap Some h
at_drop (y ∷ ys) (suc n) x rest e = at_drop ys n x rest e

-- nothing stands at the end
pub at_end : {X : Type 0} (xs : List X) (n : ℕ) → drop n xs ≡ [] → slice_get xs n ≡ None
at_end [] zero e = refl
at_end [] (suc n) e = refl
at_end (y ∷ ys) zero e = cc
at_end (y ∷ ys) (suc n) e = at_end ys n e

-- one more of the front, where one is taken off the rest
pub one_more : {X : Type 0} (xs : List X) (n : ℕ) (x : X) (rest : List X) → drop n xs ≡ x ∷ rest → (take (suc n) xs ≡ take n xs ++ x ∷ []) × (drop (suc n) xs ≡ rest)
one_more [] zero x rest e = cc
one_more [] (suc n) x rest e = cc
one_more {X} (y ∷ ys) zero x rest e = let h : y ≡ x = cc in let t : ys ≡ rest = cc in (ap (λ (z : X). z ∷ []) h, t)
one_more {X} (y ∷ ys) (suc n) x rest e = let h = one_more ys n x rest e in (ap (λ (zs : List X). y ∷ zs) h.0, h.1)

-- a front that leaves nothing is all
pub all_taken : {X : Type 0} (xs : List X) (n : ℕ) → drop n xs ≡ [] → take n xs ≡ xs
all_taken [] zero e = refl
all_taken [] (suc n) e = refl
all_taken (y ∷ ys) zero e = cc
all_taken {X} (y ∷ ys) (suc n) e = ap (λ (zs : List X). y ∷ zs) (all_taken ys n e)

-- What is owed, and what comes back

pub advice_told : {C : Type 0} (handler : Handler) (h : Hand C) (a : Advice) → h.advice ≡ Some a → advice_of handler h ≡ a
advice_told handler h a e = ap (λ (o : Option Advice). unwrap_or o (stated_of handler h.event)) e

pub owed_gives : {C : Type 0} (a : Advice) (e : Event C) → a.keep ≡ false → owed_for a e ≡ charges_in e
owed_gives {C} a e k = ap (λ (b : Bool). cond b [] (charges_in e)) k

pub owed_none : {C : Type 0} (a : Advice) (e : Event C) → charges_in e ≡ [] → owed_for a e ≡ []
owed_none {C} a e none = by a.keep
  where
    by : (b : Bool) → cond b [] (charges_in e) ≡ []
    by true = refl
    by false = none

pub owed_keeps : {C : Type 0} (a : Advice) (e : Event C) → a.keep ≡ true → owed_for a e ≡ []
owed_keeps {C} a e k = ap (λ (b : Bool). cond b [] (charges_in e)) k

pub kept_gives : {C : Type 0} (a : Advice) (e : Event C) → a.keep ≡ false → [] ≡ kept_for a e
kept_gives a (New conv proto source target) k = refl
kept_gives {C} a (Chunk conv way key kept chunk) k = sym (ap (λ (b : Bool). cond b (kept ++ chunk ∷ []) []) k)
kept_gives a (Ended conv reason) k = refl

pub kept_keeps : {C : Type 0} (a : Advice) (conv : ℕ) (way : Way) (key : Key) (kept : List (ChunkParts C)) (chunk : ChunkParts C) → a.keep ≡ true → kept ++ chunk ∷ [] ≡ kept_for a (Chunk conv way key kept chunk)
kept_keeps {C} a conv way key kept chunk k = sym (ap (λ (b : Bool). cond b (kept ++ chunk ∷ []) []) k)

-- Turns

owed_here : {C : Type 0} (amount : C → ℕ) (handler : Handler) (h : Hand C) (r : Release C) (out : List C) → IsReleasing amount handler h r out → owed_for (advice_of handler h) h.event ≡ charges_in h.event
owed_here {C} amount handler h r out s = ap (λ (a : Advice). owed_for a h.event) (advice_told handler h r.advice s.advice) ∙ owed_gives r.advice h.event s.gives

-- a charge goes out
pub gives_one : {C : Type 0} (amount stamp : C → ℕ) (handler : Handler) (h : Hand C) (r r' : Release C) (c : C) (bytes granted : ℕ)
    → IsReleasing amount handler h r [] → charges_left r.left ≡ c ∷ charges_left r'.left → r'.core ≡ r.core → r'.advice ≡ r.advice → r'.frees.items ≡ r.frees.items
    → amount c ≡ bytes → stamp c ≡ granted → Worked amount stamp handler h (Waits bytes granted r') (turns.Free c)
gives_one {C} amount stamp handler h r r' c bytes granted s el ec ea ef eb es = record {
  is_work = ap (λ (xs : List C). slice_get xs (length h.frees)) (owed_here amount handler h r [] s) ∙ at_drop (charges_in h.event) (length h.frees) c (charges_left r'.left) (sym s.left ∙ el);
  hand = record {
    charge = c;
    bytes_are = eb;
    stamp_is = es;
    releasing = record {
      core = ec ∙ s.core;
      advice = ap Some (advice_told handler h r.advice s.advice ∙ sym ea);
      stated = ea ∙ s.stated;
      gives = ap (λ (a : Advice). a.keep) ea ∙ s.gives;
      frees = ef ∙ s.frees;
      left = sym el ∙ s.left;
      paid = s.paid;
    };
  };
}

-- the answer, once no charge is left
pub gives_none : {C : Type 0} (amount stamp : C → ℕ) (handler : Handler) (h : Hand C) (r : Release C) → IsReleasing amount handler h r [] → charges_left r.left ≡ []
    → Worked amount stamp handler h Nothing (turns.Answer r.core (record { advice = r.advice; frees = r.frees.items; kept = []; drained = false }))
gives_none {C} amount stamp handler h r s el = record {
  is_work = record {
    done = ap (λ (xs : List C). slice_get xs (length h.frees)) (owed_here amount handler h r [] s) ∙ at_end (charges_in h.event) (length h.frees) (sym s.left ∙ el);
    core_is = s.core;
    right = record {
      advice = s.stated;
      kept = kept_gives r.advice h.event s.gives;
      frees = ap (map (λ (free : Free). free.bytes)) s.frees ∙ s.paid ∙ ap (map amount) (all_taken (charges_in h.event) (length h.frees) (sym s.left ∙ el) ∙ sym (owed_gives r.advice h.event s.gives));
    };
    frees = s.frees;
    drained = refl;
  };
  hand = tt;
}

-- the answer at once, where the chunks are kept
pub keeps_chunk : {C : Type 0} (amount stamp : C → ℕ) (handler : Handler) (core conv : ℕ) (way : Way) (key : Key) (kept : List (ChunkParts C)) (chunk : ChunkParts C) (a : Advice)
    → a ≡ stated_of handler (Chunk conv way key kept chunk) → a.keep ≡ true
    → Worked amount stamp handler (taken core (Chunk conv way key kept chunk)) Nothing (turns.Answer core (record { advice = a; frees = []; kept = kept ++ chunk ∷ []; drained = false }))
keeps_chunk {C} amount stamp handler core conv way key kept chunk a ea k = record {
  is_work = record {
    done = ap (λ (xs : List C). slice_get xs 0) (owed_keeps (stated_of handler (Chunk conv way key kept chunk)) (Chunk conv way key kept chunk) (ap (λ (b : Advice). b.keep) (sym ea) ∙ k));
    core_is = refl;
    right = record {
      advice = ea;
      kept = kept_keeps a conv way key kept chunk k;
      frees = sym (ap (map amount) (owed_keeps a (Chunk conv way key kept chunk) k));
    };
    frees = refl;
    drained = refl;
  };
  hand = tt;
}

-- the answer at once, to an event without chunks
pub closes : {C : Type 0} (amount stamp : C → ℕ) (handler : Handler) (core : ℕ) (e : Event C) (a : Advice) → charges_in e ≡ [] → [] ≡ kept_for a e → a ≡ stated_of handler e
    → Worked amount stamp handler (taken core e) Nothing (turns.Answer core (record { advice = a; frees = []; kept = []; drained = false }))
closes {C} amount stamp handler core e a none ek ea = record {
  is_work = record {
    done = ap (λ (xs : List C). slice_get xs 0) (owed_none (stated_of handler e) e none);
    core_is = refl;
    right = record {
      advice = ea;
      kept = ek;
      frees = sym (ap (map amount) (owed_none a e none));
    };
    frees = refl;
    drained = refl;
  };
  hand = tt;
}

-- the charges of an event that was told begin to go out
pub begins : {C : Type 0} (amount : C → ℕ) (handler : Handler) (core : ℕ) (e : Event C) (r : Release C) → r.core ≡ core → r.advice ≡ stated_of handler e → r.advice.keep ≡ false → r.frees.items ≡ [] → charges_left r.left ≡ charges_in e
    → IsReleasing amount handler (with_advice handler (taken core e)) r []
begins amount handler core e r ec ea k ef el = record {
  core = ec;
  advice = ap Some (sym ea);
  stated = ea;
  gives = k;
  frees = ef;
  left = el;
  paid = refl;
}

-- a turn for an event whose advice is there is one for the event before that
pub tells_on : {C : Type 0} (amount stamp : C → ℕ) (handler : Handler) (h : Hand C) (work : Work C) (turn : WorkTurn C) → Worked amount stamp handler (with_advice handler h) work turn → Worked amount stamp handler h work turn
tells_on amount stamp handler h work (turns.Free c) w = record { is_work = w.is_work; hand = w.hand }
tells_on amount stamp handler h work (turns.Answer core a) w = record {
  is_work = record { done = w.is_work.done; core_is = w.is_work.core_is; right = w.is_work.right; frees = w.is_work.frees; drained = w.is_work.drained };
  hand = w.hand;
}
tells_on amount stamp handler h work turns.Ready w = absurd w.is_work
