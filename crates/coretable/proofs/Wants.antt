-- An entry under way with one look or free more, and once it wants nothing.
use Rattle.std.specs.Prelude.{◌≡◌, refl, ◌⊎◌, ℕ, suc, ◌≤◌, List, [], ◌∷◌, ◌++◌, length, map, Option, None, Some, slice_get}
use Rattle.std.proofs.Common.{inl, inr, sym, ◌∙◌, ap, arith, subst}
use Rattle.std.proofs.lemmas.List.{length-append, length-map, map-append}
use Rattle.evring.specs.declared.advice.Advice.{Advice}
use Rattle.histbook.specs.declared.look_entry.LookEntry.{LookEntry}
use Rattle.prio_budget.specs.declared.free.Free.{Free}
use Rattle.streamdefs.specs.Lists.{IsPrefixOf}
use Rattle.streamdefs.specs.Packet.{Packet}
use Rattle.streamdefs.specs.Terms.{Terms}
use Rattle.streamdefs.specs.Reorder.{Charge}
use Rattle.streamdefs.specs.View.{Ask}
use Rattle.streamdefs.specs.Direction.{Next}
use Rattle.streamdefs.specs.Direction.Next.{Asks, Gives, Rests}
use Rattle.streamdefs.specs.Convo.{Act, Convo, Event, asks, released, looks_in, frees_in, mark_for, events_in}
use Rattle.streamdefs.specs.Convo.Act.{Seg, Answer, Time, End}
use Rattle.streamdefs.specs.Want.{Want, want, next_move, with_look, with_free}
use Rattle.streamdefs.specs.Want.Want.{Reserve, Release, Emit, Rest}
use Rattle.streamdefs.specs.Lawful.{IsLookFor}
use Rattle.streamdefs.specs.SoFar.{AreFirstLooksFor}
use Rattle.coretable.specs.Wanted.{AreBehindAsks, IsWantedSoFar, IsWanted}
use Rattle.coretable.proofs.WantLemmas.{HasFront, IsNext, IsSome, gives, got_within, got_mapped, front_more, front_all, looks_more, looks_all, seg_asked, seg_asks, seg_next, seg_look, time_asked, time_asks, time_next, time_look, end_asks, end_next}

-- What is wanted, by what is asked or given back next.
abbrev pub event_of : Option Event → Want
event_of (Some e) = Emit e
event_of None = Rest

abbrev pub move_of : Terms → Convo → Act → ℕ → Next → Want
move_of terms c act emitted (Asks ask) = Reserve ask (mark_for terms c ask)
move_of terms c act emitted (Gives charge) = Release charge
move_of terms c act emitted Rests = event_of (slice_get (events_in terms c act) emitted)

none_asked : (o : Option Event) (ask : Ask) (m : ℕ) → event_of o ≡ Reserve ask m → ⊥
none_asked (Some e) ask m h = cc
none_asked None ask m h = cc

none_given : (o : Option Event) (charge : Charge) → event_of o ≡ Release charge → ⊥
none_given (Some e) charge h = cc
none_given None charge h = cc

asks_next : (terms : Terms) (c : Convo) (act : Act) (n : ℕ) (x : Next) (ask : Ask) (m : ℕ) → move_of terms c act n x ≡ Reserve ask m → x ≡ Asks ask
asks_next terms c act n (Asks a) ask m h = let same : a ≡ ask = cc in ap Asks same
asks_next terms c act n (Gives charge) ask m h = absurd cc
asks_next terms c act n Rests ask m h = absurd (none_asked (slice_get (events_in terms c act) n) ask m h)

gives_next : (terms : Terms) (c : Convo) (act : Act) (n : ℕ) (x : Next) (charge : Charge) → move_of terms c act n x ≡ Release charge → x ≡ Gives charge
gives_next terms c act n (Asks a) charge h = absurd cc
gives_next terms c act n (Gives ch) charge h = let same : ch ≡ charge = cc in ap Gives same
gives_next terms c act n Rests charge h = absurd (none_given (slice_get (events_in terms c act) n) charge h)

rests_next : (terms : Terms) (c : Convo) (act : Act) (n : ℕ) (x : Next) → move_of terms c act n x ≡ Rest → x ≡ Rests
rests_next terms c act n (Asks a) h = absurd cc
rests_next terms c act n (Gives ch) h = absurd cc
rests_next terms c act n Rests h = refl

pub asked_next : (terms : Terms) (c : Convo) (act : Act) (n : ℕ) (ask : Ask) (m : ℕ) → want terms c act n ≡ Reserve ask m → next_move terms c act ≡ Asks ask
asked_next terms c act n ask m h = asks_next terms c act n (next_move terms c act) ask m h

pub given_next : (terms : Terms) (c : Convo) (act : Act) (n : ℕ) (charge : Charge) → want terms c act n ≡ Release charge → next_move terms c act ≡ Gives charge
given_next terms c act n charge h = gives_next terms c act n (next_move terms c act) charge h

pub rested_next : (terms : Terms) (c : Convo) (act : Act) (n : ℕ) → want terms c act n ≡ Rest → next_move terms c act ≡ Rests
rested_next terms c act n h = rests_next terms c act n (next_move terms c act) h

answer_next : (terms : Terms) (c : Convo) (event : ℕ) (advice : Advice) (frees : List Free)
    → IsNext [] 0 (released terms c (Answer event advice frees)) (length frees) (next_move terms c (Answer event advice frees))
answer_next terms c event advice frees = gives [] 0 (released terms c (Answer event advice frees)) (length frees) (omega arith)

abbrev no_asks : List Ask
no_asks = []

-- The next look.
seg_with_look : (terms : Terms) (c : Convo) (p : Packet) (now : ℕ) (looks : List LookEntry) (frees : List Free) (ask : Ask) (look : LookEntry)
    → next_move terms c (Seg p now looks frees) ≡ Asks ask → IsLookFor terms c look ask → IsWantedSoFar terms c (Seg p now looks frees) → IsWantedSoFar terms c (Seg p now (looks ++ look ∷ []) frees)
seg_with_look terms c p now looks frees ask look h fit w = by w.order
  where
    next : slice_get (seg_asked terms c p now looks) (length looks) ≡ Some ask
    next = subst (IsNext (seg_asked terms c p now looks) (length looks) (released terms c (Seg p now looks frees)) (length frees)) h (seg_next terms c p now looks frees)

    front : HasFront (seg_asked terms c p now looks) (seg_asked terms c p now (looks ++ look ∷ []))
    front = seg_look terms c p now looks look (got_within (seg_asked terms c p now looks) (length looks) ask next)

    first : AreFirstLooksFor terms c (looks ++ look ∷ []) (asks terms c (Seg p now (looks ++ look ∷ []) frees))
    first = subst (AreFirstLooksFor terms c (looks ++ look ∷ [])) (sym (seg_asks terms c p now (looks ++ look ∷ []) frees ∙ front.is))
        (looks_more terms c looks (seg_asked terms c p now looks) front.rest look ask (subst (AreFirstLooksFor terms c looks) (seg_asks terms c p now looks frees) w.looks) next fit)

    by : (frees ≡ []) ⊎ (length (asks terms c (Seg p now looks frees)) ≤ length looks) → IsWantedSoFar terms c (Seg p now (looks ++ look ∷ []) frees)
    by (inl e) = record {
      looks = first;
      frees = subst (λ fs. IsPrefixOf (map (λ free. free.bytes) fs) (map (λ charge. charge.bytes) (released terms c (Seg p now (looks ++ look ∷ []) frees)))) (sym e) refl;
      order = inl e;
    }
    by (inr h') = absurd (omega (arith, h', got_within (seg_asked terms c p now looks) (length looks) ask next, ap length (seg_asks terms c p now looks frees)))

time_with_look : (terms : Terms) (c : Convo) (at : ℕ) (looks : List LookEntry) (frees : List Free) (ask : Ask) (look : LookEntry)
    → next_move terms c (Time at looks frees) ≡ Asks ask → IsLookFor terms c look ask → IsWantedSoFar terms c (Time at looks frees) → IsWantedSoFar terms c (Time at (looks ++ look ∷ []) frees)
time_with_look terms c at looks frees ask look h fit w = by (time_look terms c at (length looks))
  where
    next : slice_get (time_asked terms c at (length looks)) (length looks) ≡ Some ask
    next = subst (IsSome (time_asked terms c at (length looks)) (length looks) (released terms c (Time at looks frees)) (length frees)) h (time_next terms c at looks frees)

    longer : length (looks ++ look ∷ []) ≡ suc (length looks)
    longer = omega (arith, length-append looks (look ∷ []))

    by : HasFront (time_asked terms c at (length looks)) (time_asked terms c at (suc (length looks))) ⊎ (length (time_asked terms c at (length looks)) ≤ length looks)
        → IsWantedSoFar terms c (Time at (looks ++ look ∷ []) frees)
    by (inl front) = record {
      looks = subst (AreFirstLooksFor terms c (looks ++ look ∷ [])) (sym (time_asks terms c at (looks ++ look ∷ []) frees ∙ ap (time_asked terms c at) longer ∙ front.is))
          (looks_more terms c looks (time_asked terms c at (length looks)) front.rest look ask (subst (AreFirstLooksFor terms c looks) (time_asks terms c at looks frees) w.looks) next fit);
      frees = w.frees;
      order = tt;
    }
    by (inr h') = absurd (omega (arith, h', got_within (time_asked terms c at (length looks)) (length looks) ask next))

pub wanted_look : (terms : Terms) (c : Convo) (act : Act) (n : ℕ) (ask : Ask) (m : ℕ) (look : LookEntry) → want terms c act n ≡ Reserve ask m → IsLookFor terms c look ask
    → IsWantedSoFar terms c act → IsWantedSoFar terms c (with_look look act)
wanted_look terms c (Seg p now looks frees) n ask m look h fit w = seg_with_look terms c p now looks frees ask look (asked_next terms c (Seg p now looks frees) n ask m h) fit w
wanted_look terms c (Answer event advice frees) n ask m look h fit w = w
wanted_look terms c (Time at looks frees) n ask m look h fit w = time_with_look terms c at looks frees ask look (asked_next terms c (Time at looks frees) n ask m h) fit w
wanted_look terms c (End at reason looks frees) n ask m look h fit w =
    absurd (none (subst (IsSome [] 0 (released terms c (End at reason looks frees)) (length frees)) (asked_next terms c (End at reason looks frees) n ask m h) (end_next terms c at reason looks frees)))
  where
    none : slice_get [] 0 ≡ Some ask → ⊥
    none e = cc

-- The next free.
front_free : (frees : List Free) (free : Free) (charges : List Charge) (charge : Charge) → slice_get charges (length frees) ≡ Some charge → free.bytes ≡ charge.bytes
    → IsPrefixOf (map (λ f. f.bytes) frees) (map (λ c. c.bytes) charges) → IsPrefixOf (map (λ f. f.bytes) (frees ++ free ∷ [])) (map (λ c. c.bytes) charges)
front_free frees free charges charge got e h =
    subst (λ l. IsPrefixOf l (map (λ c. c.bytes) charges)) (sym (map-append (λ (f : Free). f.bytes) frees (free ∷ [])))
    (front_more (map (λ f. f.bytes) frees) (map (λ c. c.bytes) charges) free.bytes h
    (let many : length (map (λ (f : Free). f.bytes) frees) ≡ length frees = length-map frees (λ (f : Free). f.bytes) in
    ap (slice_get (map (λ (c : Charge). c.bytes) charges)) many ∙ got_mapped (λ (c : Charge). c.bytes) charges (length frees) charge got ∙ ap Some (sym e)))

pub wanted_free : (terms : Terms) (c : Convo) (act : Act) (n : ℕ) (charge : Charge) (free : Free) → want terms c act n ≡ Release charge → free.bytes ≡ charge.bytes
    → IsWantedSoFar terms c act → IsWantedSoFar terms c (with_free free act)
wanted_free terms c (Seg p now looks frees) n charge free h e w =
    let next : (length (seg_asked terms c p now looks) ≤ length looks) × (slice_get (released terms c (Seg p now looks frees)) (length frees) ≡ Some charge) =
    subst (IsNext (seg_asked terms c p now looks) (length looks) (released terms c (Seg p now looks frees)) (length frees)) (given_next terms c (Seg p now looks frees) n charge h) (seg_next terms c p now looks frees) in
    record {
      looks = w.looks;
      frees = front_free frees free (released terms c (Seg p now looks frees)) charge next.1 e w.frees;
      order = inr (omega (arith, next.0, ap length (seg_asks terms c p now looks (frees ++ free ∷ []))));
    }
wanted_free terms c (Answer event advice frees) n charge free h e w =
    let next : (length no_asks ≤ 0) × (slice_get (released terms c (Answer event advice frees)) (length frees) ≡ Some charge) =
    subst (IsNext [] 0 (released terms c (Answer event advice frees)) (length frees)) (given_next terms c (Answer event advice frees) n charge h) (answer_next terms c event advice frees) in
    record { looks = w.looks; frees = front_free frees free (released terms c (Answer event advice frees)) charge next.1 e w.frees; order = tt }
wanted_free terms c (Time at looks frees) n charge free h e w =
    let next : slice_get (released terms c (Time at looks frees)) (length frees) ≡ Some charge =
    subst (IsSome (time_asked terms c at (length looks)) (length looks) (released terms c (Time at looks frees)) (length frees)) (given_next terms c (Time at looks frees) n charge h) (time_next terms c at looks frees) in
    record { looks = w.looks; frees = front_free frees free (released terms c (Time at looks frees)) charge next e w.frees; order = tt }
wanted_free terms c (End at reason looks frees) n charge free h e w =
    let next : slice_get (released terms c (End at reason looks frees)) (length frees) ≡ Some charge =
    subst (IsSome [] 0 (released terms c (End at reason looks frees)) (length frees)) (given_next terms c (End at reason looks frees) n charge h) (end_next terms c at reason looks frees) in
    record { looks = w.looks; frees = front_free frees free (released terms c (End at reason looks frees)) charge next e w.frees; order = tt }

-- The charge that goes back next is the one at its place.
pub released_next : (terms : Terms) (c : Convo) (act : Act) (n : ℕ) (charge : Charge) → want terms c act n ≡ Release charge → slice_get (released terms c act) (length (frees_in act)) ≡ Some charge
released_next terms c (Seg p now looks frees) n charge h =
    let next : (length (seg_asked terms c p now looks) ≤ length looks) × (slice_get (released terms c (Seg p now looks frees)) (length frees) ≡ Some charge) =
    subst (IsNext (seg_asked terms c p now looks) (length looks) (released terms c (Seg p now looks frees)) (length frees)) (given_next terms c (Seg p now looks frees) n charge h) (seg_next terms c p now looks frees) in
    next.1
released_next terms c (Answer event advice frees) n charge h =
    let next : (length no_asks ≤ 0) × (slice_get (released terms c (Answer event advice frees)) (length frees) ≡ Some charge) =
    subst (IsNext [] 0 (released terms c (Answer event advice frees)) (length frees)) (given_next terms c (Answer event advice frees) n charge h) (answer_next terms c event advice frees) in
    next.1
released_next terms c (Time at looks frees) n charge h =
    subst (IsSome (time_asked terms c at (length looks)) (length looks) (released terms c (Time at looks frees)) (length frees)) (given_next terms c (Time at looks frees) n charge h) (time_next terms c at looks frees)
released_next terms c (End at reason looks frees) n charge h =
    subst (IsSome [] 0 (released terms c (End at reason looks frees)) (length frees)) (given_next terms c (End at reason looks frees) n charge h) (end_next terms c at reason looks frees)

-- A packet's entry that asks has given nothing back.
pub asks_before_releases : (terms : Terms) (c : Convo) (p : Packet) (now : ℕ) (looks : List LookEntry) (frees : List Free) (n : ℕ) (ask : Ask) (mark : ℕ)
    → want terms c (Seg p now looks frees) n ≡ Reserve ask mark → IsWantedSoFar terms c (Seg p now looks frees) → frees ≡ []
asks_before_releases terms c p now looks frees n ask mark h w = by w.order
  where
    next : slice_get (seg_asked terms c p now looks) (length looks) ≡ Some ask
    next = subst (IsNext (seg_asked terms c p now looks) (length looks) (released terms c (Seg p now looks frees)) (length frees)) (asked_next terms c (Seg p now looks frees) n ask mark h) (seg_next terms c p now looks frees)

    by : (frees ≡ []) ⊎ (length (asks terms c (Seg p now looks frees)) ≤ length looks) → frees ≡ []
    by (inl e) = e
    by (inr few) = absurd (omega (arith, few, got_within (seg_asked terms c p now looks) (length looks) ask next, ap length (seg_asks terms c p now looks frees)))

-- Nothing more.
frees_all : (frees : List Free) (charges : List Charge) → length charges ≤ length frees → IsPrefixOf (map (λ f. f.bytes) frees) (map (λ c. c.bytes) charges)
    → map (λ f. f.bytes) frees ≡ map (λ c. c.bytes) charges
frees_all frees charges few h =
    front_all (map (λ f. f.bytes) frees) (map (λ c. c.bytes) charges) h (omega (arith, few, length-map frees (λ (f : Free). f.bytes), length-map charges (λ (c : Charge). c.bytes)))

pub wanted_all : (terms : Terms) (c : Convo) (act : Act) (n : ℕ) → want terms c act n ≡ Rest → IsWantedSoFar terms c act → IsWanted terms c act
wanted_all terms c (Seg p now looks frees) n h w =
    let next : (length (seg_asked terms c p now looks) ≤ length looks) × (length (released terms c (Seg p now looks frees)) ≤ length frees) =
    subst (IsNext (seg_asked terms c p now looks) (length looks) (released terms c (Seg p now looks frees)) (length frees)) (rested_next terms c (Seg p now looks frees) n h) (seg_next terms c p now looks frees) in
    record {
      looks = looks_all terms c looks (asks terms c (Seg p now looks frees)) w.looks (omega (arith, next.0, ap length (seg_asks terms c p now looks frees)));
      frees = frees_all frees (released terms c (Seg p now looks frees)) next.1 w.frees;
    }
wanted_all terms c (Answer event advice frees) n h w =
    let next : (length no_asks ≤ 0) × (length (released terms c (Answer event advice frees)) ≤ length frees) =
    subst (IsNext [] 0 (released terms c (Answer event advice frees)) (length frees)) (rested_next terms c (Answer event advice frees) n h) (answer_next terms c event advice frees) in
    record { looks = looks_all terms c [] (asks terms c (Answer event advice frees)) w.looks (omega arith); frees = frees_all frees (released terms c (Answer event advice frees)) next.1 w.frees }
wanted_all terms c (Time at looks frees) n h w =
    let next : (length (time_asked terms c at (length looks)) ≤ length looks) × (length (released terms c (Time at looks frees)) ≤ length frees) =
    subst (IsSome (time_asked terms c at (length looks)) (length looks) (released terms c (Time at looks frees)) (length frees)) (rested_next terms c (Time at looks frees) n h) (time_next terms c at looks frees) in
    record {
      looks = looks_all terms c looks (asks terms c (Time at looks frees)) w.looks (omega (arith, next.0, ap length (time_asks terms c at looks frees)));
      frees = frees_all frees (released terms c (Time at looks frees)) next.1 w.frees;
    }
wanted_all terms c (End at reason looks frees) n h w =
    let next : (length no_asks ≤ 0) × (length (released terms c (End at reason looks frees)) ≤ length frees) =
    subst (IsSome [] 0 (released terms c (End at reason looks frees)) (length frees)) (rested_next terms c (End at reason looks frees) n h) (end_next terms c at reason looks frees) in
    record {
      looks = looks_all terms c looks (asks terms c (End at reason looks frees)) w.looks (omega (arith, ap length (end_asks terms c at reason looks frees)));
      frees = frees_all frees (released terms c (End at reason looks frees)) next.1 w.frees;
    }

-- Before any look and free.
pub wanted_none : (terms : Terms) (c : Convo) (act : Act) → looks_in act ≡ [] → frees_in act ≡ [] → IsWantedSoFar terms c act
wanted_none terms c act l f = record {
  looks = subst (λ ls. AreFirstLooksFor terms c ls (asks terms c act)) (sym l) tt;
  frees = subst (λ fs. IsPrefixOf (map (λ free. free.bytes) fs) (map (λ charge. charge.bytes) (released terms c act))) (sym f) refl;
  order = in_order act f;
}
  where
    in_order : (act : Act) → frees_in act ≡ [] → AreBehindAsks terms c act
    in_order (Seg p now looks frees) f = inl f
    in_order (Answer event advice frees) f = tt
    in_order (Time at looks frees) f = tt
    in_order (End at reason looks frees) f = tt
