-- What a step comes to, from what it changes one after the other.
use Rattle.std.specs.Prelude.{◌≡◌, ◌⊎◌, ⊤, refl, ℕ, zero, suc, ◌+◌, List, [], ◌∷◌, ◌++◌, length, Option, Some, None, Result, Ok, Err, slice_get, slice_set, IfOk, IfErr, OnOk, OnErr}
use Rattle.std.proofs.Common.{◌∙◌, ap, sym, subst, arith, inl, inr}
use Rattle.streamkey.specs.declared.proto.Proto.{Proto}
use Rattle.streamkey.specs.declared.end.End.{End}
use Rattle.evring.specs.declared.reason.Reason.{Reason}
use Rattle.evring.specs.declared.event.Event.{Event}
use Rattle.evring.specs.declared.event.Event.TheVariants as V
use Rattle.streamdefs.specs.Reorder.{Charge}
use Rattle.convo.specs.declared.talk.Convo.{Convo}
use Rattle.coretable.specs.Fits.{Fits, IsLeft, events_by, is_closing, unanswered_of}
use Rattle.coretable.specs.Steps.{IsMoved, IsStep, nothing, size_if_err}
use Rattle.convo.specs.Standing.{weight_of_convo}
use Rattle.convo.specs.Weights.{weight_of_event, weight_of_want}
use Rattle.convo.specs.declared.want.Want.{Want}
use Rattle.coretable.specs.declared.active.Active.{Active}
use Rattle.coretable.specs.Weighed.{size_of, size_of_slots, weight_of_active, weight_of_desk, weight_of_hand, weight_of_step}
use Rattle.coretable.specs.declared.desk.Desk.{Desk}
use Rattle.coretable.specs.declared.hand.Hand.{Hand}
use Rattle.coretable.specs.declared.owed.Owed.{Owed}
use Rattle.coretable.specs.declared.slot.Slot.{Slot}
use Rattle.coretable.specs.declared.stage.Stage.{Stage}
use Rattle.coretable.specs.declared.turn.Turn.{Turn}

-- A slot changes in its place.
same_some : {A : Type 0} {a b : A} → Some a ≡ Some b → a ≡ b
same_some {A} {a} {b} e = ap (of_some a) e
  where
    of_some : A → Option A → A
    of_some d None = d
    of_some d (Some x) = x

here : (one other rest : ℕ) → (other + rest) + one ≡ (one + rest) + other
here one other rest = omega arith

there : (head old new a b : ℕ) → new + a ≡ old + b → (head + new) + a ≡ (head + old) + b
there head old new a b e = omega (arith, e)

pub size_set : {T : Type 0} (size : T → ℕ) (slots : List (Slot T)) (place : ℕ) (s s' : Slot T) → slice_get slots place ≡ Some s
    → size_of_slots size (slice_set slots place s') + size_of size s.talk ≡ size_of_slots size slots + size_of size s'.talk
size_set size [] zero s s' e = absurd cc
size_set size [] (suc n) s s' e = absurd cc
size_set size (x ∷ xs) zero s s' e =
    subst (λ y. (size_of size s'.talk + size_of_slots size xs) + size_of size y.talk ≡ (size_of size x.talk + size_of_slots size xs) + size_of size s'.talk) (same_some e)
    (here (size_of size x.talk) (size_of size s'.talk) (size_of_slots size xs))
size_set size (x ∷ xs) (suc n) s s' e =
    there (size_of size x.talk) (size_of_slots size xs) (size_of_slots size (slice_set xs n s')) (size_of size s.talk) (size_of size s'.talk) (size_set size xs n s s' e)

-- One change behind another.
chain : (old mid new put taken out : ℕ) → mid + taken ≡ old + put → new + out ≡ mid + taken → new + out ≡ old + put
chain old mid new put taken out e f = omega (arith, e, f)

pub moved_on : {C : Type 0} (old mid new : Desk (Convo C)) (put between taken : (C → ℕ) → ℕ) → IsMoved old mid put between → IsMoved mid new between taken → IsMoved old new put taken
moved_on old mid new put between taken a b = record {
  closing = b.closing ∙ a.closing;
  unanswered = b.unanswered ∙ a.unanswered;
  weight = λ w. chain (weight_of_desk w old) (weight_of_desk w mid) (weight_of_desk w new) (put w) (between w) (taken w) (a.weight w) (b.weight w);
}

-- What goes in is told in other words.
pub put_as : {C : Type 0} (paid : C → Charge) (limit : ℕ) (old new : Desk (Convo C)) (put put' : (C → ℕ) → ℕ) (result : Result (Stage C (Convo C) × Option (Turn C)) (Hand C)) → ((w : C → ℕ) → put w ≡ put' w)
    → IsStep paid limit old new put result → IsStep paid limit old new put' result
put_as paid limit old new put put' result e s = record { fits = s.fits; left = s.left; weight = λ w. s.weight w ∙ ap (λ n. weight_of_desk w old + n) (e w) }

-- A step behind a change.
fits_after : {C : Type 0} (paid : C → Charge) (limit : ℕ) (old mid new : Desk (Convo C)) (put taken : (C → ℕ) → ℕ) (stage : Stage C (Convo C)) (turn : Option (Turn C)) → IsMoved old mid put taken
    → Fits paid limit mid new stage turn → Fits paid limit old new stage turn
fits_after paid limit old mid new put taken stage turn m f = record {
  pause = f.pause;
  rests = f.rests;
  within = f.within;
  done = f.done;
  closing = f.closing ∙ m.closing;
  unanswered = f.unanswered ∙ ap (λ n. n + events_by turn) m.unanswered;
}

pub step_after : {C : Type 0} (paid : C → Charge) (limit : ℕ) (old mid new : Desk (Convo C)) (put taken : (C → ℕ) → ℕ) (result : Result (Stage C (Convo C) × Option (Turn C)) (Hand C)) → IsMoved old mid put taken
    → IsStep paid limit mid new taken result → IsStep paid limit old new put result
step_after {C = C} paid limit old mid new put taken result m s = record {
  fits = fits result s.fits;
  left = left result s.left;
  weight = λ w. chain (weight_of_desk w old) (weight_of_desk w mid) (weight_of_desk w new) (put w) (taken w) (weight_of_step w result) (m.weight w) (s.weight w);
}
  where
    fits : (r : Result (Stage C (Convo C) × Option (Turn C)) (Hand C)) → IfOk r (λ x. Fits paid limit mid new x.0 x.1) → IfOk r (λ x. Fits paid limit old new x.0 x.1)
    fits (Ok x) f = fits_after paid limit old mid new put taken x.0 x.1 m f
    fits (Err hand) f = tt

    left : (r : Result (Stage C (Convo C) × Option (Turn C)) (Hand C)) → OnErr r (IsLeft mid new) → OnErr r (IsLeft old new)
    left (Ok x) f = tt
    left (Err hand) f = record { closing = f.closing ∙ m.closing; unanswered = f.unanswered ∙ m.unanswered }

-- A step that found no memory behind a change: what was taken is in hand.
pub step_left : {C : Type 0} (paid : C → Charge) (limit : ℕ) (old new : Desk (Convo C)) (put : (C → ℕ) → ℕ) (hand : Hand C) → IsMoved old new put (λ w. weight_of_hand w hand) → IsStep paid limit old new put (Err hand)
step_left paid limit old new put hand m = record { fits = tt; left = record { closing = m.closing; unanswered = m.unanswered }; weight = m.weight }

-- Only slots change.
pub slots_moved : {C : Type 0} (old new : Desk (Convo C)) (put taken : (C → ℕ) → ℕ) → new ≡ record old { slots = new.slots } → ((w : C → ℕ) → weight_of_desk w new + taken w ≡ weight_of_desk w old + put w) → IsMoved old new put taken
slots_moved {C = C} old new put taken rest weight = record { closing = ap (λ (d : Desk (Convo C)). is_closing d.job) rest; unanswered = ap (λ (d : Desk (Convo C)). unanswered_of d) rest; weight = weight }

-- What is put back into its slot, or comes back.
put_ok : (new all one had got : ℕ) → new + had ≡ all + got → had ≡ 0 → got ≡ one → new + 0 ≡ all + one
put_ok new all one had got e h g = omega (arith, e, h, g)

put_err : (new all one had got back : ℕ) → new + had ≡ all + got → had ≡ got → back ≡ one → new + back ≡ all + one
put_err new all one had got back e h g = omega (arith, e, h, g)

pub put_size : {T : Type 0} (size : T → ℕ) (slots new : List (Slot T)) (place clock : ℕ) (s s' : Slot T) (talk : T) (r : Result ⊤ T) → slice_get slots place ≡ Some s → new ≡ slice_set slots place s'
    → OnOk r ((s.talk ≡ None) × (s' ≡ record s { clock = clock; talk = Some talk })) → IfErr r (λ back. (back ≡ talk) × (s' ≡ s)) → size_of_slots size new + size_if_err size r ≡ size_of_slots size slots + size talk
put_size {T = T} size slots new place clock s s' talk (Ok x) at is ok err =
    put_ok (size_of_slots size new) (size_of_slots size slots) (size talk) (size_of size s.talk) (size_of size s'.talk)
    (ap (λ l. size_of_slots size l + size_of size s.talk) is ∙ size_set size slots place s s' at) (ap (size_of size) ok.0) (ap (λ (q : Slot T). size_of size q.talk) ok.1)
put_size {T = T} size slots new place clock s s' talk (Err back) at is ok err =
    put_err (size_of_slots size new) (size_of_slots size slots) (size talk) (size_of size s.talk) (size_of size s'.talk) (size back)
    (ap (λ l. size_of_slots size l + size_of size s.talk) is ∙ size_set size slots place s s' at) (ap (λ (q : Slot T). size_of size q.talk) (sym err.1)) (ap size err.0)

-- What is taken out of its slot.
take_ok : (new all one had got : ℕ) → new + had ≡ all + got → had ≡ one → got ≡ 0 → new + one ≡ all
take_ok new all one had got e h g = omega (arith, e, h, g)

pub take_size : {T : Type 0} (size : T → ℕ) (slots : List (Slot T)) (place : ℕ) (s s' : Slot T) (talk : T) → slice_get slots place ≡ Some s → s.talk ≡ Some talk → s'.talk ≡ None
    → size_of_slots size (slice_set slots place s') + size talk ≡ size_of_slots size slots
take_size size slots place s s' talk at had gone =
    take_ok (size_of_slots size (slice_set slots place s')) (size_of_slots size slots) (size talk) (size_of size s.talk) (size_of size s'.talk) (size_set size slots place s s' at) (ap (size_of size) had) (ap (size_of size) gone)

-- A slot behind the others.
behind : (one rest last sum : ℕ) → sum ≡ rest + last → one + sum ≡ (one + rest) + last
behind one rest last sum e = omega (arith, e)

pub size_behind : {T : Type 0} (size : T → ℕ) (slots : List (Slot T)) (slot : Slot T) → size_of_slots size (slots ++ slot ∷ []) ≡ size_of_slots size slots + size_of size slot.talk
size_behind size [] slot = omega arith
size_behind size (s ∷ slots) slot = behind (size_of size s.talk) (size_of_slots size slots) (size_of size slot.talk) (size_of_slots size (slots ++ slot ∷ [])) (size_behind size slots slot)

-- Nothing that is kept has changed, and what goes in comes out.
pub same_moved : {C : Type 0} (desk : Desk (Convo C)) (put taken : (C → ℕ) → ℕ) → ((w : C → ℕ) → taken w ≡ put w) → IsMoved desk desk put taken
same_moved desk put taken e = record { closing = refl; unanswered = refl; weight = λ w. ap (λ n. weight_of_desk w desk + n) (e w) }

-- Only the input, the index, or the place to look from changes.
pub job_moved : {C : Type 0} (old new : Desk (Convo C)) (put : (C → ℕ) → ℕ) → new ≡ record old { job = new.job } → is_closing new.job ≡ is_closing old.job → IsMoved old new put put
job_moved {C = C} old new put rest closing = record { closing = closing; unanswered = ap (λ (d : Desk (Convo C)). unanswered_of d) rest; weight = λ w. ap (λ (d : Desk (Convo C)). weight_of_desk w d + put w) rest }

pub index_moved : {C : Type 0} (old new : Desk (Convo C)) (put : (C → ℕ) → ℕ) → new ≡ record old { index = new.index } → IsMoved old new put put
index_moved {C = C} old new put rest = record { closing = ap (λ (d : Desk (Convo C)). is_closing d.job) rest; unanswered = ap (λ (d : Desk (Convo C)). unanswered_of d) rest; weight = λ w. ap (λ (d : Desk (Convo C)). weight_of_desk w d + put w) rest }

pub cursor_moved : {C : Type 0} (old new : Desk (Convo C)) (put : (C → ℕ) → ℕ) (place : ℕ) → new ≡ record old { cursor = place } → IsMoved old new put put
cursor_moved {C = C} old new put place rest = record { closing = ap (λ (d : Desk (Convo C)). is_closing d.job) rest; unanswered = ap (λ (d : Desk (Convo C)). unanswered_of d) rest; weight = λ w. ap (λ (d : Desk (Convo C)). weight_of_desk w d + put w) rest }

-- A slot is added, without a conversation.
pub added_moved : {C : Type 0} (old new : Desk (Convo C)) (put : (C → ℕ) → ℕ) → new ≡ record old { slots = new.slots; cursor = 0 } → ((w : C → ℕ) → weight_of_desk w new ≡ weight_of_desk w old) → IsMoved old new put put
added_moved {C = C} old new put rest weight = record { closing = ap (λ (d : Desk (Convo C)). is_closing d.job) rest; unanswered = ap (λ (d : Desk (Convo C)). unanswered_of d) rest; weight = λ w. ap (λ n. n + put w) (weight w) }

-- An event that couldn't be noted.
pub events_left : {C : Type 0} (old new : Desk (Convo C)) (put taken : (C → ℕ) → ℕ) → new ≡ record old { unanswered = new.unanswered } → new.unanswered.items ≡ old.unanswered.items → ((w : C → ℕ) → taken w ≡ put w) → IsMoved old new put taken
events_left {C = C} old new put taken rest items e = record {
  closing = ap (λ (d : Desk (Convo C)). is_closing d.job) rest;
  unanswered = ap length items;
  weight = λ w. ap (λ (d : Desk (Convo C)). weight_of_desk w d + taken w) rest ∙ ap (λ n. weight_of_desk w old + n) (e w);
}

-- An entry begins: its conversation is taken out, and wants something.
begun : (new old talk active want before : ℕ) → new + before ≡ old → talk + want ≡ before → active ≡ talk → new + (active + want) ≡ old + 0
begun new old talk active want before a b e = omega (arith, a, b, e)

pub begins : {C : Type 0} (old new : Desk (Convo C)) (before talk : Convo C) (active : Active (Convo C)) (want : Want C) → new ≡ record old { slots = new.slots } → ((w : C → ℕ) → weight_of_desk w new + weight_of_convo w before ≡ weight_of_desk w old)
    → ((w : C → ℕ) → weight_of_convo w talk + weight_of_want w want ≡ weight_of_convo w before) → active.talk ≡ talk → IsMoved old new nothing (λ w. weight_of_active w active + weight_of_want w want)
begins old new before talk active want rest took wants is =
    slots_moved old new nothing (λ w. weight_of_active w active + weight_of_want w want) rest
    (λ w. begun (weight_of_desk w new) (weight_of_desk w old) (weight_of_convo w talk) (weight_of_active w active) (weight_of_want w want) (weight_of_convo w before) (took w) (wants w) (ap (weight_of_convo w) is))

-- The entry of a conversation that is new.
opened : (talk active want before : ℕ) → before ≡ 0 → talk + want ≡ before → active ≡ talk → active + want ≡ 0
opened talk active want before z e is = omega (arith, z, e, is)

pub opens : {C : Type 0} (w : C → ℕ) (before talk : Convo C) (active : Active (Convo C)) (want : Want C) → weight_of_convo w before ≡ 0 → weight_of_convo w talk + weight_of_want w want ≡ weight_of_convo w before → active.talk ≡ talk
    → weight_of_active w active + weight_of_want w want ≡ 0
opens w before talk active want z e is = opened (weight_of_convo w talk) (weight_of_active w active) (weight_of_want w want) (weight_of_convo w before) z e (ap (weight_of_convo w) is)

pub no_more : (n m : ℕ) → m ≡ 0 → n ≡ n + m
no_more n m e = omega (arith, e)

-- A slot is added without a conversation.
added : (all slots none : ℕ) → all ≡ slots + none → none ≡ 0 → all ≡ slots
added all slots none e z = omega (arith, e, z)

pub size_added : {T : Type 0} (size : T → ℕ) (slots : List (Slot T)) (slot : Slot T) → slot.talk ≡ None → size_of_slots size (slots ++ slot ∷ []) ≡ size_of_slots size slots
size_added size slots slot none = added (size_of_slots size (slots ++ slot ∷ [])) (size_of_slots size slots) (size_of size slot.talk) (size_behind size slots slot) (ap (size_of size) none)

-- An event without chunks.
pub no_chunk : {C : Type 0} (w : C → ℕ) (event : Event C) → ((conv : ℕ) × (proto : Proto) × (source : End) × (target : End) × (event ≡ V.New conv proto source target)) ⊎ ((conv : ℕ) × (reason : Reason) × (event ≡ V.Ended conv reason))
    → weight_of_event w event ≡ 0
no_chunk w event (inl h) = ap (weight_of_event w) h.4
no_chunk w event (inr h) = ap (weight_of_event w) h.2

-- Only what is due, the moments, or the book changes.
pub due_moved : {C : Type 0} (old new : Desk (Convo C)) (put : (C → ℕ) → ℕ) (answered : ℕ) (owed : Option Owed) → new ≡ record old { answered = answered; owed = owed } → IsMoved old new put put
due_moved {C = C} old new put answered owed rest = record { closing = ap (λ (d : Desk (Convo C)). is_closing d.job) rest; unanswered = ap (λ (d : Desk (Convo C)). unanswered_of d) rest; weight = λ w. ap (λ (d : Desk (Convo C)). weight_of_desk w d + put w) rest }

pub moments_moved : {C : Type 0} (old new : Desk (Convo C)) (put : (C → ℕ) → ℕ) → new ≡ record old { dues = new.dues } → IsMoved old new put put
moments_moved {C = C} old new put rest = record { closing = ap (λ (d : Desk (Convo C)). is_closing d.job) rest; unanswered = ap (λ (d : Desk (Convo C)). unanswered_of d) rest; weight = λ w. ap (λ (d : Desk (Convo C)). weight_of_desk w d + put w) rest }

pub book_moved : {C : Type 0} (old new : Desk (Convo C)) (put : (C → ℕ) → ℕ) → new ≡ record old { book = new.book } → IsMoved old new put put
book_moved {C = C} old new put rest = record { closing = ap (λ (d : Desk (Convo C)). is_closing d.job) rest; unanswered = ap (λ (d : Desk (Convo C)). unanswered_of d) rest; weight = λ w. ap (λ (d : Desk (Convo C)). weight_of_desk w d + put w) rest }

-- A conversation goes back to its place.
module _ {C : Type 0} (old noted back : Desk (Convo C)) (active : Active (Convo C)) (answered : ℕ) (owed : Option Owed) where
  pub goes_back : (taken : (C → ℕ) → ℕ) → noted ≡ record old { answered = answered; owed = owed } → back ≡ record noted { slots = back.slots } → ((w : C → ℕ) → weight_of_desk w back + taken w ≡ weight_of_desk w noted + weight_of_active w active)
      → IsMoved old back (λ w. weight_of_active w active) taken
  goes_back taken n b weight =
      moved_on old noted back (λ w. weight_of_active w active) (λ w. weight_of_active w active) taken (due_moved old noted (λ w. weight_of_active w active) answered owed n)
      (slots_moved noted back (λ w. weight_of_active w active) taken b weight)

-- A conversation is taken out, and its answer's chunks are with it.
pub into_hand : (new popped old talk kept : ℕ) → new + talk ≡ popped → popped ≡ old → new + (talk + kept) ≡ old + kept
into_hand new popped old talk kept a b = omega (arith, a, b)
