-- A datagram's entry keeps the numbers of its direction balanced, so each is one of 64 bits.
use Rattle.std.specs.Prelude.{◌≡◌, refl, ℕ, suc, ◌+◌, ◌≤◌, ◌<◌, ◌^◌, Bool, true, false, nat_le, List, [], ◌∷◌, length, None, Result, Ok, Err, OnOk, OnErr, IfOk}
use Rattle.std.specs.List.{HoldsAt}
use Rattle.std.proofs.Common.{◌∙◌, ap, subst, arith, get_or, set}
use Rattle.std.proofs.lemmas.List.{get_or-set_same, set-set}
use Rattle.histbook.specs.declared.look_entry.LookEntry.{LookEntry}
use Rattle.prio_budget.specs.BudgetParts.{BudgetParts}
use Rattle.datagrams.specs.declared.conversation.Conversation.{Conversation}
use Rattle.datagrams.specs.Flow.{Flow, chunk_list, part_of}
use Rattle.datagrams.specs.Entered.{Entry, entered, asked_entry}
use Rattle.datagrams.specs.Sums.{Sums, IsBalanced, with_chunks, with_datagram}
use Rattle.datagrams.specs.State.{AreShort, granted_by}
use Rattle.datagrams.proofs.SumBounds.{balanced_end, balanced_granted, balanced_refused, bounded}

-- the numbers behind an entry
abbrev pub counted : Sums → ℕ → Entry → Sums
counted s bytes e = with_chunks (with_datagram s bytes (granted_by e.looks)) e.over

pub balanced_entered : (mark least : ℕ) (budget : BudgetParts) (f : Flow) (s : Sums) (payload : List ℕ) → IsBalanced f s
    → IsBalanced (entered mark least budget f payload).flow (counted s (length payload) (entered mark least budget f payload))
balanced_entered mark least budget f s [] h = balanced_refused least f s 0 h
balanced_entered mark least budget f s (b ∷ bytes) h = by (nat_le (budget.used + suc (length bytes)) mark)
  where
    look : Bool → LookEntry
    look given = record { asked = suc (length bytes); granted = given; look = record { stamp = budget.stamp; found = budget.used } }

    same : suc (length bytes) ≡ suc (length bytes) + 0
    same = omega arith

    by : (given : Bool) → IsBalanced (asked_entry least budget f (b ∷ bytes) (look given)).flow (counted s (suc (length bytes)) (asked_entry least budget f (b ∷ bytes) (look given)))
    by true = subst (λ (n : ℕ). IsBalanced (asked_entry least budget f (b ∷ bytes) (look true)).flow (with_chunks (with_datagram s (suc (length bytes)) n) (asked_entry least budget f (b ∷ bytes) (look true)).over)) same
        (balanced_granted least f s (part_of (b ∷ bytes) (look true)) h)
    by false = balanced_refused least f s (suc (length bytes)) h

granted_part : (mark least : ℕ) (budget : BudgetParts) (f : Flow) (payload : List ℕ) → granted_by (entered mark least budget f payload).looks ≤ length payload
granted_part mark least budget f [] = omega arith
granted_part mark least budget f (b ∷ bytes) = by (nat_le (budget.used + suc (length bytes)) mark)
  where
    by : (given : Bool) → granted_by (asked_entry least budget f (b ∷ bytes) (record { asked = suc (length bytes); granted = given; look = record { stamp = budget.stamp; found = budget.used } })).looks ≤ suc (length bytes)
    by true = omega arith
    by false = omega arith

pub granted_at_most : (mark least : ℕ) (budget : BudgetParts) (f : Flow) (payload : List ℕ) → granted_by (entered mark least budget f payload).looks ≤ length payload
granted_at_most = granted_part

pub sent_behind : (mark least : ℕ) (budget : BudgetParts) (f : Flow) (payload : List ℕ) → (entered mark least budget f payload).flow.sent ≡ f.sent + length payload
sent_behind mark least budget f [] = refl
sent_behind mark least budget f (b ∷ bytes) = by (nat_le (budget.used + suc (length bytes)) mark)
  where
    by : (given : Bool) → (asked_entry least budget f (b ∷ bytes) (record { asked = suc (length bytes); granted = given; look = record { stamp = budget.stamp; found = budget.used } })).flow.sent ≡ f.sent + suc (length bytes)
    by true = refl
    by false = refl

short_of : (f : Flow) (s : Sums) → IsBalanced f s → f.sent < 2 ^ 64 → AreShort s
short_of f s h b = record {
  payload = omega (arith, h.came, b);
  delivered = omega (arith, (bounded f s h).0, b);
  taken = omega (arith, (bounded f s h).1, b);
  shed = omega (arith, (bounded f s h).2, b);
  gap_bytes = omega (arith, (bounded f s h).4, b);
}

pub short_entered : (mark least : ℕ) (budget : BudgetParts) (f : Flow) (s : Sums) (payload : List ℕ) → IsBalanced f s → f.sent + length payload < 2 ^ 64
    → AreShort (counted s (length payload) (entered mark least budget f payload))
short_entered mark least budget f s payload h b =
    short_of (entered mark least budget f payload).flow (counted s (length payload) (entered mark least budget f payload)) (balanced_entered mark least budget f s payload h)
    (omega (arith, sent_behind mark least budget f payload, b))

-- with an End too
pub short_ended : (f : Flow) (s : Sums) → IsBalanced f s → f.sent < 2 ^ 64 → AreShort (with_chunks s (chunk_list f.chunk))
short_ended f s h b = short_of (record f { chunk = None }) (with_chunks s (chunk_list f.chunk)) (balanced_end f s h) b

-- A conversation of a table that is changed, and changed again.
pub changed_once : (old middle : List Conversation) (i : ℕ) (f : Conversation → Conversation) (d : Conversation) → i < length old → HoldsAt (λ c. middle ≡ set old i (f c)) old i
    → get_or middle i d ≡ f (get_or old i d)
changed_once old middle i f d l h = ap (λ m. get_or m i d) (h d) ∙ get_or-set_same old i (f (get_or old i d)) d l

pub changed_twice : (old middle new : List Conversation) (i : ℕ) (f g : Conversation → Conversation) (d : Conversation) → i < length old
    → HoldsAt (λ c. middle ≡ set old i (f c)) old i → HoldsAt (λ c. new ≡ set middle i (g c)) middle i
    → new ≡ set old i (g (f (get_or old i d)))
changed_twice old middle new i f g d l h k =
    k d ∙ (λ j. set (h d j) i (g (changed_once old middle i f d l h j))) ∙ set-set old i (f (get_or old i d)) (g (f (get_or old i d)))

-- What a call says where it is done, from what another one says there.
pub on_ok : {T E A B : Type 0} (r : Result T E) → (A → B) → OnOk r A → OnOk r B
on_ok (Ok x) f a = f a
on_ok (Err e) f a = tt

pub on_err : {T E A B : Type 0} (r : Result T E) → (A → B) → OnErr r A → OnErr r B
on_err (Ok x) f a = tt
on_err (Err e) f a = f a

pub on_both : {T E A B C : Type 0} (r : Result T E) → (A → B → C) → OnOk r A → OnOk r B → OnOk r C
on_both (Ok x) f a b = f a b
on_both (Err e) f a b = tt

pub if_both : {T E : Type 0} {A B C : T → Type 0} (r : Result T E) → ((x : T) → A x → B x → C x) → IfOk r A → IfOk r B → IfOk r C
if_both (Ok x) f a b = f x a b
if_both (Err e) f a b = tt

pub if_ok : {T E : Type 0} {A B : T → Type 0} (r : Result T E) → ((x : T) → A x → B x) → IfOk r A → IfOk r B
if_ok (Ok x) f a = f x a
if_ok (Err e) f a = tt
