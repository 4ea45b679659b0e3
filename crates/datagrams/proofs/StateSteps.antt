-- The steps of a replay's state are those of its entries.
use Rattle.std.specs.Prelude.{◌≡◌, refl, ℕ, suc, ◌+◌, ◌-◌, ◌≤◌, Bool, true, false, nat_le, List, [], ◌∷◌, ◌++◌, length, map, Option}
use Rattle.std.proofs.Common.{subst, arith}
use Rattle.std.proofs.lemmas.Bool.Decides.{nat_tests}
use Rattle.evring.specs.Advice.{no_advice}
use Rattle.histbook.specs.declared.look_entry.LookEntry.{LookEntry}
use Rattle.prio_budget.specs.BudgetParts.{BudgetParts}
use Rattle.streamdefs.specs.Marks.{mark}
use Rattle.streamdefs.specs.Packet.{Packet}
use Rattle.streamdefs.specs.Terms.{Terms}
use Rattle.histbook.specs.declared.entry.Entry.TheVariants as E
use Rattle.streamkey.specs.Key.{source_of, target_of}
use Rattle.streamdefs.specs.Handler.{new_line}
use Rattle.streamdefs.specs.Core.{Told}
use Rattle.streamdefs.specs.Convo.Event.{New, Ended}
use Rattle.datagrams.specs.Assembled.{Verdict, Granted, Refused, Bare, looks_by, flow_by, over_by}
use Rattle.datagrams.specs.Entered.{Entry, entered, asked_entry, look_for}
use Rattle.datagrams.specs.Flow.{Flow, left_open, size}
use Rattle.datagrams.specs.State.{State, Untold, Waits, Opened, Handed, Over, told_as, event_of, with_answer}
use Rattle.datagrams.specs.Table.{Kept, HasNoId}
use Rattle.datagrams.specs.Stands.{Fits, Standing}
use Rattle.datagrams.proofs.Standing.{IsNow, stamp_by, used_by, standing_answered, standing_holds, standing_passed}

-- what becomes of a datagram, by the mark and the budget
abbrev pub verdict_by : (given : Bool) → LookEntry → Verdict
verdict_by true look = Granted (record look { granted = true })
verdict_by false look = Refused (record look { granted = false })

abbrev pub verdict_for : (mark : ℕ) → BudgetParts → List ℕ → Verdict
verdict_for mark budget [] = Bare
verdict_for mark budget (b ∷ bytes) = verdict_by (nat_le (budget.used + suc (length bytes)) mark) (look_for mark budget (suc (length bytes)))

-- an entry is that of the verdict
pub record IsBy (least : ℕ) (budget : BudgetParts) (f : Flow) (payload : List ℕ) (v : Verdict) (e : Entry) : Type 0 where
  pub looks : e.looks ≡ looks_by v
  pub over : e.over ≡ over_by least payload v f
  pub flow : e.flow ≡ left_open least (flow_by payload v f)
  pub stamp : e.budget.stamp ≡ stamp_by v budget.stamp
  pub used : e.budget.used ≡ used_by payload v budget.used
  pub limit : e.budget.limit ≡ budget.limit

pub entered_by : (mark least : ℕ) (budget : BudgetParts) (f : Flow) (payload : List ℕ) → IsBy least budget f payload (verdict_for mark budget payload) (entered mark least budget f payload)
entered_by mark least budget f [] = record { looks = refl; over = refl; flow = refl; stamp = refl; used = refl; limit = refl }
entered_by mark least budget f (b ∷ bytes) = by (nat_le (budget.used + suc (length bytes)) mark)
  where
    look : Bool → LookEntry
    look given = record { asked = suc (length bytes); granted = given; look = record { stamp = budget.stamp; found = budget.used } }

    next : budget.stamp + 1 ≡ suc budget.stamp
    next = omega arith

    by : (given : Bool) → IsBy least budget f (b ∷ bytes) (verdict_by given (look given)) (asked_entry least budget f (b ∷ bytes) (look given))
    by true = record { looks = refl; over = refl; flow = refl; stamp = next; used = refl; limit = refl }
    by false = record { looks = refl; over = refl; flow = refl; stamp = refl; used = refl; limit = refl }

-- it finds the present stamp and the present used number
pub verdict_now : (limit mark : ℕ) (budget : BudgetParts) (payload : List ℕ) → mark ≤ limit → IsNow limit budget.stamp budget.used payload (verdict_for mark budget payload)
verdict_now limit mark budget [] h = tt
verdict_now limit mark budget (b ∷ bytes) h = by (nat_le (budget.used + suc (length bytes)) mark) refl
  where
    by : (given : Bool) → nat_le (budget.used + suc (length bytes)) mark ≡ given → IsNow limit budget.stamp budget.used (b ∷ bytes) (verdict_by given (look_for mark budget (suc (length bytes))))
    by true q = (refl, refl, grind (arith, nat_tests))
    by false q = (refl, refl)

-- an event that waits fits its conversation, as a row has it
abbrev pub FitsRow : Kept → Waits → Type 0
FitsRow k w = Fits (record { number = k.talk.id; key = k.talk.key; toward = k.talk.toward }) w

-- the entries, the text and the budget of a state stand for the packets so far, with that table and those events
abbrev pub StandsIn : Terms → (last first : ℕ) → (packets done : List Packet) → State → List Kept → List Told → Option ℕ → Type 0
StandsIn t last first packets done s table waiting finished = Standing t last first packets done s.book table waiting finished s.answered s.text s.budget.stamp s.budget.used

-- The answer to the first event that waits.
pub answer_kept : (t : Terms) (last first : ℕ) (packets done : List Packet) (s : State) (xs : List Kept) (k : Kept) (ys : List Kept) (conv : ℕ) (w : Waits) (rest : List Untold) (finished : Option ℕ)
    → StandsIn t last first packets done s (xs ++ k ∷ ys) (record { conv = conv; event = event_of w } ∷ map told_as rest) finished
    → HasNoId conv xs → HasNoId conv ys → k.talk.id ≡ conv → FitsRow k w
    → StandsIn t last first packets done (with_answer s (record { conv = conv; event = w }) rest) (xs ++ k ∷ ys) (map told_as rest) finished
answer_kept t last first packets done s xs k ys conv (Opened key toward) rest finished h ids_x ids_y same is =
    subst (λ (line : List ℕ). Standing t last first packets done (s.book ++ record { conv = conv; entry = E.Answer (suc s.answered) no_advice [] } ∷ []) (xs ++ k ∷ ys) (map told_as rest) finished (suc s.answered)
    (s.text ++ line) s.budget.stamp s.budget.used) (λ i. new_line conv (is.0 i).proto (source_of (is.0 i) (is.1 i)) (target_of (is.0 i) (is.1 i)))
    (standing_passed t last first packets done s.book xs k ys (record { conv = conv; event = New }) (map told_as rest) finished s.answered s.text s.budget.stamp s.budget.used h ids_x ids_y same refl refl)
answer_kept t last first packets done s xs k ys conv (Handed way o) rest finished h ids_x ids_y same is =
    standing_answered t last first packets done s.book xs k ys conv way o (map told_as rest) finished s.answered s.text s.budget.stamp s.budget.used (s.budget.used - size o.parts) h ids_x ids_y same
    (omega (arith, standing_holds t last first packets done s.book (xs ++ k ∷ ys) conv way o (map told_as rest) finished s.answered s.text s.budget.stamp s.budget.used h))
answer_kept t last first packets done s xs k ys conv (Over reason) rest finished h ids_x ids_y same is =
    standing_passed t last first packets done s.book xs k ys (record { conv = conv; event = Ended reason }) (map told_as rest) finished s.answered s.text s.budget.stamp s.budget.used h ids_x ids_y same refl refl
