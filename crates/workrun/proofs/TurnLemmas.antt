-- Turns and faults, by what the calls below answered.
use Rattle.std.proofs.Common.{◌≡◌, ℕ, ◌+◌, ◌*◌, ◌<◌, List, [], ◌∷◌, ◌++◌, length, refl, ap, ◌∙◌, sym, subst, arith, append-nil}
use Rattle.std.specs.Prelude.{Bool, true, false, not, Option, Some, None, Result, Ok, Err, IfOk, OnErr}
use Rattle.std.proofs.lemmas.Grind.{flat_map-append}
use Rattle.std.proofs.lemmas.List.Concat.{flat_map-cons}
use Rattle.prio_budget.specs.declared.free.Free.{Free}
use Rattle.prio_budget.specs.History.{total}
use Rattle.scap_world.specs.Contents.{extended, GainsPart}
use Rattle.chunkpart.specs.ChunkParts.{ChunkParts}
use Rattle.evring.specs.Advice.{no_advice}
use Rattle.evring.specs.declared.advice.Advice.{Advice}
use Rattle.evring.specs.declared.answer.Answer.{Answer}
use Rattle.evring.specs.Charges.{charges_of, charges_of_all}
use Rattle.streamdefs.specs.Lawful.{Handler}
use Rattle.workrun.specs.declared.outgoing.Outgoing.{Outgoing}
use Rattle.workrun.specs.declared.release.Release.{Release}
use Rattle.workrun.specs.declared.work.Work.{Work}
use Rattle.workrun.specs.declared.work.Work.TheVariants.{Nothing, Loaded, Releases, Waits}
use Rattle.workrun.specs.declared.work_fault.WorkFault.{WorkFault}
use Rattle.workrun.specs.declared.work_fault.WorkFault.TheVariants as faults
use Rattle.workrun.specs.declared.work_turn.WorkTurn.{WorkTurn}
use Rattle.workrun.specs.declared.work_turn.WorkTurn.TheVariants as turns
use Rattle.workrun.specs.AtWork.{Hand}
use Rattle.workrun.specs.Outgoing.{charges_left}
use Rattle.workrun.specs.Steps.{IsOut, IsReleasing, Turned, Worked}
use Rattle.workrun.specs.Telling.{HasCause}
use Rattle.workrun.proofs.StepLemmas.{gives_none, gives_one}

-- the charges of chunks with one more behind them
pub charges_snoc : {C : Type 0} (kept : List (ChunkParts C)) (chunk : ChunkParts C) → charges_of_all (kept ++ chunk ∷ []) ≡ charges_of_all kept ++ charges_of chunk
charges_snoc {C} kept chunk =
    flat_map-append charges_of kept (chunk ∷ []) ∙ ap (λ (xs : List C). charges_of_all kept ++ xs) (flat_map-cons charges_of chunk [] ∙ append-nil (charges_of chunk))

-- In every mode

answer_turned : {C : Type 0} (amount stamp : C → ℕ) (core : ℕ) (frees : List Free) (charges : List C) (calm : Bool) (a : Answer C) → a.frees ≡ frees → a.drained ≡ not calm → (calm ≡ false → (a.advice ≡ no_advice) × (a.kept ≡ [])) → charges ≡ charges_of_all a.kept
    → Turned amount stamp core frees charges calm Nothing (turns.Answer core a)
answer_turned {C} amount stamp core frees charges calm a ef ed en ec = record {
  fits = (refl, ef, ed, en);
  core_is = refl;
  frees_are = refl;
  pause = refl;
  charges_are = ec ∙ sym (append-nil (charges_of_all a.kept));
  weight_is = λ by. (let e : total by charges ≡ total by (charges_of_all a.kept) + 0 = omega (arith, ap (total by) ec) in e);
  left_is = let less : 0 < 1 + 0 + 2 * length charges = omega arith in less;
  begun_is = refl;
}

turned_moved : {C : Type 0} (amount stamp : C → ℕ) (core : ℕ) (frees : List Free) (charges : List C) (calm : Bool) (work : Work C) (turn t : WorkTurn C) → Turned amount stamp core frees charges calm Nothing t → work ≡ Nothing → turn ≡ t
    → Turned amount stamp core frees charges calm work turn
turned_moved {C} amount stamp core frees charges calm work turn t h ew et =
    subst (λ (x : WorkTurn C). Turned amount stamp core frees charges calm work x) (sym et) (subst (λ (w : Work C). Turned amount stamp core frees charges calm w t) (sym ew) h)

-- the answer, once no charge is left
pub done_turned : {C : Type 0} (amount stamp : C → ℕ) (core : ℕ) (advice : Advice) (frees : List Free) (kept : List (ChunkParts C)) (charges : List C) (calm : Bool) (work : Work C) (turn : WorkTurn C) → work ≡ Nothing → kept ≡ [] → charges ≡ []
    → (calm ≡ true → turn ≡ turns.Answer core (record { advice = advice; frees = frees; kept = kept; drained = false }))
    → (calm ≡ false → turn ≡ turns.Answer core (record { advice = no_advice; frees = frees; kept = kept; drained = true }))
    → Turned amount stamp core frees charges calm work turn
done_turned {C} amount stamp core advice frees kept charges true work turn ew ek ec et ef =
    turned_moved amount stamp core frees charges true work turn (turns.Answer core (record { advice = advice; frees = frees; kept = kept; drained = false }))
    (answer_turned amount stamp core frees charges true (record { advice = advice; frees = frees; kept = kept; drained = false }) refl refl (λ (e : true ≡ false). cc) (ec ∙ sym (ap charges_of_all ek))) ew (et refl)
done_turned {C} amount stamp core advice frees kept charges false work turn ew ek ec et ef =
    turned_moved amount stamp core frees charges false work turn (turns.Answer core (record { advice = no_advice; frees = frees; kept = kept; drained = true }))
    (answer_turned amount stamp core frees charges false (record { advice = no_advice; frees = frees; kept = kept; drained = true }) refl refl (λ (e : false ≡ false). (refl, ek)) (ec ∙ sym (ap charges_of_all ek))) ew (ef refl)

-- a charge goes out
pub given_turned : {C : Type 0} (amount stamp : C → ℕ) (core : ℕ) (frees : List Free) (charges : List C) (calm : Bool) (r : Release C) (c : C) (work : Work C) (turn : WorkTurn C) → charges ≡ c ∷ charges_left r.left → r.core ≡ core → r.frees.items ≡ frees
    → turn ≡ turns.Free c → IsOut (amount c) (stamp c) r work → Turned amount stamp core frees charges calm work turn
given_turned amount stamp core frees charges calm r c Nothing turn el ec ef et o = absurd o
given_turned amount stamp core frees charges calm r c (Loaded core' event) turn el ec ef et o = absurd o
given_turned amount stamp core frees charges calm r c (Releases r') turn el ec ef et o = absurd o
given_turned {C} amount stamp core frees charges calm r c (Waits b g r') turn el ec ef et o =
    let left : charges ≡ c ∷ charges_left r'.left = el ∙ ap (λ (x : Outgoing C). c ∷ charges_left x) (sym o.5) in
    let bytes : b ≡ amount c = o.0 in
    let granted : g ≡ stamp c = o.1 in
    subst (λ (t : WorkTurn C). Turned amount stamp core frees charges calm (Waits b g r') t) (sym et) (record {
      fits = tt;
      core_is = ap Some (o.2 ∙ ec);
      frees_are = o.4 ∙ ef;
      pause = cc;
      charges_are = left;
      weight_is = λ by. (let e : total by charges ≡ by c + 0 + total by (charges_left r'.left) = omega (arith, ap (total by) left) in e);
      left_is = let less : 1 + 1 + 2 * length (charges_left r'.left) < 1 + 0 + 2 * length charges = omega (arith, ap (λ (l : List C). length l) left) in less;
      begun_is = refl;
    })

-- the answer that keeps the chunks
pub kept_turned : {C : Type 0} (amount stamp : C → ℕ) (core : ℕ) (advice : Advice) (frees : List Free) (before kept : List (ChunkParts C)) (chunk : ChunkParts C) (work : Work C) (turn : WorkTurn C) → work ≡ Nothing → frees ≡ [] → kept ≡ before ++ chunk ∷ []
    → turn ≡ turns.Answer core (record { advice = advice; frees = frees; kept = kept; drained = false })
    → Turned amount stamp core [] (charges_of_all before ++ charges_of chunk) true work turn
kept_turned {C} amount stamp core advice frees before kept chunk work turn ew ef ek et =
    turned_moved amount stamp core [] (charges_of_all before ++ charges_of chunk) true work turn (turns.Answer core (record { advice = advice; frees = frees; kept = kept; drained = false }))
    (answer_turned amount stamp core [] (charges_of_all before ++ charges_of chunk) true (record { advice = advice; frees = frees; kept = kept; drained = false }) ef refl (λ (e : true ≡ false). cc) (sym (ap charges_of_all ek ∙ charges_snoc before chunk))) ew et

-- Outside drain mode

worked_moved : {C : Type 0} (amount stamp : C → ℕ) (handler : Handler) (h : Hand C) (work : Work C) (turn t : WorkTurn C) → Worked amount stamp handler h Nothing t → work ≡ Nothing → turn ≡ t → Worked amount stamp handler h work turn
worked_moved {C} amount stamp handler h work turn t s ew et =
    subst (λ (x : WorkTurn C). Worked amount stamp handler h work x) (sym et) (subst (λ (w : Work C). Worked amount stamp handler h w t) (sym ew) s)

pub done_worked : {C : Type 0} (amount stamp : C → ℕ) (handler : Handler) (h : Hand C) (r : Release C) (kept : List (ChunkParts C)) (work : Work C) (turn : WorkTurn C) → IsReleasing amount handler h r [] → charges_left r.left ≡ [] → work ≡ Nothing → kept ≡ []
    → turn ≡ turns.Answer r.core (record { advice = r.advice; frees = r.frees.items; kept = kept; drained = false }) → Worked amount stamp handler h work turn
done_worked {C} amount stamp handler h r kept work turn s el ew ek et =
    worked_moved amount stamp handler h work turn (turns.Answer r.core (record { advice = r.advice; frees = r.frees.items; kept = []; drained = false })) (gives_none amount stamp handler h r s el) ew
    (et ∙ ap (λ (k : List (ChunkParts C)). turns.Answer r.core (record { advice = r.advice; frees = r.frees.items; kept = k; drained = false })) ek)

pub given_worked : {C : Type 0} (amount stamp : C → ℕ) (handler : Handler) (h : Hand C) (r r1 : Release C) (c : C) (work : Work C) (turn : WorkTurn C) → IsReleasing amount handler h r []
    → charges_left r.left ≡ c ∷ charges_left r1.left → r1.core ≡ r.core → r1.advice ≡ r.advice → r1.frees.items ≡ r.frees.items
    → turn ≡ turns.Free c → IsOut (amount c) (stamp c) r1 work → Worked amount stamp handler h work turn
given_worked amount stamp handler h r r1 c Nothing turn s el ec ea ef et o = absurd o
given_worked amount stamp handler h r r1 c (Loaded core event) turn s el ec ea ef et o = absurd o
given_worked amount stamp handler h r r1 c (Releases r') turn s el ec ea ef et o = absurd o
given_worked {C} amount stamp handler h r r1 c (Waits b g r') turn s el ec ea ef et o =
    subst (λ (t : WorkTurn C). Worked amount stamp handler h (Waits b g r') t) (sym et)
    (gives_one amount stamp handler h r r' c b g s (el ∙ ap (λ (x : Outgoing C). c ∷ charges_left x) (sym o.5)) (o.2 ∙ ec) (o.3 ∙ ea) (o.4 ∙ ef) (sym o.0) (sym o.1))

-- Faults

cause_err : {T U : Type 0} (a b : ℕ) (f : WorkFault) → HasCause {T = T} a b (Err f) → HasCause {T = U} a b (Err f)
cause_err a b faults.Memory x = record { later = x.later; write = λ e. absurd (cc) }
cause_err a b faults.Write x = record { later = x.later; write = λ e. x.write refl }

-- the same fault of another call, where the sink is the same
pub cause_stays : {T U : Type 0} (a b b' : ℕ) (f : WorkFault) → HasCause {T = T} a b (Err f) → b' ≡ b → HasCause {T = U} a b' (Err f)
cause_stays {T} {U} a b b' f x e = subst (λ (n : ℕ). HasCause {T = U} a n (Err f)) (sym e) (cause_err {T = T} {U = U} a b f x)

pub extended_none : (o : Option (List ℕ)) → o ≡ extended o []
extended_none None = refl
extended_none (Some held) = ap Some (sym (append-nil held))

-- an event that was told and answered at once
pub close_front : {T : Type 0} (told : Result Advice WorkFault) (result : Result T WorkFault) (answer : Advice → T) (old mid new : Option (List ℕ)) (line : List ℕ) → OnErr told (GainsPart old mid line) → new ≡ mid → IfOk told (λ a. result ≡ Ok (answer a)) → OnErr result (GainsPart old new line)
close_front {T} (Ok a) result answer old mid new line f e ok = subst (λ (r : Result T WorkFault). OnErr r (GainsPart old new line)) (sym ok) tt
close_front {T} (Err x) (Ok t) answer old mid new line f e ok = tt
close_front {T} (Err x) (Err y) answer old mid new line f e ok = subst (λ (o : Option (List ℕ)). GainsPart old o line) (sym e) f
