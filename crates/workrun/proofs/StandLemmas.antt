-- What a worker stands for behind its calls.
use Rattle.std.proofs.Common.{◌≡◌, ℕ, suc, List, [], ◌∷◌, ◌++◌, map, take, drop, length, refl, ap, ◌∙◌, sym, subst, arith, append-nil, length-append}
use Rattle.std.specs.Prelude.{true, Option, Some, None, is_some, cond, option_map}
use Rattle.std.proofs.lemmas.List.{map-append}
use Rattle.prio_budget.specs.declared.free.Free.{Free}
use Rattle.evring.specs.declared.advice.Advice.{Advice}
use Rattle.evring.specs.declared.event.Event.{Event}
use Rattle.evring.specs.Charges.{charges_in}
use Rattle.streamdefs.specs.Handler.{event_line}
use Rattle.streamdefs.specs.Lawful.{Handler}
use Rattle.handler.specs.Seen.{conv_of, seen_in}
use Rattle.workrun.specs.declared.release.Release.{Release}
use Rattle.workrun.specs.declared.work.Work.{Work}
use Rattle.workrun.specs.declared.work.Work.TheVariants.{Loaded, Releases, Waits}
use Rattle.workrun.specs.declared.work_turn.WorkTurn.{WorkTurn}
use Rattle.workrun.specs.declared.work_turn.WorkTurn.TheVariants as turns
use Rattle.prio_budget.specs.declared.charge.Charge.{Ghosts as ChargeGhosts}
use Rattle.scap_world.specs.declared.sink.Sink.{Ghosts as SinkGhosts}
use Rattle.handler.specs.declared.handler.Handler.{Ghosts as HandlerGhosts}
use Rattle.workrun.specs.declared.scribe.Scribe.{Scribe}
use Rattle.workrun.specs.declared.worker.Worker.{Worker}
use Rattle.workrun.specs.AtWork.{AtWork, Hand, IsWork, behind, freed, hand_behind, line_due, served_behind, taken, unless_told, with_free}
use Rattle.workrun.specs.Boundary.{Stands, told_of}
use Rattle.workrun.specs.Outgoing.{charges_left}
use Rattle.workrun.specs.Steps.{HasInHand, IsReleasing, IsWaiting, Worked}
use Rattle.workrun.proofs.StepLemmas.{one_more}

-- What is in hand

pub loaded_of : {C : Type 0} (amount stamp : C → ℕ) (handler : Handler) (hand : Option (Hand C)) (core : ℕ) (e : Event C) → HasInHand amount stamp handler hand (Loaded core e) → hand ≡ Some (taken core e)
loaded_of amount stamp handler None core e s = absurd s
loaded_of amount stamp handler (Some h) core e s = ap Some s

pub releasing_of : {C : Type 0} (amount stamp : C → ℕ) (handler : Handler) (hand : Option (Hand C)) (r : Release C) → HasInHand amount stamp handler hand (Releases r) → (h : Hand C) × (hand ≡ Some h) × IsReleasing amount handler h r []
releasing_of amount stamp handler None r s = absurd s
releasing_of amount stamp handler (Some h) r s = (h, refl, s)

pub waiting_of : {C : Type 0} (amount stamp : C → ℕ) (handler : Handler) (hand : Option (Hand C)) (bytes granted : ℕ) (r : Release C) → HasInHand amount stamp handler hand (Waits bytes granted r) → (h : Hand C) × (hand ≡ Some h) × IsWaiting amount stamp handler h bytes granted r
waiting_of amount stamp handler None bytes granted r s = absurd s
waiting_of amount stamp handler (Some h) bytes granted r s = (h, refl, s)

-- The list behind a turn

pub list_behind : {C : Type 0} (amount : C → ℕ) (handler : Handler) (h : Hand C) (served : List ℕ) (turn : WorkTurn C) → IsWork amount handler (Some h) turn → served ++ h.core ∷ [] ≡ served_behind served turn ++ told_of (hand_behind handler (Some h) turn)
list_behind amount handler h served (turns.Free c) w = refl
list_behind amount handler h served (turns.Answer core a) w = ap (λ (n : ℕ). served ++ n ∷ []) (sym w.core_is) ∙ sym (append-nil (served ++ core ∷ []))
list_behind amount handler h served turns.Ready w = absurd w

-- one release more
releasing_freed : {C : Type 0} (amount stamp : C → ℕ) (handler : Handler) (h : Hand C) (bytes granted : ℕ) (r r' : Release C) (free : Free) → IsWaiting amount stamp handler h bytes granted r → free.bytes ≡ bytes
    → r'.core ≡ r.core → r'.advice ≡ r.advice → r'.left ≡ r.left → r'.frees.items ≡ r.frees.items ++ free ∷ [] → IsReleasing amount handler (with_free free h) r' []
releasing_freed {C} amount stamp handler h bytes granted r r' free s eb e1 e2 e3 e4 =
    let n : length (h.frees ++ free ∷ []) ≡ suc (length h.frees) = omega (arith, length-append h.frees (free ∷ [])) in
    let more : (take (suc (length h.frees)) (charges_in h.event) ≡ take (length h.frees) (charges_in h.event) ++ s.charge ∷ []) × (drop (suc (length h.frees)) (charges_in h.event) ≡ charges_left r.left)
    = one_more (charges_in h.event) (length h.frees) s.charge (charges_left r.left) (sym s.releasing.left) in
    record {
      core = e1 ∙ s.releasing.core;
      advice = s.releasing.advice ∙ sym (ap Some e2);
      stated = e2 ∙ s.releasing.stated;
      gives = ap (λ (a : Advice). a.keep) e2 ∙ s.releasing.gives;
      frees = e4 ∙ ap (λ (l : List Free). l ++ free ∷ []) s.releasing.frees;
      left = ap charges_left e3 ∙ sym (ap (λ (m : ℕ). drop m (charges_in h.event)) n ∙ more.1);
      paid = map-append (λ (f : Free). f.bytes) h.frees (free ∷ []) ∙ ap (λ (l : List ℕ). l ++ free.bytes ∷ []) s.releasing.paid ∙ ap (λ (b : ℕ). map amount (take (length h.frees) (charges_in h.event)) ++ b ∷ []) (eb ∙ sym s.bytes_are)
          ∙ sym (ap (λ (m : ℕ). map amount (take m (charges_in h.event))) n ∙ ap (map amount) more.0 ∙ map-append amount (take (length h.frees) (charges_in h.event)) (s.charge ∷ []));
    }

module _ {H K C : Type 0} {gh : HandlerGhosts H} {gk : SinkGhosts K} {gc : ChargeGhosts C} (amount stamp : C → ℕ) (stated : H → Handler) where
  -- behind a turn for an event in hand
  pub stands_behind : (x : AtWork C) (w w' : Worker H K C gh gk gc) (h : Hand C) (turn : WorkTurn C) → x.hand ≡ Some h → w'.calm ≡ true → w'.scribe.handler ≡ w.scribe.handler
      → Worked amount stamp (stated w.scribe.handler) h w'.work turn → w'.scribe.served ≡ x.served ++ h.core ∷ []
      → IsWork amount (stated w.scribe.handler) x.hand turn × Stands amount stamp stated (behind (stated w.scribe.handler) x turn) w'
  stands_behind x w w' h turn eh ec ehd s el = (
    subst (λ (o : Option (Hand C)). IsWork amount (stated w.scribe.handler) o turn) (sym eh) s.is_work,
    record {
      calm = ec;
      hand = subst (λ (hd : H). HasInHand amount stamp (stated hd) (hand_behind (stated w.scribe.handler) x.hand turn) w'.work) (sym ehd)
          (subst (λ (o : Option (Hand C)). HasInHand amount stamp (stated w.scribe.handler) (hand_behind (stated w.scribe.handler) o turn) w'.work) (sym eh) s.hand);
      served = el ∙ list_behind amount (stated w.scribe.handler) h x.served turn s.is_work ∙ ap (λ (o : Option (Hand C)). served_behind x.served turn ++ told_of (hand_behind (stated w.scribe.handler) o turn)) (sym eh);
    },
  )

  -- behind a further turn for it
  pub stands_on : (x : AtWork C) (w w' : Worker H K C gh gk gc) (r : Release C) (turn : WorkTurn C) → Stands amount stamp stated x w → w.work ≡ Releases r → w'.calm ≡ true → w'.scribe ≡ w.scribe
      → ((h : Hand C) → IsReleasing amount (stated w.scribe.handler) h r [] → Worked amount stamp (stated w.scribe.handler) h w'.work turn)
      → IsWork amount (stated w.scribe.handler) x.hand turn × Stands amount stamp stated (behind (stated w.scribe.handler) x turn) w'
  stands_on x w w' r turn s ew ec es t =
      let there : (h : Hand C) × (x.hand ≡ Some h) × IsReleasing amount (stated w.scribe.handler) h r [] = releasing_of amount stamp (stated w.scribe.handler) x.hand r (subst (λ (k : Work C). HasInHand amount stamp (stated w.scribe.handler) x.hand k) ew s.hand) in
      let told : told_of x.hand ≡ there.0.core ∷ [] = ap told_of there.1 ∙ ap (λ (o : Option Advice). cond (is_some o) (there.0.core ∷ []) []) there.2.advice in
      stands_behind x w w' there.0 turn there.1 ec (ap (λ (sc : Scribe H K). sc.handler) es) (t there.0 there.2) (ap (λ (sc : Scribe H K). sc.served) es ∙ s.served ∙ ap (λ (l : List ℕ). x.served ++ l) told)

  -- a release is done
  pub stands_freed : (x : AtWork C) (w w' : Worker H K C gh gk gc) (bytes granted : ℕ) (r r' : Release C) (free : Free) → Stands amount stamp stated x w → w.work ≡ Waits bytes granted r → w'.work ≡ Releases r' → free.bytes ≡ bytes
      → w'.calm ≡ w.calm → w'.scribe ≡ w.scribe → r'.core ≡ r.core → r'.advice ≡ r.advice → r'.left ≡ r.left → r'.frees.items ≡ r.frees.items ++ free ∷ []
      → Stands amount stamp stated (freed free x) w'
  stands_freed x w w' bytes granted r r' free s ew ew' eb ec es e1 e2 e3 e4 =
      let there : (h : Hand C) × (x.hand ≡ Some h) × IsWaiting amount stamp (stated w.scribe.handler) h bytes granted r = waiting_of amount stamp (stated w.scribe.handler) x.hand bytes granted r (subst (λ (k : Work C). HasInHand amount stamp (stated w.scribe.handler) x.hand k) ew s.hand) in
      let hand : HasInHand amount stamp (stated w.scribe.handler) (Some (with_free free there.0)) (Releases r') = releasing_freed amount stamp (stated w.scribe.handler) there.0 bytes granted r r' free there.2 eb e1 e2 e3 e4 in
      record {
        calm = ec ∙ s.calm;
        hand = subst (λ (k : Work C). HasInHand amount stamp (stated w'.scribe.handler) (option_map (with_free free) x.hand) k) (sym ew')
            (subst (λ (sc : Scribe H K). HasInHand amount stamp (stated sc.handler) (option_map (with_free free) x.hand) (Releases r')) (sym es)
            (subst (λ (o : Option (Hand C)). HasInHand amount stamp (stated w.scribe.handler) (option_map (with_free free) o) (Releases r')) (sym there.1) hand));
        served = ap (λ (sc : Scribe H K). sc.served) es ∙ s.served ∙ ap (λ (l : List ℕ). x.served ++ l) (ap told_of there.1 ∙ sym (ap (λ (o : Option (Hand C)). told_of (option_map (with_free free) o)) there.1));
      }

  -- the line is due until it was told
  pub line_loaded : (x : AtWork C) (w : Worker H K C gh gk gc) (core : ℕ) (e : Event C) → Stands amount stamp stated x w → w.work ≡ Loaded core e → line_due x.hand ≡ event_line (conv_of e) (seen_in e)
  line_loaded x w core e s ew = ap line_due (loaded_of amount stamp (stated w.scribe.handler) x.hand core e (subst (λ (k : Work C). HasInHand amount stamp (stated w.scribe.handler) x.hand k) ew s.hand))

  pub line_told : (x : AtWork C) (w : Worker H K C gh gk gc) (r : Release C) → Stands amount stamp stated x w → w.work ≡ Releases r → line_due x.hand ≡ []
  line_told x w r s ew =
      let there : (h : Hand C) × (x.hand ≡ Some h) × IsReleasing amount (stated w.scribe.handler) h r [] = releasing_of amount stamp (stated w.scribe.handler) x.hand r (subst (λ (k : Work C). HasInHand amount stamp (stated w.scribe.handler) x.hand k) ew s.hand) in
      ap line_due there.1 ∙ ap (λ (o : Option Advice). unless_told o (event_line (conv_of there.0.event) (seen_in there.0.event))) there.2.advice
