-- Which stages an entry has that asks, or gives back.
use Rattle.std.proofs.Common.{◌≡◌, refl, sym, ◌∙◌, ap, subst, ℕ, zero, suc, List, [], ◌∷◌, ◌++◌, map, drop, length, length-append, arith, inl, inr}
use Rattle.prio_budget.specs.declared.free.Free.{Free}
use Rattle.evring.specs.declared.advice.Advice.{Advice}
use Rattle.evring.specs.declared.reason.Reason.{Reason}
use Rattle.histbook.specs.declared.look_entry.LookEntry.{LookEntry}
use Rattle.streamdefs.specs.Terms.{Terms}
use Rattle.streamdefs.specs.Reorder.{Charge}
use Rattle.streamdefs.specs.View.{Ask as Request}
use Rattle.streamdefs.specs.Direction.{gives_at}
use Rattle.streamdefs.specs.Direction.Next.{Asks}
use Rattle.streamdefs.specs.Convo.{Act, answered_event, given_back}
use Rattle.streamdefs.specs.Convo.Act.{Seg, Answer, Time, End}
use Rattle.streamdefs.specs.Want.{want, with_free}
use Rattle.streamdefs.specs.Want.Want.{Reserve, Release}
use Rattle.convo.specs.Going.{charges_going}
use Rattle.convo.specs.Talk.{Talk, IsWantOf, talk_after}
use Rattle.convo.specs.Talk.Phase.{Under}
use Rattle.convo.specs.Standing.{IsResting}
use Rattle.convo.specs.Stands.{Stands}
use Rattle.convo.specs.Endings.{IsEnding, spares_fore, spares_back, unshown_fore, unshown_back}
use Rattle.convo.specs.Endings.IsEnding.{Ends_fore, Leaves_fore, Ends_back, Leaves_back}
use Rattle.convo.specs.Timings.{IsTiming}
use Rattle.convo.specs.Timings.IsTiming.{Times_fore, Times_back}
use Rattle.convo.specs.declared.talk.Convo.{Convo}
use Rattle.convo.specs.declared.stage.Stage.{Stage}
use Rattle.convo.specs.declared.stage.Stage.TheVariants as at
use Rattle.convo.specs.declared.going.Going.{Going}
use Rattle.convo.specs.declared.want.Want.{Want}
use Rattle.convo.proofs.DefSteps.{want_reserve, want_release}
use Rattle.convo.proofs.GivesSteps.{end_move}

no_ask : (xs : List Charge) (n : ℕ) (a : Request) → gives_at xs n ≡ Asks a → ⊥
no_ask [] n a e = cc
no_ask (x ∷ xs) zero a e = cc
no_ask (x ∷ xs) (suc n) a e = no_ask xs n a e

abbrev pub IsAskStage : Stage → Type 0
IsAskStage (at.Segment way now reset) = Unit {0}
IsAskStage (at.Time moment way) = Unit {0}
IsAskStage _ = ⊥

abbrev pub IsFreeStage : Stage → Type 0
IsFreeStage at.Resting = ⊥
IsFreeStage at.Events = ⊥
IsFreeStage _ = Unit {0}

module _ {C : Type 0} (paid : C → Charge) (t : Terms) where
  time_stage : (x : Convo C) (k : Talk) (m : ℕ) (looks : List LookEntry) (given : ℕ) → IsTiming paid t x k m looks given → IsAskStage x.stage × IsFreeStage x.stage
  time_stage x k m looks given (Times_fore moment e st w here a b u) = (subst IsAskStage (sym st) tt, subst IsFreeStage (sym st) tt)
  time_stage x k m looks given (Times_back moment first more back e st l n w here) = (subst IsAskStage (sym st) tt, subst IsFreeStage (sym st) tt)

  end_stage : (x : Convo C) (k : Talk) (m : ℕ) (reason : Reason) (given : ℕ) → IsEnding paid t x k m reason given → IsFreeStage x.stage
  end_stage x k m reason given (Ends_fore moment e st few w) = subst IsFreeStage (sym st) tt
  end_stage x k m reason given (Leaves_fore moment more e st n few w) = subst IsFreeStage (sym st) tt
  end_stage x k m reason given (Ends_back moment more e st n few w) = subst IsFreeStage (sym st) tt
  end_stage x k m reason given (Leaves_back moment more e st n few w) = subst IsFreeStage (sym st) tt

  pub ask_stage : (x : Convo C) (k : Talk) (act : Act) (emitted : ℕ) (request : Request) (mark : ℕ) → Stands paid x t k (Under act emitted) → want t k.convo act emitted ≡ Reserve request mark → IsAskStage x.stage
  ask_stage x k (Seg p now looks frees) emitted request mark (inl w) wants = subst IsAskStage (sym w.2.2) tt
  ask_stage x k (Answer event advice frees) emitted request mark (inl w) wants =
      absurd (no_ask (given_back k.convo advice (answered_event k.convo)) (length frees) request (want_reserve t k.convo (Answer event advice frees) emitted request mark wants))
  ask_stage x k (Time m looks frees) emitted request mark (inl w) wants = (time_stage x k m looks (length frees) w.2).0
  ask_stage x k (End m reason looks frees) emitted request mark (inl w) wants =
      absurd (no_ask ((spares_fore t k.convo m ++ unshown_fore t k.convo m) ++ (spares_back t k.convo m ++ unshown_back t k.convo m)) (length frees) request
      (sym (end_move t k.convo m reason looks frees) ∙ want_reserve t k.convo (End m reason looks frees) emitted request mark wants))
  ask_stage x k act emitted request mark (inr w) wants = let h = want_reserve t k.convo act emitted request mark wants in let m = w.moved in absurd (cc)

  pub free_stage : (x : Convo C) (k : Talk) (act : Act) (emitted : ℕ) (charge : Charge) → Stands paid x t k (Under act emitted) → want t k.convo act emitted ≡ Release charge → IsFreeStage x.stage
  free_stage x k (Seg p now looks frees) emitted charge (inl w) wants = subst IsFreeStage (sym w.2.2) tt
  free_stage x k (Answer event advice frees) emitted charge (inl w) wants = subst IsFreeStage (sym w.2.stage) tt
  free_stage x k (Time m looks frees) emitted charge (inl w) wants = (time_stage x k m looks (length frees) w.2).1
  free_stage x k (End m reason looks frees) emitted charge (inl w) wants = end_stage x k m reason (length frees) w.2
  free_stage x k act emitted charge (inr w) wants = let h = want_release t k.convo act emitted charge wants in let m = w.moved in absurd (cc)

  -- a charge of an answer was given back
  pub freed_answer : (x y : Convo C) (k : Talk) (act : Act) (emitted : ℕ) (free : Free) (out : Want C) → Stands paid x t k (Under act emitted) → x.stage ≡ at.Answered
      → ((event : ℕ) (advice : Advice) (frees : List Free) (spent : Going C) → charges_going spent ≡ [] → IsResting paid t (record x { going = spent; stage = at.Resting }) (talk_after t k (Answer event advice frees))
      → map paid (charges_going x.going) ≡ drop (length frees) (given_back k.convo advice (answered_event k.convo))
      → IsWantOf paid (Stands paid y t) t k (Answer event advice frees) 0 out)
      → IsWantOf paid (Stands paid y t) t k (with_free free act) emitted out
  freed_answer x y k (Seg p now looks frees) emitted free out (inl w) st goes = let e = w.2.2 in absurd (cc)
  freed_answer x y k (Answer event advice frees) emitted free out (inl w) st goes =
      let n : length (frees ++ free ∷ []) ≡ suc (length frees) = omega (arith, length-append frees (free ∷ [])) in
      subst (λ e. IsWantOf paid (Stands paid y t) t k (Answer event advice (frees ++ free ∷ [])) e out) (sym w.1)
      (goes event advice (frees ++ free ∷ []) w.2.spent w.2.is_spent w.2.resting (w.2.going ∙ ap (λ n. drop n (given_back k.convo advice (answered_event k.convo))) (sym n)))
  freed_answer x y k (Time m looks frees) emitted free out (inl w) st goes = absurd (not_answered (subst (λ s. s ≡ x.stage) st refl) m looks (length frees) w.2)
    where
      not_answered : at.Answered ≡ x.stage → (m : ℕ) (looks : List LookEntry) (given : ℕ) → IsTiming paid t x k m looks given → ⊥
      not_answered a m looks given (Times_fore moment e st w here a2 b u) = cc
      not_answered a m looks given (Times_back moment first more back e st l n w here) = cc
  freed_answer x y k (End m reason looks frees) emitted free out (inl w) st goes = absurd (not_answered (subst (λ s. s ≡ x.stage) st refl) m reason (length frees) w.2)
    where
      not_answered : at.Answered ≡ x.stage → (m : ℕ) (reason : Reason) (given : ℕ) → IsEnding paid t x k m reason given → ⊥
      not_answered a m reason given (Ends_fore moment e st few w) = cc
      not_answered a m reason given (Leaves_fore moment more e st n few w) = cc
      not_answered a m reason given (Ends_back moment more e st n few w) = cc
      not_answered a m reason given (Leaves_back moment more e st n few w) = cc
  freed_answer x y k act emitted free out (inr w) st goes = let e = w.left.handing.stage in absurd (cc)
