-- Cutoffs, marks and the End that is due, by what is kept.
use Rattle.std.proofs.Common.{◌≡◌, refl, sym, ◌∙◌, ap, ℕ, [], ◌∷◌, Option, Some, None, unwrap_or}
use Rattle.prio_budget.specs.Marks.{mark_of}
use Rattle.convo.specs.declared.convo_set.ConvoSet.{ConvoSet}
use Rattle.cutclass.specs.declared.cut.Cut.{Cut}
use Rattle.cutclass.specs.InForce.{first_set}
use Rattle.evring.specs.declared.way.Way.{Way}
use Rattle.evring.specs.declared.way.Way.TheVariants.{Fore, Back}
use Rattle.evring.specs.declared.reason.Reason.{Reason}
use Rattle.streamdefs.specs.Both.{Both, of_way}
use Rattle.streamdefs.specs.Marks.{mark}
use Rattle.streamdefs.specs.Terms.{Terms}
use Rattle.streamdefs.specs.View.{Ask as Request}
use Rattle.streamdefs.specs.Direction.{Direction}
use Rattle.streamdefs.specs.Convo.{Convo as Made, cutoff_in_force, class_cutoff, class_of, is_done, closing, mark_for, priority_in_force, class_priority}
use Rattle.convo.specs.Talk.{Talk, SetsUp}
use Rattle.convo.specs.Standing.{HasOrigin, IsPlain, cutoff_by, done_by, closing_by, done_of, own_of}
use Rattle.convo.specs.declared.origin.Origin.{Origin}
use Rattle.convo.specs.declared.talk.Convo.{Convo}

pub cutoff_is : (t : Terms) (set : ConvoSet) (origin : Origin) (own : Both Cut) (c : Made) (way : Way) → SetsUp set t → HasOrigin t origin c.first → c.own ≡ own
    → cutoff_in_force t c way ≡ cutoff_by (of_way way own) origin.cut set.cutoffs way
cutoff_is t set origin own c Fore s f o =
    ap (λ own. first_set (own.fore ∷ class_cutoff (class_of t c) ∷ t.cutoffs.fore ∷ t.default ∷ [])) o
    ∙ ap (λ cut. first_set (own.fore ∷ cut ∷ t.cutoffs.fore ∷ t.default ∷ [])) f.cut
    ∙ ap (λ cs. first_set (own.fore ∷ origin.cut ∷ cs.fore ∷ t.default ∷ [])) s.cutoffs
    ∙ ap (λ cut. first_set (own.fore ∷ origin.cut ∷ set.cutoffs.fore ∷ cut ∷ [])) s.default
cutoff_is t set origin own c Back s f o =
    ap (λ own. first_set (own.back ∷ class_cutoff (class_of t c) ∷ t.cutoffs.back ∷ t.default ∷ [])) o
    ∙ ap (λ cut. first_set (own.back ∷ cut ∷ t.cutoffs.back ∷ t.default ∷ [])) f.cut
    ∙ ap (λ cs. first_set (own.back ∷ origin.cut ∷ cs.back ∷ t.default ∷ [])) s.cutoffs
    ∙ ap (λ cut. first_set (own.back ∷ origin.cut ∷ set.cutoffs.back ∷ cut ∷ [])) s.default

pub mark_is : (t : Terms) (set : ConvoSet) (k : Talk) (origin : Origin) (own : Both Cut) (advised : Option ℕ) (clock : ℕ) (ended : Option Reason) (owed : Option (Reason × ℕ)) (request : Request)
    → SetsUp set t → IsPlain t origin own advised clock ended owed k
    → mark_of set.marks (unwrap_or advised origin.priority) ≡ mark_for t k.convo request
mark_is t set k origin own advised clock ended owed request s h =
    sym (ap (λ m. mark m (priority_in_force t k.convo)) s.marks
    ∙ ap (λ a. mark_of set.marks (unwrap_or a (priority k.convo))) h.advised_is
    ∙ ap (λ p. mark_of set.marks (unwrap_or advised p)) h.origin_is.priority)
  where
    priority : Made → ℕ
    priority c = class_priority (class_of t c)

done_is_by : (t : Terms) (c : Made) (way : Way) → is_done t c way ≡ done_by (of_way way c.directions).fin (of_way way c.directions).view.front (cutoff_in_force t c way)
done_is_by t c way =
    let d : Direction = of_way way c.directions in
    elim d.fin as (λ f. d.fin ≡ f → is_done t c way ≡ done_by f d.view.front (cutoff_in_force t c way)) [
      | None ↦ λ h. rw h refl
      | Some fin ↦ λ h. elim (cutoff_in_force t c way) as (λ cut. cutoff_in_force t c way ≡ cut → is_done t c way ≡ done_by (Some fin) d.view.front cut) [
        | None ↦ λ g. rw (h, g) refl
        | Some cut ↦ λ g. rw (h, g) refl
      ] refl
    ] refl

pub done_is : {C : Type 0} (t : Terms) (set : ConvoSet) (x : Convo C) (c : Made) (way : Way) → SetsUp set t → HasOrigin t x.origin c.first → c.own ≡ own_of x
    → is_done t c way ≡ done_of x set way (of_way way c.directions)
done_is t set x c way s f o = done_is_by t c way ∙ ap (λ cut. done_by (of_way way c.directions).fin (of_way way c.directions).view.front cut) (cutoff_is t set x.origin (own_of x) c way s f o)

pub closing_is : {C : Type 0} (t : Terms) (set : ConvoSet) (x : Convo C) (c : Made) (moment : ℕ) → SetsUp set t → HasOrigin t x.origin c.first → c.own ≡ own_of x
    → closing t c moment ≡ closing_by (done_of x set Fore c.directions.fore) (done_of x set Back c.directions.back) moment
closing_is t set x c moment s f o =
    ap (λ b. closing_by b (is_done t c Back) moment) (done_is t set x c Fore s f o)
    ∙ ap (λ b. closing_by (done_of x set Fore c.directions.fore) b moment) (done_is t set x c Back s f o)
