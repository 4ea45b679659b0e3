-- An answer that comes back.
use Rattle.std.specs.Prelude.{◌≡◌, ℕ, suc, ◌<◌, cond, List, [], length, map, drop, Option, Some, None}
use Rattle.evring.specs.declared.advice.Advice.{Advice}
use Rattle.prio_budget.specs.declared.free.Free.{Free}
use Rattle.cutclass.specs.declared.cut.Cut.{Cut}
use Rattle.cutclass.specs.declared.cut.Cut.TheVariants as cuts
use Rattle.streamdefs.specs.Both.{Both, both, with_way}
use Rattle.streamdefs.specs.Lists.{or_else}
use Rattle.streamdefs.specs.Terms.{Terms}
use Rattle.streamdefs.specs.Reorder.{Charge}
use Rattle.streamdefs.specs.Convo.{given_back, answered_event}
use Rattle.streamdefs.specs.Convo.Act.{Answer as AnswerAct}
use Rattle.convo.specs.Going.{charges_going}
use Rattle.convo.specs.Talk.{Talk, talk_after}
use Rattle.convo.specs.Standing.{IsResting, own_of}
use Rattle.convo.specs.declared.going.Going.{Going}
use Rattle.convo.specs.declared.answered_event.AnsweredEvent.{AnsweredEvent}
use Rattle.convo.specs.declared.answered_event.AnsweredEvent.TheVariants as answered
use Rattle.convo.specs.declared.talk.Convo.{Convo}
use Rattle.convo.specs.declared.stage.Stage.TheVariants as at

-- the cutoffs that advice sets, by what it answers
abbrev pub own_by : AnsweredEvent → Advice → Both Cut → Both Cut
own_by of advice own = cond advice.discard (both (cuts.At 0)) (set advice.cutoff of)
  where
    set : Option ℕ → AnsweredEvent → Both Cut
    set None event = own
    set (Some position) answered.New = both (cuts.At position)
    set (Some position) (answered.Chunk way) = with_way way (cuts.At position) own
    set (Some position) answered.Ended = own

-- a conversation with that advice
abbrev pub advised_by : {C : Type 0} → AnsweredEvent → Advice → Convo C → Convo C
advised_by of advice x = record x {
  fore = record x.fore { own = (own_by of advice (own_of x)).fore };
  back = record x.back { own = (own_by of advice (own_of x)).back };
  advised = or_else advice.priority x.advised;
}

-- An answer's charges go back, of which so many did: but for them it rests behind the answer.
pub record IsAnswering {C : Type 0} (paid : C → Charge) (t : Terms) (x : Convo C) (k : Talk) (event : ℕ) (advice : Advice) (frees : List Free) : Type 0 where
  pub spent : Going C
  pub is_spent : charges_going spent ≡ []
  pub resting : IsResting paid t (record x { going = spent; stage = at.Resting }) (talk_after t k (AnswerAct event advice frees))
  pub stage : x.stage ≡ at.Answered
  pub few : length frees < length (given_back k.convo advice (answered_event k.convo))
  pub going : map paid (charges_going x.going) ≡ drop (suc (length frees)) (given_back k.convo advice (answered_event k.convo))
