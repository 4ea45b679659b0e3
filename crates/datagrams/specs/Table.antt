-- What is kept of a core: its conversations, and the events that wait for their answers.
use Rattle.std.specs.Prelude.{◌≡◌, ⊤, ℕ, ◌≤◌, Bool, false, ◌==◌, List, [], ◌∷◌, length, drop, map, filter, Option, Some, None}
use Rattle.evring.specs.declared.reason.Reason.TheVariants.{Replaced}
use Rattle.streamkey.specs.declared.key.Key.{Key}
use Rattle.streamdefs.specs.Lists.{Each, is_empty}
use Rattle.streamdefs.specs.Packet.{same_key}
use Rattle.streamdefs.specs.Convo.{Act, Event}
use Rattle.streamdefs.specs.Convo.Act.{End}
use Rattle.streamdefs.specs.Core.{Line, Core, Open, Told}
use Rattle.datagrams.specs.Talk.{Talk, TalksFor}

-- a conversation, live or ended
pub record Kept : Type 0 where
  pub live : Bool
  pub talk : Talk

-- the events of one conversation
abbrev pub own : ℕ → List Told → List Event
own id told = map (λ t. t.event) (filter (λ t. t.conv == id) told)

-- it stands for a conversation of the core; no packet came before the first moment
pub record IsOne (first : ℕ) (waiting : List Told) (k : Kept) (o : Open) : Type 0 where
  pub id : o.id ≡ k.talk.id
  pub talks : TalksFor k.live k.talk o.convo
  pub begun : is_empty o.convo.events ≡ false
  pub clock : first ≤ o.convo.clock
  pub answered : o.convo.answered ≤ length o.convo.events
  pub unanswered : drop o.convo.answered o.convo.events ≡ own o.id waiting

-- all of them, in order
abbrev pub AllStand : ℕ → List Told → List Kept → List Open → Type 0
AllStand first waiting [] [] = ⊤
AllStand first waiting [] (o ∷ os) = ⊥
AllStand first waiting (k ∷ ks) [] = ⊥
AllStand first waiting (k ∷ ks) (o ∷ os) = IsOne first waiting k o × AllStand first waiting ks os

-- the last entry is no End of `replaced`
abbrev pub IsCalm : Option Line → Type 0
IsCalm None = ⊤
IsCalm (Some line) = calm line.act
  where
    calm : Act → Type 0
    calm (End at Replaced looks frees) = ⊥
    calm _ = ⊤

-- it stands for the core
pub record StandsForCore (first : ℕ) (table : List Kept) (waiting : List Told) (finished : Option ℕ) (core : Core) : Type 0 where
  pub all : AllStand first waiting table core.convos
  pub unanswered : drop core.answered core.events ≡ waiting
  pub answered : core.answered ≤ length core.events
  pub owed : core.owed ≡ None
  pub calm : IsCalm core.last
  pub timed : core.timed ≡ 0
  pub finished_is : core.finished ≡ finished

-- none of these has that number
abbrev pub HasNoId : ℕ → List Kept → Type 0
HasNoId id ks = Each (λ k. (k.talk.id == id) ≡ false) ks

-- none of these has that key
abbrev pub HasNoKey : Key → List Kept → Type 0
HasNoKey key ks = Each (λ k. same_key k.talk.key key ≡ false) ks

-- a conversation's events
abbrev pub told_of : ℕ → List Event → List Told
told_of conv events = map (λ event. record { conv = conv; event = event }) events
