-- What an entry does to a direction and to a conversation of datagrams, by what is kept of them.
use Rattle.std.specs.Prelude.{◌≡◌, ℕ, ◌-◌, true, false, List, [], map, None}
use Rattle.streamdefs.specs.Terms.{Terms}
use Rattle.streamdefs.specs.View.{Ask}
use Rattle.streamdefs.specs.Direction.{Direction, Deed, Counts, asks_by, pieces_by, spares_by, counts_by, direction_after}
use Rattle.streamdefs.specs.Direction.Kind.{Datagrams}
use Rattle.streamdefs.specs.Convo.{Act, Convo, Event, asks, events_in, released, ending, after}
use Rattle.datagrams.specs.Flow.{Flow, OpenChunk, StandsFor, piece_for, plain}
use Rattle.datagrams.specs.Talk.{Talk, TalksFor}

-- the counts of a datagram: so many bytes taken, and the others shed
abbrev pub taken_of : (payload taken : ℕ) → Counts
taken_of payload taken = record { duplicate = 0; late = 0; cut = 0; taken = taken; shed = payload - taken }

-- What an entry does to a direction that a flow stands for: what it asks for, hands over and counts, and the flow behind it. It
-- gives nothing back.
pub record Does (t : Terms) (d : Direction) (entry : Deed) (asked : List Ask) (over : List OpenChunk) (behind : Flow) (counts : Counts) : Type 0 where
  pub asks : asks_by (plain t) Datagrams d entry ≡ asked
  pub pieces : pieces_by (plain t) Datagrams d entry ≡ map piece_for over
  pub spares : spares_by (plain t) Datagrams d entry ≡ []
  pub stands : StandsFor behind (direction_after (plain t) Datagrams d entry)
  pub counts_are : counts_by Datagrams d entry ≡ counts

-- What a datagram's entry does to a conversation: what it asks, its events, and what is kept behind it. It makes no End due.
pub record DoesOne (t : Terms) (c : Convo) (act : Act) (asked : List Ask) (events : List Event) (behind : Talk) : Type 0 where
  pub asks_are : asks (plain t) c act ≡ asked
  pub events_are : events_in (plain t) c act ≡ events
  pub none_released : released (plain t) c act ≡ []
  pub none_ending : ending (plain t) c act ≡ None
  pub stands : TalksFor true behind (after (plain t) c act)

-- what the End of a live conversation does, at the end of the capture
pub record DoesEnd (t : Terms) (c : Convo) (act : Act) (events : List Event) (behind : Talk) : Type 0 where
  pub asks_are : asks (plain t) c act ≡ []
  pub events_are : events_in (plain t) c act ≡ events
  pub none_released : released (plain t) c act ≡ []
  pub stands : TalksFor false behind (after (plain t) c act)
