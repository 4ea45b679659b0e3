-- What is kept of a conversation of datagrams.
use Rattle.std.specs.Prelude.{◌≡◌, ℕ, Bool, false, cond, [], None}
use Rattle.evring.specs.declared.way.Way.{Way}
use Rattle.evring.specs.declared.way.Way.TheVariants.{Fore, Back}
use Rattle.streamkey.specs.declared.key.Key.{Key}
use Rattle.streamkey.specs.declared.toward.Toward.{Toward}
use Rattle.streamdefs.specs.Both.{both}
use Rattle.streamdefs.specs.Packet.{Packet, is_tcp, same_toward}
use Rattle.cutclass.specs.declared.cut.Cut.TheVariants.{Unset}
use Rattle.streamdefs.specs.Convo.{Convo, Event, is_live}
use Rattle.streamdefs.specs.Convo.Event.{Chunk}
use Rattle.datagrams.specs.Flow.{Flow, OpenChunk, StandsFor, dry, piece_for}

-- its number, its key, the way of its first packet, and what is kept of both directions
pub record Talk : Type 0 where
  pub id : ℕ
  pub key : Key
  pub toward : Toward
  pub fore : Flow
  pub back : Flow

abbrev pub flow_of : Way → Talk → Flow
flow_of Fore k = k.fore
flow_of Back k = k.back

abbrev pub with_flow : Way → Flow → Talk → Talk
with_flow Fore f k = record k { fore = f }
with_flow Back f k = record k { back = f }

-- the direction of a packet
abbrev pub way_in : Talk → Packet → Way
way_in k p = cond (same_toward k.toward p.toward) Fore Back

-- a chunk that is handed over
abbrev pub delivered : Way → OpenChunk → Event
delivered way o = Chunk (record { way = way; piece = piece_for o; kept = [] })

-- it stands for that conversation, live or ended
pub record TalksFor (alive : Bool) (k : Talk) (c : Convo) : Type 0 where
  pub key : c.first.key ≡ k.key
  pub udp : is_tcp c.first ≡ false
  pub toward : c.first.toward ≡ k.toward
  pub fore : StandsFor k.fore c.directions.fore
  pub back : StandsFor k.back c.directions.back
  pub own : c.own ≡ both Unset
  pub advised : c.advised ≡ None
  pub kept : c.kept ≡ both []
  pub alive_is : is_live c ≡ alive

-- what is kept of a conversation before its first datagram
abbrev pub new_talk : Packet → Talk
new_talk p = record { id = p.number; key = p.key; toward = p.toward; fore = dry; back = dry }

-- what is kept of a conversation that has ended
abbrev pub ended : Talk → Talk
ended k = record k { fore = record k.fore { chunk = None }; back = record k.back { chunk = None } }
