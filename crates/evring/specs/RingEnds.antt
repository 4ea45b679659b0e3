-- What contracts see of the two ends of a ring.
use Rattle.std.specs.Prelude.{ℕ, List}
use denote.RawPtr.{Ptr}
use Rattle.rtrb.specs.Shared.{Names}
use Rattle.rtrb.specs.Ring.{sent, known_free, received, known_items}
use Rattle.rtrb.specs.declared.producer.Producer.{Producer}
use Rattle.rtrb.specs.declared.consumer.Consumer.{Consumer}

-- which ring it is: no two rings that are there at one time have the same
pub record RingId (A : Type 0) : Type 0 where
  pub words : Ptr
  pub slots : Ptr
  pub names : Names
  pub heap : A

-- the end that gives: its ring, all that it gave, and how many places it knows to be free
pub record GiverParts (A T : Type 0) : Type 0 where
  pub ring : RingId A
  pub given : List T
  pub free : ℕ

-- the end that takes: its ring, all that it took, and what it knows to wait
pub record TakerParts (A T : Type 0) : Type 0 where
  pub ring : RingId A
  pub taken : List T
  pub known : List T

module _ {T A P : Type 0} where
  abbrev pub giver_parts : Producer T A P → GiverParts A T
  giver_parts p = record {
    ring = record { words = p.end.words; slots = p.end.slots; names = p.end.names; heap = p.end.heap };
    given = sent p;
    free = known_free p;
  }

  abbrev pub taker_parts : Consumer T A P → TakerParts A T
  taker_parts c = record {
    ring = record { words = c.end.words; slots = c.end.slots; names = c.end.names; heap = c.end.heap };
    taken = received c;
    known = known_items c;
  }
