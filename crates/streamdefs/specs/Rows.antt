-- Short forms for small journals that are written out by hand.
use Rattle.std.specs.Prelude.{ℕ, true, false, cond, nat_lt, List, [], ◌∷◌, None, map, length}
use Rattle.prio_budget.specs.declared.free.Free.{Free}
use Rattle.evring.specs.Advice.{no_advice}
use Rattle.evring.specs.declared.advice.Advice.{Advice}
use Rattle.evring.specs.declared.way.Way.{Way}
use Rattle.histbook.specs.declared.look_entry.LookEntry.{LookEntry}
use Rattle.streamkey.specs.declared.addr.Addr.TheVariants.{V4}
use Rattle.streamkey.specs.declared.end.End.{End}
use Rattle.streamkey.specs.declared.key.Key.{Key}
use Rattle.streamkey.specs.declared.proto.Proto.{Proto}
use Rattle.streamkey.specs.declared.proto.Proto.TheVariants.{Tcp, Udp}
use Rattle.streamkey.specs.declared.toward.Toward.TheVariants.{Up, Down}
use Rattle.streamdefs.specs.Both.{both}
use Rattle.streamdefs.specs.Packet.{Packet}
use Rattle.cutclass.specs.declared.cut.Cut.TheVariants as cuts
use Rattle.overpolicy.specs.declared.mode.Mode.TheVariants as modes
use Rattle.overpolicy.specs.declared.policy.Policy.TheVariants as policies
use Rattle.streamdefs.specs.Terms.{Terms}
use Rattle.streamdefs.specs.Direction.{Counts}
use Rattle.streamdefs.specs.Convo.{Act, new_convo, along, asks, released, counts_in, Seen, seen_of, events_in}
use Rattle.streamdefs.specs.Convo.Seen.{Created, Data, Over}
use Rattle.streamdefs.specs.Core.{Line}
use Rattle.streamdefs.specs.Lawful.{Handler, Run}

-- the settings of an empty settings text
abbrev pub defaults : Terms
defaults = record {
  mode = modes.Strict;
  policy = policies.First;
  chunk = 16384;
  overlap = 0;
  flush = 0;
  hole = 1000000000;
  reorder = 262144;
  idle = 300000000000;
  default = cuts.Unset;
  cutoffs = both cuts.Unset;
  class = λ key toward. None;
  marks = record { limit = 67108864; base = 33554432; priorities = 1 };
}

-- the same with one mark, at the limit
abbrev pub limited : ℕ → Terms
limited limit = record defaults { marks = record { limit = limit; base = limit; priorities = 1 } }

-- a granted look: bytes asked, stamp, found
abbrev pub got : ℕ → ℕ → ℕ → LookEntry
got asked stamp found = record { asked = asked; granted = true; look = record { stamp = stamp; found = found } }

-- a refused look: bytes asked, stamp, found
abbrev pub past : ℕ → ℕ → ℕ → LookEntry
past asked stamp found = record { asked = asked; granted = false; look = record { stamp = stamp; found = found } }

-- a free: bytes, stamp
abbrev pub free : ℕ → ℕ → Free
free bytes stamp = record { stamp = stamp; bytes = bytes }

-- the advice that keeps
abbrev pub keep : Advice
keep = record { keep = true; discard = false; cutoff = None; priority = None }

-- a handler that never advises
abbrev pub silent : Handler
silent conv seen = no_advice

-- a handler that keeps each delivery that starts below a position
abbrev pub keeps_before : ℕ → Handler
keeps_before position conv (Data key way start gap over kept shown) = cond (nat_lt start position) keep no_advice
keeps_before position conv (Created key toward) = no_advice
keeps_before position conv (Over reason) = no_advice

-- an entry of a conversation
abbrev pub line : ℕ → Act → Line
line conv act = record { conv = conv; act = act }

-- an end: 10.0.0.n and a port
abbrev pub end : ℕ → ℕ → End
end n port = record { addr = V4 (10 ∷ 0 ∷ 0 ∷ n ∷ []); port = port }

-- the key of two ends
abbrev pub key_of_ends : Proto → ℕ → ℕ → Key
key_of_ends proto port other = record { proto = proto; low = end 1 port; high = end 2 other }

-- a datagram from 10.0.0.1 port 5000 to 10.0.0.2 port 53
abbrev pub datagram : ℕ → ℕ → List ℕ → Packet
datagram number now payload = record {
  number = number;
  now = now;
  key = key_of_ends Udp 5000 53;
  toward = Up;
  seq = 0;
  flags = 0;
  declared = length payload;
  payload = payload;
}

-- the same from another port
abbrev pub datagram_from : ℕ → ℕ → ℕ → List ℕ → Packet
datagram_from port number now payload = record (datagram number now payload) { key = key_of_ends Udp port 53 }

-- a segment from 10.0.0.1 port 40000 to 10.0.0.2 port 80: number, clock, flags, sequence number, payload
abbrev pub segment : ℕ → ℕ → ℕ → ℕ → List ℕ → Packet
segment number now flags seq payload = record {
  number = number;
  now = now;
  key = key_of_ends Tcp 40000 80;
  toward = Up;
  seq = seq;
  flags = flags;
  declared = length payload;
  payload = payload;
}

-- the same from the other end
abbrev pub answering : Packet → Packet
answering p = record p { toward = Down }

-- what is seen of the events of a history
abbrev pub seen_along : Terms → Packet → List Act → List Seen
seen_along terms first acts = along terms (λ c act. map (seen_of first) (events_in terms c act)) (new_convo first) acts

-- the bytes of its asks
abbrev pub asked_along : Terms → Packet → List Act → List ℕ
asked_along terms first acts = along terms (λ c act. map (λ a. a.bytes) (asks terms c act)) (new_convo first) acts

-- the stamps of the charges that it gives back
abbrev pub stamps_along : Terms → Packet → List Act → List ℕ
stamps_along terms first acts = along terms (λ c act. map (λ a. a.stamp) (released terms c act)) (new_convo first) acts

-- the counts of each entry's bytes in one direction
abbrev pub counts_along : Terms → Packet → Way → List Act → List Counts
counts_along terms first way acts = along terms (λ c act. counts_in terms c way act ∷ []) (new_convo first) acts

-- a run on one core with one worker
abbrev pub run_on_one : Terms → ℕ → Handler → List Packet → List Line → List ℕ → Run
run_on_one terms last handler packets lines served = record {
  terms = terms;
  last = last;
  arrivals = packets ∷ [];
  books = lines ∷ [];
  served = served ∷ [];
  handlers = handler ∷ [];
}
