-- A journal, read with the packets that its entries name.
use Rattle.std.specs.Prelude.{ℕ, ◌==◌, List, [], ◌∷◌, map, filter, find, unwrap_or, suc, zero}
use Rattle.histbook.specs.declared.entry.Entry.{Entry}
use Rattle.histbook.specs.declared.entry.Entry.TheVariants as E
use Rattle.histbook.specs.declared.core_entry.CoreEntry.{CoreEntry}
use Rattle.histbook.specs.declared.journal.Journal.{Journal}
use Rattle.streamdefs.specs.Packet.{Packet, no_packet}
use Rattle.streamdefs.specs.Terms.{Terms}
use Rattle.streamdefs.specs.Convo.{Act}
use Rattle.streamdefs.specs.Convo.Act.{Seg, Answer, Time, End}
use Rattle.streamdefs.specs.Core.{Line}
use Rattle.streamdefs.specs.Lawful.{Run, Handler}

-- the packet of a number; none is `no_packet`, whose number no accepted packet has
abbrev pub packet_of : List Packet → ℕ → Packet
packet_of packets number = unwrap_or (find (λ p. p.number == number) packets) no_packet

-- an entry with its packet
abbrev pub act_of : List Packet → Entry → Act
act_of packets (E.Seg packet now looks frees) = Seg (packet_of packets packet) now looks frees
act_of packets (E.Answer event advice frees) = Answer event advice frees
act_of packets (E.Time at looks frees) = Time at looks frees
act_of packets (E.End at reason looks frees) = End at reason looks frees

-- the same, with its conversation
abbrev pub line_of : List Packet → CoreEntry → Line
line_of packets entry = record { conv = entry.conv; act = act_of packets entry.entry }

-- as many numbers, from one on
abbrev pub numbers : ℕ → ℕ → List ℕ
numbers from zero = []
numbers from (suc n) = from ∷ numbers (suc from) n

-- the run that a journal tells of: accepted packets and the core of each, the number of cores, the last clock, and the
-- handlers, one for each worker
abbrev pub run_of : Terms → List Packet → (Packet → ℕ) → ℕ → ℕ → List Handler → Journal → Run
run_of terms packets core_of cores last handlers journal = record {
  terms = terms;
  last = last;
  arrivals = map (λ core. filter (λ p. core_of p == core) packets) (numbers 0 cores);
  books = map (map (line_of packets)) journal.cores;
  served = journal.workers;
  handlers = handlers;
}
