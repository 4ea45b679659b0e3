use Rattle.std.proofs.Common.{◌≡◌, ℕ, ◌+◌, ◌<◌, List, length, take}
use Rattle.streamdefs.specs.Lists.{Each}
use Rattle.streamdefs.specs.Packet.{Packet}
use Rattle.streamdefs.specs.Terms.{Terms}
use Rattle.datagrams.specs.Stands.{IsShut, Stands}
use Rattle.datagrams.proofs.course.end_each.Given as goal

abbrev pub invariant-loop-place : goal.invariant-loop-place
invariant-loop-place l = record {
  as_many : length l.replay.table ≡ length l.fn.replay.table;
  shut : Each IsShut (take l.place l.replay.table);
  stands : (t : Terms) (first : ℕ) (packets done : List Packet) → Stands t l.last first packets done 0 l.fn.replay → l.last < first + t.idle
      → Stands t l.last first packets done l.place l.replay;
}
