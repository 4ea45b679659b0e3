use Rattle.std.specs.Prelude.{ℕ, ◌-◌, nat_eq, nat_lt, ◌&&◌, ◌||◌, not, Bool, List, length, take, drop, if◌then◌else◌}
use Rattle.streamkey.specs.declared.addr.Addr.{Addr}
use Rattle.streamkey.specs.declared.proto.Proto.TheVariants.{Udp}
use Rattle.streamkey.specs.Key.{key_of}
use Rattle.linkip.specs.Fields.{short_at}
use Rattle.porthdr.specs.declared.skip.Skip.TheVariants as skip
use Rattle.porthdr.specs.Kind.{Kind, Skipped, accepted, end_at}

-- UDP (RFC 768). A datagram is a header of eight bytes and the payload.

-- the length that the header says of the datagram, itself included
abbrev pub said_length : List ℕ → ℕ
said_length datagram = short_at datagram 4

-- whether no whole header stands there, or one that is said to be longer than the datagram; our "zero says nothing"
unfoldable pub is_short : List ℕ → Bool
is_short datagram = nat_lt (length datagram) 8 || (not (nat_eq (said_length datagram) 0) && nat_lt (said_length datagram) 8)

-- the length of the payload where so many bytes are declared for the datagram (our "zero says nothing" and "no more than
-- declared")
abbrev pub payload_length : ℕ → List ℕ → ℕ
payload_length declared datagram =
    (if nat_eq (said_length datagram) 0 || nat_lt declared (said_length datagram) then declared else said_length datagram) - 8

-- what a body is for which so many bytes are declared
unfoldable pub udp : Addr → Addr → ℕ → List ℕ → Kind
udp source target declared datagram =
    if is_short datagram then Skipped skip.Short else
    accepted (key_of Udp (end_at source datagram 0) (end_at target datagram 2)) 0 0 (payload_length declared datagram)
    (take (payload_length declared datagram) (drop 8 datagram))
