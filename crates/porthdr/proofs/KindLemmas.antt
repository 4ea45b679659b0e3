use Rattle.std.proofs.Common.{ℕ, ◌-◌, ◌≤◌, nat_eq, Bool, true, false, List, length, take, drop, arith}
use Rattle.std.proofs.lemmas.List.{length-take, length-drop}
use Rattle.std.specs.Prelude.{cond}
use Rattle.streamkey.specs.declared.addr.Addr.{Addr}
use Rattle.linkip.specs.Carried.{Carried, Ip, Fragment, Other, Short, IsWithinDeclared}
use Rattle.porthdr.specs.Kind.{Kind, IsWithin}
use Rattle.porthdr.specs.Tcp.{tcp, is_short as tcp_short, header_length}
use Rattle.porthdr.specs.Udp.{udp, is_short as udp_short, payload_length}
use Rattle.porthdr.specs.Transport.{transport}

-- no more was captured of a payload than is declared for it

cond-within : (b : Bool) (x y : Kind) → IsWithin x → IsWithin y → IsWithin (cond b x y)
cond-within true x y hx hy = hx
cond-within false x y hx hy = hy

length-front : (n : ℕ) (bytes : List ℕ) → length (take n bytes) ≤ n
length-front n bytes = rw length-take (omega arith)

length-back : (n declared : ℕ) (bytes : List ℕ) → length bytes ≤ declared → length (drop n bytes) ≤ declared - n
length-back n declared bytes h = rw length-drop (omega arith)

tcp-within : (source target : Addr) (declared : ℕ) (segment : List ℕ) → length segment ≤ declared → IsWithin (tcp source target declared segment)
unfolding tcp
tcp-within source target declared segment h =
    cond-within (tcp_short segment) _ _ tt (length-back (header_length segment) declared segment h)

udp-within : (source target : Addr) (declared : ℕ) (datagram : List ℕ) → IsWithin (udp source target declared datagram)
unfolding udp
udp-within source target declared datagram =
    cond-within (udp_short datagram) _ _ tt (length-front (payload_length declared datagram) (drop 8 datagram))

pub transport-within : (c : Carried) → IsWithinDeclared c → IsWithin (transport c)
transport-within (Ip proto source target declared body) h =
    cond-within (nat_eq proto 6) _ _ (tcp-within source target declared body h)
    (cond-within (nat_eq proto 17) _ _ (udp-within source target declared body) tt)
transport-within Fragment h = tt
transport-within Other h = tt
transport-within Short h = tt
