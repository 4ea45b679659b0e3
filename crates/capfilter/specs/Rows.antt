use Rattle.std.specs.Prelude.{ℕ, List, [], ◌∷◌, codes}
use Rattle.streamkey.specs.declared.addr.Addr.{Addr}
use Rattle.streamkey.specs.declared.addr.Addr.TheVariants.{V4, V6}
use Rattle.streamkey.specs.declared.end.End.{End}
use Rattle.streamkey.specs.declared.proto.Proto.TheVariants as protos
use Rattle.streamkey.specs.KeyParts.{KeyParts}
use Rattle.capfilter.specs.declared.end_test.EndTest.TheVariants.{Port}
use Rattle.capfilter.specs.declared.filter_error.FilterKind.{FilterKind}
use Rattle.capfilter.specs.declared.filter_error.FilterFault.{FilterFault}
use Rattle.capfilter.specs.declared.prim.Side.TheVariants.{Either}
use Rattle.capfilter.specs.declared.prim.Primitive.TheVariants.{Tcp, Udp, OfEnd}
use Rattle.capfilter.specs.Expr.{Expr, Test, And, Or}

-- Texts, trees and packets written out by hand.

-- tcp or udp and port 53
abbrev pub dns_text : List ℕ
dns_text = codes "tcp or udp and port 53"

abbrev pub dns : Expr
dns = And (Or (Test Tcp) (Test Udp)) (Test (OfEnd Either (Port 53)))

-- from 10.0.0.1:40000 to 10.0.0.2, over TCP
abbrev pub client : End
client = record { addr = V4 (10 ∷ 0 ∷ 0 ∷ 1 ∷ []); port = 40000 }

abbrev pub tcp_to : ℕ → KeyParts
tcp_to port = record { proto = protos.Tcp; low = client; high = record { addr = V4 (10 ∷ 0 ∷ 0 ∷ 2 ∷ []); port = port } }

abbrev pub fault : ℕ → FilterKind → FilterFault
fault at kind = record { at = at; kind = kind }

-- 2001:db8::1
abbrev pub documentation : Addr
documentation = V6 (32 ∷ 1 ∷ 13 ∷ 184 ∷ 0 ∷ 0 ∷ 0 ∷ 0 ∷ 0 ∷ 0 ∷ 0 ∷ 0 ∷ 0 ∷ 0 ∷ 0 ∷ 1 ∷ [])
