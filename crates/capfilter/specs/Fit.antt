use Rattle.std.specs.Prelude.{ℕ, ◌<◌, ◌≤◌, List, [], ◌∷◌}
use Rattle.streamkey.specs.declared.addr.Addr.{Addr}
use Rattle.streamkey.specs.Address.{HasItsBytes}
use Rattle.streamkey.specs.declared.addr.Addr.TheVariants.{V4, V6}
use Rattle.capfilter.specs.declared.end_test.EndTest.{EndTest}
use Rattle.capfilter.specs.declared.end_test.EndTest.TheVariants.{Host, Net, Port}
use Rattle.capfilter.specs.declared.prim.Primitive.{Primitive}
use Rattle.capfilter.specs.declared.prim.Primitive.TheVariants.{Tcp, Udp, Ip, Ip6, OfEnd}
use Rattle.capfilter.specs.Expr.{Expr, Test, Not, And, Or}
use Rattle.capfilter.specs.Ends.{width}

-- Trees whose numbers are in the ranges of their types, as those of filters are.

abbrev pub AreBytes : List ℕ → Type 0
AreBytes [] = Unit {0}
AreBytes (b ∷ bs) = (b < 256) × AreBytes bs

abbrev pub bytes_in : Addr → List ℕ
bytes_in (V4 bytes) = bytes
bytes_in (V6 bytes) = bytes

abbrev pub IsFitAddress : Addr → Type 0
IsFitAddress a = HasItsBytes a × AreBytes (bytes_in a)

abbrev pub IsFitTest : EndTest → Type 0
IsFitTest (Host a) = IsFitAddress a
IsFitTest (Net a n) = IsFitAddress a × (n ≤ width a)
IsFitTest (Port port) = port < 65536

abbrev pub IsFitPrim : Primitive → Type 0
IsFitPrim Tcp = Unit {0}
IsFitPrim Udp = Unit {0}
IsFitPrim Ip = Unit {0}
IsFitPrim Ip6 = Unit {0}
IsFitPrim (OfEnd side t) = IsFitTest t

abbrev pub IsFit : Expr → Type 0
IsFit (Test prim) = IsFitPrim prim
IsFit (Not inner) = IsFit inner
IsFit (And left right) = IsFit left × IsFit right
IsFit (Or left right) = IsFit left × IsFit right
