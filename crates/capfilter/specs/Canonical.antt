use Rattle.std.specs.Prelude.{ℕ, List, [], ◌++◌, codes}
use Rattle.std.specs.Fmt.{decimal}
use Rattle.streamkey.specs.declared.addr.Addr.{Addr}
use Rattle.streamkey.specs.declared.addr.Addr.TheVariants.{V4, V6}
use Rattle.textout.specs.Addresses.{dotted, grouped}
use Rattle.capfilter.specs.declared.end_test.EndTest.{EndTest}
use Rattle.capfilter.specs.declared.end_test.EndTest.TheVariants.{Host, Net, Port}
use Rattle.capfilter.specs.declared.prim.Side.{Side}
use Rattle.capfilter.specs.declared.prim.Side.TheVariants.{Either, Source, Target}
use Rattle.capfilter.specs.declared.prim.Primitive.{Primitive}
use Rattle.capfilter.specs.declared.prim.Primitive.TheVariants.{Tcp, Udp, Ip, Ip6, OfEnd}
use Rattle.capfilter.specs.Expr.{Expr, Test, Not, And, Or}

-- The one text that an expression is printed as: docs/FORMATS.md, "Filters".

abbrev pub address_text : Addr → List ℕ
address_text (V4 bytes) = dotted bytes
address_text (V6 bytes) = grouped bytes

unfoldable pub test_text : EndTest → List ℕ
test_text (Host address) = codes "host " ++ address_text address
test_text (Net address n) = codes "net " ++ address_text address ++ codes "/" ++ decimal n
test_text (Port port) = codes "port " ++ decimal port

abbrev pub side_text : Side → List ℕ
side_text Either = []
side_text Source = codes "src "
side_text Target = codes "dst "

abbrev pub prim_text : Primitive → List ℕ
prim_text Tcp = codes "tcp"
prim_text Udp = codes "udp"
prim_text Ip = codes "ip"
prim_text Ip6 = codes "ip6"
prim_text (OfEnd side t) = side_text side ++ test_text t

-- a prim's words with one space, `not T`, `(L and R)` and `(L or R)`
abbrev pub canonical : Expr → List ℕ
canonical (Test prim) = prim_text prim
canonical (Not inner) = codes "not " ++ canonical inner
canonical (And left right) = codes "(" ++ (canonical left ++ (codes " and " ++ (canonical right ++ codes ")")))
canonical (Or left right) = codes "(" ++ (canonical left ++ (codes " or " ++ (canonical right ++ codes ")")))
