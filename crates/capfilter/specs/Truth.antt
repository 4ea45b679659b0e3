use Rattle.std.specs.Prelude.{ℕ, ◌-◌, ◌/◌, ◌^◌, Bool, true, false, ◌&&◌, ◌||◌, not, List, [], ◌∷◌, nat_eq, nat_le, if◌then◌else◌}
use Rattle.std.specs.Str.{bytes_eq}
use Rattle.streamkey.specs.declared.addr.Addr.{Addr}
use Rattle.streamkey.specs.declared.addr.Addr.TheVariants.{V4, V6}
use Rattle.streamkey.specs.declared.proto.Proto.{Proto}
use Rattle.streamkey.specs.declared.proto.Proto.TheVariants as protos
use Rattle.streamkey.specs.declared.end.End.{End}
use Rattle.streamkey.specs.KeyParts.{KeyParts}
use Rattle.streamkey.specs.declared.toward.Toward.{Toward}
use Rattle.streamkey.specs.Key.{source_of, target_of}
use Rattle.capfilter.specs.declared.end_test.EndTest.{EndTest}
use Rattle.capfilter.specs.declared.end_test.EndTest.TheVariants.{Host, Net, Port}
use Rattle.capfilter.specs.declared.prim.Side.{Side}
use Rattle.capfilter.specs.declared.prim.Side.TheVariants.{Either, Source, Target}
use Rattle.capfilter.specs.declared.prim.Primitive.{Primitive}
use Rattle.capfilter.specs.declared.prim.Primitive.TheVariants.{Tcp, Udp, Ip, Ip6, OfEnd}
use Rattle.capfilter.specs.Expr.{Expr, Test, Not, And, Or}

-- What an expression says of a packet: docs/RULES.md, "Filters".

-- the first n bits of two lists of bytes are the same: whole bytes, and then the high bits of one
abbrev pub agree : ℕ → List ℕ → List ℕ → Bool
agree n [] bs = true
agree n (a ∷ more) [] = true
agree n (a ∷ more) (b ∷ bs) =
    if nat_le 8 n then nat_eq a b && agree (n - 8) more bs
    else nat_eq (a / 2 ^ (8 - n)) (b / 2 ^ (8 - n))

abbrev pub is_version_4 : Addr → Bool
is_version_4 (V4 bytes) = true
is_version_4 (V6 bytes) = false

abbrev pub same_address : Addr → Addr → Bool
same_address (V4 a) (V4 b) = bytes_eq a b
same_address (V4 a) (V6 b) = false
same_address (V6 a) (V4 b) = false
same_address (V6 a) (V6 b) = bytes_eq a b

-- an address is in a net where the version and the first bits agree
abbrev pub in_net : Addr → ℕ → Addr → Bool
in_net (V4 a) n (V4 b) = agree n a b
in_net (V4 a) n (V6 b) = false
in_net (V6 a) n (V4 b) = false
in_net (V6 a) n (V6 b) = agree n a b

abbrev pub holds_at : EndTest → End → Bool
holds_at (Host address) end = same_address address end.addr
holds_at (Net address n) end = in_net address n end.addr
holds_at (Port port) end = nat_eq port end.port

-- of the source, of the target, or of one of the two
abbrev pub holds_on : Side → EndTest → End → End → Bool
holds_on Either t source target = holds_at t source || holds_at t target
holds_on Source t source target = holds_at t source
holds_on Target t source target = holds_at t target

abbrev pub is_tcp : Proto → Bool
is_tcp protos.Tcp = true
is_tcp protos.Udp = false

abbrev pub prim_holds : Primitive → KeyParts → Toward → Bool
prim_holds Tcp key toward = is_tcp key.proto
prim_holds Udp key toward = not (is_tcp key.proto)
prim_holds Ip key toward = is_version_4 (source_of key toward).addr
prim_holds Ip6 key toward = not (is_version_4 (source_of key toward).addr)
prim_holds (OfEnd side t) key toward = holds_on side t (source_of key toward) (target_of key toward)

abbrev pub truth : Expr → KeyParts → Toward → Bool
truth (Test prim) key toward = prim_holds prim key toward
truth (Not inner) key toward = not (truth inner key toward)
truth (And left right) key toward = truth left key toward && truth right key toward
truth (Or left right) key toward = truth left key toward || truth right key toward
