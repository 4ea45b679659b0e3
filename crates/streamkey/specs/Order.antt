use Rattle.std.specs.Prelude.{ℕ, nat_lt, nat_eq, Bool, List, [], ◌∷◌, if◌then◌else◌}
use Rattle.std.specs.declared.cmp.Ordering.{Ordering}
use Rattle.std.specs.declared.cmp.Ordering.TheVariants.{Less, Equal, Greater}
use Rattle.std.specs.Ordering.{ordering_then, is_lt}
use Rattle.streamkey.specs.declared.addr.Addr.{Addr}
use Rattle.streamkey.specs.declared.addr.Addr.TheVariants.{V4, V6}
use Rattle.streamkey.specs.declared.proto.Proto.{Proto}
use Rattle.streamkey.specs.declared.proto.Proto.TheVariants.{Tcp, Udp}
use Rattle.streamkey.specs.declared.end.End.{End}
use Rattle.streamkey.specs.KeyParts.{KeyParts}

-- the order of numbers
abbrev pub number_order : ℕ → ℕ → Ordering
number_order x y = if nat_lt x y then Less else if nat_eq x y then Equal else Greater

-- the order of lists of bytes: the first place where they differ decides, and a list comes before those that go on behind it
abbrev pub bytes_order : List ℕ → List ℕ → Ordering
bytes_order [] [] = Equal
bytes_order [] (y ∷ ys) = Less
bytes_order (x ∷ xs) [] = Greater
bytes_order (x ∷ xs) (y ∷ ys) = ordering_then (number_order x y) (bytes_order xs ys)

-- the order of addresses: version 4 before version 6, then by the bytes
abbrev pub addr_order : Addr → Addr → Ordering
addr_order (V4 a) (V4 b) = bytes_order a b
addr_order (V4 a) (V6 b) = Less
addr_order (V6 a) (V4 b) = Greater
addr_order (V6 a) (V6 b) = bytes_order a b

-- the order of ends: by the address, then by the port
abbrev pub end_order : End → End → Ordering
end_order a b = ordering_then (addr_order a.addr b.addr) (number_order a.port b.port)

-- the order of protocols: TCP before UDP
abbrev pub proto_order : Proto → Proto → Ordering
proto_order Tcp Tcp = Equal
proto_order Tcp Udp = Less
proto_order Udp Tcp = Greater
proto_order Udp Udp = Equal

-- the order of keys: by the protocol, then by the low end, then by the high one
abbrev pub key_order : KeyParts → KeyParts → Ordering
key_order a b = ordering_then (proto_order a.proto b.proto) (ordering_then (end_order a.low b.low) (end_order a.high b.high))

-- whether an end comes before another
abbrev pub end_before : End → End → Bool
end_before a b = is_lt (end_order a b)
