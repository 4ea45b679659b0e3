use Rattle.std.specs.Prelude.{◌≡◌, length}
use Rattle.streamkey.specs.declared.addr.Addr.{Addr}
use Rattle.streamkey.specs.declared.addr.Addr.TheVariants.{V4, V6}

-- the bytes of an address: 4 in version 4 (RFC 791), 16 in version 6 (RFC 8200)
abbrev pub HasItsBytes : Addr → Type 0
HasItsBytes (V4 bytes) = length bytes ≡ 4
HasItsBytes (V6 bytes) = length bytes ≡ 16
