use Rattle.std.specs.Prelude.{ℕ, List, length, Option, Some, None, Result, Ok, Err, nat_lt, if◌then◌else◌}
use Rattle.hex.specs.declared.error.FromHexError.{FromHexError}
use Rattle.hex.specs.Hex.{decode_of}
use Rattle.textout.specs.Numbers.{number}

-- What the words of a rule stand for: docs/FORMATS.md, "Rules". Zeros may lead.

-- a port has ten digits at most
unfoldable pub port : List ℕ → Option ℕ
port = number 10 10 65535

-- a position has twenty digits at most
unfoldable pub position : List ℕ → Option ℕ
position = number 10 20 18446744073709551615

unfoldable pub priority : List ℕ → Option ℕ
priority = number 10 10 15

abbrev pub decoded : Result (List ℕ) FromHexError → Option (List ℕ)
decoded (Ok bytes) = Some bytes
decoded (Err error) = None

-- bytes by two hexadecimal digits each, of either case, one byte at least
unfoldable pub front : List ℕ → Option (List ℕ)
front w = if nat_lt 0 (length w) then decoded (decode_of w) else None
