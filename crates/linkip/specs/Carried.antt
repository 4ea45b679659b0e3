use Rattle.std.specs.Prelude.{◌≤◌, ℕ, nat_eq, ◌||◌, Bool, List, length}
use Rattle.streamkey.specs.declared.addr.Addr.{Addr}

-- docs/FORMATS.md, "Headers", has the rules of our own that are named in this folder.

-- what a frame carries: a packet of the internet protocol with TCP or UDP, with its protocol, its addresses, the length
-- that it declares for its body, and what was captured of that; or a fragment; or something else; or too few bytes
pub data Carried : Type 0 where
  Ip : (proto : ℕ) (source target : Addr) (declared : ℕ) (body : List ℕ) → Carried
  Fragment : Carried
  Other : Carried
  Short : Carried

-- the numbers of TCP (RFC 9293) and UDP (RFC 768)
abbrev pub is_transport : ℕ → Bool
is_transport proto = nat_eq proto 6 || nat_eq proto 17

-- what was captured of a body is no longer than what is declared for it
abbrev pub IsWithinDeclared : Carried → Type 0
IsWithinDeclared (Ip proto source target declared body) = length body ≤ declared
IsWithinDeclared Fragment = Unit {0}
IsWithinDeclared Other = Unit {0}
IsWithinDeclared Short = Unit {0}
