use Rattle.std.specs.Prelude.{◌≤◌, ℕ, List, length}
use Rattle.streamkey.specs.declared.addr.Addr.{Addr}
use Rattle.streamkey.specs.declared.end.End.{End}
use Rattle.streamkey.specs.declared.key.Key.{Key}
use Rattle.streamkey.specs.declared.toward.Toward.{Toward}
use Rattle.linkip.specs.Fields.{short_at}
use Rattle.porthdr.specs.declared.skip.Skip.{Skip}

-- docs/FORMATS.md, "Headers", has the rules of our own that are named in this folder.

-- what a record is: a packet of TCP or UDP, with its key, its way, the sequence number and the control bits of a segment,
-- the length that is declared for its payload, and what was captured of that; or skipped, and why
pub data Kind : Type 0 where
  Accepted : (key : Key) (toward : Toward) (seq flags declared : ℕ) (payload : List ℕ) → Kind
  Skipped : Skip → Kind

abbrev pub accepted : Key × Toward → ℕ → ℕ → ℕ → List ℕ → Kind
accepted of seq flags declared payload = Accepted of.0 of.1 seq flags declared payload

-- the end of an address with the port in the two bytes at a place
abbrev pub end_at : Addr → List ℕ → ℕ → End
end_at addr body at = record { addr = addr; port = short_at body at }

-- what was captured of a payload is no longer than what is declared for it
abbrev pub IsWithin : Kind → Type 0
IsWithin (Accepted key toward seq flags declared payload) = length payload ≤ declared
IsWithin (Skipped skip) = Unit {0}
