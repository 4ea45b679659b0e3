use Rattle.std.specs.Prelude.{[], ◌∷◌}
use Rattle.streamkey.specs.declared.addr.Addr.TheVariants.{V4}
use Rattle.streamkey.specs.declared.proto.Proto.TheVariants.{Tcp}
use Rattle.streamkey.specs.declared.end.End.{End}
use Rattle.streamkey.specs.declared.key.Key.{Key}

-- Ends written out by hand.

-- 10.0.0.1:40000
abbrev pub client : End
client = record { addr = V4 (10 ∷ 0 ∷ 0 ∷ 1 ∷ []); port = 40000 }

-- 10.0.0.2:80
abbrev pub server : End
server = record { addr = V4 (10 ∷ 0 ∷ 0 ∷ 2 ∷ []); port = 80 }

-- their key
abbrev pub pair : Key
pair = record { proto = Tcp; low = client; high = server }
