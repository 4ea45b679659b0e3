use Rattle.std.specs.Prelude.{◌≡◌, false, if◌then◌else◌}
use Rattle.streamkey.specs.declared.proto.Proto.{Proto}
use Rattle.streamkey.specs.declared.end.End.{End}
use Rattle.streamkey.specs.declared.key.Key.{Key}
use Rattle.streamkey.specs.declared.toward.Toward.{Toward}
use Rattle.streamkey.specs.declared.toward.Toward.TheVariants.{Up, Down}
use Rattle.streamkey.specs.Order.{end_before}

-- the key of a packet and its way: the end that comes first is low, and the way is Up where that is the source
abbrev pub key_of : Proto → End → End → Key × Toward
key_of proto source target =
    if end_before target source
    then (record { proto = proto; low = target; high = source }, Down)
    else (record { proto = proto; low = source; high = target }, Up)

-- where packets of a way come from
abbrev pub source_of : Key → Toward → End
source_of key Up = key.low
source_of key Down = key.high

-- where packets of a way go
abbrev pub target_of : Key → Toward → End
target_of key Up = key.high
target_of key Down = key.low

-- the high end does not come before the low one: true of every key
abbrev pub IsOrdered : Key → Type 0
IsOrdered key = end_before key.high key.low ≡ false

-- the other way
abbrev pub opposite : Toward → Toward
opposite Up = Down
opposite Down = Up
