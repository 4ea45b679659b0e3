use Rattle.std.specs.Prelude.{ℕ, nat_eq, List, if◌then◌else◌}
use Rattle.pcapfile.specs.declared.link.Link.{Link}
use Rattle.linkip.specs.Carried.{Carried, Ip, Fragment, Other, Short}
use Rattle.linkip.specs.Frames.{network}
use Rattle.porthdr.specs.declared.skip.Skip.TheVariants as skip
use Rattle.porthdr.specs.Kind.{Kind, Skipped}
use Rattle.porthdr.specs.Tcp.{tcp}
use Rattle.porthdr.specs.Udp.{udp}

-- what a record is by what its frame carries
abbrev pub transport : Carried → Kind
transport (Ip proto source target declared body) =
    if nat_eq proto 6 then tcp source target declared body else
    if nat_eq proto 17 then udp source target declared body else
    Skipped skip.Other
transport Fragment = Skipped skip.Fragment
transport Other = Skipped skip.Other
transport Short = Skipped skip.Short

-- what a record is by its frame
abbrev pub kind_of : Link → List ℕ → Kind
kind_of link frame = transport (network link frame)
