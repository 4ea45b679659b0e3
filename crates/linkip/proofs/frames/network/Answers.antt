use Rattle.pcapfile.specs.declared.link.Link.TheVariants.{Ethernet, Raw, Cooked, Cooked2}
use Rattle.linkip.proofs.PacketLemmas.{carried-within}
use Rattle.linkip.proofs.frames.network.Goals as goal

pub returns-in-Ethernet-clause-within : goal.returns-in-Ethernet-clause-within
returns-in-Ethernet-clause-within c = carried-within Ethernet c.args.frame.now _ c.behind_header.ensures

pub returns-in-Cooked-clause-within : goal.returns-in-Cooked-clause-within
returns-in-Cooked-clause-within c = carried-within Cooked c.args.frame.now _ c.behind_header-in-Cooked.ensures

pub returns-in-Cooked2-clause-within : goal.returns-in-Cooked2-clause-within
returns-in-Cooked2-clause-within c = carried-within Cooked2 c.args.frame.now _ c.behind_header-in-Cooked2.ensures

pub returns-in-Raw-clause-within : goal.returns-in-Raw-clause-within
returns-in-Raw-clause-within c = carried-within Raw c.args.frame.now _ c.by_version.ensures
