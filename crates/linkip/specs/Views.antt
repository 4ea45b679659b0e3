use Rattle.linkip.specs.declared.net.Net.{Net}
use Rattle.linkip.specs.declared.net.Net.TheVariants as net
use Rattle.linkip.specs.Carried.{Carried, Ip, Fragment, Other, Short}

-- what an answer tells, without where its body lies in memory
abbrev pub carried : Net → Carried
carried (net.Ip proto source target declared body) = Ip proto source target declared body.now
carried net.Fragment = Fragment
carried net.Other = Other
carried net.Short = Short
