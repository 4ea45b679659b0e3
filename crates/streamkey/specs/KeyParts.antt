use Rattle.streamkey.specs.declared.proto.Proto.{Proto}
use Rattle.streamkey.specs.declared.end.End.{End}

-- what contracts see of a key: the protocol and the two ends of a conversation
pub record KeyParts : Type 0 where
  pub proto : Proto
  pub low : End
  pub high : End
