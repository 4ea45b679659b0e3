use Rattle.std.proofs.Common.{refl}
use Rattle.labtop.proofs.MatchingLemmas.{begun}
use Rattle.labtop.proofs.matching.Matching.begin.Goals as goal

pub returns-clause-read : goal.returns-clause-read
returns-clause-read c = λ filter. begun filter _ _ _ _ c.new-frames.ensures.stands c.in_ok-feed.ensures.fed refl c.new.ensures.items
