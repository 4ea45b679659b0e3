use Rattle.mixrun.specs.Books.{handler_of}
use Rattle.mixrun.proofs.ByteLaws.{accounted}
use Rattle.mixrun.proofs.ShownLaws.{shown_less}
use Rattle.mixrun.proofs.laws.bytes_are_accounted_for.Goals as goal

pub returns : goal.returns
returns c = λ s m h core a there. accounted s core m a (handler_of s core) (h.fed core a there).sound (shown_less s core m a)
