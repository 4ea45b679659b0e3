-- The entries of a core, with one under way and with none.
use Rattle.std.proofs.Common.{◌≡◌, [], ◌∷◌, ◌++◌, Some, None, refl, append-nil}
use Rattle.coretable.specs.Course.{Course, Under}
use Rattle.mixrun.specs.AtMoment.{lines_in}

pub lines_under : (m : Course) (u : Under) → m.under ≡ Some u → lines_in m ≡ m.lines ++ u.line ∷ []
lines_under m u e = rw e refl

pub lines_rest : (m : Course) → m.under ≡ None → lines_in m ≡ m.lines
lines_rest m e = rw e (append-nil m.lines)
