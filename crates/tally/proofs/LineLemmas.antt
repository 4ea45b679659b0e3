-- What stands behind a front where a line's text is appended piece by piece.
use Rattle.std.proofs.Common.{◌≡◌, ℕ, List, ◌++◌, sym, subst}
use Rattle.std.specs.Prelude.{Result, Ok, Err, OnErr}
use Rattle.textout.specs.Front.{IsFront}
use Rattle.textout.proofs.FrontLemmas.{front_over, front_counted}

pub on_err_kept : {T E : Type 0} (r : Result T E) (a b c : List ℕ) → IsFront a b → OnErr r (c ≡ b) → OnErr r (IsFront a c)
on_err_kept (Ok _) a b c h e = tt
on_err_kept (Err _) a b c h e = subst (λ (l : List ℕ). IsFront a l) (sym e) h

pub front_next : (o a b x y : List ℕ) → IsFront o a → b ≡ a ++ x ++ y → IsFront o b
front_next o a b x y h e = front_over o a b h (front_counted a b x y e)
