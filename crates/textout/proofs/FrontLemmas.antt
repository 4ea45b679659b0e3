-- What begins with a text begins with each front of it.
use Rattle.std.proofs.Common.{◌≡◌, ℕ, List, [], ◌++◌, length, take, ap, sym, ◌∙◌, append_assoc}
use Rattle.std.specs.Prelude.{Result, Ok, Err, OnErr}
use Rattle.std.proofs.lemmas.List.{append-nil}
use Rattle.std.proofs.Math.Seq.{take-append_seam}
use Rattle.textout.specs.Front.{IsFront}

pub front_same : (a b : List ℕ) → b ≡ a → IsFront a b
front_same a b e = record { rest = []; is = e ∙ sym (append-nil a) }

pub front_back : (a b c d : List ℕ) → b ≡ a ++ d → IsFront b c → IsFront a c
front_back a b c d e h = record { rest = d ++ h.rest; is = h.is ∙ ap (λ (l : List ℕ). l ++ h.rest) e ∙ append_assoc a d h.rest }

pub front_taken : (a b : List ℕ) → IsFront a b → take (length a) b ≡ a
front_taken a b h = ap (λ (l : List ℕ). take (length a) l) h.is ∙ take-append_seam a h.rest

-- the same where a call answers want of memory
pub on_err_back : {T E : Type 0} (r : Result T E) (a b c d : List ℕ) → b ≡ a ++ d → IsFront b c → OnErr r (IsFront a c)
on_err_back (Ok _) a b c d e h = tt
on_err_back (Err _) a b c d e h = front_back a b c d e h

-- what stands behind the front is known
pub on_err_front : {T E : Type 0} (r : Result T E) (a b c : List ℕ) → b ≡ a ++ c → OnErr r (IsFront a b)
on_err_front (Ok _) a b c e = tt
on_err_front (Err _) a b c e = record { rest = c; is = e }

-- what begins with a label and a number behind a text, and what goes on from there
pub front_counted : (a b x y : List ℕ) → b ≡ a ++ x ++ y → IsFront a b
front_counted a b x y e = record { rest = x ++ y; is = e ∙ append_assoc a x y }

pub front_over : (a b c : List ℕ) → IsFront a b → IsFront b c → IsFront a c
front_over a b c h g = front_back a b c h.rest h.is g

pub on_err_over : {T E : Type 0} (r : Result T E) (a b c : List ℕ) → IsFront a b → OnErr r (IsFront b c) → OnErr r (IsFront a c)
on_err_over (Ok _) a b c h g = tt
on_err_over (Err _) a b c h g = front_over a b c h g
