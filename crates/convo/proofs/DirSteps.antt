-- What a direction's calls say, by what it stands for.
use Rattle.std.specs.Prelude.{◌==◌}
use Rattle.std.proofs.lemmas.Bool.Decides.{nat_tests}
use Rattle.std.proofs.Common.{◌≡◌, refl, ◌∙◌, ap, ℕ, true, false, cond, List, Option, Some, None, arith}
use Rattle.streamdefs.specs.Terms.{Terms}
use Rattle.streamdefs.specs.Reorder.{Charge}
use Rattle.streamdefs.specs.Pending.{Piece}
use Rattle.streamdefs.specs.Direction.{Direction, Deed, Kind}
use Rattle.chunkpart.specs.ChunkParts.{ChunkParts}
use Rattle.flowdir.specs.Boundary.{IsFirst, IsPaidBy, IsStep, asked_by, charge_by}
use Rattle.flowdir.specs.Boundary.Phase.{Rests}
use Rattle.flowdir.specs.Kept.{Kept as DirKept, StandsFor}
use Rattle.flowdir.specs.declared.step.Step.{Step}
use Rattle.flowdir.specs.declared.step.Step.TheVariants.{Ask, Free, Done}
use Rattle.flowdir.specs.Left.{Adds, Lowers, due_at}
use Rattle.flowdir.specs.declared.counts.Counts.{Counts}
use Rattle.convo.specs.Directions.{DirAdds, DirFalls, DirLowers, DirStands, IsAskedBehind, IsBehind, dir_asked, dir_due, dir_grants, dir_work, due_now}

-- charges by their amount stand for as many bytes
pub paid_by : {C : Type 0} (amount stamp : C → ℕ) → IsPaidBy amount (charge_by amount stamp)
paid_by amount stamp c = refl

module _ {C : Type 0} (paid : C → Charge) where
  pub step_stands : (k : DirKept C) (t : Terms) (kind : Kind) (d : Direction) (deed : Deed) (given : ℕ) (pieces : List Piece) (step : Step C)
      → IsStep paid (StandsFor paid k) t kind d deed given pieces step → IsStep paid (DirStands paid k) t kind d deed given pieces step
  step_stands k t kind d deed given pieces (Ask bytes) h = (h.0, record { stands = h.1 })
  step_stands k t kind d deed given pieces (Free charge) h = (h.0, record { stands = h.1 })
  step_stands k t kind d deed given pieces (Done counts) h = (h.0, h.1, record { stands = h.2 })

  pub first_stands : (k : DirKept C) (d : Direction) (pieces : List Piece) (chunk : Option (ChunkParts C))
      → IsFirst paid (StandsFor paid k d Rests) pieces chunk → IsFirst paid (DirStands paid k d Rests) pieces chunk
  first_stands k d pieces None h = (h.0, record { stands = h.1 })
  first_stands k d pieces (Some chunk) h = (h.0, h.1, record { stands = h.2 })

-- what is left of it
pub dir_adds : {C : Type 0} (grants work : ℕ) (k k' : DirKept C) → Adds grants work k k' → DirAdds grants work k k'
unfolding dir_grants dir_work
dir_adds grants work k k' a = record { grants_most = a.grants_most; work_most = a.work_most }

pub dir_lowers : {C : Type 0} (granted : Option C) (k k' : DirKept C) → Lowers granted k k' → DirLowers granted k k'
unfolding dir_grants dir_work
dir_lowers granted k k' a = record { grants_less = a.grants_less; work_less = a.work_less }

pub dir_due_is : {C : Type 0} (hole flush : ℕ) (k : DirKept C) → dir_due hole flush k ≡ due_at hole flush k
unfolding dir_due
dir_due_is hole flush k = refl

-- what falls due
pub due_count : (at : ℕ) (o : Option ℕ) → o ≡ Some at → due_now at o ≡ 1
due_count at o e =
    let same : (at == at) ≡ true = grind (arith, nat_tests) in
    ap (due_now at) e ∙ ap (λ b. cond b 1 0) same

behind_count : (at : ℕ) (o : Option ℕ) → IsBehind at o → due_now at o ≡ 0
behind_count at None h = refl
behind_count at (Some m) h =
    let other : (m == at) ≡ false = grind (arith, nat_tests) in
    ap (λ b. cond b 1 0) other

pub falls_now : {C : Type 0} (hole flush at : ℕ) (k k' : DirKept C) (step : Step C) → dir_due hole flush k ≡ Some at → DirLowers {C = C} None k k' → DirFalls hole flush at k k' step
falls_now hole flush at k k' step e l =
    let n = due_count at (dir_due hole flush k) e in
    let a = l.grants_less in
    let b = l.work_less in
    record { grants_most = omega arith; work_most = omega arith; busy = omega arith }

pub falls_not : {C : Type 0} (hole flush at : ℕ) (k : DirKept C) (counts : Counts) → IsBehind at (dir_due hole flush k) → DirFalls hole flush at k k (Done counts)
falls_not hole flush at k counts h =
    let n = behind_count at (dir_due hole flush k) h in
    record { grants_most = omega arith; work_most = omega arith; busy = omega arith }

pub asked_behind : {C : Type 0} (k : DirKept C) (step : Step C) → dir_asked k ≡ asked_by step → IsAskedBehind k step
asked_behind k (Ask bytes) e = e
asked_behind k (Free charge) e = e
asked_behind k (Done counts) e = tt
