-- What an entry under way wants next: each direction whole before the next, of each its asks and then its releases; then the
-- entry's events.
use Rattle.std.specs.Prelude.{ℕ, ◌-◌, ◌++◌, List, [], ◌∷◌, length, Option, Some, None, slice_get}
use Rattle.prio_budget.specs.declared.free.Free.{Free}
use Rattle.histbook.specs.declared.look_entry.LookEntry.{LookEntry}
use Rattle.streamdefs.specs.Both.{of_way}
use Rattle.streamdefs.specs.Terms.{Terms}
use Rattle.streamdefs.specs.Reorder.{Charge}
use Rattle.streamdefs.specs.View.{Ask}
use Rattle.streamdefs.specs.Direction.{Next, next_by, gives_at}
use Rattle.streamdefs.specs.Direction.Next.{Asks, Gives, Rests}
use Rattle.streamdefs.specs.Convo.{Act, Convo, Event, Step, steps, kind_of, spares_in, unshown_in, released, events_in, frees_in, mark_for}
use Rattle.streamdefs.specs.Convo.Act.{Seg, Answer, Time, End}

-- an ask with its mark, a release, an event, or nothing: then the entry is complete
pub data Want : Type 0 where
  Reserve : Ask → ℕ → Want
  Release : Charge → Want
  Emit : Event → Want
  Rest : Want

-- the second where the first wants nothing
abbrev pub or_next : Next → Next → Next
or_next Rests next = next
or_next next other = next

-- what a step wants next, with so many of its charges given back: its own wants, then the release of what was kept
abbrev pub next_in : Terms → Convo → Act → Step → ℕ → Next
next_in terms c act step given =
    or_next (next_by terms (kind_of terms c) (of_way step.0 c.directions) step.1 given)
    (gives_at (unshown_in terms c act step) (given - length (spares_in terms c step)))

-- what these steps want next: the first of them that isn't complete
abbrev pub next_of : Terms → Convo → Act → List Step → ℕ → Next
next_of terms c act [] given = Rests
next_of terms c act (step ∷ rest) given =
    or_next (next_in terms c act step given)
    (next_of terms c act rest (given - length (spares_in terms c step ++ unshown_in terms c act step)))

-- what an entry asks or gives back next
abbrev pub next_move : Terms → Convo → Act → Next
next_move terms c (Answer event advice frees) = gives_at (released terms c (Answer event advice frees)) (length frees)
next_move terms c act = next_of terms c act (steps terms c act) (length (frees_in act))

-- what an entry wants next, with so many of its events handed over
abbrev pub want : Terms → Convo → Act → ℕ → Want
want terms c act emitted = move (next_move terms c act)
  where
    event : Option Event → Want
    event (Some e) = Emit e
    event None = Rest

    move : Next → Want
    move (Asks ask) = Reserve ask (mark_for terms c ask)
    move (Gives charge) = Release charge
    move Rests = event (slice_get (events_in terms c act) emitted)

-- the entry with one look more
abbrev pub with_look : LookEntry → Act → Act
with_look look (Seg p now looks frees) = Seg p now (looks ++ look ∷ []) frees
with_look look (Answer event advice frees) = Answer event advice frees
with_look look (Time at looks frees) = Time at (looks ++ look ∷ []) frees
with_look look (End at reason looks frees) = End at reason (looks ++ look ∷ []) frees

-- the entry with one free more
abbrev pub with_free : Free → Act → Act
with_free free (Seg p now looks frees) = Seg p now looks (frees ++ free ∷ [])
with_free free (Answer event advice frees) = Answer event advice (frees ++ free ∷ [])
with_free free (Time at looks frees) = Time at looks (frees ++ free ∷ [])
with_free free (End at reason looks frees) = End at reason looks (frees ++ free ∷ [])
