-- The steps of the machine: which there may be at a moment, and the moment behind each.
use Rattle.std.specs.Prelude.{◌≡◌, ℕ, ◌%◌, ◌≤◌, ◌<◌, ◌⊎◌, Bool, true, false, replicate, [], ◌∷◌, ◌++◌, length, drop, Some, None, slice_get, set}
use Rattle.streamdefs.specs.Reorder.{Charge}
use Rattle.streamdefs.specs.Terms.{Terms}
use Rattle.streamdefs.specs.Lawful.{handler_at}
use Rattle.coretable.specs.Course.{no_course, Stop, step, Comes}
use Rattle.coretable.specs.Course.Step.{Stops}
use Rattle.mixrun.specs.declared.actor.Actor.{Actor}
use Rattle.mixrun.specs.declared.actor.Actor.TheVariants as actors
use Rattle.mixrun.specs.Moment.{Setup, Input, Given, AtCore, InHand, AtWorker, Pair, Moment}
use Rattle.mixrun.specs.Moves.{CoreMove, moved, pair_behind, Serves, IsFirst, next_owed, reply_of, given_back, taken, free_at, behind_free}
use Rattle.mixrun.specs.Moves.CoreMove.{TakesBack}

-- A core's step

-- a core may make a move: it takes an answer back where no entry is under way, and else does what it stopped for
abbrev pub MayMove : Terms → Pair → AtCore → CoreMove → Type 0
MayMove terms p a (TakesBack reply) = (a.course.under ≡ None) × IsFirst reply a.answers
MayMove terms p a move = (stop : Stop) × (step terms a.course ≡ Stops stop) × Serves terms p a move stop

-- the table goes on by itself until it stops
abbrev pub Settles : Terms → AtCore → AtCore → Type 0
Settles terms a b = (n : ℕ) × (stop : Stop) × Comes terms n a.course stop b.course × (b ≡ record a { course = b.course })

-- one step of a core: a move, and what the table then does by itself
pub record CoreStep (terms : Terms) (move : CoreMove) (a : AtCore) (p : Pair) (b : AtCore) (q : Pair) : Type 0 where
  pub may : MayMove terms p a move
  pub pair : q ≡ pair_behind move p
  pub settles : Settles terms (moved terms move a) b

-- whether it is a step of `Back`
abbrev pub is_back : CoreMove → Bool
is_back (TakesBack reply) = true
is_back _ = false

-- A step of the machine

-- of a core's table: all else stays
pub record MovesCore (s : Setup) (c : ℕ) (back : Bool) (m n : Moment) : Type 0 where
  pub move : CoreMove
  pub before : AtCore
  pub after : AtCore
  pub is_it : slice_get m.cores c ≡ Some before
  pub side : is_back move ≡ back
  pub steps : CoreStep s.terms move before m.pair after n.pair
  pub cores : n.cores ≡ set m.cores c after
  pub workers : n.workers ≡ m.workers

-- of a worker: it takes the first event of one of its cores
pub record TakesOne (s : Setup) (w : ℕ) (m n : Moment) : Type 0 where
  pub worker : AtWorker
  pub core : ℕ
  pub at : AtCore
  pub given : Given
  pub is_it : slice_get m.workers w ≡ Some worker
  pub empty : worker.hand ≡ None
  pub own : core % length s.handlers ≡ w
  pub is_core : slice_get m.cores core ≡ Some at
  pub first : IsFirst given at.events
  pub cores : n.cores ≡ set m.cores core (record at { events = drop 1 at.events })
  pub workers : n.workers ≡ set m.workers w (record worker { hand = Some (taken core given) })
  pub pair : n.pair ≡ m.pair

-- or gives back the next charge of the event in hand
pub record GivesOne (s : Setup) (w : ℕ) (m n : Moment) : Type 0 where
  pub worker : AtWorker
  pub hand : InHand
  pub charge : Charge
  pub is_it : slice_get m.workers w ≡ Some worker
  pub has : worker.hand ≡ Some hand
  pub next : next_owed (handler_at s.handlers w) hand ≡ Some charge
  pub room : charge.bytes ≤ m.pair.used
  pub early : charge.stamp < m.pair.stamp
  pub cores : n.cores ≡ m.cores
  pub workers : n.workers ≡ set m.workers w (record worker { hand = Some (given_back (handler_at s.handlers w) (free_at m.pair charge) hand) })
  pub pair : n.pair ≡ behind_free m.pair (free_at m.pair charge)

-- or answers, where it has none of its charges any more
pub record AnswersOne (s : Setup) (w : ℕ) (m n : Moment) : Type 0 where
  pub worker : AtWorker
  pub hand : InHand
  pub at : AtCore
  pub is_it : slice_get m.workers w ≡ Some worker
  pub has : worker.hand ≡ Some hand
  pub done : next_owed (handler_at s.handlers w) hand ≡ None
  pub is_core : slice_get m.cores hand.core ≡ Some at
  pub cores : n.cores ≡ set m.cores hand.core (record at { answers = at.answers ++ reply_of (handler_at s.handlers w) hand ∷ [] })
  pub workers : n.workers ≡ set m.workers w (record { hand = None; served = worker.served ++ hand.core ∷ [] })
  pub pair : n.pair ≡ m.pair

-- a step of an actor
abbrev pub Steps : Setup → Actor → Moment → Moment → Type 0
Steps s (actors.Core c) m n = MovesCore s c false m n
Steps s (actors.Back c) m n = MovesCore s c true m n
Steps s (actors.Work w) m n = TakesOne s w m n ⊎ GivesOne s w m n ⊎ AnswersOne s w m n

-- a packet, or the end, is offered to a core
pub record Offers (c : ℕ) (input : Input) (m n : Moment) : Type 0 where
  pub at : AtCore
  pub is_it : slice_get m.cores c ≡ Some at
  pub cores : n.cores ≡ set m.cores c (record at { inputs = at.inputs ++ input ∷ [] })
  pub workers : n.workers ≡ m.workers
  pub pair : n.pair ≡ m.pair

-- The opening moment

abbrev pub opening_core : AtCore
opening_core = record { inputs = []; course = no_course; events = []; answers = [] }

abbrev pub opening_worker : AtWorker
opening_worker = record { hand = None; served = [] }

-- nothing has come, and nothing is used
abbrev pub opening : (cores workers : ℕ) → Moment
opening cores workers = record { cores = replicate cores opening_core; workers = replicate workers opening_worker; pair = record { stamp = 0; used = 0 } }
