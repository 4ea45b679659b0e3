-- What a table does by itself changes no sum over its entries: one begins with no looks and frees, and goes whole to the end of the book.
use Rattle.std.proofs.Common.{◌≡◌, ℕ, zero, suc, Bool, true, false, cond, List, [], ◌∷◌, ◌++◌, Option, Some, None, refl, ap, sym, ◌∙◌, subst, arith, append-nil}
use Rattle.histbook.specs.Budget.{total}
use Rattle.histbook.proofs.BudgetLemmas.{total_append}
use Rattle.streamdefs.specs.Packet.{Packet}
use Rattle.streamdefs.specs.Terms.{Terms}
use Rattle.streamdefs.specs.Convo.{is_live, has_other_base, looks_in, frees_in}
use Rattle.streamdefs.specs.Want.{Want}
use Rattle.streamdefs.specs.Want.Want.{Reserve, Release, Emit, Rest}
use Rattle.streamdefs.specs.Core.{Line, Core, Open, Owed, Due, latest_of, is_answer}
use Rattle.coretable.specs.Course.{Job, Under, Course, Choice, Stop, Step, core_of, due_line, due_by, packet_line, first_live, closing_choice, due_first, job_choice, choice, has_room, is_answered, begun, completed, want_of, under_step, choice_step, step, GoesOn, After, Comes}
use Rattle.coretable.specs.Course.Job.{Nothing, Takes, Closes}
use Rattle.coretable.specs.Course.Choice.{Begins, Waits, Closed}
use Rattle.coretable.specs.Course.Step.{Goes, Stops}
use Rattle.mixrun.specs.AtMoment.{lines_in}

-- an entry without looks and frees, which is no answer
abbrev pub IsFresh : Line → Type 0
IsFresh line = (looks_in line.act ≡ []) × (frees_in line.act ≡ []) × (is_answer line.act ≡ false)

abbrev BeginsFresh : Choice → Type 0
BeginsFresh (Begins line) = IsFresh line
BeginsFresh Waits = Unit {0}
BeginsFresh Closed = Unit {0}

fresh_cond : (b : Bool) (x y : Line) → IsFresh x → IsFresh y → IsFresh (cond b x y)
fresh_cond true x y f g = f
fresh_cond false x y f g = g

fresh_due : (d : Due) → IsFresh (due_line d)
fresh_due d = by d.idle
  where
    by : (b : Bool) → IsFresh (due_line (record { at = d.at; conv = d.conv; idle = b }))
    by true = (refl, refl, refl)
    by false = (refl, refl, refl)

fresh_packet : (terms : Terms) (p : Packet) (o : Option Open) → IsFresh (packet_line terms p o)
fresh_packet terms p None = (refl, refl, refl)
fresh_packet terms p (Some o) =
    fresh_cond (is_live o.convo) _ _ (fresh_cond (has_other_base o.convo p) _ _ (refl, refl, refl) (refl, refl, refl)) (refl, refl, refl)

fresh_closing : (at : ℕ) (o : Option Open) → BeginsFresh (closing_choice at o)
fresh_closing at None = tt
fresh_closing at (Some o) = (refl, refl, refl)

fresh_first : (due : Option Due) (next : Choice) → BeginsFresh next → BeginsFresh (due_first due next)
fresh_first None next h = h
fresh_first (Some d) next h = fresh_due d

fresh_job : (terms : Terms) (core : Core) (job : Job) → BeginsFresh (job_choice terms core job)
fresh_job terms core Nothing = tt
fresh_job terms core (Takes p) = fresh_first (due_by terms core p.now) _ (fresh_packet terms p (latest_of p.key core.convos))
fresh_job terms core (Closes at) = fresh_first (due_by terms core at) _ (fresh_closing at (first_live core.convos))

fresh_choice : (terms : Terms) (core : Core) (job : Job) → BeginsFresh (choice terms core job)
fresh_choice terms core job = by core.owed refl
  where
    by : (o : Option Owed) → core.owed ≡ o → BeginsFresh (choice terms core job)
    by None e = rw (choice, e) (fresh_job terms core job)
    by (Some owed) e = rw (choice, e) (refl, refl, refl)

-- a sum that an entry without looks and frees adds nothing to
abbrev pub IsQuiet : (Line → ℕ) → Type 0
IsQuiet f = (line : Line) → IsFresh line → f line ≡ 0

-- how a course goes on: the entry under way is complete, or one begins
pub data Going (terms : Terms) (m next : Course) : Type 0 where
  Completing : (u : Under) → m.under ≡ Some u → want_of terms m u ≡ Rest → next ≡ completed m u → Going terms m next
  Beginning : (line : Line) → m.under ≡ None → IsFresh line → has_room (core_of terms m) ≡ true → next ≡ begun m line → Going terms m next

module _ (terms : Terms) where
  going_on : (packets : List Packet) (number clock : ℕ) (lines : List Line) (under : Option Under) (job : Job) (next : Course)
      → let m : Course = record { packets = packets; number = number; clock = clock; lines = lines; under = under; job = job } in
      step terms m ≡ Goes next → Going terms m next
  going_on packets number clock lines (Some u) job next e = by (want_of terms m u) refl e
    where
      m : Course
      m = record { packets = packets; number = number; clock = clock; lines = lines; under = Some u; job = job }

      by : (w : Want) → want_of terms m u ≡ w → under_step m u w ≡ Goes next → Going terms m next
      by Rest h g = Completing u refl h cc
      by (Reserve ask mark) h g = absurd cc
      by (Release charge) h g = absurd cc
      by (Emit event) h g = absurd cc
  going_on packets number clock lines None job next e = by (choice terms (core_of terms m) job) refl e
    where
      m : Course
      m = record { packets = packets; number = number; clock = clock; lines = lines; under = None; job = job }

      by : (c : Choice) → choice terms (core_of terms m) job ≡ c → choice_step (core_of terms m) m c ≡ Goes next → Going terms m next
      by (Begins line) h g = by_room (has_room (core_of terms m)) refl g
        where
          fresh : IsFresh line
          fresh = subst BeginsFresh h (fresh_choice terms (core_of terms m) job)

          by_room : (b : Bool) → has_room (core_of terms m) ≡ b → cond b (Goes (begun m line)) (Stops Stop.Fills) ≡ Goes next → Going terms m next
          by_room true e g = Beginning line refl fresh e cc
          by_room false e g = absurd cc
      by Waits h g = absurd cc
      by Closed h g = by_all (is_answered (core_of terms m)) g
        where
          by_all : (b : Bool) → cond b (Stops Stop.Finishes) (Stops Stop.Fills) ≡ Goes next → Going terms m next
          by_all true g = absurd cc
          by_all false g = absurd cc

  pub goes_on : (m next : Course) → step terms m ≡ Goes next → Going terms m next
  goes_on m next e = going_on m.packets m.number m.clock m.lines m.under m.job next e

  came_by : (P : Course → Type 0) → ((m next : Course) → Going terms m next → P m → P next)
      → (n : ℕ) (m m' : Course) (s : Step) → step terms m ≡ s → GoesOn (λ next. After terms n next m') s → P m → ((next : Course) → After terms n next m' → P next → P m') → P m'
  came_by P keeps n m m' (Goes next) e h p rest = rest next h (keeps m next (goes_on m next e) p)
  came_by P keeps n m m' (Stops s) e h p rest = absurd h

  came_after : (P : Course → Type 0) → ((m next : Course) → Going terms m next → P m → P next) → (n : ℕ) (m m' : Course) → After terms n m m' → P m → P m'
  came_after P keeps zero m m' h p = subst P h p
  came_after P keeps (suc n) m m' h p = came_by P keeps n m m' (step terms m) refl h p (λ next g q. came_after P keeps n next m' g q)

  runs_by : (P : Course → Type 0) → ((m next : Course) → step terms m ≡ Goes next → P m → P next)
      → (n : ℕ) (m m' : Course) (s : Step) → step terms m ≡ s → GoesOn (λ next. After terms n next m') s → P m → ((next : Course) → After terms n next m' → P next → P m') → P m'
  runs_by P keeps n m m' (Goes next) e h p rest = rest next h (keeps m next e p)
  runs_by P keeps n m m' (Stops s) e h p rest = absurd h

  -- the same, of steps as they are defined
  pub runs : (P : Course → Type 0) → ((m next : Course) → step terms m ≡ Goes next → P m → P next) → (n : ℕ) (m m' : Course) → After terms n m m' → P m → P m'
  runs P keeps zero m m' h p = subst P h p
  runs P keeps (suc n) m m' h p = runs_by P keeps n m m' (step terms m) refl h p (λ next g q. runs P keeps n next m' g q)

  -- what each silent step keeps holds where the table stops
  pub came : (P : Course → Type 0) → ((m next : Course) → Going terms m next → P m → P next) → (n : ℕ) (m : Course) (stop : Stop) (m' : Course) → Comes terms n m stop m' → P m → P m'
  came P keeps n m stop m' h p = came_after P keeps n m m' h.0 p

  -- and there it stops
  pub stopped : (n : ℕ) (m : Course) (stop : Stop) (m' : Course) → Comes terms n m stop m' → step terms m' ≡ Stops stop
  stopped n m stop m' h = h.1

-- no sum over the entries changes
module _ (terms : Terms) (f : Line → ℕ) (quiet : IsQuiet f) where
  same_sum : (m next : Course) → Going terms m next → total f (lines_in next) ≡ total f (lines_in m)
  same_sum m next (Completing u under w e) =
      let before : lines_in m ≡ m.lines ++ u.line ∷ [] = rw under refl in
      ap (λ (n : Course). total f (lines_in n)) e ∙ ap (total f) (append-nil (m.lines ++ u.line ∷ [])) ∙ ap (total f) (sym before)
  same_sum m next (Beginning line none fresh room e) =
      let before : lines_in m ≡ m.lines = rw none (append-nil m.lines) in
      let sums : total f (m.lines ++ line ∷ []) ≡ total f m.lines = omega (arith, total_append f m.lines (line ∷ []), quiet line fresh) in
      ap (λ (n : Course). total f (lines_in n)) e ∙ sums ∙ ap (total f) (sym before)

  pub silent : (n : ℕ) (m : Course) (stop : Stop) (m' : Course) → Comes terms n m stop m' → total f (lines_in m') ≡ total f (lines_in m)
  silent n m stop m' h = came terms (λ (x : Course). total f (lines_in x) ≡ total f (lines_in m)) (λ x next g e. same_sum x next g ∙ e) n m stop m' h refl
