use Rattle.std.specs.Prelude.{ℕ, ◌-◌, ◌==◌, ◌++◌, List, length, map, filter, take, drop, Bool, true, false, ◌&&◌, if◌then◌else◌}
use Rattle.std.specs.List.{list_any}
use Rattle.std.specs.Str.{bytes_eq}
use Rattle.scap_world.specs.Causes.{raised}
use Rattle.scap_world.specs.declared.in_memory.fail_call.FailCall.{FailCall}
use Rattle.scap_world.specs.declared.in_memory.fail_call.FailCall.TheVariants.{Open, Create, Read, Write, Finish}

-- whether two calls are of one kind
abbrev pub same_call : FailCall → FailCall → Bool
same_call Open Open = true
same_call Create Create = true
same_call Read Read = true
same_call Write Write = true
same_call Finish Finish = true
same_call a b = false

-- what one `fail` named: the call of that kind on that name that is the `left`-th from now; none, where that is 0
pub record Planned : Type 0 where
  pub name : List ℕ
  pub call : FailCall
  pub left : ℕ

-- whether the plan is for such calls on that name
abbrev pub is_for : List ℕ → FailCall → Planned → Bool
is_for name call plan = same_call plan.call call && bytes_eq plan.name name

-- whether the next such call on that name is one that some `fail` named
abbrev pub is_named : List ℕ → FailCall → List Planned → Bool
is_named name call plans = list_any (λ plan. is_for name call plan && (plan.left == 1)) plans

-- a plan after so many such calls on that name
abbrev pub after : ℕ → List ℕ → FailCall → Planned → Planned
after times name call plan =
    record { name = plan.name; call = plan.call; left = if is_for name call plan then plan.left - times else plan.left }

-- the plans after such a call on that name
abbrev pub called : List ℕ → FailCall → List Planned → List Planned
called name call plans = map (after 1 name call) plans

-- the reads or writes on one source or sink
pub record CallsMade : Type 0 where
  -- the name under which it was opened or created
  pub name : List ℕ
  -- how many plans stood then: later ones are none of its business
  pub plans : ℕ
  -- the numbers of the calls that fail; the first call has number 1
  pub turns : List ℕ
  -- how many calls were made, and how many of them failed
  pub made : ℕ
  pub faults : ℕ

-- none so far: by each plan for such calls that one fails which has as its number what the plan has left
abbrev pub no_calls : List ℕ → FailCall → List Planned → CallsMade
no_calls name call plans =
    record { name = name; plans = length plans; turns = map (λ plan. plan.left) (filter (is_for name call) plans); made = 0; faults = 0 }

-- whether the next call is one that some `fail` named
abbrev pub is_next_named : CallsMade → Bool
is_next_named calls = list_any (λ turn. turn == raised calls.made) calls.turns

-- the calls with one more
abbrev pub next : CallsMade → CallsMade
next calls = record {
  name = calls.name;
  plans = calls.plans;
  turns = calls.turns;
  made = raised calls.made;
  faults = if is_next_named calls then raised calls.faults else calls.faults;
}

-- the plans once these calls are over: each call counts for the plans that stood before
abbrev pub settled : FailCall → CallsMade → List Planned → List Planned
settled call calls plans = map (after calls.made calls.name call) (take calls.plans plans) ++ drop calls.plans plans
