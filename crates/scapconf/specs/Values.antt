use Rattle.std.specs.Prelude.{ℕ, ◌*◌, List, Option, Some, None, codes, if◌then◌else◌}
use Rattle.std.specs.Option.{option_map, option_and_then}
use Rattle.std.specs.Str.{bytes_eq}
use Rattle.overpolicy.specs.declared.mode.Mode.{Mode}
use Rattle.overpolicy.specs.declared.mode.Mode.TheVariants.{Strict, Fast}
use Rattle.overpolicy.specs.declared.policy.Policy.{Policy}
use Rattle.overpolicy.specs.declared.policy.Policy.TheVariants.{First, Last, Bsd, Linux}
use Rattle.cutclass.specs.declared.cut.Cut.{Cut}
use Rattle.cutclass.specs.declared.cut.Cut.TheVariants.{Unset, Endless, At}
use Rattle.prio_budget.specs.MarkParts.{MarkParts}
use Rattle.scapconf.specs.declared.size.Size.{Size}
use Rattle.scapconf.specs.declared.size.Size.TheVariants.{Chunk, Overlap, Reorder}
use Rattle.scapconf.specs.declared.time.Time.{Time}
use Rattle.scapconf.specs.declared.time.Time.TheVariants.{Flush, Hole, Idle}
use Rattle.scapconf.specs.Numbers.{number}

-- What the words of lines stand for.

unfoldable pub mode : List ℕ → Option Mode
mode w = if bytes_eq w (codes "strict") then Some Strict else if bytes_eq w (codes "fast") then Some Fast else None

unfoldable pub policy : List ℕ → Option Policy
policy w =
    if bytes_eq w (codes "first") then Some First else
    if bytes_eq w (codes "last") then Some Last else
    if bytes_eq w (codes "bsd") then Some Bsd else
    if bytes_eq w (codes "linux") then Some Linux else None

-- sizes in bytes
abbrev pub least_size : Size → ℕ
least_size Chunk = 1
least_size Overlap = 0
least_size Reorder = 0

abbrev pub greatest_size : Size → ℕ
greatest_size Chunk = 1048576
greatest_size Overlap = 65536
greatest_size Reorder = 16777216

-- times in milliseconds
abbrev pub least_time : Time → ℕ
least_time Flush = 0
least_time Hole = 1
least_time Idle = 1

abbrev pub greatest_time : Time → ℕ
greatest_time Flush = 3600000
greatest_time Hole = 3600000
greatest_time Idle = 86400000

-- numbers have ten digits at most, cutoffs twenty
unfoldable pub size : Size → List ℕ → Option ℕ
size s w = number 10 (least_size s) (greatest_size s) w

-- a millisecond is a million nanoseconds
unfoldable pub time : Time → List ℕ → Option ℕ
time t w = option_map (λ n. n * 1000000) (number 10 (least_time t) (greatest_time t) w)

unfoldable pub cutoff : List ℕ → Option Cut
cutoff w = if bytes_eq w (codes "none") then Some Endless else option_map At (number 20 0 18446744073709551615 w)

-- the cutoff of a class may be unset
unfoldable pub class_cut : List ℕ → Option Cut
class_cut w = if bytes_eq w (codes "-") then Some Unset else cutoff w

unfoldable pub class_priority : List ℕ → Option ℕ
class_priority = number 10 0 15

-- the three numbers of a budget
unfoldable pub budget : (limit base count : List ℕ) → Option MarkParts
budget l b n =
    option_and_then (λ limit. option_and_then (λ base. option_map (λ count. record { limit = limit; base = base; count = count })
    (number 10 0 255 n)) (number 10 0 4294967295 b)) (number 10 0 4294967295 l)
