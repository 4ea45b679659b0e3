use Rattle.std.specs.Prelude.{ℕ, List, codes, Option, Some, None, if◌then◌else◌}
use Rattle.std.specs.Option.{option_map}
use Rattle.std.specs.Str.{bytes_eq}
use Rattle.linewords.specs.Words.{Words, word_at}
use Rattle.handler.specs.declared.condition.NewTest.TheVariants as news
use Rattle.handler.specs.declared.condition.NewTest.{NewTest}
use Rattle.handler.specs.declared.condition.DataTest.TheVariants as datas
use Rattle.handler.specs.declared.condition.DataTest.{DataTest}
use Rattle.handler.specs.declared.condition.Condition.{Condition}
use Rattle.handler.specs.declared.condition.Condition.TheVariants.{New, Data}
use Rattle.handler.specs.declared.part.Part.{Part}
use Rattle.handler.specs.declared.part.Part.TheVariants.{Keep, Discard, Cutoff, Priority}
use Rattle.handler.specs.declared.rule_error.RuleError.{RuleError}
use Rattle.handler.specs.declared.rule_error.RuleError.TheVariants as errors
use Rattle.handler.specs.Values.{port, position, priority, front}

-- How rules are read, word by word.

unfoldable pub new_test : (name value : List ℕ) → Option NewTest
new_test name value =
    if bytes_eq name (codes "any") then Some news.Any else
    if bytes_eq name (codes "port") then option_map news.Port (port value) else None

unfoldable pub data_test : (name value : List ℕ) → Option DataTest
data_test name value =
    if bytes_eq name (codes "any") then Some datas.Any else
    if bytes_eq name (codes "port") then option_map datas.Port (port value) else
    if bytes_eq name (codes "before") then option_map datas.Before (position value) else
    if bytes_eq name (codes "from") then option_map datas.From (position value) else
    if bytes_eq name (codes "begins") then option_map datas.Begins (front value) else None

unfoldable pub condition_of : (first subject name value : List ℕ) → Option Condition
condition_of first subject name value =
    if bytes_eq first (codes "rule") then
    if bytes_eq subject (codes "new") then option_map New (new_test name value) else
    if bytes_eq subject (codes "data") then option_map Data (data_test name value) else None
    else None

-- the condition that words begin with
abbrev pub condition_in : Words → Option Condition
condition_in ws = condition_of (word_at 0 ws) (word_at 1 ws) (word_at 2 ws) (word_at 3 ws)

unfoldable pub part : (name value : List ℕ) → Option Part
part name value =
    if bytes_eq name (codes "keep") then Some Keep else
    if bytes_eq name (codes "discard") then Some Discard else
    if bytes_eq name (codes "cutoff") then option_map Cutoff (position value) else
    if bytes_eq name (codes "priority") then option_map Priority (priority value) else None

-- want of memory, or that it is none
abbrev pub IsMemoryOr : Type 0 → RuleError → Type 0
IsMemoryOr P errors.Memory = Unit {0}
IsMemoryOr P errors.Fault = P
