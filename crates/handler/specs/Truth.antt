use Rattle.std.specs.Prelude.{ℕ, Bool, true, false, ◌||◌, List, ◌++◌, nat_eq, nat_lt, nat_le, find}
use Rattle.std.specs.Option.{option_map_or}
use Rattle.std.specs.List.{starts_with}
use Rattle.evring.specs.declared.advice.Advice.{Advice}
use Rattle.evring.specs.Advice.{no_advice}
use Rattle.streamkey.specs.declared.key.Key.{Key}
use Rattle.streamdefs.specs.Convo.{Seen}
use Rattle.streamdefs.specs.Convo.Seen.{Created, Data as Shown, Over}
use Rattle.handler.specs.declared.condition.NewTest.TheVariants as news
use Rattle.handler.specs.declared.condition.NewTest.{NewTest}
use Rattle.handler.specs.declared.condition.DataTest.TheVariants as datas
use Rattle.handler.specs.declared.condition.DataTest.{DataTest}
use Rattle.handler.specs.declared.condition.Condition.{Condition}
use Rattle.handler.specs.declared.condition.Condition.TheVariants.{New, Data}
use Rattle.handler.specs.declared.rule.Rule.{Rule}

-- Which events a rule fits, and what rules advise: docs/FORMATS.md, "Rules".

-- one of the two ports of a conversation
abbrev pub has_port : Key → ℕ → Bool
has_port key port = nat_eq key.low.port port || nat_eq key.high.port port

abbrev pub new_holds : NewTest → Key → Bool
new_holds news.Any key = true
new_holds (news.Port port) key = has_port key port

-- of a chunk: where it starts, and the bytes of the kept chunks and its own behind them
abbrev pub data_holds : DataTest → Key → ℕ → List ℕ → Bool
data_holds datas.Any key start bytes = true
data_holds (datas.Port port) key start bytes = has_port key port
data_holds (datas.Before position) key start bytes = nat_lt start position
data_holds (datas.From position) key start bytes = nat_le position start
data_holds (datas.Begins front) key start bytes = starts_with nat_eq bytes front

-- a rule fits the events that it speaks of; none speaks of an end
abbrev pub fits : Condition → Seen → Bool
fits (New test) (Created key toward) = new_holds test key
fits (New test) (Shown key way start gap over kept shown) = false
fits (New test) (Over reason) = false
fits (Data test) (Created key toward) = false
fits (Data test) (Shown key way start gap over kept shown) = data_holds test key start (kept ++ shown)
fits (Data test) (Over reason) = false

-- the first rule that fits decides; without one nothing is advised
abbrev pub advice_by : List Rule → Seen → Advice
advice_by rules seen = option_map_or (λ rule. rule.advice) (find (λ rule. fits rule.condition seen) rules) no_advice
