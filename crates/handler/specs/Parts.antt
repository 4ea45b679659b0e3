use Rattle.std.specs.Prelude.{ℕ, Bool, true, false, ◌&&◌, not, Some, is_none, List, [], ◌∷◌}
use Rattle.evring.specs.declared.advice.Advice.{Advice}
use Rattle.handler.specs.declared.condition.NewTest.TheVariants as news
use Rattle.handler.specs.declared.condition.NewTest.{NewTest}
use Rattle.handler.specs.declared.condition.DataTest.TheVariants as datas
use Rattle.handler.specs.declared.condition.DataTest.{DataTest}
use Rattle.handler.specs.declared.condition.Condition.{Condition}
use Rattle.handler.specs.declared.condition.Condition.TheVariants.{New, Data}
use Rattle.handler.specs.declared.part.Part.{Part}
use Rattle.handler.specs.declared.part.Part.TheVariants.{Keep, Discard, Cutoff, Priority}

-- The parts of a rule.

-- the rule is for chunks
abbrev pub is_of_data : Condition → Bool
is_of_data (New test) = false
is_of_data (Data test) = true

-- how many words a condition has, with the two before it
abbrev pub new_words : NewTest → ℕ
new_words news.Any = 3
new_words (news.Port n) = 4

abbrev pub data_words : DataTest → ℕ
data_words datas.Any = 3
data_words (datas.Port n) = 4
data_words (datas.Before n) = 4
data_words (datas.From n) = 4
data_words (datas.Begins bytes) = 4

abbrev pub condition_words : Condition → ℕ
condition_words (New test) = new_words test
condition_words (Data test) = data_words test

-- how many words a part of advice has
abbrev pub part_words : Part → ℕ
part_words Keep = 1
part_words Discard = 1
part_words (Cutoff n) = 2
part_words (Priority p) = 2

-- a part says what the advice does not say yet, and `keep` is advised of chunks alone
abbrev pub is_fresh : Bool → Part → Advice → Bool
is_fresh of_data Keep advice = of_data && not advice.keep
is_fresh of_data Discard advice = not advice.discard
is_fresh of_data (Cutoff n) advice = is_none advice.cutoff
is_fresh of_data (Priority p) advice = is_none advice.priority

-- the advice with a part more
abbrev pub with_part : Part → Advice → Advice
with_part Keep advice = record advice { keep = true }
with_part Discard advice = record advice { discard = true }
with_part (Cutoff n) advice = record advice { cutoff = Some n }
with_part (Priority p) advice = record advice { priority = Some p }

-- and with several
abbrev pub with_parts : List Part → Advice → Advice
with_parts [] advice = advice
with_parts (p ∷ ps) advice = with_parts ps (with_part p advice)
