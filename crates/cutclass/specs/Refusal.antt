use Rattle.std.specs.Prelude.{◌≡◌, ◌<◌, List, length}
use Rattle.cutclass.specs.declared.class_error.ClassError.{ClassError}
use Rattle.cutclass.specs.declared.class_error.ClassError.TheVariants.{Full, Memory}
use Rattle.cutclass.specs.declared.class_rule.ClassRule.{ClassRule}
use Rattle.cutclass.specs.declared.classes.TheConstants.{MOST_CLASSES}

-- a refusal of one class more: it is handed back, and the most are there exactly where the refusal says so
abbrev pub IsRefusal : List ClassRule → ClassRule → ClassError → Type 0
IsRefusal classes rule (Full back) = (length classes ≡ MOST_CLASSES) × (back ≡ rule)
IsRefusal classes rule (Memory back) = (length classes < MOST_CLASSES) × (back ≡ rule)
