use Rattle.std.specs.Prelude.{[], ◌∷◌}
use Rattle.scapconf.specs.declared.status.Status.{Status}
use Rattle.labtop.specs.Kinds as kind
use Rattle.labtop.specs.Kinds.{MayBe}

-- docs/RULES.md, "Answers".

-- the statuses of a make
abbrev pub IsOfMake : Status → Type 0
IsOfMake s = MayBe (kind.done ∷ kind.memory ∷ kind.write_fault ∷ []) s

-- where no fault was counted, the capture is made, or there was no memory
abbrev pub CompletesMake : Status → Type 0
CompletesMake s = MayBe (kind.done ∷ kind.memory ∷ []) s
