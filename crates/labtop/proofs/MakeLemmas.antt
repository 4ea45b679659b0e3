-- The answers of a make.
use Rattle.std.proofs.Common.{◌≡◌, refl}
use Rattle.scapconf.specs.declared.status.Status.{Status}
use Rattle.scapconf.specs.declared.status.Status.TheVariants.{Done, Memory, Usage, Settings as Faulty, ReadFault, WriteFault, NotPcap, BadRecord, CutShort, TooLong, Unbuilt}
use Rattle.labtop.specs.Answers.{IsBefore}
use Rattle.labtop.specs.MakeAnswers.{CompletesMake, IsOfMake}

pub complete_make : (s : Status) (P : Type 0) → IsOfMake s → (s ≡ WriteFault → P) → (P → ⊥) → CompletesMake s
complete_make Done P k write none = tt
complete_make Memory P k write none = tt
complete_make WriteFault P k write none = absurd (none (write refl))
complete_make Usage P k write none = absurd k
complete_make (Faulty n kind) P k write none = absurd k
complete_make ReadFault P k write none = absurd k
complete_make (NotPcap kind) P k write none = absurd k
complete_make (BadRecord at len) P k write none = absurd k
complete_make (CutShort bytes) P k write none = absurd k
complete_make TooLong P k write none = absurd k
complete_make Unbuilt P k write none = absurd k

pub not_before : (s : Status) → IsOfMake s → IsBefore s → ⊥
not_before Done k b = b
not_before Memory k b = b
not_before WriteFault k b = b
not_before Usage k b = k
not_before (Faulty n kind) k b = k
not_before ReadFault k b = k
not_before (NotPcap kind) k b = k
not_before (BadRecord at len) k b = k
not_before (CutShort bytes) k b = k
not_before TooLong k b = k
not_before Unbuilt k b = k
