-- docs/FORMATS.md, "Statuses": kinds of statuses, by the numbers that a program ends with.
use Rattle.std.specs.Prelude.{ℕ, Bool, false, cond, ◌||◌, nat_eq, List, [], ◌∷◌}
use Rattle.pcapfile.specs.declared.head_fault.HeadFault.TheVariants.{Short}
use Rattle.scapconf.specs.StatusText.{number_of}
use Rattle.scapconf.specs.declared.settings_error.SettingsKind.TheVariants.{Word}
use Rattle.scapconf.specs.declared.status.Status.{Status}
use Rattle.scapconf.specs.declared.status.Status.TheVariants.{Done, Memory, Usage, Settings, ReadFault, WriteFault, NotPcap, BadRecord, CutShort, TooLong, Unbuilt}

abbrev pub done : ℕ
done = number_of Done

abbrev pub memory : ℕ
memory = number_of Memory

abbrev pub usage : ℕ
usage = number_of Usage

abbrev pub settings : ℕ
settings = number_of (Settings 0 Word)

abbrev pub read_fault : ℕ
read_fault = number_of ReadFault

abbrev pub write_fault : ℕ
write_fault = number_of WriteFault

abbrev pub not_pcap : ℕ
not_pcap = number_of (NotPcap Short)

abbrev pub bad_record : ℕ
bad_record = number_of (BadRecord 0 0)

abbrev pub cut_short : ℕ
cut_short = number_of (CutShort 0)

abbrev pub too_long : ℕ
too_long = number_of TooLong

abbrev pub unbuilt : ℕ
unbuilt = number_of Unbuilt

abbrev pub is_among : ℕ → List ℕ → Bool
is_among n [] = false
is_among n (kind ∷ kinds) = nat_eq n kind || is_among n kinds

-- a status is of one of these kinds
abbrev pub MayBe : List ℕ → Status → Type 0
MayBe kinds status = cond (is_among (number_of status) kinds) (Unit {0}) ⊥
