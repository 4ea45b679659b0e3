-- docs/FORMATS.md, "Statuses".
use Rattle.std.specs.Prelude.{ℕ, List, ◌++◌, codes}
use Rattle.std.specs.Fmt.{decimal}
use Rattle.pcapfile.specs.declared.head_fault.HeadFault.{HeadFault}
use Rattle.pcapfile.specs.declared.head_fault.HeadFault.TheVariants as fault
use Rattle.scapconf.specs.declared.settings_error.SettingsKind.{SettingsKind}
use Rattle.scapconf.specs.declared.settings_error.SettingsKind.TheVariants as kinds
use Rattle.scapconf.specs.declared.status.Status.{Status}
use Rattle.scapconf.specs.declared.status.Status.TheVariants.{Done, Memory, Usage, Settings, ReadFault, WriteFault, NotPcap, BadRecord, CutShort, TooLong, Unbuilt}

-- the number that a program ends with
abbrev pub number_of : Status → ℕ
number_of Done = 0
number_of Memory = 1
number_of Usage = 2
number_of (Settings line kind) = 3
number_of ReadFault = 4
number_of WriteFault = 5
number_of (NotPcap kind) = 6
number_of (BadRecord at len) = 7
number_of (CutShort bytes) = 8
number_of TooLong = 9
number_of Unbuilt = 13

-- what is wrong in a line of settings, in a word
abbrev pub kind_word : SettingsKind → List ℕ
kind_word kinds.Long = codes "long"
kind_word kinds.Text = codes "text"
kind_word kinds.Word = codes "word"
kind_word kinds.Repeated = codes "repeated"
kind_word kinds.Count = codes "count"
kind_word kinds.Number = codes "number"
kind_word kinds.Filter = codes "filter"
kind_word kinds.Budget = codes "budget"
kind_word kinds.Rule = codes "rule"
kind_word kinds.Many = codes "many"

-- why a file is no capture, in a word
abbrev pub fault_word : HeadFault → List ℕ
fault_word fault.Short = codes "short"
fault_word fault.PcapNg = codes "pcapng"
fault_word fault.Magic = codes "magic"
fault_word fault.Major = codes "major"
fault_word fault.Link = codes "link"

-- a fault of the settings, with its line
abbrev pub settings_text : ℕ → SettingsKind → List ℕ
settings_text line kind = codes "settings: line " ++ decimal line ++ codes ": " ++ kind_word kind

-- a file that is no capture
abbrev pub not_pcap_text : HeadFault → List ℕ
not_pcap_text kind = codes "not a pcap file: " ++ fault_word kind

-- a record with a length that no record has, with its offset in the file
abbrev pub bad_record_text : ℕ → ℕ → List ℕ
bad_record_text at len = codes "bad record at " ++ decimal at ++ codes ": captured length " ++ decimal len

-- a capture whose last record is cut, with the number of its bytes that are there
abbrev pub cut_short_text : ℕ → List ℕ
cut_short_text bytes = codes "capture ends inside a record: " ++ decimal bytes ++ codes " bytes"

-- the text that a program prints, given its usage line
abbrev pub status_text : List ℕ → Status → List ℕ
status_text usage Done = codes "done"
status_text usage Memory = codes "out of memory"
status_text usage Usage = usage
status_text usage (Settings line kind) = settings_text line kind
status_text usage ReadFault = codes "read fault"
status_text usage WriteFault = codes "write fault"
status_text usage (NotPcap kind) = not_pcap_text kind
status_text usage (BadRecord at len) = bad_record_text at len
status_text usage (CutShort bytes) = cut_short_text bytes
status_text usage TooLong = codes "too long"
status_text usage Unbuilt = codes "not built yet"
