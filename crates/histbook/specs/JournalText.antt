-- The text of a journal: docs/FORMATS.md, "The journal".
use Rattle.std.specs.Prelude.{ℕ, Bool, if◌then◌else◌, List, [], ◌∷◌, ◌++◌, flat_map, Option, Some, None, codes}
use Rattle.std.specs.Fmt.{decimal}
use Rattle.std.specs.List.{enumerate_from}
use Rattle.prio_budget.specs.declared.free.Free.{Free}
use Rattle.evring.specs.declared.advice.Advice.{Advice}
use Rattle.evring.specs.declared.reason.Reason.{Reason}
use Rattle.evring.specs.declared.reason.Reason.TheVariants.{Reset, Closed, Idle, Replaced, Finish}
use Rattle.histbook.specs.declared.look_entry.LookEntry.{LookEntry}
use Rattle.histbook.specs.declared.entry.Entry.{Entry}
use Rattle.histbook.specs.declared.entry.Entry.TheVariants.{Seg, Answer, Time, End}
use Rattle.histbook.specs.declared.core_entry.CoreEntry.{CoreEntry}
use Rattle.histbook.specs.declared.journal.Journal.{Journal}
use Rattle.histbook.specs.Runs.{runs_of}

-- a label and the number behind it
abbrev pub count : List ℕ → ℕ → List ℕ
count label n = label ++ decimal n

-- the sign of a look that was granted, or refused
abbrev pub look_sign : Bool → List ℕ
look_sign granted = if granted then codes " +" else codes " -"

-- the bytes asked for, and the stamp and the used number that the look found
unfoldable pub look_word : LookEntry → List ℕ
look_word look = count (look_sign look.granted) look.asked ++ count (codes "@") look.look.stamp ++ count (codes ":") look.look.found

-- the bytes that a release gave back, and the stamp that it found
unfoldable pub free_word : Free → List ℕ
free_word free = count (codes " ~") free.bytes ++ count (codes "@") free.stamp

-- the looks and then the releases of an entry, and the end of its line
unfoldable pub line_end : List LookEntry → List Free → List ℕ
line_end looks frees = flat_map look_word looks ++ flat_map free_word frees ++ codes "\n"

abbrev pub reason_word : Reason → List ℕ
reason_word Reset = codes "reset"
reason_word Closed = codes "closed"
reason_word Idle = codes "idle"
reason_word Replaced = codes "replaced"
reason_word Finish = codes "finish"

-- parts joined by commas
abbrev pub joined : List (List ℕ) → List ℕ
joined [] = []
joined (part ∷ parts) = part ++ flat_map (λ next. codes "," ++ next) parts

abbrev pub part_if : Bool → List ℕ → List (List ℕ)
part_if set part = if set then part ∷ [] else []

abbrev pub part_of : List ℕ → Option ℕ → List (List ℕ)
part_of label None = []
part_of label (Some n) = count label n ∷ []

-- the parts of an advice that are set, in their order
abbrev pub advice_parts : Advice → List (List ℕ)
advice_parts advice =
    part_if advice.keep (codes "k") ++ part_if advice.discard (codes "d") ++ part_of (codes "c") advice.cutoff ++ part_of (codes "p") advice.priority

-- a dot stands for no part
abbrev pub or_dot : List (List ℕ) → List ℕ
or_dot [] = codes "."
or_dot (part ∷ parts) = joined (part ∷ parts)

unfoldable pub advice_word : Advice → List ℕ
advice_word advice = or_dot (advice_parts advice)

-- the line of an entry of a conversation
unfoldable pub line_of : ℕ → Entry → List ℕ
line_of conv (Seg packet clock looks frees) =
    count (codes "seg ") conv ++ count (codes " ") packet ++ count (codes " ") clock ++ line_end looks frees
line_of conv (Answer event advice frees) =
    count (codes "ans ") conv ++ count (codes " ") event ++ codes " " ++ advice_word advice ++ line_end [] frees
line_of conv (Time at looks frees) =
    count (codes "time ") conv ++ count (codes " ") at ++ line_end looks frees
line_of conv (End at reason looks frees) =
    count (codes "end ") conv ++ count (codes " ") at ++ codes " " ++ reason_word reason ++ line_end looks frees

abbrev pub entry_line : CoreEntry → List ℕ
entry_line entry = line_of entry.conv entry.entry

-- a run of events that a worker took from one core
unfoldable pub from_line : ℕ × ℕ → List ℕ
from_line run = count (codes "from ") run.0 ++ count (codes " ") run.1 ++ codes "\n"

-- the lines of a book, and of a worker's list: one for each of its runs
abbrev pub book_lines : List CoreEntry → List ℕ
book_lines book = flat_map entry_line book

abbrev pub served_lines : List ℕ → List ℕ
served_lines list = flat_map from_line (runs_of list)

-- a heading with a number, and what stands under it
abbrev pub core_lines : ℕ × List CoreEntry → List ℕ
core_lines core = count (codes "core ") core.0 ++ codes "\n" ++ book_lines core.1

abbrev pub worker_lines : ℕ × List ℕ → List ℕ
worker_lines worker = count (codes "worker ") worker.0 ++ codes "\n" ++ served_lines worker.1

-- the cores, numbered from 0 on, and then the workers
unfoldable pub journal_text : Journal → List ℕ
journal_text journal = flat_map core_lines (enumerate_from 0 journal.cores) ++ flat_map worker_lines (enumerate_from 0 journal.workers)
