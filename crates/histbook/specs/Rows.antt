-- Journals written out by hand.
use Rattle.std.specs.Prelude.{ℕ, Bool, true, false, List, [], ◌∷◌}
use Rattle.prio_budget.specs.declared.free.Free.{Free}
use Rattle.evring.specs.declared.reason.Reason.TheVariants.{Finish}
use Rattle.evring.specs.Advice.{no_advice}
use Rattle.histbook.specs.declared.look_entry.LookEntry.{LookEntry}
use Rattle.histbook.specs.declared.entry.Entry.TheVariants.{Seg, Answer, End}
use Rattle.histbook.specs.declared.core_entry.CoreEntry.{CoreEntry}
use Rattle.histbook.specs.declared.journal.Journal.{Journal}

abbrev pub look : Bool → (asked stamp found : ℕ) → LookEntry
look granted asked stamp found = record { asked = asked; granted = granted; look = record { stamp = stamp; found = found } }

abbrev pub free : (bytes stamp : ℕ) → Free
free bytes stamp = record { stamp = stamp; bytes = bytes }

-- entries of conversation 1
abbrev pub came : (packet clock : ℕ) → LookEntry → CoreEntry
came packet clock look = record { conv = 1; entry = Seg packet clock (look ∷ []) [] }

abbrev pub answered : ℕ → List Free → CoreEntry
answered event frees = record { conv = 1; entry = Answer event no_advice frees }

abbrev pub finished : ℕ → CoreEntry
finished clock = record { conv = 1; entry = End clock Finish [] [] }

-- one core, and a worker that served events of core 0
abbrev pub of_one_core : List CoreEntry → List ℕ → Journal
of_one_core book served = record { cores = book ∷ []; workers = served ∷ [] }

-- one datagram of two bytes, whose look found that used number
abbrev pub one_datagram : ℕ → Journal
one_datagram found = of_one_core
    (came 1 1000000005 (look true 2 0 found) ∷ answered 1 [] ∷ finished 1000000005 ∷ answered 2 (free 2 1 ∷ []) ∷ answered 3 [] ∷ [])
    (0 ∷ 0 ∷ 0 ∷ [])

-- four datagrams of 1,400, 1,400, 1,400 and 1,200 bytes under a budget of 4,096 bytes: the third is refused
abbrev pub four_datagrams_with : LookEntry → (frees last : List Free) → Journal
four_datagrams_with third frees last = of_one_core
    (came 1 0 (look true 1400 0 0) ∷ answered 1 [] ∷ came 2 0 (look true 1400 1 1400) ∷ came 3 0 third ∷ came 4 0 (look true 1200 2 2800)
    ∷ answered 2 frees ∷ finished 0 ∷ answered 3 last ∷ answered 4 [] ∷ [])
    (0 ∷ 0 ∷ 0 ∷ 0 ∷ [])

abbrev pub its_third : LookEntry
its_third = look false 1400 2 2800

abbrev pub its_frees : List Free
its_frees = free 1400 3 ∷ free 1400 4 ∷ []

abbrev pub its_last : List Free
its_last = free 1200 5 ∷ []

abbrev pub four_datagrams : Journal
four_datagrams = four_datagrams_with its_third its_frees its_last

-- the same, each with one number off
abbrev pub stamp_twice : Journal
stamp_twice = four_datagrams_with its_third (free 1400 2 ∷ free 1400 4 ∷ []) its_last

abbrev pub stamp_too_high : Journal
stamp_too_high = four_datagrams_with its_third its_frees (free 1200 6 ∷ [])

abbrev pub look_too_late : Journal
look_too_late = four_datagrams_with (look false 1400 7 0) its_frees its_last

abbrev pub found_one_more : Journal
found_one_more = four_datagrams_with (look false 1400 2 2801) its_frees its_last

abbrev pub one_byte_kept : Journal
one_byte_kept = four_datagrams_with its_third its_frees (free 1199 5 ∷ [])

-- a packet that is granted bytes, a second one with a look and a release, and the rest given back
abbrev pub asked_and_freed : LookEntry → Free → Journal
asked_and_freed second back = of_one_core (came 1 0 (look true 2 0 0) ∷ record { conv = 1; entry = Seg 2 0 (second ∷ []) (back ∷ []) } ∷ answered 2 (free 3 3 ∷ []) ∷ []) (0 ∷ [])

-- the look before the release, and behind it
abbrev pub look_first : Journal
look_first = asked_and_freed (look true 3 1 2) (free 2 2)

abbrev pub release_first : Journal
release_first = asked_and_freed (look true 3 2 0) (free 2 1)
