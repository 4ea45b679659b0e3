-- Entries under way.
use Rattle.std.specs.Prelude.{ℕ, zero, suc, List, [], ◌∷◌, ◌++◌, map, replicate}
use Rattle.evring.specs.Advice.{no_advice}
use Rattle.evring.specs.declared.reason.Reason.TheVariants.{Reset}
use Rattle.prio_budget.specs.declared.free.Free.{Free}
use Rattle.histbook.specs.declared.look_entry.LookEntry.{LookEntry}
use Rattle.streamdefs.specs.Packet.{Packet}
use Rattle.overpolicy.specs.declared.mode.Mode.TheVariants as modes
use Rattle.streamdefs.specs.Terms.{Terms}
use Rattle.streamdefs.specs.Convo.{Convo, new_convo, convo_after}
use Rattle.streamdefs.specs.Convo.Act.{Seg, Answer, Time, End}
use Rattle.streamdefs.specs.Convo.Event.{New}
use Rattle.streamdefs.specs.Core.{Line, Core, idle_core}
use Rattle.streamdefs.specs.Lawful.{CoreRun, Run}
use Rattle.streamdefs.specs.Want.{Want, want}
use Rattle.streamdefs.specs.Rows.{defaults, limited, got, free, silent, line, segment, answering, run_on_one}
use Rattle.streamdefs.specs.RowsMovement.{syn}

-- A copy waits, and a gap and a full chunk come in one segment: fast, chunks of 4 bytes, copies of 2, abcd at 0, efgh at 10.

abbrev pub copying_fast : Terms
copying_fast = record (limited 100) { mode = modes.Fast; chunk = 4; overlap = 2 }

abbrev pub abcd_first : Packet
abcd_first = segment 1 0 0 100 (97 ∷ 98 ∷ 99 ∷ 100 ∷ [])

abbrev pub efgh_far : Packet
efgh_far = segment 2 0 0 110 (101 ∷ 102 ∷ 103 ∷ 104 ∷ [])

-- the conversation before the second one
abbrev pub before_far : Convo
before_far = convo_after copying_fast (new_convo abcd_first) (Seg abcd_first 0 (got 4 0 0 ∷ got 2 1 4 ∷ []) [] ∷ Answer 1 no_advice [] ∷ Answer 2 no_advice (free 4 2 ∷ []) ∷ [])

-- what that entry wants with these looks and frees, and so many events handed over
abbrev pub far_wants : List LookEntry → List Free → ℕ → Want
far_wants looks frees emitted = want copying_fast before_far (Seg efgh_far 0 looks frees) emitted

-- Both directions have something due at 3.5 s: in fore a hole, behind which the copy is of no use; in back a flush, which asks
-- for a copy.

abbrev pub waiting : Terms
waiting = record (limited 100) { overlap = 2; flush = 1000000000; hole = 2000000000 }

abbrev pub xy_far : Packet
xy_far = segment 2 1500000000 0 110 (120 ∷ 121 ∷ [])

abbrev pub hi_back : Packet
hi_back = answering (segment 3 2500000000 0 500 (104 ∷ 105 ∷ []))

-- the conversation before that moment
abbrev pub before_time : Convo
before_time = convo_after waiting (new_convo abcd_first) (
    Seg abcd_first 0 (got 4 0 0 ∷ []) [] ∷ Time 1000000000 (got 2 1 4 ∷ []) [] ∷ Seg xy_far 1500000000 (got 2 2 6 ∷ []) [] ∷ Seg hi_back 2500000000 (got 2 3 8 ∷ []) [] ∷ [])

-- what the Time wants with these looks and frees, and so many events handed over
abbrev pub time_wants : List LookEntry → List Free → ℕ → Want
time_wants looks frees emitted = want waiting before_time (Time 3500000000 looks frees) emitted

-- A book with an entry under way: the third packet has two runs, and one look so far.

abbrev pub held_five : Packet
held_five = segment 2 0 0 105 (replicate 5 65)

abbrev pub over_both : Packet
over_both = segment 3 0 0 100 (replicate 15 66)

abbrev pub book_so_far : CoreRun
book_so_far = record {
  terms = defaults;
  last = 0;
  packets = syn ∷ held_five ∷ over_both ∷ over_both ∷ [];
  handler = silent;
  lines = map (line 1) (Seg syn 0 [] [] ∷ Answer 1 no_advice [] ∷ Seg held_five 0 (got 5 0 0 ∷ []) [] ∷ []);
}

abbrev pub under_way : Line
under_way = line 1 (Seg over_both 0 (got 5 1 5 ∷ []) [])

-- Conversations that are reset by their first packet: each makes two events.

abbrev pub syn_rst : ℕ → Packet
syn_rst number = segment number 0 6 7 []

abbrev pub resets : ℕ → ℕ → List Line
resets from zero = []
resets from (suc n) = line from (Seg (syn_rst from) 0 [] []) ∷ line from (End 0 Reset [] []) ∷ resets (suc from) n

-- the answers to their events
abbrev pub resets_answered : ℕ → ℕ → ℕ → List Line
resets_answered from event zero = []
resets_answered from event (suc n) = line from (Answer event no_advice []) ∷ line from (Answer (suc event) no_advice []) ∷ resets_answered (suc from) (suc (suc event)) n

abbrev pub reset_packets : ℕ → ℕ → List Packet
reset_packets from zero = []
reset_packets from (suc n) = syn_rst from ∷ reset_packets (suc from) n

-- a core with so many unanswered events
abbrev pub with_events : ℕ → Core
with_events n = record idle_core { events = replicate n (record { conv = 1; event = New }) }

-- 128 of them have 256 events, and one more comes before any answer
abbrev pub crowded : Run
crowded = run_on_one defaults 0 silent (reset_packets 1 129) (resets 1 128 ++ resets 129 1 ++ resets_answered 1 1 129) (replicate 258 0)

-- two of them, in small
abbrev pub two_reset_lines : List Line
two_reset_lines = resets 1 2 ++ resets_answered 1 1 2

abbrev pub two_resets : Run
two_resets = run_on_one defaults 0 silent (reset_packets 1 2) two_reset_lines (replicate 4 0)
