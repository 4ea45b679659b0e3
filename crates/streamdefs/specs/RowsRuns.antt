-- Runs whose journals are lawful.
use Rattle.std.specs.Prelude.{ℕ, ◌==◌, ◌&&◌, Bool, cond, List, [], ◌∷◌, ◌++◌, Some, None, map, replicate, false}
use Rattle.evring.specs.Advice.{no_advice}
use Rattle.evring.specs.declared.advice.Advice.{Advice}
use Rattle.evring.specs.declared.reason.Reason.TheVariants.{Reset, Closed, Idle, Replaced, Finish}
use Rattle.histbook.specs.declared.core_entry.CoreEntry.{CoreEntry}
use Rattle.histbook.specs.declared.entry.Entry.{Entry}
use Rattle.histbook.specs.declared.entry.Entry.TheVariants as E
use Rattle.histbook.specs.declared.journal.Journal.{Journal}
use Rattle.streamdefs.specs.Packet.{Packet}
use Rattle.cutclass.specs.declared.cut.Cut.TheVariants as cuts
use Rattle.overpolicy.specs.declared.mode.Mode.TheVariants as modes
use Rattle.streamdefs.specs.Terms.{Terms}
use Rattle.streamdefs.specs.Convo.{Act}
use Rattle.streamdefs.specs.Convo.Act.{Seg, Answer, Time, End}
use Rattle.streamdefs.specs.Convo.Seen.{Created, Data, Over}
use Rattle.streamdefs.specs.Core.{Line}
use Rattle.streamdefs.specs.Lawful.{Run, Handler}
use Rattle.streamdefs.specs.Case.{run_of}
use Rattle.streamdefs.specs.Report.{RecordCounts, Outcome}
use Rattle.streamdefs.specs.Rows.{defaults, limited, got, past, free, keep, silent, keeps_before, line, datagram, datagram_from, segment, answering, run_on_one}
use Rattle.streamdefs.specs.RowsMovement.{hole_history, syn}

-- One datagram of two bytes, its journal as it is kept.

abbrev pub one_datagram : Packet
one_datagram = datagram 1 1000000005 (104 ∷ 105 ∷ [])

abbrev pub entry_of_one : Entry → CoreEntry
entry_of_one entry = record { conv = 1; entry = entry }

abbrev pub one_journal : Journal
one_journal = record {
  cores = map entry_of_one (
      E.Seg 1 1000000005 (got 2 0 0 ∷ []) [] ∷ E.Answer 1 no_advice [] ∷ E.End 1000000005 Finish [] [] ∷ E.Answer 2 no_advice (free 2 1 ∷ []) ∷ E.Answer 3 no_advice [] ∷ []) ∷ [];
  workers = (0 ∷ 0 ∷ 0 ∷ []) ∷ [];
}

abbrev pub one_run : Run
one_run = run_of defaults (one_datagram ∷ []) (λ p. 0) 1 1000000005 (silent ∷ []) one_journal

-- one record, accepted
abbrev pub one_record : RecordCounts
one_record = record { accepted = 1; filtered = 0; other = 0; fragment = 0; short = 0 }

-- the whole capture was worked off
abbrev pub done : Outcome
done = record { status = 0; more = [] }

-- A budget of 4,096 bytes, and datagrams of 1,400, 1,400, 1,400 and 1,200 bytes: the third is shed.

abbrev pub sized : ℕ → ℕ → Packet
sized number len = datagram number 0 (replicate len 120)

abbrev pub four_acts : List Act
four_acts =
    Seg (sized 1 1400) 0 (got 1400 0 0 ∷ []) [] ∷ Answer 1 no_advice [] ∷ Seg (sized 2 1400) 0 (got 1400 1 1400 ∷ []) []
    ∷ Seg (sized 3 1400) 0 (past 1400 2 2800 ∷ []) [] ∷ Seg (sized 4 1200) 0 (got 1200 2 2800 ∷ []) []
    ∷ Answer 2 no_advice (free 1400 3 ∷ free 1400 4 ∷ []) ∷ End 0 Finish [] [] ∷ Answer 3 no_advice (free 1200 5 ∷ []) ∷ Answer 4 no_advice [] ∷ []

abbrev pub four_run : Run
four_run = run_on_one (limited 4096) 0 silent (sized 1 1400 ∷ sized 2 1400 ∷ sized 3 1400 ∷ sized 4 1200 ∷ []) (map (line 1) four_acts) (0 ∷ 0 ∷ 0 ∷ 0 ∷ [])

-- Copies: chunks of 4 bytes, copies of 2, the datagrams abc, def, ghi.

abbrev pub copying : Terms
copying = record (limited 100) { chunk = 4; overlap = 2 }

abbrev pub abc : Packet
abc = datagram 1 0 (97 ∷ 98 ∷ 99 ∷ [])

abbrev pub def : Packet
def = datagram 2 0 (100 ∷ 101 ∷ 102 ∷ [])

abbrev pub ghi : Packet
ghi = datagram 3 0 (103 ∷ 104 ∷ 105 ∷ [])

abbrev pub copy_run : Run
copy_run = run_on_one copying 0 silent (abc ∷ def ∷ ghi ∷ []) (map (line 1) (
    Seg abc 0 (got 3 0 0 ∷ []) [] ∷ Answer 1 no_advice [] ∷ Seg def 0 (got 3 1 3 ∷ got 2 2 6 ∷ []) [] ∷ Answer 2 no_advice (free 3 3 ∷ free 3 4 ∷ [])
    ∷ Seg ghi 0 (got 3 5 2 ∷ []) [] ∷ End 0 Finish [] [] ∷ Answer 3 no_advice (free 2 6 ∷ free 3 7 ∷ []) ∷ Answer 4 no_advice [] ∷ [])) (0 ∷ 0 ∷ 0 ∷ 0 ∷ [])

-- the copy is refused
abbrev pub uncopied_run : Run
uncopied_run = run_on_one (record (limited 7) { chunk = 4; overlap = 2 }) 0 silent (abc ∷ def ∷ ghi ∷ []) (map (line 1) (
    Seg abc 0 (got 3 0 0 ∷ []) [] ∷ Answer 1 no_advice [] ∷ Seg def 0 (got 3 1 3 ∷ past 2 2 6 ∷ []) [] ∷ Answer 2 no_advice (free 3 2 ∷ free 3 3 ∷ [])
    ∷ Seg ghi 0 (got 3 4 0 ∷ []) [] ∷ End 0 Finish [] [] ∷ Answer 3 no_advice (free 3 5 ∷ []) ∷ Answer 4 no_advice [] ∷ [])) (0 ∷ 0 ∷ 0 ∷ 0 ∷ [])

-- no byte follows the copy: the End gives it back
abbrev pub spare_run : Run
spare_run = run_on_one copying 0 silent (abc ∷ def ∷ []) (map (line 1) (
    Seg abc 0 (got 3 0 0 ∷ []) [] ∷ Answer 1 no_advice [] ∷ Seg def 0 (got 3 1 3 ∷ got 2 2 6 ∷ []) [] ∷ Answer 2 no_advice (free 3 3 ∷ free 3 4 ∷ [])
    ∷ End 0 Finish [] (free 2 5 ∷ []) ∷ Answer 3 no_advice [] ∷ [])) (0 ∷ 0 ∷ 0 ∷ [])

-- Kept chunks: chunks of 4 bytes, those that start below 4 are kept, the datagrams abcd, efgh.

abbrev pub four_bytes : Terms
four_bytes = record defaults { chunk = 4 }

abbrev pub abcd : Packet
abcd = datagram 1 0 (97 ∷ 98 ∷ 99 ∷ 100 ∷ [])

abbrev pub efgh : Packet
efgh = datagram 2 0 (101 ∷ 102 ∷ 103 ∷ 104 ∷ [])

abbrev pub keep_run : Run
keep_run = run_on_one four_bytes 0 (keeps_before 4) (abcd ∷ efgh ∷ []) (map (line 1) (
    Seg abcd 0 (got 4 0 0 ∷ []) [] ∷ Answer 1 no_advice [] ∷ Answer 2 keep [] ∷ Seg efgh 0 (got 4 1 4 ∷ []) [] ∷ Answer 3 no_advice (free 4 2 ∷ free 4 3 ∷ [])
    ∷ End 0 Finish [] [] ∷ Answer 4 no_advice [] ∷ [])) (0 ∷ 0 ∷ 0 ∷ 0 ∷ [])

-- the End comes before the answer: the core gives the chunk back
abbrev pub late_keep_run : Run
late_keep_run = run_on_one four_bytes 0 (keeps_before 4) (abcd ∷ []) (map (line 1) (
    Seg abcd 0 (got 4 0 0 ∷ []) [] ∷ Answer 1 no_advice [] ∷ End 0 Finish [] [] ∷ Answer 2 keep (free 4 1 ∷ []) ∷ Answer 3 no_advice [] ∷ [])) (0 ∷ 0 ∷ 0 ∷ [])

-- no chunk comes before the End: it gives the kept one back
abbrev pub unshown_run : Run
unshown_run = run_on_one four_bytes 0 (keeps_before 4) (abcd ∷ []) (map (line 1) (
    Seg abcd 0 (got 4 0 0 ∷ []) [] ∷ Answer 1 no_advice [] ∷ Answer 2 keep [] ∷ End 0 Finish [] (free 4 1 ∷ []) ∷ Answer 3 no_advice [] ∷ [])) (0 ∷ 0 ∷ 0 ∷ [])

-- Flush after half a second: ab at 0 s, cd at 2 s.

abbrev pub flushing : Terms
flushing = record defaults { flush = 500000000 }

abbrev pub ab : Packet
ab = datagram 1 0 (97 ∷ 98 ∷ [])

abbrev pub cd : Packet
cd = datagram 2 2000000000 (99 ∷ 100 ∷ [])

abbrev pub flush_run : Run
flush_run = run_on_one flushing 2000000000 silent (ab ∷ cd ∷ []) (map (line 1) (
    Seg ab 0 (got 2 0 0 ∷ []) [] ∷ Answer 1 no_advice [] ∷ Time 500000000 [] [] ∷ Answer 2 no_advice (free 2 1 ∷ []) ∷ Seg cd 2000000000 (got 2 2 0 ∷ []) []
    ∷ End 2000000000 Finish [] [] ∷ Answer 3 no_advice (free 2 3 ∷ []) ∷ Answer 4 no_advice [] ∷ [])) (0 ∷ 0 ∷ 0 ∷ 0 ∷ [])

-- A hole falls due.

abbrev pub hole_run : Run
hole_run = run_on_one defaults 3000000000 silent (syn ∷ segment 2 1000000000 0 105 (replicate 5 66) ∷ segment 3 3000000000 0 100 (replicate 5 65) ∷ []) (map (line 1) hole_history) (0 ∷ 0 ∷ 0 ∷ [])

-- Replaced, in fast mode: a SYN of 1000, then a SYN of 5000.

abbrev pub first_syn : Packet
first_syn = segment 1 0 2 1000 []

abbrev pub second_syn : Packet
second_syn = segment 2 0 2 5000 []

abbrev pub replaced_lines : List Line
replaced_lines =
    line 1 (Seg first_syn 0 [] []) ∷ line 1 (Answer 1 no_advice []) ∷ line 1 (End 0 Replaced [] []) ∷ line 2 (Seg second_syn 0 [] [])
    ∷ line 1 (Answer 2 no_advice []) ∷ line 2 (Answer 3 no_advice []) ∷ line 2 (End 0 Finish [] []) ∷ line 2 (Answer 4 no_advice []) ∷ []

abbrev pub replaced_run : Run
replaced_run = run_on_one (record defaults { mode = modes.Fast }) 0 silent (first_syn ∷ second_syn ∷ []) replaced_lines (0 ∷ 0 ∷ 0 ∷ 0 ∷ [])

-- Reset: a SYN, ten bytes, RST from the other end, five bytes that are late, and a SYN of another conversation.

abbrev pub reset_data : Packet
reset_data = segment 2 1 0 1001 (replicate 10 65)

abbrev pub reset_rst : Packet
reset_rst = answering (segment 3 2 4 0 [])

abbrev pub reset_late : Packet
reset_late = segment 4 3 0 1011 (replicate 5 66)

abbrev pub reset_next : Packet
reset_next = segment 5 4 2 9000 []

abbrev pub reset_run : Run
reset_run = run_on_one defaults 4 silent (first_syn ∷ reset_data ∷ reset_rst ∷ reset_late ∷ reset_next ∷ []) (
    line 1 (Seg first_syn 0 [] []) ∷ line 1 (Answer 1 no_advice []) ∷ line 1 (Seg reset_data 1 (got 10 0 0 ∷ []) []) ∷ line 1 (Seg reset_rst 2 [] [])
    ∷ line 1 (End 2 Reset [] []) ∷ line 1 (Answer 2 no_advice (free 10 1 ∷ [])) ∷ line 1 (Answer 3 no_advice []) ∷ line 1 (Seg reset_late 3 [] [])
    ∷ line 5 (Seg reset_next 4 [] []) ∷ line 5 (Answer 4 no_advice []) ∷ line 5 (End 4 Finish [] []) ∷ line 5 (Answer 5 no_advice []) ∷ []) (0 ∷ 0 ∷ 0 ∷ 0 ∷ 0 ∷ [])

-- Closed: a SYN each way, a FIN with two bytes, and a FIN back.

abbrev pub syn_back : Packet
syn_back = answering (segment 2 0 2 5000 [])

abbrev pub fin_fore : Packet
fin_fore = segment 3 0 1 1001 (65 ∷ 66 ∷ [])

abbrev pub fin_back : Packet
fin_back = answering (segment 4 0 1 5001 [])

abbrev pub closed_run : Run
closed_run = run_on_one defaults 0 silent (first_syn ∷ syn_back ∷ fin_fore ∷ fin_back ∷ []) (map (line 1) (
    Seg first_syn 0 [] [] ∷ Answer 1 no_advice [] ∷ Seg syn_back 0 [] [] ∷ Seg fin_fore 0 (got 2 0 0 ∷ []) [] ∷ Seg fin_back 0 [] [] ∷ End 0 Closed [] []
    ∷ Answer 2 no_advice (free 2 1 ∷ []) ∷ Answer 3 no_advice [] ∷ [])) (0 ∷ 0 ∷ 0 ∷ [])

-- Idle: a datagram, and one of the same key 300 s later.

abbrev pub idle_first : Packet
idle_first = datagram 1 0 (65 ∷ [])

abbrev pub idle_second : Packet
idle_second = datagram 2 300000000000 (66 ∷ [])

abbrev pub idle_run : Run
idle_run = run_on_one defaults 300000000000 silent (idle_first ∷ idle_second ∷ []) (
    line 1 (Seg idle_first 0 (got 1 0 0 ∷ []) []) ∷ line 1 (Answer 1 no_advice []) ∷ line 1 (End 300000000000 Idle [] []) ∷ line 2 (Seg idle_second 300000000000 (got 1 1 1 ∷ []) [])
    ∷ line 1 (Answer 2 no_advice (free 1 2 ∷ [])) ∷ line 1 (Answer 3 no_advice []) ∷ line 2 (Answer 4 no_advice []) ∷ line 2 (End 300000000000 Finish [] [])
    ∷ line 2 (Answer 5 no_advice (free 1 3 ∷ [])) ∷ line 2 (Answer 6 no_advice []) ∷ []) (replicate 6 0)

-- Priorities: a limit of 100, a base of 40, three marks at 60, 80 and 100. Datagrams to port 53 have priority 2; those from
-- port 6000 go to another port.

abbrev pub by_port : Terms
by_port = record defaults {
  class = λ key toward. cond (key.high.port == 53) (Some (record { priority = 2; cutoff = cuts.Unset })) None;
  marks = record { limit = 100; base = 40; priorities = 3 };
}

abbrev pub plain : ℕ → Packet
plain number = record (datagram number 0 (replicate 10 65)) { key = record { proto = one_datagram.key.proto; low = one_datagram.key.low; high = record { addr = one_datagram.key.high.addr; port = 80 } } }

abbrev pub urgent : Packet
urgent = datagram 8 0 (replicate 10 66)

abbrev pub priorities_run : Run
priorities_run = run_on_one by_port 0 silent (plain 1 ∷ plain 2 ∷ plain 3 ∷ plain 4 ∷ plain 5 ∷ plain 6 ∷ plain 7 ∷ urgent ∷ []) (
    line 1 (Seg (plain 1) 0 (got 10 0 0 ∷ []) []) ∷ line 1 (Seg (plain 2) 0 (got 10 1 10 ∷ []) []) ∷ line 1 (Seg (plain 3) 0 (got 10 2 20 ∷ []) [])
    ∷ line 1 (Seg (plain 4) 0 (got 10 3 30 ∷ []) []) ∷ line 1 (Seg (plain 5) 0 (got 10 4 40 ∷ []) []) ∷ line 1 (Seg (plain 6) 0 (got 10 5 50 ∷ []) [])
    ∷ line 1 (Seg (plain 7) 0 (past 10 6 60 ∷ []) []) ∷ line 8 (Seg urgent 0 (got 10 6 60 ∷ []) []) ∷ line 1 (End 0 Finish [] []) ∷ line 8 (End 0 Finish [] [])
    ∷ line 1 (Answer 1 no_advice []) ∷ line 8 (Answer 2 no_advice []) ∷ line 1 (Answer 3 no_advice (free 10 7 ∷ free 10 8 ∷ free 10 9 ∷ free 10 10 ∷ free 10 11 ∷ free 10 12 ∷ []))
    ∷ line 1 (Answer 4 no_advice []) ∷ line 8 (Answer 5 no_advice (free 10 13 ∷ [])) ∷ line 8 (Answer 6 no_advice []) ∷ []) (replicate 6 0)

-- A rule: what begins with "GE" is cut at 6. The segments are "GET /" and "abcd".

abbrev pub cut_at_six : Advice
cut_at_six = record { keep = false; discard = false; cutoff = Some 6; priority = None }

abbrev pub begins_ge : List ℕ → Bool
begins_ge (a ∷ b ∷ rest) = (a == 71) && (b == 69)
begins_ge _ = false

abbrev pub cuts_ge : Handler
cuts_ge conv (Data key way start gap over kept shown) = cond (begins_ge (kept ++ shown)) cut_at_six no_advice
cuts_ge conv (Created key toward) = no_advice
cuts_ge conv (Over reason) = no_advice

abbrev pub get : Packet
get = segment 1 0 0 100 (71 ∷ 69 ∷ 84 ∷ 32 ∷ 47 ∷ [])

abbrev pub behind_get : Packet
behind_get = segment 2 0 0 105 (97 ∷ 98 ∷ 99 ∷ 100 ∷ [])

abbrev pub rule_acts : List Act
rule_acts =
    Seg get 0 (got 5 0 0 ∷ []) [] ∷ Answer 1 no_advice [] ∷ Answer 2 cut_at_six (free 5 1 ∷ []) ∷ Seg behind_get 0 (got 1 2 0 ∷ []) []
    ∷ End 0 Finish [] [] ∷ Answer 3 no_advice (free 1 3 ∷ []) ∷ Answer 4 no_advice [] ∷ []

abbrev pub rule_run : Run
rule_run = run_on_one four_bytes 0 cuts_ge (get ∷ behind_get ∷ []) (map (line 1) rule_acts) (0 ∷ 0 ∷ 0 ∷ 0 ∷ [])

-- Two cores and two workers: core 1 reserves first.

abbrev pub on_first : Packet
on_first = datagram 1 5 (97 ∷ 98 ∷ [])

abbrev pub on_second : Packet
on_second = datagram_from 6000 2 7 (99 ∷ 100 ∷ 101 ∷ [])

abbrev pub two_run : Run
two_run = record {
  terms = limited 10;
  last = 7;
  arrivals = (on_first ∷ []) ∷ (on_second ∷ []) ∷ [];
  books = (line 1 (Seg on_first 5 (got 2 1 3 ∷ []) []) ∷ line 1 (End 7 Finish [] []) ∷ line 1 (Answer 1 no_advice []) ∷ line 1 (Answer 2 no_advice (free 2 2 ∷ [])) ∷ line 1 (Answer 3 no_advice []) ∷ [])
      ∷ (line 2 (Seg on_second 7 (got 3 0 0 ∷ []) []) ∷ line 2 (Answer 1 no_advice []) ∷ line 2 (End 7 Finish [] []) ∷ line 2 (Answer 2 no_advice (free 3 3 ∷ [])) ∷ line 2 (Answer 3 no_advice []) ∷ []) ∷ [];
  served = (0 ∷ 0 ∷ 0 ∷ []) ∷ (1 ∷ 1 ∷ 1 ∷ []) ∷ [];
  handlers = silent ∷ silent ∷ [];
}
