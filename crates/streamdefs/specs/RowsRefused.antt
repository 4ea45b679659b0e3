-- Runs whose journals are refused, each for one mistake.
use Rattle.std.specs.Prelude.{ℕ, List, [], ◌∷◌, ◌++◌, map, replicate}
use Rattle.evring.specs.Advice.{no_advice}
use Rattle.evring.specs.declared.reason.Reason.TheVariants.{Finish}
use Rattle.streamdefs.specs.Packet.{Packet}
use Rattle.streamdefs.specs.Terms.{Terms}
use Rattle.streamdefs.specs.Convo.{Act}
use Rattle.streamdefs.specs.Convo.Act.{Seg, Answer, End}
use Rattle.streamdefs.specs.Lawful.{Run}
use Rattle.streamdefs.specs.Rows.{defaults, got, past, free, keep, silent, keeps_before, line, datagram, segment, run_on_one}
use Rattle.streamdefs.specs.RowsMovement.{syn}
use Rattle.streamdefs.specs.RowsRuns.{two_run, on_first, on_second, first_syn, second_syn, reset_data, reset_rst, ab, keep_run, abcd, efgh, four_bytes, copying, abc, def}

-- A limit of 60 bytes, of which the one priority in use may fill 40; datagrams of 14, 14, 14 and 12 bytes.

abbrev pub tight : Terms
tight = record defaults { marks = record { limit = 60; base = 20; priorities = 2 } }

abbrev pub filled : ℕ → ℕ → Packet
filled number len = datagram number 0 (replicate len 120)

abbrev pub tight_packets : List Packet
tight_packets = filled 1 14 ∷ filled 2 14 ∷ filled 3 14 ∷ filled 4 12 ∷ []

abbrev pub tight_run : List Act → List ℕ → Run
tight_run acts served = run_on_one tight 0 silent tight_packets (map (line 1) acts) served

-- their looks as they should be
abbrev pub looked : List Act
looked =
    Seg (filled 1 14) 0 (got 14 0 0 ∷ []) [] ∷ Answer 1 no_advice [] ∷ Seg (filled 2 14) 0 (got 14 1 14 ∷ []) []
    ∷ Seg (filled 3 14) 0 (past 14 2 28 ∷ []) [] ∷ Seg (filled 4 12) 0 (got 12 2 28 ∷ []) [] ∷ []

-- other entries behind these
abbrev pub behind_looks : List Act → List Act
behind_looks acts = looked ++ acts

-- with no mistake
abbrev pub tight_right : Run
tight_right = tight_run (behind_looks (Answer 2 no_advice (free 14 3 ∷ free 14 4 ∷ []) ∷ End 0 Finish [] [] ∷ Answer 3 no_advice (free 12 5 ∷ []) ∷ Answer 4 no_advice [] ∷ [])) (0 ∷ 0 ∷ 0 ∷ 0 ∷ [])

-- a packet of the other core
abbrev pub astray : Run
astray = record two_run { arrivals = (on_first ∷ on_second ∷ []) ∷ [] ∷ [] }

-- a core without a book
abbrev pub bookless : Run
bookless = record two_run {
  books = (line 1 (Seg on_first 5 (got 2 0 0 ∷ []) []) ∷ line 1 (End 7 Finish [] []) ∷ line 1 (Answer 1 no_advice []) ∷ line 1 (Answer 2 no_advice (free 2 1 ∷ [])) ∷ line 1 (Answer 3 no_advice []) ∷ []) ∷ [];
  served = (0 ∷ 0 ∷ 0 ∷ []) ∷ [] ∷ [];
}

-- a SYN with another base stands under the first conversation
abbrev pub unreplaced : Run
unreplaced = run_on_one defaults 0 silent (first_syn ∷ second_syn ∷ []) (map (line 1) (
    Seg first_syn 0 [] [] ∷ Answer 1 no_advice [] ∷ Seg second_syn 0 [] [] ∷ End 0 Finish [] [] ∷ Answer 2 no_advice [] ∷ [])) (0 ∷ 0 ∷ [])

-- a datagram stands under a new conversation, while that of its key is live
abbrev pub split_in_two : Run
split_in_two = run_on_one defaults 0 silent (ab ∷ datagram 2 0 (99 ∷ []) ∷ []) (
    line 1 (Seg ab 0 (got 2 0 0 ∷ []) []) ∷ line 2 (Seg (datagram 2 0 (99 ∷ [])) 0 (got 1 1 2 ∷ []) []) ∷ line 1 (Answer 1 no_advice []) ∷ line 2 (Answer 2 no_advice [])
    ∷ line 1 (End 0 Finish [] []) ∷ line 2 (End 0 Finish [] []) ∷ line 1 (Answer 3 no_advice (free 2 2 ∷ [])) ∷ line 1 (Answer 4 no_advice [])
    ∷ line 2 (Answer 5 no_advice (free 1 3 ∷ [])) ∷ line 2 (Answer 6 no_advice []) ∷ []) (replicate 6 0)

-- a hole fell due, and its Time is missing
abbrev pub behind_hole : Packet
behind_hole = segment 2 1000000000 0 105 (replicate 5 66)

abbrev pub filling : Packet
filling = segment 3 3000000000 0 100 (replicate 5 65)

abbrev pub timeless : Run
timeless = run_on_one defaults 3000000000 silent (syn ∷ behind_hole ∷ filling ∷ []) (map (line 1) (
    Seg syn 0 [] [] ∷ Answer 1 no_advice [] ∷ Seg behind_hole 1000000000 (got 5 0 0 ∷ []) [] ∷ Seg filling 3000000000 (got 5 1 5 ∷ []) []
    ∷ End 3000000000 Finish [] [] ∷ Answer 2 no_advice (free 5 2 ∷ free 5 3 ∷ []) ∷ Answer 3 no_advice [] ∷ [])) (0 ∷ 0 ∷ 0 ∷ [])

-- a RST came, and the conversation ends as finish
abbrev pub unreset : Run
unreset = run_on_one defaults 2 silent (first_syn ∷ reset_data ∷ reset_rst ∷ []) (map (line 1) (
    Seg first_syn 0 [] [] ∷ Answer 1 no_advice [] ∷ Seg reset_data 1 (got 10 0 0 ∷ []) [] ∷ Seg reset_rst 2 [] [] ∷ End 2 Finish [] []
    ∷ Answer 2 no_advice (free 10 1 ∷ []) ∷ Answer 3 no_advice [] ∷ [])) (0 ∷ 0 ∷ 0 ∷ [])

-- a conversation has no End
abbrev pub unended : Run
unended = run_on_one defaults 0 silent (syn ∷ []) (map (line 1) (Seg syn 0 [] [] ∷ Answer 1 no_advice [] ∷ [])) (0 ∷ [])

-- a conversation ends that never opened
abbrev pub unopened : Run
unopened = run_on_one defaults 0 silent (syn ∷ []) (
    line 1 (Seg syn 0 [] []) ∷ line 1 (Answer 1 no_advice []) ∷ line 1 (End 0 Finish [] []) ∷ line 1 (Answer 2 no_advice []) ∷ line 7 (End 0 Finish [] []) ∷ line 7 (Answer 3 no_advice []) ∷ []) (0 ∷ 0 ∷ 0 ∷ [])

-- the last event has no answer
abbrev pub unanswered : Run
unanswered = tight_run (behind_looks (Answer 2 no_advice (free 14 3 ∷ free 14 4 ∷ []) ∷ End 0 Finish [] [] ∷ Answer 3 no_advice (free 12 5 ∷ []) ∷ [])) (0 ∷ 0 ∷ 0 ∷ 0 ∷ [])

-- answers out of order
abbrev pub swapped : Run
swapped = tight_run (behind_looks (End 0 Finish [] [] ∷ Answer 3 no_advice (free 14 3 ∷ free 14 4 ∷ []) ∷ Answer 2 no_advice (free 12 5 ∷ []) ∷ Answer 4 no_advice [] ∷ [])) (0 ∷ 0 ∷ 0 ∷ 0 ∷ [])

-- advice that the handler doesn't state
abbrev pub invented : Run
invented = record keep_run { handlers = silent ∷ [] }

-- a look granted above its mark
abbrev pub above_mark : Run
above_mark = tight_run (
    Seg (filled 1 14) 0 (got 14 0 0 ∷ []) [] ∷ Answer 1 no_advice [] ∷ Seg (filled 2 14) 0 (got 14 1 14 ∷ []) [] ∷ Seg (filled 3 14) 0 (got 14 2 28 ∷ []) []
    ∷ Seg (filled 4 12) 0 (got 12 3 42 ∷ []) [] ∷ End 0 Finish [] [] ∷ Answer 2 no_advice (free 14 4 ∷ free 14 5 ∷ free 14 6 ∷ free 12 7 ∷ []) ∷ Answer 3 no_advice [] ∷ []) (0 ∷ 0 ∷ 0 ∷ [])

-- a look refused below its mark
abbrev pub below_mark : Run
below_mark = tight_run (
    Seg (filled 1 14) 0 (got 14 0 0 ∷ []) [] ∷ Answer 1 no_advice [] ∷ Seg (filled 2 14) 0 (got 14 1 14 ∷ []) [] ∷ Seg (filled 3 14) 0 (past 14 2 28 ∷ []) []
    ∷ Seg (filled 4 12) 0 (past 12 2 28 ∷ []) [] ∷ End 0 Finish [] [] ∷ Answer 2 no_advice (free 14 2 ∷ free 14 3 ∷ []) ∷ Answer 3 no_advice [] ∷ []) (0 ∷ 0 ∷ 0 ∷ [])

-- a copy that isn't asked for
abbrev pub unasked : Run
unasked = run_on_one copying 0 silent (abc ∷ def ∷ []) (map (line 1) (
    Seg abc 0 (got 3 0 0 ∷ []) [] ∷ Answer 1 no_advice [] ∷ Seg def 0 (got 3 1 3 ∷ []) [] ∷ Answer 2 no_advice (free 3 2 ∷ free 3 3 ∷ [])
    ∷ End 0 Finish [] [] ∷ Answer 3 no_advice [] ∷ [])) (0 ∷ 0 ∷ 0 ∷ [])

-- two charges of one delivery are given back in the other order
abbrev pub exchanged : Run
exchanged = run_on_one defaults 0 silent (ab ∷ datagram 2 0 (99 ∷ []) ∷ []) (map (line 1) (
    Seg ab 0 (got 2 0 0 ∷ []) [] ∷ Answer 1 no_advice [] ∷ Seg (datagram 2 0 (99 ∷ [])) 0 (got 1 1 2 ∷ []) [] ∷ End 0 Finish [] []
    ∷ Answer 2 no_advice (free 1 2 ∷ free 2 3 ∷ []) ∷ Answer 3 no_advice [] ∷ [])) (0 ∷ 0 ∷ 0 ∷ [])

-- a kept chunk is given back and shown again
abbrev pub shown_again : Run
shown_again = run_on_one four_bytes 0 (keeps_before 4) (abcd ∷ efgh ∷ []) (map (line 1) (
    Seg abcd 0 (got 4 0 0 ∷ []) [] ∷ Answer 1 no_advice [] ∷ Answer 2 keep (free 4 1 ∷ []) ∷ Seg efgh 0 (got 4 2 0 ∷ []) [] ∷ Answer 3 no_advice (free 4 3 ∷ [])
    ∷ End 0 Finish [] [] ∷ Answer 4 no_advice [] ∷ [])) (0 ∷ 0 ∷ 0 ∷ 0 ∷ [])

-- a surplus core in a worker's list
abbrev pub surplus : Run
surplus = record keep_run { served = replicate 5 0 ∷ [] }

-- a free with a stamp past the last
abbrev pub stamped_past : Run
stamped_past = tight_run (behind_looks (Answer 2 no_advice (free 14 3 ∷ free 14 4 ∷ []) ∷ End 0 Finish [] [] ∷ Answer 3 no_advice (free 12 6 ∷ []) ∷ Answer 4 no_advice [] ∷ [])) (0 ∷ 0 ∷ 0 ∷ 0 ∷ [])

-- a stamp twice, and another one missing
abbrev pub stamped_twice : Run
stamped_twice = tight_run (behind_looks (Answer 2 no_advice (free 14 2 ∷ free 14 4 ∷ []) ∷ End 0 Finish [] [] ∷ Answer 3 no_advice (free 12 5 ∷ []) ∷ Answer 4 no_advice [] ∷ [])) (0 ∷ 0 ∷ 0 ∷ 0 ∷ [])

-- a core that counts its own used bytes alone
abbrev pub private : Run
private = record two_run {
  books = (line 1 (Seg on_first 5 (got 2 1 0 ∷ []) []) ∷ line 1 (End 7 Finish [] []) ∷ line 1 (Answer 1 no_advice []) ∷ line 1 (Answer 2 no_advice (free 2 2 ∷ [])) ∷ line 1 (Answer 3 no_advice []) ∷ [])
      ∷ (line 2 (Seg on_second 7 (got 3 0 0 ∷ []) []) ∷ line 2 (Answer 1 no_advice []) ∷ line 2 (End 7 Finish [] []) ∷ line 2 (Answer 2 no_advice (free 3 3 ∷ [])) ∷ line 2 (Answer 3 no_advice []) ∷ []) ∷ [];
}

-- a base above the limit, so that the marks let more in than the limit
abbrev pub boundless : Run
boundless = run_on_one (record defaults { marks = record { limit = 1; base = 9; priorities = 1 } }) 0 silent (ab ∷ []) (map (line 1) (
    Seg ab 0 (got 2 0 0 ∷ []) [] ∷ Answer 1 no_advice [] ∷ End 0 Finish [] [] ∷ Answer 2 no_advice (free 2 1 ∷ []) ∷ Answer 3 no_advice [] ∷ [])) (0 ∷ 0 ∷ 0 ∷ [])

-- a charge that isn't given back
abbrev pub lost : Run
lost = run_on_one defaults 0 silent (ab ∷ []) (map (line 1) (
    Seg ab 0 (got 2 0 0 ∷ []) [] ∷ Answer 1 no_advice [] ∷ End 0 Finish [] [] ∷ Answer 2 no_advice [] ∷ Answer 3 no_advice [] ∷ [])) (0 ∷ 0 ∷ 0 ∷ [])

-- an End whose two frees fall
abbrev pub falling : Run
falling = run_on_one four_bytes 0 (keeps_before 8) (abcd ∷ efgh ∷ []) (map (line 1) (
    Seg abcd 0 (got 4 0 0 ∷ []) [] ∷ Answer 1 no_advice [] ∷ Answer 2 keep [] ∷ Seg efgh 0 (got 4 1 4 ∷ []) [] ∷ Answer 3 keep []
    ∷ End 0 Finish [] (free 4 3 ∷ free 4 2 ∷ []) ∷ Answer 4 no_advice [] ∷ [])) (0 ∷ 0 ∷ 0 ∷ 0 ∷ [])

-- a look that found what was used before an earlier answer gave back
abbrev pub tight_chunks : Terms
tight_chunks = record tight { chunk = 4 }

abbrev pub stale : Run
stale = run_on_one tight_chunks 0 silent (filled 1 14 ∷ filled 2 14 ∷ filled 3 14 ∷ []) (map (line 1) (
    Seg (filled 1 14) 0 (got 14 0 0 ∷ []) [] ∷ Seg (filled 2 14) 0 (got 14 1 14 ∷ []) [] ∷ Answer 1 no_advice [] ∷ Answer 2 no_advice (free 14 2 ∷ [])
    ∷ Seg (filled 3 14) 0 (past 14 2 28 ∷ []) [] ∷ Answer 3 no_advice (free 14 3 ∷ []) ∷ End 0 Finish [] [] ∷ Answer 4 no_advice [] ∷ [])) (0 ∷ 0 ∷ 0 ∷ 0 ∷ [])

-- a worker's frees that fall along its list
abbrev pub backwards : Run
backwards = tight_run (behind_looks (Answer 2 no_advice (free 14 4 ∷ free 14 5 ∷ []) ∷ End 0 Finish [] [] ∷ Answer 3 no_advice (free 12 3 ∷ []) ∷ Answer 4 no_advice [] ∷ [])) (0 ∷ 0 ∷ 0 ∷ 0 ∷ [])
