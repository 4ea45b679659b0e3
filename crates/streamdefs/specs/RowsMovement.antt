-- Histories of one conversation: positions, overlap, holes and gaps.
use Rattle.std.specs.Prelude.{List, [], ◌∷◌, replicate}
use Rattle.evring.specs.Advice.{no_advice}
use Rattle.evring.specs.declared.reason.Reason.TheVariants.{Finish}
use Rattle.streamdefs.specs.Packet.{Packet}
use Rattle.cutclass.specs.declared.cut.Cut.TheVariants as cuts
use Rattle.overpolicy.specs.declared.policy.Policy.{Policy}
use Rattle.overpolicy.specs.declared.mode.Mode.TheVariants as modes
use Rattle.streamdefs.specs.Terms.{Terms}
use Rattle.streamdefs.specs.Convo.{Act}
use Rattle.streamdefs.specs.Convo.Act.{Seg, Answer, Time, End}
use Rattle.streamdefs.specs.Rows.{defaults, got, past, free, datagram, segment}

-- a SYN: base 100
abbrev pub syn : Packet
syn = segment 1 0 2 99 []

-- the wrap of sequence numbers: a SYN at the last but one, four bytes behind it, and one at 3
abbrev pub wrap_syn : Packet
wrap_syn = segment 1 0 2 4294967294 []

abbrev pub wrap_history : List Act
wrap_history =
    Seg wrap_syn 0 [] [] ∷ Seg (segment 2 0 0 4294967295 (1 ∷ 2 ∷ 3 ∷ 4 ∷ [])) 0 (got 4 0 0 ∷ []) []
    ∷ Seg (segment 3 0 0 3 (5 ∷ [])) 0 (got 1 1 4 ∷ []) [] ∷ End 0 Finish [] [] ∷ []

-- overlap: ten A at 10, ten B at 5, ten C at 0
abbrev pub with_policy : Policy → Terms
with_policy policy = record defaults { policy = policy }

abbrev pub overlap_history : List Act
overlap_history =
    Seg syn 0 [] [] ∷ Seg (segment 2 0 0 110 (replicate 10 65)) 0 (got 10 0 0 ∷ []) [] ∷ Seg (segment 3 0 0 105 (replicate 10 66)) 0 (got 5 1 10 ∷ []) []
    ∷ Seg (segment 4 0 0 100 (replicate 10 67)) 0 (got 5 2 15 ∷ []) [] ∷ End 0 Finish [] [] ∷ []

-- the same with five B at 10, where the starts are equal
abbrev pub equal_history : List Act
equal_history =
    Seg syn 0 [] [] ∷ Seg (segment 2 0 0 110 (replicate 10 65)) 0 (got 10 0 0 ∷ []) [] ∷ Seg (segment 3 0 0 110 (replicate 5 66)) 0 [] []
    ∷ Seg (segment 4 0 0 100 (replicate 10 67)) 0 (got 10 1 10 ∷ []) [] ∷ End 0 Finish [] [] ∷ []

-- fast: 0 to 49, then 100 to 199, then 50 to 99
abbrev pub fast : Terms
fast = record defaults { mode = modes.Fast }

abbrev pub fast_history : List Act
fast_history =
    Seg syn 0 [] [] ∷ Seg (segment 2 0 0 100 (replicate 50 65)) 0 (got 50 0 0 ∷ []) [] ∷ Seg (segment 3 0 0 200 (replicate 100 66)) 0 (got 100 1 50 ∷ []) []
    ∷ Seg (segment 4 0 0 150 (replicate 50 67)) 0 [] [] ∷ End 0 Finish [] [] ∷ []

-- keep-alive: the front at 10, one byte at 9
abbrev pub alive_history : List Act
alive_history = Seg syn 0 [] [] ∷ Seg (segment 2 0 0 100 (replicate 10 65)) 0 (got 10 0 0 ∷ []) [] ∷ Seg (segment 3 0 0 109 (66 ∷ [])) 0 [] [] ∷ []

-- a cutoff at 10: the front at 8, six bytes at 8
abbrev pub cut_at_ten : Terms
cut_at_ten = record defaults { default = cuts.At 10 }

abbrev pub cut_history : List Act
cut_history = Seg syn 0 [] [] ∷ Seg (segment 2 0 0 100 (replicate 8 65)) 0 (got 8 0 0 ∷ []) [] ∷ Seg (segment 3 0 0 108 (replicate 6 66)) 0 (got 2 1 8 ∷ []) [] ∷ []

-- a cutoff at 0
abbrev pub cut_at_once : Terms
cut_at_once = record defaults { default = cuts.At 0 }

abbrev pub cut_whole : Packet
cut_whole = datagram 1 0 (97 ∷ 98 ∷ [])

abbrev pub cut_whole_history : List Act
cut_whole_history = Seg cut_whole 0 [] [] ∷ End 0 Finish [] [] ∷ []

-- two holes: 5 to 9 and 15 to 19 are held, a segment covers 0 to 24; its first run is granted, its second refused
abbrev pub holes_before : List Act
holes_before = Seg syn 0 [] [] ∷ Seg (segment 2 0 0 105 (replicate 5 65)) 0 (got 5 0 4080 ∷ []) [] ∷ Seg (segment 3 0 0 115 (replicate 5 66)) 0 (got 5 1 4085 ∷ []) [] ∷ []

abbrev pub covering : Act
covering = Seg (segment 4 0 0 100 (replicate 25 67)) 0 (got 5 2 4090 ∷ past 5 3 4095 ∷ []) []

-- at most ten bytes behind a hole: ten at 5, then one at 15
abbrev pub reorder_ten : Terms
reorder_ten = record defaults { reorder = 10 }

abbrev pub reorder_history : List Act
reorder_history =
    Seg syn 0 [] [] ∷ Seg (segment 2 0 0 105 (replicate 10 65)) 0 (got 10 0 0 ∷ []) [] ∷ Seg (segment 3 0 0 115 (66 ∷ [])) 0 (got 1 1 10 ∷ []) [] ∷ End 0 Finish [] [] ∷ []

-- a FIN whose bytes were not all captured: 100 declared, 10 captured
abbrev pub short_fin : Packet
short_fin = record (segment 2 0 1 100 (replicate 10 65)) { declared = 100 }

abbrev pub short_fin_history : List Act
short_fin_history = Seg syn 0 [] [] ∷ Seg short_fin 0 (got 10 0 0 ∷ []) [] ∷ []

-- a segment that begins two positions below 0
abbrev pub below_history : List Act
below_history = Seg syn 0 [] [] ∷ Seg (segment 2 0 0 98 (1 ∷ 2 ∷ 3 ∷ [])) 0 (got 1 0 0 ∷ []) [] ∷ []

-- a hole falls due a second after 5 to 9 came; then 0 to 4 come
abbrev pub hole_history : List Act
hole_history =
    Seg syn 0 [] [] ∷ Answer 1 no_advice [] ∷ Seg (segment 2 1000000000 0 105 (replicate 5 66)) 1000000000 (got 5 0 0 ∷ []) []
    ∷ Time 2000000000 [] [] ∷ Seg (segment 3 3000000000 0 100 (replicate 5 65)) 3000000000 [] [] ∷ End 3000000000 Finish [] []
    ∷ Answer 2 no_advice (free 5 1 ∷ []) ∷ Answer 3 no_advice [] ∷ []
