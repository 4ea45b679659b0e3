use Rattle.std.proofs.Common.{◌≡◌, ℕ, zero, suc, ◌+◌, ◌≤◌, ◌<◌, max, List, [], ◌∷◌, ◌++◌, length, get_or, take, drop, refl, ap, sym, ◌∙◌, subst, Bool, true, false, cond, arith, length-append}
use Rattle.std.specs.Prelude.{Option, map, ◌||◌}
use Rattle.std.specs.List.{sum_by}
use Rattle.std.proofs.lemmas.List.{append-nil, take_more, take-append-drop, take_all, length-take-le, map_push}
use Rattle.std.proofs.lemmas.List.Concat.{flat_map-append}
use Rattle.std.proofs.lemmas.List.Sums.{sum_by-cons, sum_by-append}
use Rattle.capfilter.specs.Expr.{Expr}
use Rattle.datagrams.specs.declared.datagram.Datagram.{Datagram}
use Rattle.datagrams.specs.Capture.{packet_for}
use Rattle.pcapfile.specs.declared.frame.Frame.{Frame}
use Rattle.pcapfile.specs.declared.link.Link.{Link}
use Rattle.porthdr.specs.declared.skip.Skip.{Skip}
use Rattle.porthdr.specs.declared.skip.Skip.TheVariants as skip
use Rattle.porthdr.specs.Kind.{Kind, Accepted, Skipped}
use Rattle.porthdr.specs.Laws.{PayloadLiesIn}
use Rattle.porthdr.specs.Transport.{kind_of}
use Rattle.porthdr.proofs.PayloadLaws.{kind-lies}
use Rattle.streamdefs.specs.Lists.{how_many}
use Rattle.streamdefs.specs.Packet.{Packet, is_tcp}
use Rattle.streamdefs.specs.Report.{RecordCounts, records_of}
use Rattle.labtop.specs.declared.found.Found.{Found}
use Rattle.labtop.specs.declared.found.Found.TheVariants as founds
use Rattle.labtop.specs.Found.{IsFound, StandFor, fate_by, with_fate}
use Rattle.labtop.specs.Scapconf.{Fate, Taken, Filtered, Passed, captured, counts_of, fate_of, fates, fates_from, first_moment, has_segment, holds, is_filtered, is_fragment, is_other, is_short, last_clock, packet_in, packets_of}

-- Records behind records.

joined_max : (a b c : ℕ) → max (max a b) c ≡ max a (max b c)
joined_max a b c = omega arith

-- the fates of records behind others
pub fates_from-append : (filter : Option Expr) (link : Link) (n c : ℕ) (xs ys : List Frame)
    → fates_from filter link n c (xs ++ ys) ≡ fates_from filter link n c xs ++ fates_from filter link (n + length xs) (max c (last_clock xs)) ys
unfolding fates_from
fates_from-append filter link n c [] ys =
    let number : n ≡ n + 0 = omega arith in
    let clock : c ≡ max c 0 = omega arith in
    λ i. fates_from filter link (number i) (clock i) ys
fates_from-append filter link n c (x ∷ xs) ys =
    let number : n + 1 + length xs ≡ n + length (x ∷ xs) = omega arith in
    let all : List Fate → List Fate = λ fs. fate_of filter n (max c x.moment) (kind_of link x.bytes) ∷ fs in
    ap all (fates_from-append filter link (n + 1) (max c x.moment) xs ys)
    ∙ (λ i. all (fates_from filter link (n + 1) (max c x.moment) xs) ++ fates_from filter link (number i) (joined_max c x.moment (last_clock xs) i) ys)

last_clock-append : (xs ys : List Frame) → last_clock (xs ++ ys) ≡ max (last_clock xs) (last_clock ys)
last_clock-append [] ys = omega arith
last_clock-append (x ∷ xs) ys = ap (λ (n : ℕ). max x.moment n) (last_clock-append xs ys) ∙ sym (joined_max x.moment (last_clock xs) (last_clock ys))

-- the fates of one record more
pub fates-push : (filter : Option Expr) (link : Link) (xs : List Frame) (x : Frame)
    → fates filter link (xs ++ x ∷ []) ≡ fates filter link xs ++ fate_of filter (length xs + 1) (max (last_clock xs) x.moment) (kind_of link x.bytes) ∷ []
unfolding fates_from
fates-push filter link xs x =
    let number : 1 + length xs ≡ length xs + 1 = omega arith in
    let clock : max (max 0 (last_clock xs)) x.moment ≡ max (last_clock xs) x.moment = omega arith in
    fates_from-append filter link 1 0 xs (x ∷ [])
    ∙ (λ i. fates filter link xs ++ fate_of filter (number i) (clock i) (kind_of link x.bytes) ∷ [])

pub last_clock-push : (xs : List Frame) (x : Frame) → last_clock (xs ++ x ∷ []) ≡ max (last_clock xs) x.moment
last_clock-push xs x = last_clock-append xs (x ∷ []) ∙ (let e : max (last_clock xs) (max x.moment 0) ≡ max (last_clock xs) x.moment = omega arith in e)

pub fates-length : (filter : Option Expr) (link : Link) (n c : ℕ) (xs : List Frame) → length (fates_from filter link n c xs) ≡ length xs
unfolding fates_from
fates-length filter link n c [] = refl
fates-length filter link n c (x ∷ xs) = ap suc (fates-length filter link (n + 1) (max c x.moment) xs)

-- Counts.

how_many-push : {X : Type 0} (p : X → Bool) (xs : List X) (x : X) → how_many p (xs ++ x ∷ []) ≡ how_many p xs + how_many p (x ∷ [])
how_many-push p [] x = omega arith
how_many-push p (y ∷ ys) x = head (p y) (how_many p (ys ++ x ∷ [])) (how_many p ys) (how_many p (x ∷ [])) (how_many-push p ys x)
  where
    head : (b : Bool) (all some last : ℕ) → all ≡ some + last → cond b (suc all) all ≡ cond b (suc some) some + last
    head true all some last e = omega (arith, e)
    head false all some last e = e

-- counts with those of one more
abbrev joined : RecordCounts → RecordCounts → RecordCounts
joined m n = record {
  accepted = m.accepted + n.accepted;
  filtered = m.filtered + n.filtered;
  other = m.other + n.other;
  fragment = m.fragment + n.fragment;
  short = m.short + n.short;
}

packets-push : (fs : List Fate) (f : Fate) → packets_of (fs ++ f ∷ []) ≡ packets_of fs ++ packet_in f
packets-push fs (Taken p) = flat_map-append packet_in fs (Taken p ∷ [])
packets-push fs Filtered = flat_map-append packet_in fs (Filtered ∷ [])
packets-push fs (Passed why) = flat_map-append packet_in fs (Passed why ∷ [])

counts-push : (fs : List Fate) (f : Fate) → counts_of (fs ++ f ∷ []) ≡ joined (counts_of fs) (counts_of (f ∷ []))
counts-push fs f = λ i. record {
  accepted = accepted i;
  filtered = how_many-push is_filtered fs f i;
  other = how_many-push is_other fs f i;
  fragment = how_many-push is_fragment fs f i;
  short = how_many-push is_short fs f i;
}
  where
    accepted : length (packets_of (fs ++ f ∷ [])) ≡ length (packets_of fs) + length (packets_of (f ∷ []))
    accepted = ap (λ (l : List Packet). length l) (flat_map-append packet_in fs (f ∷ [])) ∙ length-append (packets_of fs) (packets_of (f ∷ []))

same_counts : (m n : RecordCounts) → m.accepted ≡ n.accepted → m.filtered ≡ n.filtered → m.other ≡ n.other → m.fragment ≡ n.fragment → m.short ≡ n.short → m ≡ n
same_counts m n a b c d e = λ i. record { accepted = a i; filtered = b i; other = c i; fragment = d i; short = e i }

fate_joined : (f : Fate) (n : RecordCounts) → with_fate f n ≡ joined n (counts_of (f ∷ []))
fate_joined (Taken p) n = same_counts (with_fate (Taken p) n) (joined n (counts_of (Taken p ∷ []))) refl (omega arith) (omega arith) (omega arith) (omega arith)
fate_joined Filtered n = same_counts (with_fate Filtered n) (joined n (counts_of (Filtered ∷ []))) (omega arith) refl (omega arith) (omega arith) (omega arith)
fate_joined (Passed skip.Other) n = same_counts (with_fate (Passed skip.Other) n) (joined n (counts_of (Passed skip.Other ∷ []))) (omega arith) (omega arith) refl (omega arith) (omega arith)
fate_joined (Passed skip.Fragment) n = same_counts (with_fate (Passed skip.Fragment) n) (joined n (counts_of (Passed skip.Fragment ∷ []))) (omega arith) (omega arith) (omega arith) refl (omega arith)
fate_joined (Passed skip.Short) n = same_counts (with_fate (Passed skip.Short) n) (joined n (counts_of (Passed skip.Short ∷ []))) (omega arith) (omega arith) (omega arith) (omega arith) refl

counts_more : (fs : List Fate) (f : Fate) (n : RecordCounts) → n ≡ counts_of fs → with_fate f n ≡ counts_of (fs ++ f ∷ [])
counts_more fs f n e = ap (with_fate f) e ∙ fate_joined f (counts_of fs) ∙ sym (counts-push fs f)

pub records_more : (f : Fate) (n m : RecordCounts) → m ≡ with_fate f n → records_of m ≡ records_of n + 1
records_more f n m e = ap records_of e ∙ one_more f n
  where
    one_more : (f : Fate) (n : RecordCounts) → records_of (with_fate f n) ≡ records_of n + 1
    one_more (Taken p) n = omega arith
    one_more Filtered n = omega arith
    one_more (Passed skip.Other) n = omega arith
    one_more (Passed skip.Fragment) n = omega arith
    one_more (Passed skip.Short) n = omega arith

-- Segments.

pub has_segment-append : (xs ys : List Packet) → has_segment (xs ++ ys) ≡ (has_segment xs || has_segment ys)
has_segment-append [] ys = refl
has_segment-append (x ∷ xs) ys = first (is_tcp x) (has_segment (xs ++ ys)) (has_segment xs) (has_segment ys) (has_segment-append xs ys)
  where
    first : (b c d e : Bool) → c ≡ (d || e) → (b || c) ≡ ((b || d) || e)
    first true c d e h = refl
    first false c d e h = h

first_true : (b c : Bool) → b ≡ true → (b || c) ≡ true
first_true b c h = ap (λ (x : Bool). x || c) h

last_true : (b c : Bool) → c ≡ true → (b || c) ≡ true
last_true true c h = refl
last_true false c h = h

both_false : (b c : Bool) → b ≡ false → c ≡ false → (b || c) ≡ false
both_false b c h k = ap (λ (x : Bool). x || c) h ∙ k

no_segment-push : (fs : List Fate) (f : Fate) → has_segment (packets_of fs) ≡ false → has_segment (packet_in f) ≡ false → has_segment (packets_of (fs ++ f ∷ [])) ≡ false
no_segment-push fs f h k =
    ap has_segment (packets-push fs f) ∙ has_segment-append (packets_of fs) (packet_in f) ∙ both_false (has_segment (packets_of fs)) (has_segment (packet_in f)) h k

segment-push : (fs : List Fate) (f : Fate) → has_segment (packet_in f) ≡ true → has_segment (packets_of (fs ++ f ∷ [])) ≡ true
segment-push fs f h = ap has_segment (packets-push fs f) ∙ has_segment-append (packets_of fs) (packet_in f) ∙ last_true (has_segment (packets_of fs)) (has_segment (packet_in f)) h

-- The records up to an index.

taken_more : (frames : List Frame) (i : ℕ) (frame : Frame) → i < length frames → frame ≡ get_or frames i frame → take (i + 1) frames ≡ take i frames ++ frame ∷ []
taken_more frames i frame inside same = take_more frames i frame inside ∙ ap (λ (x : Frame). take i frames ++ x ∷ []) (sym same)

fates_more : (filter : Option Expr) (link : Link) (frames : List Frame) (i n last now : ℕ) (frame : Frame) → i < length frames → frame ≡ get_or frames i frame → n ≡ i + 1
    → last ≡ last_clock (take i frames) → now ≡ max frame.moment last
    → fates filter link (take (i + 1) frames) ≡ fates filter link (take i frames) ++ fate_of filter n now (kind_of link frame.bytes) ∷ []
fates_more filter link frames i n last now frame inside same count before later =
    let number : length (take i frames) + 1 ≡ n = omega (arith, length-take-le i frames) in
    let clock : max (last_clock (take i frames)) frame.moment ≡ now = omega arith in
    ap (fates filter link) (taken_more frames i frame inside same) ∙ fates-push filter link (take i frames) frame
    ∙ (λ j. fates filter link (take i frames) ++ fate_of filter (number j) (clock j) (kind_of link frame.bytes) ∷ [])

pub clock_more : (frames : List Frame) (i last now : ℕ) (frame : Frame) → i < length frames → frame ≡ get_or frames i frame → last ≡ last_clock (take i frames) → now ≡ max frame.moment last
    → now ≡ last_clock (take (i + 1) frames)
clock_more frames i last now frame inside same before later =
    let clock : now ≡ max (last_clock (take i frames)) frame.moment = omega arith in
    clock ∙ sym (ap last_clock (taken_more frames i frame inside same) ∙ last_clock-push (take i frames) frame)

-- a record more
pub stand_more : (filter : Option Expr) (link : Link) (frames : List Frame) (i n last now : ℕ) (frame : Frame) (found : Found) (kept more : List Packet) (counted counts : RecordCounts)
    → i < length frames → frame ≡ get_or frames i frame → n ≡ i + 1 → last ≡ last_clock (take i frames) → now ≡ max frame.moment last
    → IsFound found (fate_of filter n now (kind_of link frame.bytes)) → more ≡ kept ++ packet_in (fate_by found) → counts ≡ with_fate (fate_by found) counted
    → StandFor kept counted (fates filter link (take i frames)) → StandFor more counts (fates filter link (take (i + 1) frames))
stand_more filter link frames i n last now frame found kept more counted counts inside same count before later is packets counting h =
    let fs : List Fate = fates filter link (take i frames) in
    let f : Fate = fate_by found in
    let all : fates filter link (take (i + 1) frames) ≡ fs ++ f ∷ [] =
    fates_more filter link frames i n last now frame inside same count before later ∙ ap (λ (x : Fate). fs ++ x ∷ []) (sym is.is) in
    let datagram : has_segment (packet_in f) ≡ false = ap (λ (x : Fate). has_segment (packet_in x)) is.is ∙ is.datagram in
    subst (λ (x : List Fate). StandFor more counts x) (sym all) (record {
      packets = packets ∙ ap (λ (l : List Packet). l ++ packet_in f) h.packets ∙ sym (packets-push fs f);
      counts = counting ∙ counts_more fs f counted h.counts;
      datagrams = no_segment-push fs f h.datagrams datagram;
    })

-- a segment
pub segment_found : (filter : Option Expr) (link : Link) (frames : List Frame) (i n last now : ℕ) (frame : Frame)
    → i < length frames → frame ≡ get_or frames i frame → n ≡ i + 1 → last ≡ last_clock (take i frames) → now ≡ max frame.moment last
    → has_segment (packet_in (fate_of filter n now (kind_of link frame.bytes))) ≡ true → has_segment (captured filter link frames).packets ≡ true
segment_found filter link frames i n last now frame inside same count before later is =
    let front : List Frame = take (i + 1) frames in
    let rest : List Fate = fates_from filter link (1 + length front) (max 0 (last_clock front)) (drop (i + 1) frames) in
    let all : fates filter link frames ≡ fates filter link front ++ rest =
    ap (fates filter link) (sym (take-append-drop (i + 1) frames)) ∙ fates_from-append filter link 1 0 front (drop (i + 1) frames) in
    let here : has_segment (packets_of (fates filter link front)) ≡ true =
    ap (λ (x : List Fate). has_segment (packets_of x)) (fates_more filter link frames i n last now frame inside same count before later)
    ∙ segment-push (fates filter link (take i frames)) (fate_of filter n now (kind_of link frame.bytes)) is in
    ap (λ (x : List Fate). has_segment (packets_of x)) all
    ∙ ap has_segment (flat_map-append packet_in (fates filter link front) rest)
    ∙ has_segment-append (packets_of (fates filter link front)) (packets_of rest)
    ∙ first_true (has_segment (packets_of (fates filter link front))) (has_segment (packets_of rest)) here

-- what is kept of one record
pub kept_taken : (found : Found) (d : Datagram) (kept more : List Datagram) → found ≡ founds.Taken d → more ≡ kept ++ d ∷ []
    → map packet_for more ≡ map packet_for kept ++ packet_in (fate_by found)
kept_taken found d kept more is pushed =
    ap (map packet_for) pushed ∙ map_push packet_for kept d ∙ ap (λ (x : Found). map packet_for kept ++ packet_in (fate_by x)) (sym is)

pub kept_filtered : (found : Found) (kept more : List Datagram) → found ≡ founds.Filtered → more ≡ kept → map packet_for more ≡ map packet_for kept ++ packet_in (fate_by found)
kept_filtered found kept more is same =
    ap (map packet_for) same ∙ sym (append-nil (map packet_for kept)) ∙ ap (λ (x : Found). map packet_for kept ++ packet_in (fate_by x)) (sym is)

pub kept_passed : (found : Found) (why : Skip) (kept more : List Datagram) → found ≡ founds.Passed why → more ≡ kept → map packet_for more ≡ map packet_for kept ++ packet_in (fate_by found)
kept_passed found why kept more is same =
    ap (map packet_for) same ∙ sym (append-nil (map packet_for kept)) ∙ ap (λ (x : Found). map packet_for kept ++ packet_in (fate_by x)) (sym is)

-- no record
pub stand_none : (filter : Option Expr) (link : Link) (kept : List Packet) (counted : RecordCounts) → kept ≡ [] → counted ≡ counts_of [] → StandFor kept counted (fates filter link [])
unfolding fates_from
stand_none filter link kept counted none nothing = record { packets = none; counts = nothing; datagrams = refl }

-- all records
pub stand_whole : (filter : Option Expr) (link : Link) (frames : List Frame) (i : ℕ) (kept : List Packet) (counted : RecordCounts) → length frames ≤ i
    → StandFor kept counted (fates filter link (take i frames)) → StandFor kept counted (fates filter link frames)
stand_whole filter link frames i kept counted past h = subst (λ (l : List Frame). StandFor kept counted (fates filter link l)) (take_all i frames past) h

pub captured_whole : (filter : Option Expr) (link : Link) (frames : List Frame) (i first last : ℕ) (kept : List Packet) (counted : RecordCounts) → length frames ≤ i
    → first ≡ first_moment frames → last ≡ last_clock (take i frames) → StandFor kept counted (fates filter link frames)
    → record { packets = kept; counts = counted; first = first; last = last } ≡ captured filter link frames
captured_whole filter link frames i first last kept counted past begins ends h =
    let clock : last ≡ last_clock frames = ends ∙ ap last_clock (take_all i frames past) in
    λ j. record { packets = h.packets j; counts = h.counts j; first = begins j; last = clock j }

-- A payload is no longer than its record.

abbrev payload_len : Kind → ℕ
payload_len (Accepted key toward seq flags declared payload) = length payload
payload_len (Skipped why) = 0

middle_len : (whole before part after : List ℕ) → whole ≡ before ++ (part ++ after) → length part ≤ length whole
middle_len whole before part after e = omega (arith, ap (λ (l : List ℕ). length l) e, length-append before (part ++ after), length-append part after)

lies_len : (frame : List ℕ) (kind : Kind) → PayloadLiesIn frame kind → payload_len kind ≤ length frame
lies_len frame (Accepted key toward seq flags declared payload) h = middle_len frame h.0 payload h.1 h.2
lies_len frame (Skipped why) h = omega arith

kind_of-fits : (link : Link) (frame : List ℕ) → payload_len (kind_of link frame) ≤ length frame
kind_of-fits link frame = lies_len frame (kind_of link frame) (kind-lies link frame)

-- the bytes of packets
abbrev payloads : List Packet → ℕ
payloads packets = sum_by (λ p. length p.payload) packets

fate_of-fits : (filter : Option Expr) (n c : ℕ) (kind : Kind) → payloads (packet_in (fate_of filter n c kind)) ≤ payload_len kind
fate_of-fits filter n c (Accepted key toward seq flags declared payload) =
    either (holds filter key toward) (record { number = n; now = c; key = key; toward = toward; seq = seq; flags = flags; declared = declared; payload = payload }) refl
  where
    either : (b : Bool) (p : Packet) → p.payload ≡ payload → payloads (packet_in (cond b (Taken p) Filtered)) ≤ length payload
    either true p e = omega (arith, ap (λ (l : List ℕ). length l) e, sum_by-cons (λ (p : Packet). length p.payload) p [])
    either false p e = omega arith
fate_of-fits filter n c (Skipped why) = omega arith

payloads-fit : (filter : Option Expr) (link : Link) (n c : ℕ) (frames : List Frame) → payloads (packets_of (fates_from filter link n c frames)) ≤ sum_by (λ f. length f.bytes) frames
unfolding fates_from
payloads-fit filter link n c [] = omega arith
payloads-fit filter link n c (frame ∷ frames) =
    let later = payloads-fit filter link (n + 1) (max c frame.moment) frames in
    let here = kind_of-fits link frame.bytes in
    let len = fate_of-fits filter n (max c frame.moment) (kind_of link frame.bytes) in
    let all = sum_by-append (λ (p : Packet). length p.payload) (packet_in (fate_of filter n (max c frame.moment) (kind_of link frame.bytes))) (packets_of (fates_from filter link (n + 1) (max c frame.moment) frames)) in
    omega (arith, later, here, len, all, sum_by-cons (λ (f : Frame). length f.bytes) frame frames)

-- what the code holds of payloads
payloads-view : (xs : List Datagram) → sum_by (λ p. length p.payload.now) xs ≡ payloads (map packet_for xs)
payloads-view [] = refl
payloads-view (x ∷ xs) = omega (arith, sum_by-cons (λ (p : Datagram). length p.payload.now) x xs, sum_by-cons (λ (p : Packet). length p.payload) (packet_for x) (map packet_for xs), payloads-view xs)

-- all payloads are no longer than all records
pub kept-fit : (filter : Option Expr) (link : Link) (frames : List Frame) (xs : List Datagram) (counted : RecordCounts) → StandFor (map packet_for xs) counted (fates filter link frames)
    → sum_by (λ p. length p.payload.now) xs ≤ sum_by (λ f. length f.bytes) frames
kept-fit filter link frames xs counted h =
    omega (arith, payloads-view xs, ap payloads h.packets, payloads-fit filter link 1 0 frames)

-- Laws.

-- each record is counted once
records_counted : (fs : List Fate) → records_of (counts_of fs) ≡ length fs
records_counted [] = refl
records_counted (Taken p ∷ fs) = omega (arith, records_counted fs)
records_counted (Filtered ∷ fs) = omega (arith, records_counted fs)
records_counted (Passed skip.Other ∷ fs) = omega (arith, records_counted fs)
records_counted (Passed skip.Fragment ∷ fs) = omega (arith, records_counted fs)
records_counted (Passed skip.Short ∷ fs) = omega (arith, records_counted fs)

pub all_counted : (filter : Option Expr) (link : Link) (frames : List Frame) → records_of (captured filter link frames).counts ≡ length frames
all_counted filter link frames = records_counted (fates filter link frames) ∙ fates-length filter link 1 0 frames

-- the fate at an index is that of its number and clock
fate_from-at : (filter : Option Expr) (link : Link) (n c : ℕ) (frames : List Frame) (i : ℕ) (none : Fate) (x : Frame) → i < length frames
    → get_or (fates_from filter link n c frames) i none ≡ fate_of filter (n + i) (max c (last_clock (take (suc i) frames))) (kind_of link (get_or frames i x).bytes)
unfolding fates_from
fate_from-at filter link n c [] i none x h = absurd (omega arith)
fate_from-at filter link n c (frame ∷ frames) zero none x h =
    let number : n ≡ n + 0 = omega arith in
    let clock : max c frame.moment ≡ max c (max frame.moment 0) = omega arith in
    λ j. fate_of filter (number j) (clock j) (kind_of link frame.bytes)
fate_from-at filter link n c (frame ∷ frames) (suc i) none x h =
    let number : n + 1 + i ≡ n + suc i = omega arith in
    let rest : ℕ = last_clock (take (suc i) frames) in
    let clock : max (max c frame.moment) rest ≡ max c (max frame.moment rest) = omega arith in
    fate_from-at filter link (n + 1) (max c frame.moment) frames i none x (omega arith)
    ∙ (λ j. fate_of filter (number j) (clock j) (kind_of link (get_or frames i x).bytes))

pub fate_at : (filter : Option Expr) (link : Link) (frames : List Frame) (i : ℕ) (none : Fate) (x : Frame) → i < length frames
    → get_or (fates filter link frames) i none ≡ fate_of filter (i + 1) (last_clock (take (i + 1) frames)) (kind_of link (get_or frames i x).bytes)
fate_at filter link frames i none x h =
    let number : 1 + i ≡ i + 1 = omega arith in
    let behind : suc i ≡ i + 1 = omega arith in
    let clock : max 0 (last_clock (take (suc i) frames)) ≡ last_clock (take (suc i) frames) = omega arith in
    fate_from-at filter link 1 0 frames i none x h
    ∙ (λ j. fate_of filter (number j) (clock j) (kind_of link (get_or frames i x).bytes))
    ∙ (λ j. fate_of filter (i + 1) (last_clock (take (behind j) frames)) (kind_of link (get_or frames i x).bytes))
