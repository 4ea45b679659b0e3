use Rattle.std.proofs.Common.{◌≡◌, ℕ, ◌+◌, ◌≤◌, ◌<◌, max, List, [], ◌∷◌, ◌++◌, length, refl, ap, sym, ◌∙◌, subst, Bool, true, false, cond, arith, append_assoc, nat_le}
use Rattle.std.specs.Prelude.{Option, Result, map, flat_map, ◌||◌}
use Rattle.std.specs.List.{sum_by}
use Rattle.std.proofs.lemmas.Bool.Decides.{nat_tests}
use Rattle.std.proofs.lemmas.List.{length-map}
use Rattle.std.proofs.lemmas.List.Sums.{sum_by-cons}
use Rattle.capfilter.specs.Expr.{Expr}
use Rattle.datagrams.specs.declared.conversation.Conversation.{Conversation}
use Rattle.datagrams.specs.declared.datagram.Datagram.{Datagram}
use Rattle.datagrams.specs.Assembled.{RisesFrom}
use Rattle.datagrams.specs.declared.whole_replay.WholeReplay.{WholeReplay}
use Rattle.datagrams.specs.Capture.{IsCapture, IsReplay, packet_for}
use Rattle.datagrams.specs.Rows.{row_of, rows_of}
use Rattle.datagrams.specs.Sums.{Sums, over_both, row_lines, rows_line}
use Rattle.histbook.specs.JournalText.{journal_text}
use Rattle.histbook.specs.declared.journal.Journal.{Journal}
use Rattle.pcapfile.specs.declared.frame.Frame.{Frame}
use Rattle.pcapfile.specs.declared.link.Link.{Link}
use Rattle.porthdr.specs.Kind.{Kind, Accepted, Skipped}
use Rattle.porthdr.specs.Transport.{kind_of}
use Rattle.streamdefs.specs.Case.{line_of}
use Rattle.streamdefs.specs.Lists.{Each, total}
use Rattle.streamdefs.specs.Lawful.{Run}
use Rattle.streamdefs.specs.Order.{all_looks, all_moves}
use Rattle.streamdefs.specs.Packet.{Packet, is_tcp}
use Rattle.streamdefs.specs.Report.{budget_line, bytes_line, head_lines, history_line, records_line, report_text, status_line}
use Rattle.streamdefs.specs.Terms.{Terms}
use Rattle.streamdefs.specs.Totals.{peak, refused}
use Rattle.labtop.specs.declared.intake.Intake.{Intake}
use Rattle.labtop.specs.declared.outcome.Outcome.{Outcome}
use Rattle.scapconf.specs.declared.status.Status.{Status}
use Rattle.labtop.specs.Drill.{Delivers, NotBuilt, is_long, of_captured}
use Rattle.labtop.specs.Found.{captured_by}
use Rattle.labtop.specs.Gives.{Gives, HasTexts}
use Rattle.labtop.specs.Headline.{done, report_for, run_in}
use Rattle.labtop.specs.ReportLines.{lines_of, lines_with, over_all}
use Rattle.labtop.specs.Scapconf.{Fate, Taken, Filtered, Passed, Captured, captured, fate_of, fates, fates_from, first_moment, has_segment, holds, last_clock, packet_in, packets_of}

-- The report.

all_lines : (table : List Conversation) → flat_map row_lines (rows_of false table) ≡ flat_map lines_of table
all_lines [] = refl
all_lines (c ∷ table) = ap (λ (l : List ℕ). lines_of c ++ l) (all_lines table)

all_sums : (f : Sums → ℕ) (table : List Conversation) → total (over_both f) (rows_of false table) ≡ over_all f table
all_sums f [] = refl
all_sums f (c ∷ table) = ap (λ (n : ℕ). over_both f (row_of false c) + n) (all_sums f table)

totals_are : (table : List Conversation) → rows_line (rows_of false table) ≡ bytes_line (over_all (λ s. s.payload) table) (over_all (λ s. s.delivered) table) 0 0 0 (over_all (λ s. s.shed) table)
totals_are table = λ i. bytes_line (all_sums (λ (s : Sums). s.payload) table i) (all_sums (λ (s : Sums). s.delivered) table i) 0 0 0 (all_sums (λ (s : Sums). s.shed) table i)

numbers_are : (run : Run) (stamps p r : ℕ) → length (all_moves run) ≡ stamps → peak (all_moves run) ≡ p → refused (all_looks run) ≡ r → history_line (all_moves run) (all_looks run) ≡ budget_line stamps p r
numbers_are run stamps p r a b c = λ i. budget_line (a i) (b i) (c i)

flat : (h j a b c d e : List ℕ) → h ++ j ++ (a ++ b ++ c ++ d ++ e) ≡ h ++ j ++ a ++ b ++ c ++ d ++ e
flat h j a b c d e = simp append_assoc

report_is : (t : Terms) (c : Captured) (journal : Journal) (text : List ℕ) (table : List Conversation) (stamps p r : ℕ)
    → IsReplay t c.packets c.last journal text table stamps p r
    → report_for t c journal ≡ lines_with journal table c.counts stamps p r done
unfolding report_text lines_with
report_is t c journal text table stamps p r h =
    (λ i. head_lines ((length-map journal.cores (map (line_of c.packets)) ∙ h.one_core) i) (h.one_worker i) ++ journal_text journal ++ h.lines c.counts done i)
    ∙ (λ i. head_lines 1 1 ++ journal_text journal ++ (all_lines table i ++ records_line c.counts ++ totals_are table i
    ++ numbers_are (run_in t c journal) stamps p r h.stamps_are h.peak_is h.refused_are i ++ status_line done))
    ∙ flat (head_lines 1 1) (journal_text journal) (flat_map lines_of table) (records_line c.counts) (bytes_line (over_all (λ s. s.payload) table) (over_all (λ s. s.delivered) table) 0 0 0 (over_all (λ s. s.shed) table))
    (budget_line stamps p r) (status_line done)

-- the texts of a replay
pub has_texts : (t : Terms) (c : Captured) (o : Outcome) (text : List ℕ) (table : List Conversation) (stamps p r : ℕ)
    → IsReplay t c.packets c.last o.journal text table stamps p r
    → o.delivery.items ≡ text → o.report.items ≡ lines_with o.journal table c.counts stamps p r done → HasTexts t c o
has_texts t c o text table stamps p r h delivery report = (
  record { lawful = h.lawful; history = h.history; accounted = h.accounted },
  delivery ∙ sym h.text_is,
  report ∙ sym (report_is t c o.journal text table stamps p r h),
)

-- a replay of packets that are lent
pub replayed_as : (t : Terms) (xs lent : List Datagram) (last first : ℕ) (w : WholeReplay) → lent ≡ xs → IsCapture t first (map packet_for xs)
    → (IsCapture t first (map packet_for lent) → last < first + t.idle → IsReplay t (map packet_for lent) last w.journal w.text.items w.table w.stamps w.peak w.refused)
    → last < first + t.idle → IsReplay t (map packet_for xs) last w.journal w.text.items w.table w.stamps w.peak w.refused
replayed_as t xs lent last first w same is replayed until =
    subst (λ (l : List Datagram). IsReplay t (map packet_for l) last w.journal w.text.items w.table w.stamps w.peak w.refused) same
    (replayed (subst (λ (l : List Datagram). IsCapture t first (map packet_for l)) (sym same) is) until)

-- The packets of a capture.

-- the numbers rise, no clock is before that one, and none is behind the last
record AreRead (number clock last : ℕ) (packets : List Packet) : Type 0 where
  rises : RisesFrom number packets
  from : Each (λ p. clock ≤ p.now) packets
  until : Each (λ p. p.now ≤ last) packets

later_rise : (n m : ℕ) (packets : List Packet) → n ≤ m → RisesFrom m packets → RisesFrom n packets
later_rise n m [] l h = tt
later_rise n m (p ∷ packets) l h = (omega (arith, h.0), h.1)

later_from : (n m : ℕ) (packets : List Packet) → n ≤ m → Each (λ p. m ≤ p.now) packets → Each (λ p. n ≤ p.now) packets
later_from n m [] l h = tt
later_from n m (p ∷ packets) l h = (omega (arith, h.0), later_from n m packets l h.1)

-- a taken record's packet has its number and clock
abbrev HasItsPlace : (number now : ℕ) → Fate → Type 0
HasItsPlace number now (Taken p) = (p.number ≡ number) × (p.now ≡ now)
HasItsPlace number now Filtered = Unit {0}
HasItsPlace number now (Passed why) = Unit {0}

its_place : (filter : Option Expr) (number now : ℕ) (kind : Kind) → HasItsPlace number now (fate_of filter number now kind)
its_place filter number now (Accepted key toward seq flags declared payload) =
    either (holds filter key toward) (record { number = number; now = now; key = key; toward = toward; seq = seq; flags = flags; declared = declared; payload = payload }) refl refl
  where
    either : (b : Bool) (p : Packet) → p.number ≡ number → p.now ≡ now → HasItsPlace number now (cond b (Taken p) Filtered)
    either true p e f = (e, f)
    either false p e f = tt
its_place filter number now (Skipped why) = tt

-- the packets of a fate, in front of later ones
one_more : (number clock now last : ℕ) (fate : Fate) (more : List Packet) → clock ≤ now → now ≤ last → HasItsPlace number now fate → AreRead (number + 1) now last more
    → AreRead number clock last (packet_in fate ++ more)
one_more number clock now last (Taken p) more l m f h = record {
  rises = (omega (arith, f.0), subst (λ (n : ℕ). RisesFrom (n + 1) more) (sym f.0) h.rises);
  from = (omega (arith, l, f.1), later_from clock now more l h.from);
  until = (omega (arith, m, f.1), h.until);
}
one_more number clock now last Filtered more l m f h = record { rises = later_rise number (number + 1) more (omega arith) h.rises; from = later_from clock now more l h.from; until = h.until }
one_more number clock now last (Passed why) more l m f h = record { rises = later_rise number (number + 1) more (omega arith) h.rises; from = later_from clock now more l h.from; until = h.until }

all_read : (filter : Option Expr) (link : Link) (number clock last : ℕ) (frames : List Frame) → max clock (last_clock frames) ≤ last
    → AreRead number clock last (packets_of (fates_from filter link number clock frames))
unfolding fates_from
all_read filter link number clock last [] h = record { rises = tt; from = tt; until = tt }
all_read filter link number clock last (frame ∷ frames) h =
    one_more number clock (max clock frame.moment) last (fate_of filter number (max clock frame.moment) (kind_of link frame.bytes))
    (packets_of (fates_from filter link (number + 1) (max clock frame.moment) frames)) (omega arith) (omega arith)
    (its_place filter number (max clock frame.moment) (kind_of link frame.bytes))
    (all_read filter link (number + 1) (max clock frame.moment) last frames (omega arith))

each_below : (last most : ℕ) (packets : List Packet) → last < most → Each (λ p. p.now ≤ last) packets → Each (λ p. p.now < most) packets
each_below last most [] l h = tt
each_below last most (p ∷ packets) l h = (omega (arith, h.0), each_below last most packets l h.1)

or_not : (b d : Bool) → (b || d) ≡ false → b ≡ false
or_not true d h = h
or_not false d h = refl

no_segments : (packets : List Packet) → has_segment packets ≡ false → Each (λ p. is_tcp p ≡ false) packets
no_segments [] h = tt
no_segments (p ∷ packets) h = (or_not (is_tcp p) (has_segment packets) h, no_segments packets (rest (is_tcp p) (has_segment packets) h))
  where
    rest : (b d : Bool) → (b || d) ≡ false → d ≡ false
    rest true d h = cc
    rest false d h = h

is_brief : (a b n : ℕ) → nat_le (a + n) b ≡ false → b < a + n
is_brief a b n h = grind (arith, nat_tests)

-- the packets of a capture's records from the first record's moment on, which itself is not before it
from_first : (filter : Option Expr) (link : Link) (frames : List Frame) → AreRead 1 (first_moment frames) (last_clock frames) (packets_of (fates filter link frames))
unfolding fates_from
from_first filter link [] = record { rises = tt; from = tt; until = tt }
from_first filter link (frame ∷ frames) =
    let same : max 0 frame.moment ≡ max frame.moment frame.moment = omega arith in
    subst (λ (n : ℕ). AreRead 1 frame.moment (last_clock (frame ∷ frames)) (packets_of (fate_of filter 1 n (kind_of link frame.bytes) ∷ fates_from filter link 2 n frames))) (sym same)
    (all_read filter link 1 frame.moment (last_clock (frame ∷ frames)) (frame ∷ frames) (omega arith))

-- the packets of a capture that is shorter than the idle time
pub capture_of : (t : Terms) (filter : Option Expr) (link : Link) (frames : List Frame) → has_segment (captured filter link frames).packets ≡ false → is_long t.idle (captured filter link frames) ≡ false
    → IsCapture t (first_moment frames) (captured filter link frames).packets × (last_clock frames < first_moment frames + t.idle)
capture_of t filter link frames udp brief =
    let read = from_first filter link frames in
    let less : last_clock frames < first_moment frames + t.idle = is_brief (first_moment frames) (last_clock frames) t.idle brief in (
      record {
        rises = read.rises;
        udp = no_segments (captured filter link frames).packets udp;
        from = read.from;
        until = each_below (last_clock frames) (first_moment frames + t.idle) (captured filter link frames).packets less read.until;
      },
      less,
    )

-- what is given of packets that are delivered
pub gives_texts : (t : Terms) (r : Result Outcome Status) (c : Captured) → has_segment c.packets ≡ false → is_long t.idle c ≡ false
    → Gives t r (Delivers c) → Gives t r (of_captured t.idle c)
gives_texts t r c udp brief h =
    let neither : (has_segment c.packets || is_long t.idle c) ≡ false = ap (λ (b : Bool). b || is_long t.idle c) udp ∙ brief in
    subst (λ (b : Bool). Gives t r (cond b NotBuilt (Delivers c))) (sym neither) h

-- what is given of what is kept
pub given_by : (t : Terms) (r : Result Outcome Status) (intake : Intake) (filter : Option Expr) (link : Link) (frames : List Frame) → captured_by intake ≡ captured filter link frames
    → has_segment (captured filter link frames).packets ≡ false → is_long t.idle (captured_by intake) ≡ false
    → ((first : ℕ) → IsCapture t first (captured_by intake).packets → (captured_by intake).last < first + t.idle → Gives t r (Delivers (captured_by intake)))
    → Gives t r (of_captured t.idle (captured filter link frames))
given_by t r intake filter link frames same udp brief given =
    let short : is_long t.idle (captured filter link frames) ≡ false = ap (is_long t.idle) (sym same) ∙ brief in
    let capture = capture_of t filter link frames udp short in
    let texts : (first : ℕ) → IsCapture t first (captured filter link frames).packets → (captured filter link frames).last < first + t.idle → Gives t r (Delivers (captured filter link frames)) =
    subst (λ (c : Captured). (first : ℕ) → IsCapture t first c.packets → c.last < first + t.idle → Gives t r (Delivers c)) same given in
    gives_texts t r (captured filter link frames) udp short (texts (first_moment frames) capture.0 capture.1)

-- sums by either word
pub totals_agree : (xs : List Datagram) → total (λ (p : Datagram). length p.payload.now) xs ≡ sum_by (λ (p : Datagram). length p.payload.now) xs
totals_agree [] = refl
totals_agree (x ∷ xs) = omega (arith, totals_agree xs, sum_by-cons (λ (p : Datagram). length p.payload.now) x xs)
