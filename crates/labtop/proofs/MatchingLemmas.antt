-- The text of a match, record by record.
use Rattle.std.proofs.Common.{◌≡◌, ℕ, ◌+◌, ◌≤◌, ◌<◌, max, List, [], ◌∷◌, ◌++◌, length, drop, refl, ap, sym, ◌∙◌, Bool, true, false, cond, arith, length-drop, length-take}
use Rattle.std.specs.Prelude.{flat_map, Some, Ok, Err}
use Rattle.std.specs.List.{enumerate_from}
use Rattle.std.proofs.lemmas.List.{append-nil}
use Rattle.std.proofs.lemmas.List.Concat.{flat_map-append}
use Rattle.capfilter.specs.Expr.{Expr}
use Rattle.capfilter.specs.Truth.{truth}
use Rattle.pcapfile.specs.declared.frame.Frame.{Frame}
use Rattle.pcapfile.specs.declared.frame_fault.FrameFault.{FrameFault}
use Rattle.pcapfile.specs.declared.head.FileHead.{FileHead}
use Rattle.pcapfile.specs.declared.link.Link.{Link}
use Rattle.pcapfile.specs.declared.next.Next.TheVariants as next
use Rattle.pcapfile.specs.declared.tail.Tail.{Tail}
use Rattle.pcapfile.specs.Capture.{Limits, Place, Ends, Holds, Whole, Cut, TooBig, TooLong, Records, len_of, size_of}
use Rattle.pcapfile.specs.Fed.{IsFed, IsFinished, IsNext, StandsFor}
use Rattle.pcapfile.specs.Format.{header_len, longest}
use Rattle.pcapfile.specs.Reading.{Answers, IsOpen, place_at}
use Rattle.pcapfile.specs.State.{State}
use Rattle.pcapfile.proofs.PlaceLemmas.{place_of-cut, place_of-holds, place_of-whole}
use Rattle.pcapfile.proofs.RecordLemmas.{fits}
use Rattle.porthdr.specs.Kind.{Kind, Accepted, Skipped}
use Rattle.porthdr.specs.Transport.{kind_of}
use Rattle.streamdefs.specs.Packet.{Packet}
use Rattle.labtop.specs.declared.matching.Matches.{Matches}
use Rattle.labtop.specs.declared.matching.Matching.{Matching}
use Rattle.labtop.specs.Drill.{limits}
use Rattle.labtop.specs.Matched.{HasAll, HasFault, HasRead, IsInside, end_of}
use Rattle.labtop.specs.Matching.{line_for, match_text, number_line}
use Rattle.labtop.specs.Scapconf.{Fate, Taken, Filtered, fate_of, fates, fates_from, last_clock, packet_in, packets_of}
use Rattle.labtop.proofs.IntakeLemmas.{fates-push}

abbrev line_of : Packet → List ℕ
line_of p = number_line p.number

-- the line of one record
one_line : (filter : Expr) (n c : ℕ) (kind : Kind) → flat_map line_of (packet_in (fate_of (Some filter) n c kind)) ≡ line_for filter n kind
one_line filter n c (Skipped why) = refl
one_line filter n c (Accepted key toward seq flags declared payload) =
    either (truth filter key toward) (record { number = n; now = c; key = key; toward = toward; seq = seq; flags = flags; declared = declared; payload = payload })
  where
    either : (b : Bool) (p : Packet) → flat_map line_of (packet_in (cond b (Taken p) Filtered)) ≡ cond b (number_line p.number) []
    either true p = append-nil (number_line p.number)
    either false p = refl

-- each record has its own part of the text
text-from : (filter : Expr) (link : Link) (n c : ℕ) (xs : List Frame) → flat_map line_of (packets_of (fates_from (Some filter) link n c xs))
    ≡ flat_map (λ numbered. line_for filter numbered.0 (kind_of link numbered.1.bytes)) (enumerate_from n xs)
unfolding fates_from
text-from filter link n c [] = refl
text-from filter link n c (x ∷ xs) =
    let f : Fate = fate_of (Some filter) n (max c x.moment) (kind_of link x.bytes) in
    let rest : List Packet = packets_of (fates_from (Some filter) link (n + 1) (max c x.moment) xs) in
    flat_map-append line_of (packet_in f) rest
    ∙ (λ i. one_line filter n (max c x.moment) (kind_of link x.bytes) i ++ text-from filter link (n + 1) (max c x.moment) xs i)

pub text_numbered : (filter : Expr) (link : Link) (xs : List Frame)
    → match_text filter link xs ≡ flat_map (λ numbered. line_for filter numbered.0 (kind_of link numbered.1.bytes)) (enumerate_from 1 xs)
unfolding match_text
text_numbered filter link xs = text-from filter link 1 0 xs

-- the text of one record more
pub match_text-push : (filter : Expr) (link : Link) (xs : List Frame) (x : Frame)
    → match_text filter link (xs ++ x ∷ []) ≡ match_text filter link xs ++ line_for filter (length xs + 1) (kind_of link x.bytes)
unfolding match_text
match_text-push filter link xs x =
    let f : Fate = fate_of (Some filter) (length xs + 1) (max (last_clock xs) x.moment) (kind_of link x.bytes) in
    let fs : List Fate = fates (Some filter) link xs in
    ap (λ (l : List Fate). flat_map line_of (packets_of l)) (fates-push (Some filter) link xs x)
    ∙ ap (flat_map line_of) (flat_map-append packet_in fs (f ∷ []) ∙ ap (λ (l : List Packet). packets_of fs ++ l) (append-nil (packet_in f)))
    ∙ flat_map-append line_of (packets_of fs) (packet_in f)
    ∙ ap (λ (l : List ℕ). flat_map line_of (packets_of fs) ++ l) (one_line filter (length xs + 1) (max (last_clock xs) x.moment) (kind_of link x.bytes))

pub match_text-nil : (filter : Expr) (link : Link) → match_text filter link [] ≡ []
unfolding match_text fates_from
match_text-nil filter link = refl

-- Records and their reader.

-- what is known of a record that stands in a reader with the limits
pub record IsWithin (s : State) (f : Frame) : Type 0 where
  pub short : length f.bytes ≤ 262144
  pub few : s.count < limits.frames
  pub inside : s.at + size_of f ≤ limits.bytes
  pub fits : size_of f ≤ length s.rest

pub record_within : (s : State) (f : Frame) → s.limits ≡ limits → place_at s ≡ Holds f → IsWithin s f
record_within s f same holds =
    let found = place_of-holds s.head s.limits s.at s.count s.rest f holds in
    let most : s.limits.bytes ≡ limits.bytes = ap (λ (l : Limits). l.bytes) same in
    let many : s.limits.frames ≡ limits.frames = ap (λ (l : Limits). l.frames) same in
    let len : length f.bytes ≤ len_of s.head s.rest =
    omega (arith, ap (λ (x : Frame). length x.bytes) found.1, length-take (len_of s.head s.rest) (drop header_len s.rest)) in
    let short : len_of s.head s.rest ≤ longest = found.0.short in
    let few : s.count < s.limits.frames = found.0.within in
    let inside : s.at + (header_len + len_of s.head s.rest) ≤ s.limits.bytes = found.0.inside in
    record {
      short = omega arith;
      few = omega arith;
      inside = omega arith;
      fits = fits s.head s.limits s.at s.count s.rest f holds;
    }

-- behind a record the reader is within its limits, and as many bytes came
pub record IsPassed (old new : State) : Type 0 where
  pub limited : new.limits ≡ limits
  pub inside : new.at ≤ limits.bytes
  pub counted : new.count ≡ old.count + 1
  pub came : new.at + length new.rest ≡ old.at + length old.rest
  pub less : length new.rest < length old.rest

pub record_passed : (old new : State) (f : Frame) → old.limits ≡ limits → Answers old (next.Whole f) new → IsPassed old new
record_passed old new f same a =
    let w = record_within old f same a.0 in
    let inside : old.at + size_of f ≤ limits.bytes = w.inside in
    let fit : size_of f ≤ length old.rest = w.fits in
    let at : new.at ≡ old.at + size_of f = ap (λ (s : State). s.at) a.1 in
    let left : length new.rest ≡ length (drop (size_of f) old.rest) = ap (λ (s : State). length s.rest) a.1 in
    let len = length-drop (size_of f) old.rest in
    record {
      limited = ap (λ (s : State). s.limits) a.1 ∙ same;
      inside = omega arith;
      counted = ap (λ (s : State). s.count) a.1;
      came = omega arith;
      less = omega arith;
    }

-- where no record is whole and no fault stands, no more bytes came than are read
open_within : (s : State) (p : Place) → place_at s ≡ p → s.limits ≡ limits → s.at ≤ limits.bytes → IsOpen p → s.at + length s.rest ≤ limits.bytes
open_within s (Ends Whole) e same inside h =
    let none = place_of-whole s.head s.limits s.at s.count s.rest e in omega arith
open_within s (Ends (Cut n)) e same inside h =
    let cut = place_of-cut s.head s.limits s.at s.count s.rest n e in
    let most : s.limits.bytes ≡ limits.bytes = ap (λ (l : Limits). l.bytes) same in
    let all : s.at + n ≤ s.limits.bytes = cut.inside in
    let left : length s.rest ≡ n = cut.left in
    omega arith
open_within s (Ends (TooBig at len)) e same inside h = absurd h
open_within s (Ends TooLong) e same inside h = absurd h
open_within s (Holds f) e same inside h = absurd h

pub room_left : (s : State) → s.limits ≡ limits → s.at ≤ limits.bytes → IsOpen (place_at s) → s.at + length s.rest ≤ limits.bytes
room_left s same inside h = open_within s (place_at s) refl same inside h

-- What is kept.

-- the bytes behind a head were fed to a new reader
pub begun : (filter : Expr) (head : FileHead) (rest : List ℕ) (new : State) (m : Matching) → StandsFor head limits [] [] new → IsFed new rest m.frames
    → m.link ≡ head.link → m.text.items ≡ [] → HasRead filter head rest m
begun filter head rest new m nothing fed link text = record {
  given = [];
  stands = fed head limits [] [] nothing;
  link = link;
  text = text ∙ sym (match_text-nil filter head.link);
}

-- a record was taken
pub taken : (filter : Expr) (head : FileHead) (fed : List ℕ) (old new : Matching) (f : Frame) (n : ℕ) → IsInside old → HasRead filter head fed old
    → IsNext old.frames (next.Whole f) new.frames → new.link ≡ old.link → n ≡ old.number + 1
    → new.text.items ≡ old.text.items ++ line_for filter n (kind_of old.link f.bytes) → HasRead filter head fed new
taken filter head fed old new f n inside h asked link number text =
    let counted : old.number ≡ old.frames.count = inside.counted in
    let stood : old.frames.count ≡ length h.given = h.stands.number in
    let count : n ≡ length h.given + 1 = omega arith in
    record {
      given = h.given ++ f ∷ [];
      stands = asked head limits fed h.given h.stands;
      link = link ∙ h.link;
      text =
          text ∙ (λ i. h.text i ++ line_for filter (count i) (kind_of (h.link i) f.bytes))
          ∙ sym (match_text-push filter head.link h.given f);
    }

-- no record was taken
pub kept : (filter : Expr) (head : FileHead) (fed : List ℕ) (old new : Matching) → HasRead filter head fed old
    → IsNext old.frames next.More new.frames → new.link ≡ old.link → new.text.items ≡ old.text.items → HasRead filter head fed new
kept filter head fed old new h asked link text = record {
  given = h.given;
  stands = (asked head limits fed h.given h.stands).1;
  link = link ∙ h.link;
  text = text ∙ h.text;
}

-- a fault stands
pub faulted : (filter : Expr) (head : FileHead) (fed : List ℕ) (old new : Matching) (fault : FrameFault) → HasRead filter head fed old
    → IsNext old.frames (next.Fault fault) new.frames → new.text.items ≡ old.text.items → HasFault filter head fed fault new
faulted filter head fed old new fault h asked text = record {
  given = h.given;
  stays = (asked head limits fed h.given h.stands).0;
  text = text ∙ h.text;
}

-- a piece was fed
pub fed_more : (filter : Expr) (head : FileHead) (fed piece : List ℕ) (old new : Matching) → HasRead filter head fed old
    → IsFed old.frames piece new.frames → new.link ≡ old.link → new.text.items ≡ old.text.items → HasRead filter head (fed ++ piece) new
fed_more filter head fed piece old new h more link text = record {
  given = h.given;
  stands = more head limits fed h.given h.stands;
  link = link ∙ h.link;
  text = text ∙ h.text;
}

-- no more bytes come
pub finished : (filter : Expr) (head : FileHead) (bytes : List ℕ) (m : Matching) (found : Matches) (tail : Tail) → IsFinished m.frames tail
    → found.text.items ≡ m.text.items → found.end ≡ Ok tail → HasRead filter head bytes m → HasAll filter head bytes found
finished filter head bytes m found tail all text end h =
    let read = all head limits bytes h.given h.stands in
    record {
      text = text ∙ h.text ∙ ap (λ (r : Records). match_text filter head.link r.frames) (sym read);
      end = ap end_of end ∙ ap (λ (r : Records). r.end) (sym read);
    }

-- no more records follow
pub stopped : (filter : Expr) (head : FileHead) (fed rest : List ℕ) (m : Matching) (found : Matches) (fault : FrameFault)
    → found.text.items ≡ m.text.items → found.end ≡ Err fault → HasFault filter head fed fault m → HasAll filter head (fed ++ rest) found
stopped filter head fed rest m found fault text end h =
    let read = h.stays rest in
    record {
      text = text ∙ h.text ∙ ap (λ (r : Records). match_text filter head.link r.frames) (sym read);
      end = ap end_of end ∙ ap (λ (r : Records). r.end) (sym read);
    }
