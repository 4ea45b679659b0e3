use Rattle.std.proofs.Common.{◌≡◌, ℕ, zero, suc, ◌+◌, ◌≤◌, ◌<◌, List, [], ◌∷◌, ◌++◌, length, take, drop, refl, ap, sym, ◌∙◌, subst, arith, length-append, length-drop, append_assoc, Ok}
use Rattle.std.specs.List.{sum_by}
use Rattle.std.proofs.lemmas.List.{append-nil, drop-append-le, drop-drop}
use Rattle.std.proofs.lemmas.List.Sums.{sum_by-append, sum_by-cons}
use Rattle.std.proofs.Math.Seq.{take-append_seam}
use Rattle.pcapfile.specs.declared.head.FileHead.{FileHead}
use Rattle.pcapfile.specs.declared.frame.Frame.{Frame}
use Rattle.pcapfile.specs.declared.next.Next.{Next}
use Rattle.pcapfile.specs.declared.next.Next.TheVariants as next
use Rattle.pcapfile.specs.declared.tail.Tail.{Tail}
use Rattle.pcapfile.specs.declared.tail.Tail.TheVariants as tail
use Rattle.pcapfile.specs.State.{State}
use Rattle.pcapfile.specs.Format.{head_len}
use Rattle.pcapfile.specs.Capture.{Limits, End, Whole, Cut, TooBig, TooLong, Place, Ends, Holds, Records, behind, behind_head, records_from, size_of}
use Rattle.pcapfile.specs.Reading.{Answers, IsOpen, place_at, passed, records_at, end_of_fault, end_of_tail}
use Rattle.pcapfile.specs.Laws.{fed, opened}
use Rattle.pcapfile.specs.Fed.{records_of, CaptureHasRecords, StandsFor, IsFed, IsOpenBehind, EndsForGood, IsNext, IsFinished}
use Rattle.pcapfile.proofs.RecordLemmas.{fits, records_from-turns}
use Rattle.pcapfile.proofs.CaptureLemmas.{records_at-ends, records_at-holds}
use Rattle.pcapfile.proofs.RunLemmas.{fault_stays, record_stays}

-- a state behind so many records of another
record IsBehind (start : State) (given : List Frame) (s : State) : Type 0 where
  same_head : s.head ≡ start.head
  same_limits : s.limits ≡ start.limits
  offset : s.at ≡ start.at + sum_by size_of given
  number : s.count ≡ start.count + length given
  left : s.rest ≡ drop (sum_by size_of given) start.rest

-- more records in front
in_front : List Frame → Records → Records
in_front frames r = record { frames = frames ++ r.frames; end = r.end }

-- a record is the first one where it stands there
first_of : (p : Place) (later : Frame → Records) (f : Frame) (given : List Frame) → take (suc (length given)) (behind p later).frames ≡ f ∷ given
    → (p ≡ Holds f) × (take (length given) (later f).frames ≡ given)
first_of (Ends e) later f given h = absurd (cc)
first_of (Holds g) later f given h =
    let same : g ≡ f = cc in
    let rest : take (length given) (later g).frames ≡ given = cc in
    (ap Holds same, ap (λ (x : Frame). take (length given) (later x).frames) (sym same) ∙ rest)

-- what the first record of some turns says of the state, and of the records behind it
first_at : (turns : ℕ) (s : State) (f : Frame) (given : List Frame) → take (suc (length given)) (records_at turns s).frames ≡ f ∷ given
    → (place_at s ≡ Holds f) × ((fewer : ℕ) × (take (length given) (records_at fewer (passed s f)).frames ≡ given))
unfolding records_from
first_at zero s f given h = absurd (cc)
first_at (suc turns) s f given h =
    let found = first_of (place_at s) (λ g. records_at turns (passed s g)) f given h in
    (found.0, (turns, found.1))

-- a state behind a record and others is behind these others where the record ends
behind_one : (start s : State) (f : Frame) (given : List Frame) → IsBehind start (f ∷ given) s → IsBehind (passed start f) given s
behind_one start s f given h =
    let sum = sum_by-cons size_of f given in
    let offset : s.at ≡ start.at + sum_by size_of (f ∷ given) = h.offset in
    let number : s.count ≡ start.count + suc (length given) = h.number in
    let all : sum_by size_of (f ∷ given) ≡ size_of f + sum_by size_of given = sum in
    record {
      same_head = h.same_head;
      same_limits = h.same_limits;
      offset = omega arith;
      number = omega arith;
      left = h.left ∙ ap (λ (n : ℕ). drop n start.rest) all ∙ sym (drop-drop (sum_by size_of given) (size_of f) start.rest);
    }

-- the first records take no more bytes than there are
given_fit : (given : List Frame) (turns : ℕ) (start : State) → take (length given) (records_at turns start).frames ≡ given → sum_by size_of given ≤ length start.rest
given_fit [] turns start h = omega arith
given_fit (f ∷ given) turns start h =
    let found = first_at turns start f given h in
    let fit = fits start.head start.limits start.at start.count start.rest f found.0 in
    let later = given_fit given found.1.0 (passed start f) found.1.1 in
    let left : length ((passed start f).rest) ≡ length (drop (size_of f) start.rest) = refl in
    omega (arith, sum_by-cons size_of f given, length-drop (size_of f) start.rest)

-- behind the first records of a state come those of the state behind them, also where more bytes come
reads_on : (given : List Frame) (turns n m : ℕ) (start s : State) (more : List ℕ) → take (length given) (records_at turns start).frames ≡ given
    → n ≡ length given + m → IsBehind start given s → records_at n (fed start more) ≡ in_front given (records_at m (fed s more))
unfolding in_front
reads_on [] turns n m start s more first e h =
    let turns_same : n ≡ m = omega arith in
    let at_same : start.at ≡ s.at = omega (arith, h.offset) in
    let count_same : start.count ≡ s.count = omega (arith, h.number) in
    let rest_same : start.rest ≡ s.rest = sym h.left in
    let head_same : start.head ≡ s.head = sym h.same_head in
    let limits_same : start.limits ≡ s.limits = sym h.same_limits in
    (cc)
reads_on (f ∷ given) turns n m start s more first e h =
    let found = first_at turns start f given first in
    let stays = record_stays start f more found.0 in
    let with : Records → Records = λ r. record { frames = f ∷ r.frames; end = r.end } in
    let turns_same : n ≡ suc (length given + m) = omega arith in
    ap (λ (k : ℕ). records_at k (fed start more)) turns_same
    ∙ records_at-holds (length given + m) (fed start more) f stays.0
    ∙ ap (λ (t : State). with (records_at (length given + m) t)) stays.1
    ∙ ap with (reads_on given found.1.0 (length given + m) m (passed start f) s more found.1.1 refl (behind_one start s f given h))

-- the state where the records begin, with these bytes
begun : FileHead → Limits → List ℕ → State
begun head limits bytes = record { head = head; limits = limits; at = head_len; count = 0; rest = bytes }

stands_behind : (head : FileHead) (limits : Limits) (bytes : List ℕ) (given : List Frame) (s : State) → StandsFor head limits bytes given s → IsBehind (begun head limits bytes) given s
unfolding begun
stands_behind head limits bytes given s h =
    let number : s.count ≡ length given = h.number in
    record { same_head = h.same_head; same_limits = h.same_limits; offset = h.offset; number = omega arith; left = h.left }

-- the records of the bytes that were fed and of more are those given out and then those that the contents have
records_on : (head : FileHead) (limits : Limits) (bytes more : List ℕ) (given : List Frame) (s : State) (m : ℕ) → StandsFor head limits bytes given s → length (bytes ++ more) < length given + m
    → records_of head limits (bytes ++ more) ≡ in_front given (records_at m (fed s more))
unfolding begun
records_on head limits bytes more given s m h enough =
    records_from-turns head limits (suc (length (bytes ++ more))) (length given + m) head_len 0 (bytes ++ more) (omega arith) enough
    ∙ reads_on given (suc (length bytes)) (length given + m) m (begun head limits bytes) s more h.first refl (stands_behind head limits bytes given s h)

first_in_front : (given : List Frame) (r later : Records) → r ≡ in_front given later → take (length given) r.frames ≡ given
unfolding in_front
first_in_front given r later h =
    ap (λ (x : Records). take (length given) x.frames) h ∙ take-append_seam given later.frames

stands_fits : (head : FileHead) (limits : Limits) (bytes : List ℕ) (given : List Frame) (s : State) → StandsFor head limits bytes given s → sum_by size_of given ≤ length bytes
unfolding begun
stands_fits head limits bytes given s h = given_fit given (suc (length bytes)) (begun head limits bytes) h.first

pub stands_for_nothing : (head : FileHead) (limits : Limits) → StandsFor head limits [] [] (opened head limits)
stands_for_nothing head limits = record { first = refl; same_head = refl; same_limits = refl; offset = refl; number = refl; left = refl }

pub stands_fed : (s : State) (piece : List ℕ) → IsFed s piece (fed s piece)
stands_fed s piece head limits bytes given h =
    let m : ℕ = suc (length (bytes ++ piece)) in
    let all = records_on head limits bytes piece given s m h (omega arith) in
    record {
      first = first_in_front given _ _ all;
      same_head = h.same_head;
      same_limits = h.same_limits;
      offset = h.offset;
      number = h.number;
      left = ap (λ (r : List ℕ). r ++ piece) h.left ∙ sym (drop-append-le (sum_by size_of given) bytes piece (stands_fits head limits bytes given s h));
    }

pub is_fed : (old : State) (piece : List ℕ) (new : State) → new ≡ fed old piece → IsFed old piece new
is_fed old piece new h = subst (λ (s : State). IsFed old piece s) (sym h) (stands_fed old piece)

-- what the contents have next is next of the bytes that were fed
records_now : (head : FileHead) (limits : Limits) (bytes : List ℕ) (given : List Frame) (s : State) → StandsFor head limits bytes given s
    → records_of head limits bytes ≡ in_front given (records_at (suc (length bytes)) s)
records_now head limits bytes given s h =
    let none = append-nil bytes in
    let len = ap length none in
    let with : List ℕ → State = λ (r : List ℕ). record { head = s.head; limits = s.limits; at = s.at; count = s.count; rest = r } in
    ap (records_of head limits) (sym none)
    ∙ records_on head limits bytes [] given s (suc (length bytes)) h (omega arith)
    ∙ ap (λ (r : List ℕ). in_front given (records_at (suc (length bytes)) (with r))) (append-nil s.rest)

-- where the contents have an end, it is the end
ends_there : (head : FileHead) (limits : Limits) (bytes : List ℕ) (given : List Frame) (s : State) (end : End) → StandsFor head limits bytes given s → place_at s ≡ Ends end
    → records_of head limits bytes ≡ record { frames = given; end = end }
unfolding in_front
ends_there head limits bytes given s end h stood =
    let front : List Frame → Records = λ fs. record { frames = fs; end = end } in
    records_now head limits bytes given s h ∙ ap (in_front given) (records_at-ends (length bytes) s end stood) ∙ ap front (append-nil given)

-- where they have a record, it is the next one
stands_passed : (head : FileHead) (limits : Limits) (bytes : List ℕ) (given : List Frame) (s : State) (f : Frame) → StandsFor head limits bytes given s → place_at s ≡ Holds f
    → StandsFor head limits bytes (given ++ f ∷ []) (passed s f)
unfolding in_front
stands_passed head limits bytes given s f h stood =
    let later = records_at (length bytes) (passed s f) in
    let front : List Frame → Records = λ fs. record { frames = fs; end = later.end } in
    let all : records_of head limits bytes ≡ in_front (given ++ f ∷ []) later =
    records_now head limits bytes given s h ∙ ap (in_front given) (records_at-holds (length bytes) s f stood) ∙ ap front (sym (append_assoc given (f ∷ []) later.frames)) in
    let sum : sum_by size_of (given ++ f ∷ []) ≡ sum_by size_of given + sum_by size_of (f ∷ []) = sum_by-append size_of given (f ∷ []) in
    let one : sum_by size_of (f ∷ []) ≡ size_of f + sum_by size_of [] = sum_by-cons size_of f [] in
    let joined : sum_by size_of given + size_of f ≡ sum_by size_of (given ++ f ∷ []) = omega arith in
    let offset : s.at ≡ head_len + sum_by size_of given = h.offset in
    let number : s.count ≡ length given = h.number in
    record {
      first = first_in_front (given ++ f ∷ []) _ _ all;
      same_head = h.same_head;
      same_limits = h.same_limits;
      offset = omega arith;
      number = omega (arith, length-append given (f ∷ []));
      left = ap (drop (size_of f)) h.left ∙ drop-drop (size_of f) (sum_by size_of given) bytes ∙ ap (λ (n : ℕ). drop n bytes) joined;
    }

-- an open place is one of the two ends without a fault
open_tail : (p : Place) → IsOpen p → (t : Tail) × (p ≡ Ends (end_of_tail t))
open_tail (Ends Whole) h = (tail.Whole, refl)
open_tail (Ends (Cut n)) h = (tail.Cut n, refl)
open_tail (Ends (TooBig at len)) h = absurd h
open_tail (Ends TooLong) h = absurd h
open_tail (Holds f) h = absurd h

pub is_next : (old : State) (n : Next) (new : State) → Answers old n new → IsNext old n new
is_next old (next.Whole f) new a head limits bytes given h =
    subst (λ (s : State). StandsFor head limits bytes (given ++ f ∷ []) s) (sym a.1) (stands_passed head limits bytes given old f h a.0)
is_next old next.More new a head limits bytes given h =
    let found = open_tail (place_at old) a.0 in
    let one : IsOpenBehind head limits bytes given = record { tail = found.0; all = ends_there head limits bytes given old (end_of_tail found.0) h found.1 } in
    (one, subst (λ (s : State). StandsFor head limits bytes given s) (sym a.1) h)
is_next old (next.Fault x) new a head limits bytes given h =
    let good : EndsForGood head limits bytes given x = λ more.
    ends_there head limits (bytes ++ more) given (fed old more) (end_of_fault x) (stands_fed old more head limits bytes given h) (fault_stays old x more a.0) in
    (good, subst (λ (s : State). StandsFor head limits bytes given s) (sym a.1) h)

pub is_finished : (old : State) (t : Tail) → place_at old ≡ Ends (end_of_tail t) → IsFinished old t
is_finished old t stood head limits bytes given h = ends_there head limits bytes given old (end_of_tail t) h stood

pub capture_has_records : (limits : Limits) (file : List ℕ) → CaptureHasRecords limits file
capture_has_records limits file head opens =
    let left = length-drop head_len file in
    let same = records_from-turns head limits (suc (suc (length file))) (suc (length (drop head_len file))) head_len 0 (drop head_len file) (omega arith) (omega arith) in
    ap (behind_head limits file) opens ∙ ap (λ (r : Records). Ok (head, r)) same
