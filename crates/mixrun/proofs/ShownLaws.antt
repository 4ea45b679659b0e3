-- What was shown was taken: the fresh bytes of a core's events, with those that wait in its conversations, are the bytes taken.
use Rattle.std.proofs.Common.{◌≡◌, ℕ, zero, suc, ◌+◌, ◌≤◌, ◌==◌, Bool, true, false, cond, List, [], ◌∷◌, ◌++◌, Option, Some, None, refl, ap, sym, ◌∙◌, arith, append-nil, map, take, drop, length}
use Rattle.std.proofs.lemmas.List.{length-append}
use Rattle.evring.specs.declared.advice.Advice.{Advice}
use Rattle.evring.specs.declared.way.Way.{Way}
use Rattle.evring.specs.declared.way.Way.TheVariants.{Fore, Back}
use Rattle.histbook.specs.declared.look_entry.LookEntry.{LookEntry}
use Rattle.streamdefs.specs.Lists.{total, or_else}
use Rattle.streamdefs.specs.Both.{Both, of_way, with_way}
use Rattle.streamdefs.specs.Packet.{no_packet}
use Rattle.streamdefs.specs.Terms.{Terms}
use Rattle.streamdefs.specs.Reorder.{Placed}
use Rattle.streamdefs.specs.Pending.{Piece, bytes_in, fresh_in}
use Rattle.streamdefs.specs.Direction.{Kind, Direction, Deed, Counts, no_counts, counts_by, direction_after, pieces_by, pending_by, gone_by}
use Rattle.streamdefs.specs.Direction.Deed.{Arrives, Falls_due, Ends}
use Rattle.streamdefs.specs.Convo.{Act, Convo, Kept, Delivery, Event, new_convo, kind_of, way_of, segment_of, is_live, asks_in, carrying, events_in, counts_in, after, answered_event, own_after, keep_after}
use Rattle.streamdefs.specs.Convo.Act.{Seg, Answer, Time, End}
use Rattle.streamdefs.specs.Convo.Event.{New, Chunk, Ended}
use Rattle.streamdefs.specs.Totals.{fresh_bytes}
use Rattle.streamdefs.specs.Accounts.{waiting_in, waiting_of}
use Rattle.streamdefs.specs.Core.{Line, Core, Open, Told, idle_core, core_after, core_at, found_by, find_convo, put_convo}
use Rattle.streamdefs.proofs.Conserved.{conserved}
use Rattle.streamdefs.proofs.Delivered.{delivered}
use Rattle.coretable.specs.Course.{Course, Under, core_of}
use Rattle.mixrun.specs.Moment.{Setup, AtCore, Moment}
use Rattle.mixrun.specs.Queue.{told_under, told_by}
use Rattle.mixrun.proofs.ByteLaws.{total_join}
use Rattle.mixrun.specs.Bytes.{classes_by, classes_along, classes_under, classes_of, fresh_of, lines_written, shown_bytes}

-- One direction, one entry

length_bytes : (ps : List Placed) → length (bytes_in ps) ≡ length ps
length_bytes [] = refl
length_bytes (p ∷ ps) = ap suc (length_bytes ps)

stays : (t : Terms) (kind : Kind) (d : Direction) (deed : Deed)
    → waiting_in (direction_after t kind d deed) + length (fresh_in (pieces_by t kind d deed)) ≡ waiting_in d + (counts_by kind d deed).taken
stays t kind d deed =
    omega (
      arith,
      conserved t kind d deed,
      ap length (delivered t kind d deed),
      length-append (fresh_in (pieces_by t kind d deed)) (bytes_in (pending_by t kind d deed).bytes),
      length-append (bytes_in d.pending.bytes) (bytes_in (gone_by t kind d deed)),
      length_bytes (pending_by t kind d deed).bytes,
      length_bytes d.pending.bytes,
      length_bytes (gone_by t kind d deed),
    )

carried : (way : Way) (kept : List Kept) (ps : List Piece) → fresh_bytes (carrying way kept ps) ≡ length (fresh_in ps)
carried way kept [] = refl
carried way kept (p ∷ ps) = omega (arith, length-append p.fresh (fresh_in ps), carried way [] ps)

-- Events

total_take : {A : Type 0} (f : A → ℕ) (n : ℕ) (xs : List A) → total f (take n xs) ≤ total f xs
total_take f zero xs = omega arith
total_take f (suc n) [] = omega arith
total_take f (suc n) (x ∷ xs) = omega (arith, total_take f n xs)

abbrev told_as : ℕ → List Event → List Told
told_as conv events = map (λ event. record { conv = conv; event = event }) events

told_joined : (conv : ℕ) (xs ys : List Event) → total fresh_of (told_as conv (xs ++ ys)) ≡ total fresh_of (told_as conv xs) + total fresh_of (told_as conv ys)
told_joined conv [] ys = omega arith
told_joined conv (x ∷ xs) ys = omega (arith, told_joined conv xs ys)

told_taken : (conv n : ℕ) (xs : List Event) → total fresh_of (told_as conv (take n xs)) ≤ total fresh_of (told_as conv xs)
told_taken conv zero xs = omega arith
told_taken conv (suc n) [] = omega arith
told_taken conv (suc n) (x ∷ xs) = omega (arith, told_taken conv n xs)

told_chunks : (conv : ℕ) (ds : List Delivery) → total fresh_of (told_as conv (map Chunk ds)) ≡ fresh_bytes ds
told_chunks conv [] = refl
told_chunks conv (d ∷ ds) = omega (arith, told_chunks conv ds)

told_last : (conv : ℕ) (ds : List Delivery) → total fresh_of (told_as conv (map Chunk ds ++ [])) ≡ fresh_bytes ds
told_last conv [] = refl
told_last conv (d ∷ ds) = ap (λ (n : ℕ). length d.piece.fresh + n) (told_last conv ds)

-- those of a packet's entry
told_seg : (conv : ℕ) (b : Bool) (ds : List Delivery) → total fresh_of (told_as conv (cond b (New ∷ []) [] ++ map Chunk (ds ++ []) ++ [])) ≡ fresh_bytes ds
told_seg conv true ds = ap (λ (n : ℕ). 0 + n) (told_last conv (ds ++ []) ∙ ap fresh_bytes (append-nil ds)) ∙ zeroed (fresh_bytes ds)
  where
    zeroed : (n : ℕ) → 0 + n ≡ n
    zeroed n = omega arith
told_seg conv false ds = told_last conv (ds ++ []) ∙ ap fresh_bytes (append-nil ds)

-- One conversation, one entry

abbrev wait_of : Convo → ℕ
wait_of c = waiting_of Fore c + waiting_of Back c

abbrev waits : Both Direction → ℕ
waits ds = waiting_in ds.fore + waiting_in ds.back

module _ (t : Terms) (c : Convo) (deed : Deed) where
  abbrev pieces : Way → List Piece
  pieces w = pieces_by t (kind_of t c) (of_way w c.directions) deed

  abbrev moved : Way → Both Direction
  moved w = with_way w (direction_after t (kind_of t c) (of_way w c.directions) deed) c.directions

  abbrev counted : Way → Way → Counts
  counted Fore Fore = counts_by (kind_of t c) c.directions.fore deed
  counted Back Back = counts_by (kind_of t c) c.directions.back deed
  counted Fore Back = no_counts
  counted Back Fore = no_counts

  seg_stays : (conv : ℕ) (b : Bool) (w : Way) → waits (moved w) + total fresh_of (told_as conv (cond b (New ∷ []) [] ++ map Chunk (carrying w (of_way w c.kept) (pieces w) ++ []) ++ []))
      ≡ wait_of c + (counted w w).taken
  seg_stays conv b w =
      ap (λ (n : ℕ). waits (moved w) + n) (told_seg conv b (carrying w (of_way w c.kept) (pieces w)) ∙ carried w (of_way w c.kept) (pieces w)) ∙ one w
    where
      one : (w : Way) → waits (moved w) + length (fresh_in (pieces w)) ≡ wait_of c + (counted w w).taken
      one Fore = omega (arith, stays t (kind_of t c) c.directions.fore deed)
      one Back = omega (arith, stays t (kind_of t c) c.directions.back deed)

module _ (t : Terms) (c : Convo) (f b : Deed) where
  abbrev fore : List Piece
  fore = pieces_by t (kind_of t c) c.directions.fore f

  abbrev back : List Piece
  back = pieces_by t (kind_of t c) c.directions.back b

  abbrev handed : List Delivery
  handed = carrying Fore c.kept.fore fore ++ (carrying Back c.kept.back back ++ [])

  fresh_handed : fresh_bytes handed ≡ length (fresh_in fore) + length (fresh_in back)
  fresh_handed =
      omega (
        arith,
        total_join (λ d. length d.piece.fresh) (carrying Fore c.kept.fore fore) (carrying Back c.kept.back back ++ []),
        total_join (λ d. length d.piece.fresh) (carrying Back c.kept.back back) [],
        carried Fore c.kept.fore fore,
        carried Back c.kept.back back,
      )

  both_stay : waiting_in (direction_after t (kind_of t c) c.directions.fore f) + waiting_in (direction_after t (kind_of t c) c.directions.back b) + fresh_bytes handed
      ≡ wait_of c + ((counts_by (kind_of t c) c.directions.fore f).taken + (counts_by (kind_of t c) c.directions.back b).taken)
  both_stay = omega (arith, fresh_handed, stays t (kind_of t c) c.directions.fore f, stays t (kind_of t c) c.directions.back b)

abbrev left : Terms → Convo → ℕ → List LookEntry → List LookEntry
left t c at looks = drop (length (asks_in t c (Fore, Falls_due at looks))) looks

-- the bytes that an entry takes
abbrev taken_in : Terms → Convo → Act → ℕ
taken_in t c (Seg p now looks frees) = (counts_in t c (way_of c p) (Seg p now looks frees)).taken
taken_in t c _ = 0

abbrev advised : Convo → Advice → Convo
advised c advice = record c {
  own = own_after c advice (answered_event c);
  advised = or_else advice.priority c.advised;
  kept = keep_after c advice (answered_event c);
  answered = suc c.answered;
}

same_directions : (c : Convo) (advice : Advice) (b : Bool) → (cond b (advised c advice) (record c { answered = suc c.answered })).directions ≡ c.directions
same_directions c advice true = refl
same_directions c advice false = refl

act_stays : (t : Terms) (conv : ℕ) (c : Convo) (act : Act) → wait_of (after t c act) + total fresh_of (told_as conv (events_in t c act)) ≡ wait_of c + taken_in t c act
act_stays t conv c (Answer event advice frees) = omega (arith, ap waits (same_directions c advice (is_live c)))
act_stays t conv c (Seg p now looks frees) = seg_stays t c (Arrives (segment_of t c p now) looks) conv _ (way_of c p)
act_stays t conv c (Time at looks frees) =
    omega (
      arith,
      both_stay t c (Falls_due at looks) (Falls_due at (left t c at looks)),
      told_joined conv (map Chunk (handed t c (Falls_due at looks) (Falls_due at (left t c at looks)))) [],
      told_chunks conv (handed t c (Falls_due at looks) (Falls_due at (left t c at looks))),
    )
act_stays t conv c (End at reason looks frees) =
    omega (
      arith,
      both_stay t c (Ends at) (Ends at),
      told_joined conv (map Chunk (handed t c (Ends at) (Ends at))) (Ended reason ∷ []),
      told_chunks conv (handed t c (Ends at) (Ends at)),
    )

-- A core

abbrev sum_of : List Open → ℕ
sum_of os = total (λ o. wait_of o.convo) os

abbrev of_found : Option Convo → ℕ
of_found None = 0
of_found (Some c) = wait_of c

put_sum : (id : ℕ) (c : Convo) (os : List Open) → sum_of (put_convo id c os) + of_found (find_convo id os) ≡ sum_of os + wait_of c
put_sum id c [] = omega arith
put_sum id c (o ∷ os) = by (o.id == id) (put_sum id c os)
  where
    by : (b : Bool) → sum_of (put_convo id c os) + of_found (find_convo id os) ≡ sum_of os + wait_of c
        → sum_of (cond b (record { id = id; convo = c } ∷ os) (o ∷ put_convo id c os)) + of_found (cond b (Some o.convo) (find_convo id os)) ≡ sum_of (o ∷ os) + wait_of c
    by true rest = omega arith
    by false rest = omega (arith, rest)

found_less : (id : ℕ) (os : List Open) → of_found (find_convo id os) ≤ sum_of os
found_less id [] = omega arith
found_less id (o ∷ os) = by (o.id == id) (found_less id os)
  where
    by : (b : Bool) → of_found (find_convo id os) ≤ sum_of os → of_found (cond b (Some o.convo) (find_convo id os)) ≤ sum_of (o ∷ os)
    by true rest = omega arith
    by false rest = omega (arith, rest)

abbrev known : Option Convo → Act → Convo
known (Some c) act = c
known None (Seg p now looks frees) = new_convo p
known None _ = new_convo no_packet

wait_known : (o : Option Convo) (act : Act) → wait_of (known o act) ≡ of_found o
wait_known (Some c) act = refl
wait_known None (Seg p now looks frees) = refl
wait_known None (Answer event advice frees) = refl
wait_known None (Time at looks frees) = refl
wait_known None (End at reason looks frees) = refl

wait_found : (core : Core) (line : Line) → wait_of (found_by core line) ≡ of_found (find_convo line.conv core.convos)
wait_found core line = wait_known (find_convo line.conv core.convos) line.act

classes_taken : (t : Terms) (core : Core) (line : Line) → (classes_by t core line).taken ≡ taken_in t (found_by core line) line.act
classes_taken t core line = by line.act refl
  where
    by : (act : Act) → line.act ≡ act → (classes_by t core line).taken ≡ taken_in t (found_by core line) line.act
    by (Seg p now looks frees) e = (λ i. (classes_by t core (record line { act = e i })).taken) ∙ sym (λ i. taken_in t (found_by core (record line { act = e i })) (e i))
    by (Answer event advice frees) e = (λ i. (classes_by t core (record line { act = e i })).taken) ∙ sym (λ i. taken_in t (found_by core (record line { act = e i })) (e i))
    by (Time at looks frees) e = (λ i. (classes_by t core (record line { act = e i })).taken) ∙ sym (λ i. taken_in t (found_by core (record line { act = e i })) (e i))
    by (End at reason looks frees) e = (λ i. (classes_by t core (record line { act = e i })).taken) ∙ sym (λ i. taken_in t (found_by core (record line { act = e i })) (e i))

abbrev had : Core → ℕ
had core = sum_of core.convos + total fresh_of core.events

line_stays : (t : Terms) (core : Core) (line : Line) → had (core_after t core line) ≡ had core + (classes_by t core line).taken
line_stays t core line =
    omega (
      arith,
      put_sum line.conv (after t (found_by core line) line.act) core.convos,
      wait_found core line,
      act_stays t line.conv (found_by core line) line.act,
      total_join fresh_of core.events (told_as line.conv (events_in t (found_by core line) line.act)),
      classes_taken t core line,
    )

lines_stay : (t : Terms) (core : Core) (lines : List Line) → had (core_at t core lines) ≡ had core + (classes_along t core lines).taken
lines_stay t core [] = omega arith
lines_stay t core (line ∷ lines) = omega (arith, line_stays t core line, lines_stay t (core_after t core line) lines)

-- the events of the entry under way show no more than waits in its conversation and what it takes
under_less : (t : Terms) (core : Core) (u : Option Under) → total fresh_of (told_under t core u) ≤ sum_of core.convos + (classes_under t core u).taken
under_less t core None = omega arith
under_less t core (Some u) =
    omega (
      arith,
      told_taken u.line.conv u.emitted (events_in t (found_by core u.line) u.line.act),
      act_stays t u.line.conv (found_by core u.line) u.line.act,
      classes_taken t core u.line,
      wait_found core u.line,
      found_less u.line.conv core.convos,
    )

told_less : (t : Terms) (m : Course) → total fresh_of (told_by t m) ≤ (classes_of t m).taken
told_less t m =
    omega (
      arith,
      total_join fresh_of (core_of t m).events (told_under t (core_of t m) m.under),
      lines_stay t idle_core m.lines,
      under_less t (core_of t m) m.under,
    )

pub shown_less : (s : Setup) (c : ℕ) (m : Moment) (a : AtCore) → shown_bytes s c m a ≤ (classes_of s.terms a.course).taken
shown_less s c m a = omega (arith, total_take fresh_of (lines_written s c m a) (told_by s.terms a.course), told_less s.terms a.course)
