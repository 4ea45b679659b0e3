-- The lines of a core's events grow by those of each entry.
use Rattle.std.specs.Prelude.{◌≡◌, refl, ℕ, suc, Bool, true, false, cond, ◌==◌, List, [], ◌∷◌, ◌++◌, map, Some}
use Rattle.std.proofs.Common.{sym, ◌∙◌, ap, arith}
use Rattle.std.proofs.lemmas.Bool.Decides.{nat_tests}
use Rattle.evring.specs.declared.advice.Advice.{Advice}
use Rattle.streamdefs.specs.Lists.{Each, or_else}
use Rattle.streamdefs.specs.Packet.{Packet}
use Rattle.streamdefs.specs.Terms.{Terms}
use Rattle.streamdefs.specs.Handler.{event_line}
use Rattle.streamdefs.specs.Convo.{Act, Convo, Event, after, events_in, seen_of, is_live, own_after, keep_after, answered_event}
use Rattle.streamdefs.specs.Convo.Act.{Seg, Answer, Time, End}
use Rattle.streamdefs.specs.Core.{Line, Core, Open, Told, core_after, found_by, find_convo, put_convo}
use Rattle.streamdefs.specs.WorkerText.{lines_of}
use Rattle.streamdefs.proofs.Histories.{found_is, find_put}
use Rattle.datagrams.specs.Table.{told_of}
use Rattle.datagrams.specs.Replay.{AllOpened, IsOpened, line_among, line_told}

-- an answer of a conversation that is live, or has ended
abbrev after_answer_if : Convo → Advice → Bool → Convo
after_answer_if c advice live = cond live (record c {
  own = own_after c advice (answered_event c);
  advised = or_else advice.priority c.advised;
  kept = keep_after c advice (answered_event c);
  answered = suc c.answered;
}) (record c { answered = suc c.answered })

keeps_first : (terms : Terms) (c : Convo) (act : Act) → (after terms c act).first ≡ c.first
keeps_first terms c (Seg p now looks frees) = refl
keeps_first terms c (Answer event advice frees) = by (is_live c)
  where
    by : (b : Bool) → (after_answer_if c advice b).first ≡ c.first
    by true = refl
    by false = refl
keeps_first terms c (Time at looks frees) = refl
keeps_first terms c (End at reason looks frees) = refl

same_number : (n : ℕ) → (n == n) ≡ true
same_number n = grind (arith, nat_tests)

are_same : (m n : ℕ) → (m == n) ≡ true → m ≡ n
are_same m n h = grind (arith, nat_tests)

-- one conversation put among them
kept_line : (os : List Open) (k : ℕ) (c : Convo) (told : Told) → IsOpened os told → ((d : Convo) → find_convo k os ≡ Some d → c.first ≡ d.first)
    → line_among (put_convo k c os) told ≡ line_among os told
kept_line os k c told opened first = ap (line_told told) (find_put told.conv k c os) ∙ by (k == told.conv) refl
  where
    by : (b : Bool) → (k == told.conv) ≡ b → line_told told (cond b (Some c) (find_convo told.conv os)) ≡ line_among os told
    by true e =
        ap (λ (p : Packet). event_line told.conv (seen_of p told.event)) (first opened.0 (ap (λ (n : ℕ). find_convo n os) (are_same k told.conv e) ∙ opened.1))
        ∙ sym (ap (line_told told) opened.1)
    by false e = refl

kept_opened : (os : List Open) (k : ℕ) (c : Convo) (told : Told) → IsOpened os told → IsOpened (put_convo k c os) told
kept_opened os k c told opened = by (k == told.conv) (find_put told.conv k c os)
  where
    by : (b : Bool) → find_convo told.conv (put_convo k c os) ≡ cond b (Some c) (find_convo told.conv os) → IsOpened (put_convo k c os) told
    by true e = (c, e)
    by false e = (opened.0, e ∙ opened.1)

kept_lines : (os : List Open) (k : ℕ) (c : Convo) (told : List Told) → Each (IsOpened os) told → ((d : Convo) → find_convo k os ≡ Some d → c.first ≡ d.first)
    → map (line_among (put_convo k c os)) told ≡ map (line_among os) told
kept_lines os k c [] opened first = refl
kept_lines os k c (t ∷ told) opened first = λ i. kept_line os k c t opened.0 first i ∷ kept_lines os k c told opened.1 first i

all_kept : (os : List Open) (k : ℕ) (c : Convo) (told : List Told) → Each (IsOpened os) told → Each (IsOpened (put_convo k c os)) told
all_kept os k c [] opened = tt
all_kept os k c (t ∷ told) opened = (kept_opened os k c t opened.0, all_kept os k c told opened.1)

-- its own events
found_own : (os : List Open) (k : ℕ) (c : Convo) → find_convo k (put_convo k c os) ≡ Some c
found_own os k c = find_put k k c os ∙ ap (λ (b : Bool). cond b (Some c) (find_convo k os)) (same_number k)

own_lines : (os : List Open) (k : ℕ) (c : Convo) (events : List Event) → map (line_among (put_convo k c os)) (told_of k events) ≡ map (λ event. event_line k (seen_of c.first event)) events
own_lines os k c [] = refl
own_lines os k c (e ∷ events) = λ i. line_told (record { conv = k; event = e }) (found_own os k c i) ∷ own_lines os k c events i

own_opened : (os : List Open) (k : ℕ) (c : Convo) (events : List Event) → Each (IsOpened (put_convo k c os)) (told_of k events)
own_opened os k c [] = tt
own_opened os k c (e ∷ events) = ((c, found_own os k c), own_opened os k c events)

map_append : (f : Told → List ℕ) (xs ys : List Told) → map f (xs ++ ys) ≡ map f xs ++ map f ys
map_append f [] ys = refl
map_append f (x ∷ xs) ys = ap (λ (l : List (List ℕ)). f x ∷ l) (map_append f xs ys)

both_opened : (os : List Open) (xs ys : List Told) → Each (IsOpened os) xs → Each (IsOpened os) ys → Each (IsOpened os) (xs ++ ys)
both_opened os [] ys x y = y
both_opened os (t ∷ xs) ys x y = (x.0, both_opened os xs ys x.1 y)

pub lines_grow : (terms : Terms) (core : Core) (line : Line) → AllOpened core
    → (lines_of (core_after terms core line) ≡ lines_of core ++ map (λ event. event_line line.conv (seen_of (found_by core line).first event)) (events_in terms (found_by core line) line.act))
    × AllOpened (core_after terms core line)
lines_grow terms core line opened = (grown, both_opened (put_convo line.conv next core.convos) core.events (told_of line.conv events) (all_kept core.convos line.conv next core.events opened) (own_opened core.convos line.conv next events))
  where
    here : Convo
    here = found_by core line

    next : Convo
    next = after terms here line.act

    events : List Event
    events = events_in terms here line.act

    first_is : next.first ≡ here.first
    first_is = keeps_first terms here line.act

    grown : map (line_among (put_convo line.conv next core.convos)) (core.events ++ told_of line.conv events) ≡ map (line_among core.convos) core.events ++ map (λ event. event_line line.conv (seen_of here.first event)) events
    grown =
        map_append (line_among (put_convo line.conv next core.convos)) core.events (told_of line.conv events)
        ∙ (λ i. kept_lines core.convos line.conv next core.events opened (λ d e. first_is ∙ ap (λ (c : Convo). c.first) (found_is core line d e)) i ++ own_lines core.convos line.conv next events i)
        ∙ ap (λ (p : Packet). map (line_among core.convos) core.events ++ map (λ event. event_line line.conv (seen_of p event)) events) first_is
