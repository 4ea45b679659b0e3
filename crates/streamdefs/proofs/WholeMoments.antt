-- A moment at which nothing is missing: what is lawful so far is lawful.
use Rattle.std.specs.Prelude.{◌≡◌, refl, ⊤, ℕ, zero, suc, ◌+◌, ◌≤◌, ◌%◌, ◌==◌, true, cond, nat_lt, List, [], ◌∷◌, ◌++◌, length, map, flat_map, Some, None, slice_get}
use Rattle.std.proofs.Common.{sym, ◌∙◌, ap, subst, arith, append-nil}
use Rattle.std.specs.Option.{option_to_list}
use Rattle.std.specs.List.{list_all}
use mathlib.Core.List.{append_assoc}
use Rattle.histbook.specs.declared.look_entry.LookEntry.{LookEntry}
use Rattle.histbook.specs.Budget.{HasEachStampOnce, FoundTheUsed, HadRoom, StaysWithin}
use Rattle.streamdefs.specs.Lists.{how_many, Each, EachNumbered, or_nothing}
use Rattle.streamdefs.specs.Terms.{Terms}
use Rattle.streamdefs.specs.Convo.{Act, looks_in}
use Rattle.streamdefs.specs.Convo.Act.{Seg, Answer, Time, End}
use Rattle.streamdefs.specs.Core.{Line, Core, idle_core, core_at, core_after}
use Rattle.streamdefs.specs.Lawful.{CoreRun, Lawful, EachCore, Segs, Conversations, Dues, Ends, Answers, Window, Looks, Frees, core_run, handler_at, times_served}
use Rattle.streamdefs.specs.Order.{AreAllAbove, OneHistory, FreesRise, LooksRise, Rise, all_moves, found_looks, moves_of, frees_of_answers, along_served}
use Rattle.streamdefs.specs.SoFar.{LawfulSoFar, moves_so_far, looks_so_far}
use Rattle.streamdefs.specs.RunSoFar.{CoreSoFar, WorkerSoFar, RunSoFar, LawfulRunSoFar, LooksRiseSoFar, IsDone, IsWhole, WholeIsLawful, part_of, entries, answers_of, frees_in_hand, frees_outside, FreesRiseSoFar, times_answered, run_of}

-- Lists whose places are counted.

numbered_map : {X Y : Type 0} (P : ℕ → X → Type 0) (Q : ℕ → Y → Type 0) (f : X → Y) (n : ℕ) (xs : List X) → ((k : ℕ) (x : X) → slice_get xs k ≡ Some x → P (n + k) x → Q (n + k) (f x))
    → EachNumbered P n xs → EachNumbered Q n (map f xs)
numbered_map P Q f n [] step h = tt
numbered_map P Q f n (x ∷ xs) step h = (
  subst (λ k. Q k (f x)) same (step 0 x refl (subst (λ k. P k x) (sym same) h.0)),
  numbered_map P Q f (suc n) xs (λ k y e p. subst (λ j. Q j (f y)) (next k) (step (suc k) y e (subst (λ j. P j y) (sym (next k)) p))) h.1,
)
  where
    same : n + 0 ≡ n
    same = omega arith

    next : (k : ℕ) → n + suc k ≡ suc n + k
    next k = omega arith

zero_more : (n : ℕ) → 0 + n ≡ n
zero_more n = omega arith

-- the same from 0 on
numbered_all : {X Y : Type 0} (P : ℕ → X → Type 0) (Q : ℕ → Y → Type 0) (f : X → Y) (xs : List X) → ((k : ℕ) (x : X) → slice_get xs k ≡ Some x → P k x → Q k (f x))
    → EachNumbered P 0 xs → EachNumbered Q 0 (map f xs)
numbered_all P Q f xs step h = numbered_map P Q f 0 xs (λ k x e p. subst (λ j. Q j (f x)) (sym (zero_more k)) (step k x e (subst (λ j. P j x) (zero_more k) p))) h

get_map : {X Y : Type 0} (f : X → List Y) (xs : List X) (k : ℕ) (x : X) → slice_get xs k ≡ Some x → or_nothing (slice_get (map f xs) k) ≡ f x
get_map f [] k x e = absurd (cc)
get_map f (y ∷ xs) zero x e = ap f (some_same y x e)
  where
    some_same : {X : Type 0} (a b : X) → Some a ≡ Some b → a ≡ b
    some_same a b h = cc
get_map f (y ∷ xs) (suc k) x e = get_map f xs k x e

numbered_each : {X : Type 0} (P : X → Type 0) (n : ℕ) (xs : List X) → Each P xs → EachNumbered (λ k x. P x) n xs
numbered_each P n [] h = tt
numbered_each P n (x ∷ xs) h = (h.0, numbered_each P (suc n) xs h.1)

numbered_both : {X : Type 0} (P Q : ℕ → X → Type 0) (n : ℕ) (xs : List X) → EachNumbered P n xs → EachNumbered Q n xs → EachNumbered (λ k x. P k x × Q k x) n xs
numbered_both P Q n [] h g = tt
numbered_both P Q n (x ∷ xs) h g = ((h.0, g.0), numbered_both P Q (suc n) xs h.1 g.1)

map_same : {X Y : Type 0} (f g : X → Y) (P : X → Type 0) (xs : List X) → ((x : X) → P x → f x ≡ g x) → Each P xs → map f xs ≡ map g xs
map_same f g P [] e h = refl
map_same f g P (x ∷ xs) e h = ap (λ y. y ∷ map f xs) (e x h.0) ∙ ap (λ ys. g x ∷ ys) (map_same f g P xs e h.1)

-- A core that is done.

module _ (r : RunSoFar) (c : CoreSoFar) (d : IsDone r c) where
  entries_are : entries c ≡ c.lines
  entries_are = ap (λ o. c.lines ++ option_to_list o) d.under ∙ append-nil c.lines

  answers_are : answers_of c ≡ frees_of_answers c.lines
  answers_are = ap (λ frees. frees_of_answers (entries c) ++ frees) d.waiting ∙ append-nil _ ∙ ap frees_of_answers entries_are

  none_waits : flat_map (λ frees. frees) c.answers ≡ []
  none_waits = ap (flat_map (λ frees. frees)) d.waiting

-- a core has a list of frees for each answer
counted_by : (terms : Terms) (core : Core) (line : Line) (lines : List Line)
    → (core_at terms (core_after terms core line) lines).answered ≡ (core_after terms core line).answered + length (frees_of_answers lines)
    → (core_at terms (core_after terms core line) lines).answered ≡ core.answered + length (frees_of_answers (line ∷ lines))
counted_by terms core line lines h = by line.conv line.act h
  where
    by : (conv : ℕ) (act : Act) → (core_at terms (core_after terms core (record { conv = conv; act = act })) lines).answered ≡ (core_after terms core (record { conv = conv; act = act })).answered + length (frees_of_answers lines)
        → (core_at terms (core_after terms core (record { conv = conv; act = act })) lines).answered ≡ core.answered + length (frees_of_answers (record { conv = conv; act = act } ∷ lines))
    by conv (Seg p now looks frees) e = e
    by conv (Answer event advice frees) e = omega (arith, e)
    by conv (Time at looks frees) e = e
    by conv (End at reason looks frees) e = e

counted : (terms : Terms) (core : Core) (lines : List Line) → (core_at terms core lines).answered ≡ core.answered + length (frees_of_answers lines)
counted terms core [] = omega arith
counted terms core (line ∷ lines) = counted_by terms core line lines (counted terms (core_after terms core line) lines)

counted_all : (terms : Terms) (lines : List Line) → (core_at terms idle_core lines).answered ≡ length (frees_of_answers lines)
counted_all terms lines = counted terms idle_core lines ∙ zero_more (length (frees_of_answers lines))

-- All cores.

module _ (r : RunSoFar) (h : LawfulRunSoFar r) (w : IsWhole r) where
  part_is : (k : ℕ) (c : CoreSoFar) → slice_get r.cores k ≡ Some c → core_run (run_of r) k c.lines ≡ part_of r k c
  part_is k c e = ap (λ ps. record { terms = r.terms; last = r.last; packets = ps; handler = handler_at r.handlers (k % length r.handlers); lines = c.lines }) (get_map (λ x. x.packets) r.cores k c e)

  -- what each core's part is, from what it is so far
  each_part : (P : ℕ → CoreSoFar → Type 0) (Part : CoreRun → Type 0) → EachNumbered P 0 r.cores → ((k : ℕ) (c : CoreSoFar) → IsDone r c → P k c → Part (part_of r k c)) → EachCore (run_of r) Part
  each_part P Part each step =
      numbered_all (λ k c. IsDone r c × P k c) (λ k lines. Part (core_run (run_of r) k lines)) (λ c. c.lines) r.cores
      (λ k c e p. subst Part (sym (part_is k c e)) (step k c p.0 p.1))
      (numbered_both (λ k c. IsDone r c) P 0 r.cores (numbered_each (IsDone r) 0 r.cores w.cores) each)

  times_are : (k : ℕ) (c : CoreSoFar) → IsDone r c → ((core_at r.terms idle_core (entries c)).timed ≤ r.last) → (core_at r.terms idle_core c.lines).timed ≤ r.last
  times_are k c d t = subst (λ lines. (core_at r.terms idle_core lines).timed ≤ r.last) (entries_are r c d) t

  segs : EachCore (run_of r) Segs
  segs = each_part (λ k c. ⊤) Segs (numbered_each (λ c. ⊤) 0 r.cores (nothing r.cores)) (λ k c d p. d.segs)
    where
      nothing : (cs : List CoreSoFar) → Each (λ c. ⊤) cs
      nothing [] = tt
      nothing (c ∷ cs) = (tt, nothing cs)

  abbrev SoFarAt : ℕ → CoreSoFar → Type 0
  SoFarAt k c = LawfulSoFar (part_of r k c) c.under

  same_length : {X Y : Type 0} (f : X → Y) (xs : List X) → length (map f xs) ≡ length xs
  same_length f [] = refl
  same_length f (x ∷ xs) = ap suc (same_length f xs)

  -- the lists
  served_at : (worker : ℕ) (x : WorkerSoFar) → EachNumbered (λ core c. how_many (λ k. k == core) x.served ≡ times_answered r worker core c) 0 r.cores
      → EachNumbered (λ core lines. how_many (λ k. k == core) x.served ≡ times_served (run_of r) worker core lines) 0 (map (λ c. c.lines) r.cores)
  served_at worker x each =
      numbered_all (λ core c. IsDone r c × (how_many (λ k. k == core) x.served ≡ times_answered r worker core c)) _ (λ c. c.lines) r.cores
      (λ k c e p. p.1 ∙ ap (λ n. cond (k % length r.handlers == worker) n 0) (ap length (answers_are r c p.0) ∙ sym (counted_all r.terms c.lines) ∙ p.0.answered))
      (numbered_both (λ core c. IsDone r c) (λ core c. how_many (λ k. k == core) x.served ≡ times_answered r worker core c) 0 r.cores (numbered_each (IsDone r) 0 r.cores w.cores) each)

  lawful : Lawful (run_of r)
  lawful = record {
    segs = (segs, same_length (λ c. c.lines) r.cores ∙ sym (same_length (λ c. c.packets) r.cores));
    conversations = each_part SoFarAt Conversations h.books (λ k c d p. p.conversations.0);
    dues = each_part (λ k c. SoFarAt k c × ((core_at r.terms idle_core (entries c)).timed ≤ r.last)) Dues
        (numbered_both SoFarAt _ 0 r.cores h.books (numbered_each _ 0 r.cores h.times)) (λ k c d p. (p.0.dues.0, times_are k c d p.1));
    ends = each_part SoFarAt Ends h.books (λ k c d p. (p.ends.0, d.ends));
    answers = each_part SoFarAt Answers h.books (λ k c d p. (p.answers.0, d.answered));
    window = each_part SoFarAt Window h.books (λ k c d p. p.window.0);
    looks = each_part SoFarAt Looks h.books (λ k c d p. p.looks.0);
    frees = each_part SoFarAt Frees h.books (λ k c d p. p.frees.0);
    served = (
      numbered_all _ _ (λ x. x.served) r.workers
          (λ k x e p. (served_at k x p.0, subst (λ n. list_all (λ j. nat_lt j n) x.served ≡ true) (sym (same_length (λ c. c.lines) r.cores)) p.1)) h.served.0,
      same_length (λ x. x.served) r.workers ∙ h.served.1,
    );
  }

  -- the moves and the looks
  lines_of : (cs : List CoreSoFar) → Each (IsDone r) cs → flat_map entries cs ≡ flat_map (λ c. c.lines) cs
  lines_of [] each = refl
  lines_of (c ∷ cs) each = ap (λ lines. lines ++ flat_map entries cs) (entries_are r c each.0) ∙ ap (λ lines. c.lines ++ lines) (lines_of cs each.1)

  flat_append : {X : Type 0} (f : Line → List X) (xs ys : List Line) → flat_map f (xs ++ ys) ≡ flat_map f xs ++ flat_map f ys
  flat_append f [] ys = refl
  flat_append f (x ∷ xs) ys = ap (λ zs. f x ++ zs) (flat_append f xs ys) ∙ sym (append_assoc (f x) (flat_map f xs) (flat_map f ys))

  flat_flat : {X : Type 0} (f : Line → List X) (cs : List CoreSoFar) → flat_map f (flat_map (λ c. c.lines) cs) ≡ flat_map (λ lines. flat_map f lines) (map (λ c. c.lines) cs)
  flat_flat f [] = refl
  flat_flat f (c ∷ cs) = flat_append f c.lines (flat_map (λ x. x.lines) cs) ∙ ap (λ xs. flat_map f c.lines ++ xs) (flat_flat f cs)

  waiting_none : (cs : List CoreSoFar) → Each (IsDone r) cs → flat_map (λ c. flat_map (λ frees. frees) c.answers) cs ≡ []
  waiting_none [] each = refl
  waiting_none (c ∷ cs) each = ap (λ frees. frees ++ flat_map (λ c. flat_map (λ frees. frees) c.answers) cs) (none_waits r c each.0) ∙ waiting_none cs each.1

  hands_none : (ws : List WorkerSoFar) → Each (λ x. x.hand ≡ None) ws → flat_map frees_in_hand ws ≡ []
  hands_none [] each = refl
  hands_none (x ∷ ws) each = ap (λ o. flat_map (λ h. h.frees) (option_to_list o) ++ flat_map frees_in_hand ws) each.0 ∙ hands_none ws each.1

  outside_none : frees_outside r ≡ []
  outside_none = ap (λ frees. frees ++ flat_map frees_in_hand r.workers) (waiting_none r.cores w.cores) ∙ hands_none r.workers w.hands

  moves_are : moves_so_far (flat_map entries r.cores) (frees_outside r) ≡ all_moves (run_of r)
  moves_are =
      ap (moves_so_far (flat_map entries r.cores)) outside_none ∙ append-nil _ ∙ ap (flat_map (λ (line : Line). moves_of line.act)) (lines_of r.cores w.cores) ∙ flat_flat (λ line. moves_of line.act) r.cores

  map_looks : (xs ys : List LookEntry) → map (λ (look : LookEntry). look.look) (xs ++ ys) ≡ map (λ look. look.look) xs ++ map (λ look. look.look) ys
  map_looks [] ys = refl
  map_looks (x ∷ xs) ys = ap (λ ls. x.look ∷ ls) (map_looks xs ys)

  looks_mapped : (lines : List Line) → flat_map (λ line. map (λ look. look.look) (looks_in line.act)) lines ≡ map (λ look. look.look) (flat_map (λ line. looks_in line.act) lines)
  looks_mapped [] = refl
  looks_mapped (l ∷ ls) = ap (λ xs. map (λ look. look.look) (looks_in l.act) ++ xs) (looks_mapped ls) ∙ sym (map_looks (looks_in l.act) (flat_map (λ line. looks_in line.act) ls))

  looks_are : looks_so_far (flat_map entries r.cores) ≡ found_looks (run_of r)
  looks_are =
      ap looks_so_far (lines_of r.cores w.cores) ∙ looks_mapped (flat_map (λ c. c.lines) r.cores) ∙ ap (map (λ look. look.look)) (flat_flat (λ line. looks_in line.act) r.cores)

  -- the workers
  worker_rises : (ws : List WorkerSoFar) → Each (λ x. x.hand ≡ None) ws → Each (λ x. Rise (along_served (map answers_of r.cores) [] x.served ++ frees_in_hand x)) ws
      → Each (λ list. Rise (along_served (map frees_of_answers (map (λ c. c.lines) r.cores)) [] list)) (map (λ x. x.served) ws)
  worker_rises [] none each = tt
  worker_rises (x ∷ ws) none each = (
    subst Rise (ap (λ o. along_served (map answers_of r.cores) [] x.served ++ flat_map (λ h. h.frees) (option_to_list o)) none.0 ∙ append-nil _ ∙ ap (λ lists. along_served lists [] x.served) lists_are) each.0,
    worker_rises ws none.1 each.1,
  )
    where
      twice : (cs : List CoreSoFar) → map (λ c. frees_of_answers c.lines) cs ≡ map frees_of_answers (map (λ c. c.lines) cs)
      twice [] = refl
      twice (c ∷ cs) = ap (λ xs. frees_of_answers c.lines ∷ xs) (twice cs)

      lists_are : map answers_of r.cores ≡ map frees_of_answers (map (λ c. c.lines) r.cores)
      lists_are = map_same answers_of (λ c. frees_of_answers c.lines) (IsDone r) r.cores (λ c d. answers_are r c d) w.cores ∙ twice r.cores

  history : OneHistory (run_of r)
  history = record {
    budget = record {
      once = subst (HasEachStampOnce 0) moves_are h.history.once;
      found = subst (λ looks. FoundTheUsed 0 (all_moves (run_of r)) looks) looks_are (subst (λ moves. FoundTheUsed 0 moves (looks_so_far (flat_map entries r.cores))) moves_are h.history.found);
      fair = subst (HadRoom r.terms.marks.limit 0) moves_are h.history.fair;
      within = subst (StaysWithin r.terms.marks.limit) moves_are h.history.within;
      settled = w.settled;
    };
    order = (
      each_part (λ k c. FreesRiseSoFar (part_of r k c) c.under) FreesRise h.frees (λ k c d p. p.0),
      each_part (λ k c. LooksRiseSoFar c) LooksRise (numbered_each LooksRiseSoFar 0 r.cores h.looks) (λ k c d p. subst (AreAllAbove []) (entries_are r c d) p),
      worker_rises r.workers w.hands h.workers,
    );
  }

pub whole_is_lawful : WholeIsLawful
whole_is_lawful r h w = (lawful r h w, history r h w)
