-- Behind each entry a direction is settled, and where it is, nothing is done at a moment at which nothing falls due.
use Rattle.std.proofs.Common.{◌≡◌, refl, sym, ◌∙◌, ap, subst, ℕ, ◌+◌, ◌<◌, Bool, true, false, not, cond, List, [], ◌∷◌, Option, Some, None, arith}
use Rattle.std.specs.Prelude.{◌&&◌, ◌||◌, ◌==◌, nat_lt, nat_le}
use Rattle.std.proofs.lemmas.Bool.Decides.{nat_tests}
use mathlib.Core.List.{append-nil}
use Rattle.histbook.specs.declared.look_entry.LookEntry.{LookEntry}
use Rattle.streamdefs.specs.Lists.{is_empty}
use Rattle.streamdefs.specs.Terms.{Terms}
use Rattle.streamdefs.specs.Reorder.{Charge, Placed}
use Rattle.streamdefs.specs.View.{View}
use Rattle.streamdefs.specs.Pending.{Pending, is_full, is_flush_due, is_pending, nothing_pending, pending_behind}
use Rattle.streamdefs.specs.Direction.{Deed, Direction, Kind, no_counts, direction_after, dues_in, gone_by, hole_after, is_hole_due, looks_left, last_pending, moment_of, next_by, pending_by, pieces_by, untouched, view_after}
use Rattle.streamdefs.specs.Direction.Deed.{Arrives, Ends, Falls_due}
use Rattle.streamdefs.specs.Direction.Next.{Rests as Wants_nothing}
use Rattle.flowdir.specs.Boundary.{IsStep, least_of}
use Rattle.flowdir.specs.Boundary.Phase.{Rests}
use Rattle.flowdir.specs.Kept.{Kept as DirKept}
use Rattle.flowdir.specs.Counting.{classes_of}
use Rattle.flowdir.specs.declared.counts.Counts.{Counts}
use Rattle.flowdir.specs.declared.step.Step.TheVariants.{Done}
use Rattle.convo.specs.Directions.{DirStands, IsBehind}
use Rattle.convo.specs.Settled.{AreSettled, IsSettled}

-- a cut leaves less than a chunk
behind_small : (t : Terms) (last : Pending) (looks : List LookEntry) → is_full t (pending_behind t last looks) ≡ false
behind_small t last looks = by (nat_lt 0 t.overlap) refl looks
  where
    granted : (b : Bool) (p : Pending) → p.bytes ≡ [] → is_full t (cond b p nothing_pending) ≡ false
    granted true p e = ap (λ bytes. not (is_empty bytes) && nat_le t.chunk (Rattle.std.specs.Prelude.length bytes)) e
    granted false p e = refl

    by : (b : Bool) → nat_lt 0 t.overlap ≡ b → (looks : List LookEntry) → is_full t (pending_behind t last looks) ≡ false
    by false e looks = rw e refl
    by true e [] = rw e refl
    by true e (look ∷ looks) = rw e (granted look.granted _ refl)

cut_small : (t : Terms) (b c : Bool) (p last : Pending) → is_full t p ≡ false → is_full t (cond (is_full t last || c) p last) ≡ false
cut_small t b c p last h = by (is_full t last) refl c
  where
    by : (f : Bool) → is_full t last ≡ f → (c : Bool) → is_full t (cond (f || c) p last) ≡ false
    by true e c = h
    by false e true = h
    by false e false = e

or_none : (b : Bool) → (b || false) ≡ b
or_none true = refl
or_none false = refl

pending_small : (t : Terms) (kind : Kind) (d : Direction) (deed : Deed) → is_full t (pending_by t kind d deed) ≡ false
pending_small t kind d (Arrives s looks) =
    let last = last_pending t kind d (Arrives s looks) in
    let p = pending_behind t last (looks_left kind d (Arrives s looks)) in
    subst (λ b. is_full t (cond b p last) ≡ false) (or_none (is_full t last)) (cut_small t true false p last (behind_small t last (looks_left kind d (Arrives s looks))))
pending_small t kind d (Falls_due m looks) =
    let last = last_pending t kind d (Falls_due m looks) in
    cut_small t true (is_flush_due t m last) (pending_behind t last (looks_left kind d (Falls_due m looks))) last (behind_small t last (looks_left kind d (Falls_due m looks)))
pending_small t kind d (Ends m) = refl

-- no hole stands where nothing is held
hole_bare : (moment : ℕ) (since : Option ℕ) (before after : View) → is_empty after.held ≡ true → hole_after moment since before after ≡ None
hole_bare moment since before after = by after.held
  where
    by : (held : List Placed) → is_empty held ≡ true → hole_after moment since before (record after { held = held }) ≡ None
    by [] e = refl
    by (h ∷ hs) e = absurd (cc)

pub settled_after : (t : Terms) (kind : Kind) (d : Direction) (deed : Deed) → IsSettled t (direction_after t kind d deed)
settled_after t kind d deed = record { small = pending_small t kind d deed; bare = hole_bare (moment_of deed) d.hole d.view (view_after t kind d deed) }

pub untouched_settled : (t : Terms) → AreSettled t (record { fore = untouched; back = untouched })
untouched_settled t = record { fore = record { small = refl; bare = λ e. refl }; back = record { small = refl; bare = λ e. refl } }

-- nothing falls due at a moment
not_now : (m n : ℕ) → m < n → (n == m) ≡ false
not_now m n h = grind (arith, nat_tests)

least_behind : (m x : ℕ) (xs : List ℕ) → IsBehind m (least_of (x ∷ xs)) → (m < x) × IsBehind m (least_of xs)
least_behind m x xs = by (least_of xs) refl
  where
    split : (y : ℕ) → m < cond (nat_le x y) x y → (m < x) × (m < y)
    split y h = (grind (arith, nat_tests), grind (arith, nat_tests))

    by : (r : Option ℕ) → least_of xs ≡ r → IsBehind m (least_of (x ∷ xs)) → (m < x) × IsBehind m r
    by None e h = (rw e at h, tt)
    by (Some y) e h = split y (rw e at h)

flush_off : (t : Terms) (m : ℕ) (p : Pending) (hole : List ℕ) → IsBehind m (least_of (cond (is_pending p && nat_lt 0 t.flush) ((p.since + t.flush) ∷ []) [])) → is_flush_due t m p ≡ false
flush_off t m p hole = by (is_pending p) (nat_lt 0 t.flush)
  where
    by : (a b : Bool) → IsBehind m (least_of (cond (a && b) ((p.since + t.flush) ∷ []) [])) → (a && b && (p.since + t.flush == m)) ≡ false
    by true true h = not_now m (p.since + t.flush) h
    by true false h = refl
    by false b h = refl

nothing_due : (t : Terms) (m : ℕ) (d : Direction) → IsBehind m (least_of (dues_in t d)) → (is_hole_due t m d.hole ≡ false) × (is_flush_due t m d.pending ≡ false)
nothing_due t m d h = by d.hole h
  where
    by : (hole : Option ℕ) → IsBehind m (least_of (dues_in t (record d { hole = hole }))) → (is_hole_due t m hole ≡ false) × (is_flush_due t m d.pending ≡ false)
    by None h = (refl, flush_off t m d.pending [] h)
    by (Some since) h =
        let both = least_behind m (since + t.hole) (dues_in t (record d { hole = None })) h in
        (not_now m (since + t.hole) both.0, flush_off t m d.pending [] both.1)

module _ (t : Terms) (kind : Kind) (d : Direction) (m : ℕ) (s : IsSettled t d) (hole_off : is_hole_due t m d.hole ≡ false) (flush_off : is_flush_due t m d.pending ≡ false) where
  nothing_gone : gone_by t kind d (Falls_due m []) ≡ []
  nothing_gone = rw hole_off refl

  last_same : last_pending t kind d (Falls_due m []) ≡ d.pending
  last_same = rw nothing_gone refl

  full_off : is_full t (last_pending t kind d (Falls_due m [])) ≡ false
  full_off = ap (is_full t) last_same ∙ s.small

  late_off : is_flush_due t m (last_pending t kind d (Falls_due m [])) ≡ false
  late_off = ap (is_flush_due t m) last_same ∙ flush_off

  held_same : (since : Option ℕ) (view : View) → (is_empty view.held ≡ true → since ≡ None) → hole_after m since view view ≡ since
  held_same since view bare = by view.held bare
    where
      by : (held : List Placed) → (is_empty held ≡ true → since ≡ None) → hole_after m since (record view { held = held }) (record view { held = held }) ≡ since
      by [] h = sym (h refl)
      by (x ∷ xs) h =
          let same : (view.front == view.front) ≡ true = grind (arith, nat_tests) in
          rw same refl

  view_same : view_after t kind d (Falls_due m []) ≡ d.view
  view_same = rw nothing_gone (ap (λ flow. record d.view { flow = flow }) (append-nil d.view.flow))

  pub rests_now : next_by t kind d (Falls_due m []) 0 ≡ Wants_nothing
  rests_now = rw (full_off, late_off, nothing_gone) refl

  pub pieces_now : pieces_by t kind d (Falls_due m []) ≡ []
  pieces_now = rw (full_off, late_off, nothing_gone) refl

  pending_same : pending_by t kind d (Falls_due m []) ≡ d.pending
  pending_same = rw (full_off, late_off) last_same

  pub same_now : direction_after t kind d (Falls_due m []) ≡ d
  same_now =
      ap (λ view. record { base = d.base; sent = d.sent; fin = d.fin; view = view; hole = hole_after m d.hole d.view view; pending = pending_by t kind d (Falls_due m []) }) view_same
      ∙ ap (λ hole. record { base = d.base; sent = d.sent; fin = d.fin; view = d.view; hole = hole; pending = pending_by t kind d (Falls_due m []) }) (held_same d.hole d.view s.bare)
      ∙ ap (λ pending. record { base = d.base; sent = d.sent; fin = d.fin; view = d.view; hole = d.hole; pending = pending }) pending_same

pub skip_step : {C : Type 0} (paid : C → Charge) (t : Terms) (kind : Kind) (d : Direction) (m : ℕ) (dir : DirKept C) (counts : Counts) → IsSettled t d → IsBehind m (least_of (dues_in t d)) → classes_of counts ≡ no_counts
    → DirStands paid dir d Rests [] → IsStep paid (DirStands paid dir) t kind d (Falls_due m []) 0 [] (Done counts)
skip_step paid t kind d m dir counts s b e st =
    let off = nothing_due t m d b in (
      rests_now t kind d m s off.0 off.1,
      e,
      subst (λ pieces. DirStands paid dir (direction_after t kind d (Falls_due m [])) Rests pieces) (sym (pieces_now t kind d m s off.0 off.1))
          (subst (λ d. DirStands paid dir d Rests []) (sym (same_now t kind d m s off.0 off.1)) st),
    )
