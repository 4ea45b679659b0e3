-- What one entry delivers, each byte at its position: a piece's bytes are neighbours, and what is pending ends at the front.
use Rattle.std.specs.Prelude.{◌≡◌, refl, ⊤, ℕ, suc, ◌-◌, ◌≤◌, ◌==◌, Bool, true, false, cond, List, [], ◌∷◌, ◌++◌, flat_map, map, Option}
use Rattle.std.proofs.Common.{sym, ◌∙◌, ap, subst, arith, append-nil}
use mathlib.Core.List.{append_assoc}
use Rattle.histbook.specs.declared.look_entry.LookEntry.{LookEntry}
use Rattle.streamdefs.specs.Terms.{Terms}
use Rattle.streamdefs.specs.Reorder.{Placed, stretches, beside}
use Rattle.streamdefs.specs.View.{front_after}
use Rattle.streamdefs.specs.Pending.{Copy, Pending, Piece, piece_of, behind_gaps, grown, begun, closed_by_gaps, pending_after, pending_behind, is_pending}
use Rattle.streamdefs.specs.Direction.{Kind, Direction, Deed, pieces_by, gone_by, pending_by, blocks_of, last_pending, is_cut, moment_of, looks_left, view_after}
use Rattle.streamdefs.specs.Direction.Deed.{Arrives, Falls_due, Ends}
use Rattle.streamdefs.specs.Ordered.{Rises, IsOrdered}
use Rattle.streamdefs.specs.Once.{numbered, places}
use Rattle.streamdefs.proofs.Stretches.{stretches_flat}
use Rattle.streamdefs.proofs.Delivered.{behind_bytes}

-- the fresh bytes of pieces with their positions
abbrev pub fresh_at : List Piece → List (ℕ × ℕ)
fresh_at pieces = flat_map (λ p. numbered p.start p.fresh) pieces

pub places_append : (ps qs : List Placed) → places (ps ++ qs) ≡ places ps ++ places qs
places_append [] qs = refl
places_append (p ∷ ps) qs = ap (λ xs. (p.at, p.byte) ∷ xs) (places_append ps qs)

pub fresh_at_append : (ps qs : List Piece) → fresh_at (ps ++ qs) ≡ fresh_at ps ++ fresh_at qs
fresh_at_append [] qs = refl
fresh_at_append (p ∷ ps) qs = ap (λ xs. numbered p.start p.fresh ++ xs) (fresh_at_append ps qs) ∙ sym (append_assoc (numbered p.start p.fresh) _ _)

-- neighbours from a position on
abbrev pub AreNext : ℕ → List Placed → Type 0
AreNext at [] = ⊤
AreNext at (p ∷ ps) = (p.at ≡ at) × AreNext (suc at) ps

-- neighbours that end before a front
abbrev pub EndsAt : ℕ → List Placed → Type 0
EndsAt front [] = ⊤
EndsAt front (p ∷ ps) = AreNext (suc p.at) ps × (front_after (suc p.at) ps ≡ front)

numbered_next : (at : ℕ) (ps : List Placed) → AreNext at ps → numbered at (map (λ p. p.byte) ps) ≡ places ps
numbered_next at [] n = refl
numbered_next at (p ∷ ps) n = ap (λ k. (k, p.byte) ∷ numbered (suc at) (map (λ q. q.byte) ps)) (sym n.0) ∙ ap (λ xs. (p.at, p.byte) ∷ xs) (numbered_next (suc at) ps n.1)

piece_by : (gap since : ℕ) (ps : List Placed) (copy : Option Copy) (front : ℕ) → EndsAt front ps
    → fresh_at (piece_of (record { gap = gap; since = since; bytes = ps; copy = copy })) ≡ places ps
piece_by gap since [] copy front e = refl
piece_by gap since (p ∷ ps) copy front e = append-nil _ ∙ ap (λ xs. (p.at, p.byte) ∷ xs) (numbered_next (suc p.at) ps e.0)

piece_is : (o : Pending) (front : ℕ) → EndsAt front o.bytes → fresh_at (piece_of o) ≡ places o.bytes
piece_is o front e = piece_by o.gap o.since o.bytes o.copy front e

next_joined : (at : ℕ) (ps : List Placed) (q : Placed) (qs : List Placed) → AreNext at ps → front_after at ps ≡ q.at → AreNext (suc q.at) qs → AreNext at (ps ++ q ∷ qs)
next_joined at [] q qs n e m = (sym e, subst (λ k. AreNext (suc k) qs) (sym e) m)
next_joined at (p ∷ ps) q qs n e m = (n.0, next_joined (suc at) ps q qs n.1 (ap (λ k. front_after (suc k) ps) (sym n.0) ∙ e) m)

front_joined : (at : ℕ) (ps qs : List Placed) → front_after at (ps ++ qs) ≡ front_after (front_after at ps) qs
front_joined at [] qs = refl
front_joined at (p ∷ ps) qs = front_joined (suc p.at) ps qs

ends_joined : (ps : List Placed) (q : Placed) (qs : List Placed) → EndsAt q.at ps → AreNext (suc q.at) qs → EndsAt (front_after (suc q.at) qs) (ps ++ q ∷ qs)
ends_joined [] q qs e n = (n, refl)
ends_joined (p ∷ ps) q qs e n = (
  next_joined (suc p.at) ps q qs e.0 e.1 n,
  front_joined (suc p.at) ps (q ∷ qs),
)

grown_by : (moment gap since : ℕ) (ps : List Placed) (copy : Option Copy) (q : Placed) (qs : List Placed) → EndsAt q.at ps → AreNext (suc q.at) qs
    → EndsAt (front_after (suc q.at) qs) (grown moment (record { gap = gap; since = since; bytes = ps; copy = copy }) (q ∷ qs)).bytes
    × ((grown moment (record { gap = gap; since = since; bytes = ps; copy = copy }) (q ∷ qs)).bytes ≡ ps ++ q ∷ qs)
grown_by moment gap since [] copy q qs e n = ((n, refl), refl)
grown_by moment gap since (p ∷ ps) copy q qs e n = (ends_joined (p ∷ ps) q qs e n, refl)

-- Stretches behind a front.

AreBehind : ℕ → List (List Placed) → Type 0
AreBehind front [] = ⊤
AreBehind front ([] ∷ rest) = AreBehind front rest
AreBehind front ((p ∷ ps) ∷ rest) = (front ≤ p.at) × AreNext (suc p.at) ps × AreBehind (front_after (suc p.at) ps) rest

front_of : ℕ → List (List Placed) → ℕ
front_of front [] = front
front_of front (ps ∷ rest) = front_of (front_after front ps) rest

flat : List (List Placed) → List Placed
flat pss = flat_map (λ ps. ps) pss

front_flat : (front : ℕ) (pss : List (List Placed)) → front_of front pss ≡ front_after front (flat pss)
unfolding front_of flat
front_flat front [] = refl
front_flat front (ps ∷ rest) = front_flat (front_after front ps) rest ∙ sym (front_joined front ps (flat rest))

beside_by : (front : ℕ) (p q : Placed) (qs : List Placed) (rest : List (List Placed)) (b : Bool) → (q.at == suc p.at) ≡ b → front ≤ p.at → AreBehind (suc p.at) ((q ∷ qs) ∷ rest)
    → AreBehind front (cond b ((p ∷ q ∷ qs) ∷ rest) ((p ∷ []) ∷ (q ∷ qs) ∷ rest))
unfolding AreBehind
beside_by front p q qs rest true e l h = (l, (same, subst (λ k. AreNext (suc k) qs) same h.1), h.2)
  where
    same : q.at ≡ suc p.at
    same = grind arith
beside_by front p q qs rest false e l h = (l, tt, h)

beside_behind : (front : ℕ) (p : Placed) (rest : List (List Placed)) → front ≤ p.at → AreBehind (suc p.at) rest → AreBehind front (beside p rest)
unfolding AreBehind
beside_behind front p [] l h = (l, tt, tt)
beside_behind front p ([] ∷ rest) l h = (l, tt, h)
beside_behind front p ((q ∷ qs) ∷ rest) l h = beside_by front p q qs rest (q.at == suc p.at) refl l h

stretches_behind : (front : ℕ) (ps : List Placed) → Rises front ps → AreBehind front (stretches ps)
unfolding AreBehind
stretches_behind front [] r = tt
stretches_behind front (p ∷ ps) r = beside_behind front p (stretches ps) r.0 (stretches_behind (suc p.at) ps r.1)

-- What the gaps close, with what stays pending, is what was pending with the stretches; and that ends at the front.

abbrev Closed : ℕ → ℕ → Pending → List (List Placed) → Type 0
Closed moment front o pss =
    (fresh_at (flat_map piece_of (closed_by_gaps moment o (behind_gaps front pss))) ++ places (pending_after moment o (behind_gaps front pss)).bytes ≡ places o.bytes ++ places (flat pss))
    × EndsAt (front_of front pss) (pending_after moment o (behind_gaps front pss)).bytes

closed_step : (moment front : ℕ) (o : Pending) (p : Placed) (ps : List Placed) (rest : List (List Placed)) (joins : Bool) → (p.at - front == 0) ≡ joins
    → EndsAt front o.bytes → front ≤ p.at → AreNext (suc p.at) ps
    → ((next : Pending) → EndsAt (front_after (suc p.at) ps) next.bytes → Closed moment (front_after (suc p.at) ps) next rest)
    → (fresh_at (flat_map piece_of (cond joins (closed_by_gaps moment (grown moment o (p ∷ ps)) (behind_gaps (front_after (suc p.at) ps) rest))
    (o ∷ closed_by_gaps moment (begun moment (record { gap = p.at - front; bytes = p ∷ ps })) (behind_gaps (front_after (suc p.at) ps) rest))))
    ++ places (cond joins (pending_after moment (grown moment o (p ∷ ps)) (behind_gaps (front_after (suc p.at) ps) rest))
    (pending_after moment (begun moment (record { gap = p.at - front; bytes = p ∷ ps })) (behind_gaps (front_after (suc p.at) ps) rest))).bytes
    ≡ places o.bytes ++ places ((p ∷ ps) ++ flat rest))
    × EndsAt (front_of (front_after (suc p.at) ps) rest) (cond joins (pending_after moment (grown moment o (p ∷ ps)) (behind_gaps (front_after (suc p.at) ps) rest))
    (pending_after moment (begun moment (record { gap = p.at - front; bytes = p ∷ ps })) (behind_gaps (front_after (suc p.at) ps) rest))).bytes
closed_step moment front o p ps rest true e ends l n on =
    let here : p.at ≡ front = grind arith in
    let g = grown_by moment o.gap o.since o.bytes o.copy p ps (subst (λ k. EndsAt k o.bytes) (sym here) ends) n in
    let h = on (grown moment o (p ∷ ps)) g.0 in (
      h.0 ∙ ap (λ qs. places qs ++ places (flat rest)) g.1 ∙ ap (λ xs. xs ++ places (flat rest)) (places_append o.bytes (p ∷ ps)) ∙ append_assoc (places o.bytes) (places (p ∷ ps)) (places (flat rest))
          ∙ ap (λ xs. places o.bytes ++ xs) (sym (places_append (p ∷ ps) (flat rest))),
      h.1,
    )
closed_step moment front o p ps rest false e ends l n on =
    let next : Pending = begun moment (record { gap = p.at - front; bytes = p ∷ ps }) in
    let h = on next (n, refl) in (
      ap (λ xs. xs ++ places (pending_after moment next (behind_gaps (front_after (suc p.at) ps) rest)).bytes) (fresh_at_append (piece_of o) (flat_map piece_of (closed_by_gaps moment next (behind_gaps (front_after (suc p.at) ps) rest))))
          ∙ append_assoc (fresh_at (piece_of o)) _ _
          ∙ ap (λ xs. xs ++ (fresh_at (flat_map piece_of (closed_by_gaps moment next (behind_gaps (front_after (suc p.at) ps) rest))) ++ places (pending_after moment next (behind_gaps (front_after (suc p.at) ps) rest)).bytes)) (piece_is o front ends)
          ∙ ap (λ xs. places o.bytes ++ xs) (h.0 ∙ sym (places_append (p ∷ ps) (flat rest))),
      h.1,
    )

closed : (moment front : ℕ) (o : Pending) (pss : List (List Placed)) → EndsAt front o.bytes → AreBehind front pss → Closed moment front o pss
unfolding AreBehind flat front_of
closed moment front o [] ends b = (sym (append-nil _), ends)
closed moment front o ([] ∷ rest) ends b = closed moment front o rest ends b
closed moment front o ((p ∷ ps) ∷ rest) ends b =
    closed_step moment front o p ps rest (p.at - front == 0) refl ends b.0 b.1 (λ next e. closed moment (front_after (suc p.at) ps) next rest e b.2)

-- One entry.

rises_behind : (low : ℕ) (ps qs : List Placed) → Rises low (ps ++ qs) → Rises (front_after low ps) qs
rises_behind low [] qs r = r
rises_behind low (p ∷ ps) qs r = rises_behind (suc p.at) ps qs r.1

cut_or_not : (terms : Terms) (last : Pending) (looks : List LookEntry) (front : ℕ) (b : Bool) → EndsAt front last.bytes
    → (fresh_at (cond b (piece_of last) []) ++ places (cond b (pending_behind terms last looks) last).bytes ≡ places last.bytes)
    × EndsAt front (cond b (pending_behind terms last looks) last).bytes
cut_or_not terms last looks front true ends = (
  ap (λ ps. fresh_at (piece_of last) ++ places ps) (behind_bytes terms last looks) ∙ append-nil _ ∙ piece_is last front ends,
  subst (EndsAt front) (sym (behind_bytes terms last looks)) tt,
)
cut_or_not terms last looks front false ends = (refl, ends)

all_cut : (gap since : ℕ) (ps : List Placed) (copy : Option Copy) (front : ℕ) → EndsAt front ps
    → fresh_at (cond (is_pending (record { gap = gap; since = since; bytes = ps; copy = copy })) (piece_of (record { gap = gap; since = since; bytes = ps; copy = copy })) []) ++ [] ≡ places ps
all_cut gap since [] copy front ends = refl
all_cut gap since (p ∷ ps) copy front ends = append-nil _ ∙ piece_by gap since (p ∷ ps) copy front ends

module _ (terms : Terms) (kind : Kind) (d : Direction) (deed : Deed) (before : IsOrdered d.view) (ordered : IsOrdered (view_after terms kind d deed)) (ends : EndsAt d.view.front d.pending.bytes) where
  gone_rises : Rises d.view.front (gone_by terms kind d deed)
  gone_rises = subst (λ n. Rises n (gone_by terms kind d deed)) before.front (rises_behind 0 d.view.flow (gone_by terms kind d deed) ordered.flow)

  by_blocks : Closed (moment_of deed) d.view.front d.pending (stretches (gone_by terms kind d deed))
  by_blocks = closed (moment_of deed) d.view.front d.pending (stretches (gone_by terms kind d deed)) ends (stretches_behind d.view.front (gone_by terms kind d deed) gone_rises)

  last_ends : EndsAt (view_after terms kind d deed).front (last_pending terms kind d deed).bytes
  unfolding flat
  last_ends =
      subst (λ n. EndsAt n (last_pending terms kind d deed).bytes)
      (front_flat d.view.front (stretches (gone_by terms kind d deed)) ∙ ap (front_after d.view.front) (stretches_flat (gone_by terms kind d deed))) by_blocks.1

  -- the pieces of an entry with what it leaves pending are what was pending with what it passed, position by position
  pub delivered_with : (fresh_at (cond (is_cut terms deed (last_pending terms kind d deed)) (piece_of (last_pending terms kind d deed)) []) ++ places (pending_by terms kind d deed).bytes
      ≡ places (last_pending terms kind d deed).bytes)
      → fresh_at (pieces_by terms kind d deed) ++ places (pending_by terms kind d deed).bytes ≡ places d.pending.bytes ++ places (gone_by terms kind d deed)
  unfolding flat
  delivered_with at_last =
      ap (λ xs. xs ++ places (pending_by terms kind d deed).bytes) (fresh_at_append (flat_map piece_of (blocks_of terms kind d deed)) _)
      ∙ append_assoc (fresh_at (flat_map piece_of (blocks_of terms kind d deed))) _ _
      ∙ ap (λ xs. fresh_at (flat_map piece_of (blocks_of terms kind d deed)) ++ xs) at_last
      ∙ by_blocks.0
      ∙ ap (λ ps. places d.pending.bytes ++ places ps) (stretches_flat (gone_by terms kind d deed))

pub delivered_at_places : (terms : Terms) (kind : Kind) (d : Direction) (deed : Deed) → IsOrdered d.view → IsOrdered (view_after terms kind d deed) → EndsAt d.view.front d.pending.bytes
    → (fresh_at (pieces_by terms kind d deed) ++ places (pending_by terms kind d deed).bytes ≡ places d.pending.bytes ++ places (gone_by terms kind d deed))
    × EndsAt (view_after terms kind d deed).front (pending_by terms kind d deed).bytes
delivered_at_places terms kind d (Arrives s looks) before ordered ends =
    let deed : Deed = Arrives s looks in
    let c = cut_or_not terms (last_pending terms kind d deed) (looks_left kind d deed) (view_after terms kind d deed).front (is_cut terms deed (last_pending terms kind d deed)) (last_ends terms kind d deed before ordered ends) in
    (delivered_with terms kind d deed before ordered ends c.0, c.1)
delivered_at_places terms kind d (Falls_due at looks) before ordered ends =
    let deed : Deed = Falls_due at looks in
    let c = cut_or_not terms (last_pending terms kind d deed) (looks_left kind d deed) (view_after terms kind d deed).front (is_cut terms deed (last_pending terms kind d deed)) (last_ends terms kind d deed before ordered ends) in
    (delivered_with terms kind d deed before ordered ends c.0, c.1)
delivered_at_places terms kind d (Ends at) before ordered ends =
    let p = last_pending terms kind d (Ends at) in
    (delivered_with terms kind d (Ends at) before ordered ends (all_cut p.gap p.since p.bytes p.copy (view_after terms kind d (Ends at)).front (last_ends terms kind d (Ends at) before ordered ends)), tt)
