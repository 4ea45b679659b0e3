-- What is counted of a direction stands for its sums.
use Rattle.std.proofs.Common.{◌≡◌, refl, sym, ◌∙◌, ap, subst, ℕ, ◌+◌, Bool, true, false, cond, List, [], ◌∷◌, ◌++◌, length, length-append, map, arith}
use Rattle.std.specs.Prelude.{filter, nat_lt}
use Rattle.std.proofs.lemmas.Bool.Decides.{nat_tests}
use Rattle.std.proofs.lemmas.List.Elements.{filter-append}
use mathlib.Core.List.{append-nil, append_assoc}
use Rattle.evring.specs.declared.way.Way.{Way}
use Rattle.evring.specs.declared.way.Way.TheVariants.{Fore, Back}
use Rattle.histbook.specs.declared.look_entry.LookEntry.{LookEntry}
use Rattle.prio_budget.specs.declared.free.Free.{Free}
use Rattle.streamdefs.specs.Both.{of_way, same_way}
use Rattle.streamdefs.specs.Terms.{Terms}
use Rattle.streamdefs.specs.Packet.{Packet as Accepted}
use Rattle.streamdefs.specs.View.{Gap}
use Rattle.streamdefs.specs.Pending.{Piece}
use Rattle.streamdefs.specs.Direction.{Counts as Classes, Segment, counts_by, no_counts, pieces_by}
use Rattle.streamdefs.specs.Direction.Deed.{Arrives}
use Rattle.streamdefs.specs.Convo.{Convo as Made, Delivery, Kept as KeptPiece, carrying, kind_of, segment_of, way_of}
use Rattle.streamdefs.specs.Convo.Act.{Seg}
use Rattle.streamdefs.specs.Totals.{gaps_before, plus}
use Rattle.flowdir.specs.Counting.{classes_of}
use Rattle.flowdir.specs.declared.counts.Counts.{Counts}
use Rattle.convo.specs.Counted.{CountsUp, IsCounted, IsUncounted, gap_before, gaps_in, gaps_with}
use Rattle.convo.specs.Standing.{counts_with}
use Rattle.convo.specs.declared.half.Half.{Half}
use Rattle.convo.specs.Talk.{IsTotal, Sums, bytes_in_gaps, kept_count, kept_counts, no_sums, sums_after}

kept_plus : (n m : ℕ) → kept_count (kept_count n + m) ≡ kept_count (n + m)
kept_plus n m = omega arith

same_kept : (a b : Counts) → a.duplicate ≡ b.duplicate → a.late ≡ b.late → a.cut ≡ b.cut → a.taken ≡ b.taken → a.shed ≡ b.shed → a ≡ b
same_kept a b d l c t h =
    let all : ℕ → ℕ → ℕ → ℕ → ℕ → Counts = λ d l c t h. record { duplicate = d; late = l; cut = c; taken = t; shed = h } in
    ap (λ n. all n a.late a.cut a.taken a.shed) d ∙ ap (λ n. all b.duplicate n a.cut a.taken a.shed) l ∙ ap (λ n. all b.duplicate b.late n a.taken a.shed) c
    ∙ ap (λ n. all b.duplicate b.late b.cut n a.shed) t ∙ ap (λ n. all b.duplicate b.late b.cut b.taken n) h

pub same_counts : (a b : Classes) → a.duplicate ≡ b.duplicate → a.late ≡ b.late → a.cut ≡ b.cut → a.taken ≡ b.taken → a.shed ≡ b.shed → a ≡ b
same_counts a b d l c t h =
    let all : ℕ → ℕ → ℕ → ℕ → ℕ → Classes = λ d l c t h. record { duplicate = d; late = l; cut = c; taken = t; shed = h } in
    ap (λ n. all n a.late a.cut a.taken a.shed) d ∙ ap (λ n. all b.duplicate n a.cut a.taken a.shed) l ∙ ap (λ n. all b.duplicate b.late n a.taken a.shed) c
    ∙ ap (λ n. all b.duplicate b.late b.cut n a.shed) t ∙ ap (λ n. all b.duplicate b.late b.cut b.taken n) h

-- counts that are added
counted : (a b : Counts) (s : Classes) → a ≡ kept_counts s → counts_with a b ≡ kept_counts (plus s (classes_of b))
counted a b s e =
    ap (λ a. counts_with a b) e
    ∙ same_kept (counts_with (kept_counts s) b) (kept_counts (plus s (classes_of b))) (kept_plus s.duplicate b.duplicate) (kept_plus s.late b.late) (kept_plus s.cut b.cut) (kept_plus s.taken b.taken) (kept_plus s.shed b.shed)

add_none : (n : ℕ) → n + 0 ≡ n
add_none n = omega arith

pub plus_none : (s : Classes) → plus s no_counts ≡ s
plus_none s = same_counts (plus s no_counts) s (add_none s.duplicate) (add_none s.late) (add_none s.cut) (add_none s.taken) (add_none s.shed)

-- the gaps before the deliveries of a direction are those before its pieces
one_gap : (b : Bool) (d : Delivery) (ds : List Delivery) (ps : List Piece) → map (λ d. gap_before d.piece) ds ≡ map gap_before ps → map (λ d. gap_before d.piece) (cond b (d ∷ ds) ds) ≡ map gap_before (cond b (d.piece ∷ ps) ps)
one_gap true d ds ps h = ap (λ gs. gap_before d.piece ∷ gs) h
one_gap false d ds ps h = h

gaps_own_fore : (kept : List KeptPiece) (pieces : List Piece) → gaps_before (filter (λ d. same_way Fore d.way) (carrying Fore kept pieces)) ≡ gaps_in pieces
gaps_own_fore kept [] = refl
gaps_own_fore kept (p ∷ ps) =
    one_gap (nat_lt 0 p.gap) (record { way = Fore; piece = p; kept = kept }) (filter (λ d. nat_lt 0 d.piece.gap) (filter (λ d. same_way Fore d.way) (carrying Fore [] ps))) (filter (λ p. nat_lt 0 p.gap) ps) (gaps_own_fore [] ps)

gaps_own_back : (kept : List KeptPiece) (pieces : List Piece) → gaps_before (filter (λ d. same_way Back d.way) (carrying Back kept pieces)) ≡ gaps_in pieces
gaps_own_back kept [] = refl
gaps_own_back kept (p ∷ ps) =
    one_gap (nat_lt 0 p.gap) (record { way = Back; piece = p; kept = kept }) (filter (λ d. nat_lt 0 d.piece.gap) (filter (λ d. same_way Back d.way) (carrying Back [] ps))) (filter (λ p. nat_lt 0 p.gap) ps) (gaps_own_back [] ps)

none_of_back : (kept : List KeptPiece) (pieces : List Piece) → filter (λ d. same_way Fore d.way) (carrying Back kept pieces) ≡ []
none_of_back kept [] = refl
none_of_back kept (p ∷ ps) = none_of_back [] ps

none_of_fore : (kept : List KeptPiece) (pieces : List Piece) → filter (λ d. same_way Back d.way) (carrying Fore kept pieces) ≡ []
none_of_fore kept [] = refl
none_of_fore kept (p ∷ ps) = none_of_fore [] ps

-- of both directions
pub gaps_of_fore : (kf kb : List KeptPiece) (pf pb : List Piece) → gaps_before (filter (λ d. same_way Fore d.way) (carrying Fore kf pf ++ (carrying Back kb pb ++ []))) ≡ gaps_in pf
gaps_of_fore kf kb pf pb =
    ap (λ ds. gaps_before (filter (λ d. same_way Fore d.way) (carrying Fore kf pf ++ ds))) (append-nil (carrying Back kb pb))
    ∙ ap gaps_before (filter-append (λ d. same_way Fore d.way) (carrying Fore kf pf) (carrying Back kb pb)
    ∙ ap (λ ds. filter (λ d. same_way Fore d.way) (carrying Fore kf pf) ++ ds) (none_of_back kb pb) ∙ append-nil (filter (λ d. same_way Fore d.way) (carrying Fore kf pf)))
    ∙ gaps_own_fore kf pf

pub gaps_of_back : (kf kb : List KeptPiece) (pf pb : List Piece) → gaps_before (filter (λ d. same_way Back d.way) (carrying Fore kf pf ++ (carrying Back kb pb ++ []))) ≡ gaps_in pb
gaps_of_back kf kb pf pb =
    ap (λ ds. gaps_before (filter (λ d. same_way Back d.way) (carrying Fore kf pf ++ ds))) (append-nil (carrying Back kb pb))
    ∙ ap gaps_before (filter-append (λ d. same_way Back d.way) (carrying Fore kf pf) (carrying Back kb pb)
    ∙ ap (λ ds. ds ++ filter (λ d. same_way Back d.way) (carrying Back kb pb)) (none_of_fore kf pf))
    ∙ gaps_own_back kb pb

-- of one
pub gaps_only_fore : (kf : List KeptPiece) (pf : List Piece) → gaps_before (filter (λ d. same_way Fore d.way) (carrying Fore kf pf ++ [])) ≡ gaps_in pf
gaps_only_fore kf pf = gaps_of_fore kf [] pf []

pub gaps_only_back : (kb : List KeptPiece) (pb : List Piece) → gaps_before (filter (λ d. same_way Back d.way) (carrying Back kb pb ++ [])) ≡ gaps_in pb
gaps_only_back kb pb = gaps_of_back [] kb [] pb

pub no_gaps_fore : (kb : List KeptPiece) (pb : List Piece) → gaps_before (filter (λ d. same_way Fore d.way) (carrying Back kb pb ++ [])) ≡ []
no_gaps_fore kb pb = gaps_of_fore [] kb [] pb

pub no_gaps_back : (kf : List KeptPiece) (pf : List Piece) → gaps_before (filter (λ d. same_way Back d.way) (carrying Fore kf pf ++ [])) ≡ []
no_gaps_back kf pf = gaps_of_back kf [] pf []

-- the sums behind an entry, with these counts and the gaps before these pieces
pub counts_more : {a : Counts} {gaps gap_bytes : ℕ} {s : Sums} {pieces : List Piece} {c : Classes} {gs : List Gap} (b : Counts) → CountsUp a gaps gap_bytes s [] → c ≡ classes_of b → gs ≡ gaps_in pieces
    → CountsUp (counts_with a b) gaps gap_bytes (record { counts = plus s.counts c; gaps = s.gaps ++ gs }) pieces
counts_more {a} {gaps} {gap_bytes} {s} {pieces} {c} {gs} b u e h = record {
  told = u.told;
  counts_are = counted a b s.counts u.counts_are ∙ ap (λ c. kept_counts (plus s.counts c)) (sym e);
  all = ap (λ l. l ++ gs) (u.all ∙ append-nil u.told) ∙ ap (λ gs. u.told ++ gs) h;
  gaps_are = u.gaps_are;
  bytes_are = u.bytes_are;
}

pub counts_on : {a : Counts} {gaps gap_bytes : ℕ} {s : Sums} {pieces : List Piece} {gs : List Gap} → CountsUp a gaps gap_bytes s [] → gs ≡ gaps_in pieces
    → CountsUp a gaps gap_bytes (record { counts = plus s.counts no_counts; gaps = s.gaps ++ gs }) pieces
counts_on {a} {gaps} {gap_bytes} {s} {pieces} {gs} u h = record {
  told = u.told;
  counts_are = u.counts_are ∙ ap kept_counts (sym (plus_none s.counts));
  all = ap (λ l. l ++ gs) (u.all ∙ append-nil u.told) ∙ ap (λ gs. u.told ++ gs) h;
  gaps_are = u.gaps_are;
  bytes_are = u.bytes_are;
}

-- sums that are equal
pub sums_at : {a : Counts} {gaps gap_bytes : ℕ} {s s2 : Sums} {pieces : List Piece} → s2 ≡ s → CountsUp a gaps gap_bytes s pieces → CountsUp a gaps gap_bytes s2 pieces
sums_at {a} {gaps} {gap_bytes} {s} {s2} {pieces} e u = subst (λ s. CountsUp a gaps gap_bytes s pieces) (sym e) u

-- one piece is handed over
bytes_behind : (gs : List Gap) (g : Gap) → bytes_in_gaps (gs ++ g ∷ []) ≡ bytes_in_gaps gs + g.len
bytes_behind [] g = omega arith
bytes_behind (h ∷ hs) g = let n = bytes_behind hs g in omega arith

no_gap : (n : ℕ) → nat_lt 0 n ≡ false → n ≡ 0
no_gap n e = grind (arith, nat_tests)

told_one : (p : Piece) (b : Bool) → nat_lt 0 p.gap ≡ b → (a : Counts) (gaps gap_bytes : ℕ) (s : Sums) (rest : List Piece) → CountsUp a gaps gap_bytes s (p ∷ rest)
    → CountsUp a (cond b (kept_count (gaps + 1)) gaps) (kept_count (gap_bytes + p.gap)) s rest
told_one p true e a gaps gap_bytes s rest u =
    let g : Gap = gap_before p in
    let n : length (u.told ++ g ∷ []) ≡ length u.told + 1 = length-append u.told (g ∷ []) in
    let m = bytes_behind u.told g in
    let h = u.gaps_are in
    let i = u.bytes_are in
    record {
      told = u.told ++ g ∷ [];
      counts_are = u.counts_are;
      all = u.all ∙ ap (λ b. u.told ++ map gap_before (cond b (p ∷ filter (λ p. nat_lt 0 p.gap) rest) (filter (λ p. nat_lt 0 p.gap) rest))) e ∙ sym (append_assoc u.told (g ∷ []) (gaps_in rest));
      gaps_are = omega arith;
      bytes_are = omega arith;
    }
told_one p false e a gaps gap_bytes s rest u =
    let z = no_gap p.gap e in
    let i = u.bytes_are in
    record {
      told = u.told;
      counts_are = u.counts_are;
      all = u.all ∙ ap (λ b. u.told ++ map gap_before (cond b (p ∷ filter (λ p. nat_lt 0 p.gap) rest) (filter (λ p. nat_lt 0 p.gap) rest))) e;
      gaps_are = u.gaps_are;
      bytes_are = omega arith;
    }

tells_one : (a a2 : Counts) (gaps gaps2 gap_bytes gap_bytes2 : ℕ) (s : Sums) (pieces rest : List Piece) (p : Piece) → CountsUp a gaps gap_bytes s pieces → pieces ≡ p ∷ rest
    → a2 ≡ a → gaps2 ≡ gaps_with p.gap gaps → gap_bytes2 ≡ kept_count (gap_bytes + p.gap) → CountsUp a2 gaps2 gap_bytes2 s rest
tells_one a a2 gaps gaps2 gap_bytes gap_bytes2 s pieces rest p u e c g b =
    let before : CountsUp a gaps gap_bytes s (p ∷ rest) =
    record { told = u.told; counts_are = u.counts_are; all = u.all ∙ ap (λ ps. u.told ++ gaps_in ps) e; gaps_are = u.gaps_are; bytes_are = u.bytes_are } in
    let after = told_one p (nat_lt 0 p.gap) refl a gaps gap_bytes s rest before in
    record { told = after.told; counts_are = c ∙ after.counts_are; all = after.all; gaps_are = g ∙ after.gaps_are; bytes_are = b ∙ after.bytes_are }

module _ {C : Type 0} where
  pub sums_taken : {s : Sums} (h h2 : Half C) (p : Piece) (pieces rest : List Piece) → IsCounted h h2 p.gap → pieces ≡ p ∷ rest → CountsUp h.counts h.gaps h.gap_bytes s pieces → CountsUp h2.counts h2.gaps h2.gap_bytes s rest
  sums_taken {s} h h2 p pieces rest c e u = tells_one h.counts h2.counts h.gaps h2.gaps h.gap_bytes h2.gap_bytes s pieces rest p u e c.counts_same c.gaps_are c.bytes_are

  -- what isn't counted stays
  pub sums_kept : {s : Sums} {pieces : List Piece} (h h2 : Half C) → IsUncounted h h2 → CountsUp h.counts h.gaps h.gap_bytes s pieces → CountsUp h2.counts h2.gaps h2.gap_bytes s pieces
  sums_kept h h2 c u = record { told = u.told; counts_are = c.counts_same ∙ u.counts_are; all = u.all; gaps_are = c.gaps_same ∙ u.gaps_are; bytes_are = c.bytes_same ∙ u.bytes_are }

  pub sums_none : {s : Sums} (h h2 : Half C) (pieces : List Piece) → IsUncounted h h2 → pieces ≡ [] → CountsUp h.counts h.gaps h.gap_bytes s pieces → CountsUp h2.counts h2.gaps h2.gap_bytes s []
  sums_none h h2 pieces c e u =
      record { told = u.told; counts_are = c.counts_same ∙ u.counts_are; all = u.all ∙ ap (λ ps. u.told ++ gaps_in ps) e; gaps_are = c.gaps_same ∙ u.gaps_are; bytes_are = c.bytes_same ∙ u.bytes_are }

  -- before any entry
  pub sums_new : (h : Half C) → (h.counts ≡ kept_counts no_counts) × (h.gaps ≡ 0) × (h.gap_bytes ≡ 0) → CountsUp h.counts h.gaps h.gap_bytes no_sums []
  sums_new h e = record { told = []; counts_are = e.0; all = refl; gaps_are = e.1; bytes_are = e.2 }

-- the totals
pub total_is : {counts : Counts} {gaps gap_bytes : ℕ} {s : Sums} (first : Accepted) (way : Way) (conv : ℕ) → first.number ≡ conv → CountsUp counts gaps gap_bytes s []
    → IsTotal first way s (record { conv = conv; way = way; counts = counts; gaps = gaps; gap_bytes = gap_bytes })
total_is {counts} {gaps} {gap_bytes} {s} first way conv n u =
    let all : u.told ≡ s.gaps = sym (u.all ∙ append-nil u.told) in
    record { conv = sym n; way_is = refl; counts = u.counts_are; gaps = u.gaps_are ∙ ap (λ gs. kept_count (length gs)) all; gap_bytes = u.bytes_are ∙ ap (λ gs. kept_count (bytes_in_gaps gs)) all }

-- what is counted of a direction at a segment
abbrev pub counts_seg : Terms → Made → Way → Segment → List LookEntry → Way → Classes
counts_seg t c w s looks v = here w v
  where
    here : Way → Way → Classes
    here Fore Fore = counts_by (kind_of t c) c.directions.fore (Arrives s looks)
    here Back Back = counts_by (kind_of t c) c.directions.back (Arrives s looks)
    here Fore Back = no_counts
    here Back Fore = no_counts

abbrev pub sums_seg : Terms → Made → Way → Segment → List LookEntry → Way → Sums → Sums
sums_seg t c w s looks v sums = record {
  counts = plus sums.counts (counts_seg t c w s looks v);
  gaps = sums.gaps ++ gaps_before (filter (λ d. same_way v d.way) (carrying w (of_way w c.kept) (pieces_by t (kind_of t c) (of_way w c.directions) (Arrives s looks)) ++ []));
}

pub sums_seg_is : (t : Terms) (c : Made) (p : Accepted) (now : ℕ) (looks : List LookEntry) (frees : List Free) (v : Way) (s : Sums)
    → sums_after t c (Seg p now looks frees) v s ≡ sums_seg t c (way_of c p) (segment_of t c p now) looks v s
sums_seg_is t c p now looks frees v s = refl
