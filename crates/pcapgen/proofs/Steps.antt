use Rattle.std.proofs.Common.{◌≡◌, ◌≢◌, ℕ, suc, ◌+◌, ◌*◌, ◌/◌, ◌%◌, ◌<◌, ◌≤◌, ◌^◌, Bool, true, ◌&&◌, if◌then◌else◌, List, ◌++◌, length, get_or, nat_eq, slice_set, inl, inr, ap, sym, subst, lit<, Result, Ok, Err, OnOk, ◌∙◌, arith, get_or-set_other}
use Rattle.std.proofs.lemmas.Bool.Decides.{eqb_tells}
use Rattle.std.proofs.lemmas.Grind.{get_or-set_at}
use Rattle.std.proofs.lemmas.Nat.{mod_below}
use Rattle.pcapfile.specs.Written.{written_frame}
use Rattle.pcapgen.specs.declared.draws.Drawn.{Drawn}
use Rattle.pcapgen.specs.Draws.{below, drawn_at, drawn_from, next, state_before}
use Rattle.pcapgen.specs.Flows.{begin_of, is_of, reached, sent_before}
use Rattle.pcapgen.specs.Frame.{frame}
use Rattle.pcapgen.specs.Kept.{Kept, StandsFor, IsBounded, behind, next_record, place}
use Rattle.pcapgen.specs.Made.{made_record}

-- A record more of what a generator keeps.

-- a direction is one place in the table, and no other direction is
sent_behind : (d : Drawn) (xs : List ℕ) (flow way s : ℕ) → place d < length xs → d.way < 2 → way < 2 → get_or xs (2 * flow + way) 0 ≡ s
    → get_or (slice_set xs (place d) (reached d (get_or xs (place d) 0))) (2 * flow + way) 0 ≡ (if is_of d flow way then reached d s else s)
sent_behind d xs flow way s there dw w kept =
    let value : ℕ = reached d (get_or xs (place d) 0) in
    let choice : Bool → Bool → ℕ = λ a b. if a && b then reached d s else s in
    let apart : 2 * flow + way ≢ place d → get_or (slice_set xs (place d) value) (2 * flow + way) 0 ≡ s =
    λ ne. get_or-set_other xs (place d) (2 * flow + way) value 0 ne ∙ kept in
    elim (eqb_tells d.flow flow) [
      | inl f ↦ elim (eqb_tells d.way way) [
        | inl g ↦
            let same : 2 * flow + way ≡ place d = omega (arith, f.1, g.1) in
            get_or-set_at xs (place d) (2 * flow + way) value 0 same there
            ∙ ap (λ at. reached d (get_or xs at 0)) (sym same)
            ∙ ap (reached d) kept
            ∙ sym (ap (λ a. choice a (nat_eq d.way way)) f.0 ∙ ap (choice true) g.0)
        | inr g ↦
            let other : 2 * flow + way ≢ place d = λ e. g.1 (omega (arith, e, f.1)) in
            apart other ∙ sym (ap (λ a. choice a (nat_eq d.way way)) f.0 ∙ ap (choice true) g.0)
      ]
      | inr f ↦
          let other : 2 * flow + way ≢ place d = λ e. f.1 (omega (arith, e, dw, w)) in
          apart other ∙ sym (ap (λ a. choice a (nat_eq d.way way)) f.0)
    ]

-- the next record, and what stands behind it
made_next : (seed i : ℕ) (kept : Kept) → length kept.sent ≡ 128 → StandsFor seed i kept → (next_record kept ≡ made_record seed i) × StandsFor seed (suc i) (behind kept)
unfolding below
made_next seed i kept full s =
    let d : Drawn = drawn_from kept.state in
    let f : d.flow < 64 = mod_below (next kept.state / 2 ^ 32) 64 (lit< tt) in
    let w : d.way < 2 = mod_below (next (next kept.state) / 2 ^ 32) 2 (lit< tt) in
    let there : place d < length kept.sent = omega (arith, full, f, w) in
    let text : ℕ → ℕ → ℕ → List ℕ = λ state number sent. written_frame (number / 1000) (number % 1000 * 1000) (frame (drawn_from state) (begin_of (drawn_from state) sent)) in
    let sent : get_or kept.sent (place d) 0 ≡ sent_before seed (drawn_at seed i).flow (drawn_at seed i).way i =
    s.sent d.flow d.way f w ∙ ap (λ x. sent_before seed (drawn_from x).flow (drawn_from x).way i) s.state in (
      ap (λ x. text x kept.number (get_or kept.sent (place d) 0)) s.state
          ∙ ap (λ n. text (state_before seed i) n (get_or kept.sent (place d) 0)) s.number
          ∙ ap (text (state_before seed i) i) sent,
      record {
        state = ap (λ x. next (next (next (next x)))) s.state;
        number = omega (arith, s.number);
        sent = λ flow way g h.
            sent_behind d kept.sent flow way (sent_before seed flow way i) there w h (s.sent flow way g h)
            ∙ ap (λ x. if is_of (drawn_from x) flow way then reached (drawn_from x) (sent_before seed flow way i) else sent_before seed flow way i) s.state;
      },
    )

-- the same of a call that appends the record
pub put_next : {T E : Type 0} (result : Result T E) (kept after : Kept) (out grown : List ℕ) → length kept.sent ≡ 128
    → OnOk result (grown ≡ out ++ next_record kept) → OnOk result (after ≡ behind kept)
    → OnOk result ((seed i : ℕ) → StandsFor seed i kept → (grown ≡ out ++ made_record seed i) × StandsFor seed (suc i) after)
put_next (Ok x) kept after out grown full p q = λ seed i s.
    let both : (next_record kept ≡ made_record seed i) × StandsFor seed (suc i) (behind kept) = made_next seed i kept full s in
    (p ∙ ap (λ t. out ++ t) both.0, subst (StandsFor seed (suc i)) (sym q) both.1)
put_next (Err e) kept after out grown full p q = tt

-- the bound goes on
pub bounded_next : (xs : List ℕ) (n p v : ℕ) → p < length xs → v ≤ 400 * (n + 1) → IsBounded n xs → IsBounded (n + 1) (slice_set xs p v)
bounded_next xs n p v there fits bounded = λ at h.
    elim (eqb_tells at p) [
      | inl e ↦ let same : get_or (slice_set xs p v) at 0 ≡ v = get_or-set_at xs p at v 0 e.1 there in omega (arith, same, fits)
      | inr e ↦ let same : get_or (slice_set xs p v) at 0 ≡ get_or xs at 0 = get_or-set_other xs p at v 0 e.1 in
          let before : get_or xs at 0 ≤ 400 * n = bounded at h in omega (arith, same, before)
    ]
