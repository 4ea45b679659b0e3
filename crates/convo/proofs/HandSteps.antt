-- One event more is handed over.
use Rattle.convo.specs.Directions.{dir_kind}
use Rattle.std.proofs.Common.{◌≡◌, refl, sym, ◌∙◌, ap, subst, Bool, true, false, not, List, [], ◌∷◌, ◌++◌, map, Some, None}
use Rattle.std.specs.Prelude.{◌&&◌}
use Rattle.chunkpart.specs.ChunkParts.{ChunkParts}
use Rattle.evring.specs.declared.way.Way.TheVariants.{Fore, Back}
use Rattle.streamkey.specs.Key.{source_of, target_of}
use Rattle.streamdefs.specs.Lists.{is_empty}
use Rattle.streamdefs.specs.Terms.{Terms}
use Rattle.streamdefs.specs.Reorder.{Charge}
use Rattle.streamdefs.specs.Pending.{Piece}
use Rattle.streamdefs.specs.Direction.{Direction}
use Rattle.streamdefs.specs.Convo.{Event as EventMade, Delivery, carrying}
use Rattle.streamdefs.specs.Convo.Event.{New as NewMade, Chunk as ChunkMade}
use Rattle.flowdir.specs.Boundary.{piece_for}
use Rattle.convo.specs.Seen.{kept_for, IsEvent}
use Rattle.convo.specs.Halves.{Hands, HandsFirst, KeptIs}
use Rattle.convo.specs.Talk.{Talk}
use Rattle.convo.specs.Counted.{IsCounted, IsUncounted}
use Rattle.convo.specs.Standing.{HandsOver, IsResting, IsLeft, IsHanding, HasOrigin, IsPlain, news, ends, left_by}
use Rattle.convo.specs.declared.talk.Convo.{Convo}
use Rattle.convo.specs.declared.origin.Origin.{Origin}
use Rattle.convo.specs.declared.half.Half.{Half}
use Rattle.evring.specs.declared.event.Event.TheVariants.{New, Chunk}
use Rattle.convo.specs.declared.want.Want.TheVariants.{Emit}
use Rattle.convo.proofs.SumSteps.{sums_none, sums_taken}

and_false : (b : Bool) → (b && false) ≡ false
and_false true = refl
and_false false = refl

left_none : (pieces : List Piece) → left_by pieces [] ≡ []
left_none [] = refl
left_none (piece ∷ pieces) = refl

pub new_is : {C : Type 0} (paid : C → Charge) (t : Terms) (origin : Origin) (k : Talk) → HasOrigin t origin k.convo.first
    → IsEvent {C = C} paid k.convo.first NewMade (New origin.number origin.key.proto (source_of origin.key origin.toward) (target_of origin.key origin.toward))
new_is paid t origin k h = (sym h.number, ap (λ key. key.proto) (sym h.key), cc, cc)

pub hand_new : {C : Type 0} (paid : C → Charge) (t : Terms) (k : Talk) (x : Convo C) (events : List EventMade)
    → x.opens ≡ true → IsLeft paid t x k events
    → HandsOver paid k.convo.first (IsResting paid t (record x { opens = false; begun = true }) k) (IsLeft paid t (record x { opens = false; begun = true }) k) events
    (Emit (New x.origin.number x.origin.key.proto (source_of x.origin.key x.origin.toward) (target_of x.origin.key x.origin.toward)))
hand_new {C} paid t k x events opens l =
    let h : IsHanding paid t x k l.fore l.back events = l.handing in
    let more : List EventMade = map ChunkMade (carrying Fore (map (kept_for paid) x.fore.kept) l.fore ++ carrying Back (map (kept_for paid) x.back.kept) l.back) ++ ends x.over in
    let e : events ≡ NewMade ∷ more = h.events_are ∙ ap (λ b. news b ++ more) opens in
    subst (λ es. HandsOver paid k.convo.first (IsResting paid t (record x { opens = false; begun = true }) k) (IsLeft paid t (record x { opens = false; begun = true }) k) es
    (Emit (New x.origin.number x.origin.key.proto (source_of x.origin.key x.origin.toward) (target_of x.origin.key x.origin.toward)))) (sym e) (
      new_is paid t x.origin k h.plain.origin_is,
      record {
        fore = l.fore;
        back = l.back;
        handing = record {
          plain = h.plain;
          kinds = h.kinds;
          fore_hands = h.fore_hands;
          back_hands = h.back_hands;
          kept = h.kept;
          events_are = refl;
          begun = h.begun ∙ ap (λ es. not x.begun && is_empty es) e ∙ and_false (not x.begun);
          gone = h.gone;
          fore_sums = h.fore_sums;
          back_sums = h.back_sums;
          stage = h.stage;
        };
      },
    )

module _ {C : Type 0} (paid : C → Charge) (t : Terms) (k : Talk) where
  pub hand_fore : (x : Convo C) (half : Half C) (kept : List (ChunkParts C)) (chunk : ChunkParts C) (events : List EventMade)
      → x.opens ≡ false → IsLeft paid t x k events
      → ((d : Direction) (pieces : List Piece) → Hands paid x.fore d pieces → HandsFirst paid (Hands paid half d) pieces (Some (kept, chunk)))
      → KeptIs x.fore.kept half.kept (Some (kept, chunk)) → half.own ≡ x.fore.own → dir_kind half.dir ≡ dir_kind x.fore.dir → IsCounted x.fore half chunk.gap
      → HandsOver paid k.convo.first (IsResting paid t (record x { fore = half; begun = true }) k) (IsLeft paid t (record x { fore = half; begun = true }) k) events
      (Emit (Chunk x.origin.number Fore x.origin.key kept chunk))
  hand_fore x half kept chunk events opens l first kept_is own kind_is counted =
      let h : IsHanding paid t x k l.fore l.back events = l.handing in
      let f : HandsFirst paid (Hands paid half k.convo.directions.fore) l.fore (Some (kept, chunk)) = first k.convo.directions.fore l.fore h.fore_hands in
      let backs : List Delivery = carrying Back (map (kept_for paid) x.back.kept) l.back in
      let more : List EventMade = map ChunkMade (carrying Fore [] f.0 ++ backs) ++ ends x.over in
      let e : events ≡ ChunkMade (record { way = Fore; piece = piece_for paid chunk; kept = map (kept_for paid) x.fore.kept }) ∷ more =
      h.events_are ∙ ap (λ b. news b ++ (map ChunkMade (carrying Fore (map (kept_for paid) x.fore.kept) l.fore ++ backs) ++ ends x.over)) opens
      ∙ ap (λ pieces. map ChunkMade (carrying Fore (map (kept_for paid) x.fore.kept) pieces ++ backs) ++ ends x.over) f.1 in
      subst (λ es. HandsOver paid k.convo.first (IsResting paid t (record x { fore = half; begun = true }) k) (IsLeft paid t (record x { fore = half; begun = true }) k) es
      (Emit (Chunk x.origin.number Fore x.origin.key kept chunk))) (sym e) (
        (sym h.plain.origin_is.number, refl, sym h.plain.origin_is.key, ap (map (kept_for paid)) kept_is.0, refl),
        record {
          fore = f.0;
          back = l.back;
          handing = record {
            plain = subst (λ o. IsPlain t x.origin (record { fore = o; back = x.back.own }) x.advised x.clock x.ended x.owed k) (sym own) h.plain;
            kinds = record { fore_is = kind_is ∙ h.kinds.fore_is; back_is = h.kinds.back_is };
            fore_hands = f.2;
            back_hands = h.back_hands;
            kept = h.kept ∙ ap (λ ks. record { fore = ks; back = left_by l.back (map (kept_for paid) x.back.kept) })
                (ap (λ ps. left_by ps (map (kept_for paid) x.fore.kept)) f.1 ∙ sym (ap (λ ks. left_by f.0 (map (kept_for paid) ks)) kept_is.1 ∙ left_none f.0));
            events_are = sym (ap (λ b. news b ++ (map ChunkMade (carrying Fore (map (kept_for paid) half.kept) f.0 ++ backs) ++ ends x.over)) opens
                ∙ ap (λ ks. map ChunkMade (carrying Fore (map (kept_for paid) ks) f.0 ++ backs) ++ ends x.over) kept_is.1);
            begun = h.begun ∙ ap (λ es. not x.begun && is_empty es) e ∙ and_false (not x.begun);
            gone = h.gone;
            fore_sums = sums_taken x.fore half (piece_for paid chunk) l.fore f.0 counted f.1 h.fore_sums;
            back_sums = h.back_sums;
            stage = h.stage;
          };
        },
      )

  pub none_fore : (x : Convo C) (half : Half C) (events : List EventMade) → IsLeft paid t x k events
      → ((d : Direction) (pieces : List Piece) → Hands paid x.fore d pieces → HandsFirst paid (Hands paid half d) pieces None)
      → half.kept ≡ x.fore.kept → half.own ≡ x.fore.own → dir_kind half.dir ≡ dir_kind x.fore.dir → IsUncounted x.fore half
      → (back : List Piece) × IsHanding paid t (record x { fore = half }) k [] back events
  none_fore x half events l first kept_is own kind_is uncounted =
      let h : IsHanding paid t x k l.fore l.back events = l.handing in
      let f : HandsFirst paid (Hands paid half k.convo.directions.fore) l.fore None = first k.convo.directions.fore l.fore h.fore_hands in
      let backs : List Delivery = carrying Back (map (kept_for paid) x.back.kept) l.back in (
        l.back,
        record {
          plain = subst (λ o. IsPlain t x.origin (record { fore = o; back = x.back.own }) x.advised x.clock x.ended x.owed k) (sym own) h.plain;
          kinds = record { fore_is = kind_is ∙ h.kinds.fore_is; back_is = h.kinds.back_is };
          fore_hands = f.1;
          back_hands = h.back_hands;
          kept = h.kept ∙ ap (λ ks. record { fore = ks; back = left_by l.back (map (kept_for paid) x.back.kept) })
              (ap (λ ps. left_by ps (map (kept_for paid) x.fore.kept)) f.0 ∙ ap (map (kept_for paid)) (sym kept_is));
          events_are = h.events_are ∙ ap (λ ps. news x.opens ++ (map ChunkMade (carrying Fore (map (kept_for paid) x.fore.kept) ps ++ backs) ++ ends x.over)) f.0;
          begun = h.begun;
          gone = h.gone;
          fore_sums = sums_none x.fore half l.fore uncounted f.0 h.fore_sums;
          back_sums = h.back_sums;
          stage = h.stage;
        },
      )

  pub hand_back : (x : Convo C) (half : Half C) (kept : List (ChunkParts C)) (chunk : ChunkParts C) (events : List EventMade) (back : List Piece)
      → x.opens ≡ false → IsHanding paid t x k [] back events
      → ((d : Direction) (pieces : List Piece) → Hands paid x.back d pieces → HandsFirst paid (Hands paid half d) pieces (Some (kept, chunk)))
      → KeptIs x.back.kept half.kept (Some (kept, chunk)) → half.own ≡ x.back.own → dir_kind half.dir ≡ dir_kind x.back.dir → IsCounted x.back half chunk.gap
      → HandsOver paid k.convo.first (IsResting paid t (record x { back = half; begun = true }) k) (IsLeft paid t (record x { back = half; begun = true }) k) events
      (Emit (Chunk x.origin.number Back x.origin.key kept chunk))
  hand_back x half kept chunk events back opens h first kept_is own kind_is counted =
      let f : HandsFirst paid (Hands paid half k.convo.directions.back) back (Some (kept, chunk)) = first k.convo.directions.back back h.back_hands in
      let more : List EventMade = map ChunkMade (carrying Back [] f.0) ++ ends x.over in
      let e : events ≡ ChunkMade (record { way = Back; piece = piece_for paid chunk; kept = map (kept_for paid) x.back.kept }) ∷ more =
      h.events_are ∙ ap (λ b. news b ++ (map ChunkMade (carrying Back (map (kept_for paid) x.back.kept) back) ++ ends x.over)) opens
      ∙ ap (λ pieces. map ChunkMade (carrying Back (map (kept_for paid) x.back.kept) pieces) ++ ends x.over) f.1 in
      subst (λ es. HandsOver paid k.convo.first (IsResting paid t (record x { back = half; begun = true }) k) (IsLeft paid t (record x { back = half; begun = true }) k) es
      (Emit (Chunk x.origin.number Back x.origin.key kept chunk))) (sym e) (
        (sym h.plain.origin_is.number, refl, sym h.plain.origin_is.key, ap (map (kept_for paid)) kept_is.0, refl),
        record {
          fore = [];
          back = f.0;
          handing = record {
            plain = subst (λ o. IsPlain t x.origin (record { fore = x.fore.own; back = o }) x.advised x.clock x.ended x.owed k) (sym own) h.plain;
            kinds = record { fore_is = h.kinds.fore_is; back_is = kind_is ∙ h.kinds.back_is };
            fore_hands = h.fore_hands;
            back_hands = f.2;
            kept = h.kept ∙ ap (λ ks. record { fore = map (kept_for paid) x.fore.kept; back = ks })
                (ap (λ ps. left_by ps (map (kept_for paid) x.back.kept)) f.1 ∙ sym (ap (λ ks. left_by f.0 (map (kept_for paid) ks)) kept_is.1 ∙ left_none f.0));
            events_are = sym (ap (λ b. news b ++ (map ChunkMade (carrying Back (map (kept_for paid) half.kept) f.0) ++ ends x.over)) opens
                ∙ ap (λ ks. map ChunkMade (carrying Back (map (kept_for paid) ks) f.0) ++ ends x.over) kept_is.1);
            begun = h.begun ∙ ap (λ es. not x.begun && is_empty es) e ∙ and_false (not x.begun);
            gone = h.gone;
            fore_sums = h.fore_sums;
            back_sums = sums_taken x.back half (piece_for paid chunk) back f.0 counted f.1 h.back_sums;
            stage = h.stage;
          };
        },
      )
