-- Values and the definition of a conversation.
use Rattle.std.proofs.Common.{◌≡◌, ℕ, List, [], ◌∷◌, ◌++◌, map, flat_map, length, refl, ap, ◌∙◌, sym}
use Rattle.std.specs.Prelude.{Bool, true, false, cond}
use Rattle.std.proofs.lemmas.List.{map-append}
use Rattle.std.proofs.lemmas.List.Folds.{flat_map-map}
use Rattle.chunkpart.specs.ChunkParts.{ChunkParts, parts_of, shown_bytes}
use Rattle.evring.specs.declared.advice.Advice.{Advice}
use Rattle.evring.specs.declared.answer.Answer.{Answer}
use Rattle.evring.specs.declared.event.Event.{Event}
use Rattle.evring.specs.declared.event.Event.TheVariants.{New, Chunk, Ended}
use Rattle.evring.specs.declared.way.Way.{Way}
use Rattle.evring.specs.Charges.{charges_in, charges_of, charges_of_all}
use Rattle.streamkey.specs.declared.end.End.{End}
use Rattle.streamkey.specs.declared.key.Key.{Key}
use Rattle.streamkey.specs.declared.proto.Proto.{Proto}
use Rattle.streamkey.specs.declared.toward.Toward.{Toward}
use Rattle.streamkey.specs.Key.{key_of, source_of, target_of}
use Rattle.streamkey.specs.Packet.{IsWay}
use Rattle.streamdefs.specs.Packet.{Packet}
use Rattle.streamdefs.specs.Pending.{Piece}
use Rattle.streamdefs.specs.Reorder.{Charge}
use Rattle.streamdefs.specs.Convo.{Delivery, Event as EventMade, Kept as KeptPiece, Seen, kept_of, seen_of}
use Rattle.streamdefs.specs.Convo.Event.{New as NewMade, Chunk as ChunkMade, Ended as EndedMade}
use Rattle.streamdefs.specs.Convo.Seen.{Data, Over}
use Rattle.streamdefs.specs.Lawful.{Handler}
use Rattle.handler.specs.Seen.{conv_of, created_by, seen_in}
use Rattle.workrun.specs.AtWork.{IsRight, kept_for, owed_for, stated_of}
use Rattle.workrun.proofs.TurnLemmas.{charges_snoc}
use Rattle.workrun.specs.Meant.{IsEvent, MeansAnswer, MeansEvent, back_made, charges_made, kept_piece, owed_made, piece_for}

-- What is seen

pub conv_meant : {C : Type 0} (paid : C → Charge) (first : Packet) (made : EventMade) (e : Event C) → IsEvent paid first made e → conv_of e ≡ first.number
conv_meant paid first NewMade (New conv proto source target) m = m.0
conv_meant paid first NewMade (Chunk conv way key kept chunk) m = absurd m
conv_meant paid first NewMade (Ended conv reason) m = absurd m
conv_meant paid first (ChunkMade d) (New conv proto source target) m = absurd m
conv_meant paid first (ChunkMade d) (Chunk conv way key kept chunk) m = m.0
conv_meant paid first (ChunkMade d) (Ended conv reason) m = absurd m
conv_meant paid first (EndedMade r) (New conv proto source target) m = absurd m
conv_meant paid first (EndedMade r) (Chunk conv way key kept chunk) m = absurd m
conv_meant paid first (EndedMade r) (Ended conv reason) m = m.0

created_meant : (first : Packet) (proto : Proto) (source target : End) → IsWay first.key first.toward → proto ≡ first.key.proto → source ≡ source_of first.key first.toward → target ≡ target_of first.key first.toward
    → created_by (key_of proto source target) ≡ seen_of first NewMade
created_meant first proto source target w ep es et =
    ap (λ (p : Proto). created_by (key_of p source target)) ep ∙ ap (λ (x : End). created_by (key_of first.key.proto x target)) es
    ∙ ap (λ (x : End). created_by (key_of first.key.proto (source_of first.key first.toward) x)) et ∙ ap (λ (k : Key × Toward). created_by k) w

data_meant : {C : Type 0} (paid : C → Charge) (first : Packet) (d : Delivery) (conv : ℕ) (way : Way) (key : Key) (kept : List (ChunkParts C)) (chunk : ChunkParts C)
    → way ≡ d.way → key ≡ first.key → map (kept_piece paid) kept ≡ d.kept → piece_for paid chunk ≡ d.piece
    → seen_in (Chunk conv way key kept chunk) ≡ seen_of first (ChunkMade d)
data_meant {C} paid first d conv way key kept chunk ew ek el ep =
    let shown : flat_map shown_bytes kept ≡ flat_map (λ (k : KeptPiece). k.shown) d.kept = sym (flat_map-map (λ (k : KeptPiece). k.shown) (kept_piece paid) kept) ∙ ap (λ (l : List KeptPiece). flat_map (λ (k : KeptPiece). k.shown) l) el in
    ap (λ (w : Way). seen_in (Chunk conv w key kept chunk)) ew ∙ ap (λ (k : Key). seen_in (Chunk conv d.way k kept chunk)) ek
    ∙ ap (λ (l : List ℕ). Data first.key d.way chunk.start chunk.gap (length (piece_for paid chunk).copy) l (shown_bytes chunk)) shown
    ∙ ap (λ (p : Piece). Data first.key d.way p.start p.gap (length p.copy) (flat_map (λ (k : KeptPiece). k.shown) d.kept) (p.copy ++ p.fresh)) ep

pub seen_meant : {C : Type 0} (paid : C → Charge) (first : Packet) (made : EventMade) (e : Event C) → IsWay first.key first.toward → IsEvent paid first made e → seen_in e ≡ seen_of first made
seen_meant paid first NewMade (New conv proto source target) w m = created_meant first proto source target w m.1 m.2 m.3
seen_meant paid first NewMade (Chunk conv way key kept chunk) w m = absurd m
seen_meant paid first NewMade (Ended conv reason) w m = absurd m
seen_meant paid first (ChunkMade d) (New conv proto source target) w m = absurd m
seen_meant paid first (ChunkMade d) (Chunk conv way key kept chunk) w m = data_meant paid first d conv way key kept chunk m.1 m.2 m.3 m.4
seen_meant paid first (ChunkMade d) (Ended conv reason) w m = absurd m
seen_meant paid first (EndedMade r) (New conv proto source target) w m = absurd m
seen_meant paid first (EndedMade r) (Chunk conv way key kept chunk) w m = absurd m
seen_meant paid first (EndedMade r) (Ended conv reason) w m = ap Over m.1

-- Charges

parts_paid : {C : Type 0} (paid : C → Charge) (parts : List (List ℕ × C)) → map paid (map (λ part. part.1) parts) ≡ map (λ part. paid part.1) parts
parts_paid paid [] = refl
parts_paid paid (p ∷ ps) = ap (λ (l : List Charge). paid p.1 ∷ l) (parts_paid paid ps)

kept_paid : {C : Type 0} (paid : C → Charge) (kept : List (ChunkParts C)) → map paid (charges_of_all kept) ≡ flat_map (λ (k : KeptPiece). k.charges) (map (kept_piece paid) kept)
kept_paid paid [] = refl
kept_paid {C} paid (c ∷ cs) =
    map-append paid (charges_of c) (charges_of_all cs)
    ∙ ap (λ (l : List Charge). l ++ map paid (charges_of_all cs)) (parts_paid paid (parts_of c))
    ∙ ap (λ (l : List Charge). map (λ part. paid part.1) (parts_of c) ++ l) (kept_paid paid cs)

-- a chunk behind those that ride with it is a delivery that is kept
pub kept_meant : {C : Type 0} (paid : C → Charge) (d : Delivery) (kept : List (ChunkParts C)) (chunk : ChunkParts C) → map (kept_piece paid) kept ≡ d.kept → piece_for paid chunk ≡ d.piece → map (kept_piece paid) (kept ++ chunk ∷ []) ≡ kept_of d
kept_meant {C} paid d kept chunk el ep =
    map-append (kept_piece paid) kept (chunk ∷ [])
    ∙ ap (λ (l : List KeptPiece). l ++ kept_piece paid chunk ∷ []) el
    ∙ ap (λ (p : Piece). d.kept ++ record { shown = p.copy ++ p.fresh; charges = p.charges } ∷ []) ep

pub charges_meant : {C : Type 0} (paid : C → Charge) (first : Packet) (made : EventMade) (e : Event C) → IsEvent paid first made e → map paid (charges_in e) ≡ charges_made made
charges_meant paid first NewMade (New conv proto source target) m = refl
charges_meant paid first NewMade (Chunk conv way key kept chunk) m = absurd m
charges_meant paid first NewMade (Ended conv reason) m = absurd m
charges_meant paid first (ChunkMade d) (New conv proto source target) m = absurd m
charges_meant {C} paid first (ChunkMade d) (Chunk conv way key kept chunk) m =
    ap (map paid) (sym (charges_snoc kept chunk)) ∙ kept_paid paid (kept ++ chunk ∷ []) ∙ ap (λ (l : List KeptPiece). flat_map (λ (k : KeptPiece). k.charges) l) (kept_meant paid d kept chunk m.3 m.4)
charges_meant paid first (ChunkMade d) (Ended conv reason) m = absurd m
charges_meant paid first (EndedMade r) (New conv proto source target) m = absurd m
charges_meant paid first (EndedMade r) (Chunk conv way key kept chunk) m = absurd m
charges_meant paid first (EndedMade r) (Ended conv reason) m = refl

-- Answers

map_cond : {A B : Type 0} (f : A → B) (b : Bool) (xs : List A) (ys : List B) → map f xs ≡ ys → map f (cond b xs []) ≡ cond b ys []
map_cond f true xs ys e = e
map_cond f false xs ys e = refl

map_unless : {A B : Type 0} (f : A → B) (b : Bool) (xs : List A) (ys : List B) → map f xs ≡ ys → map f (cond b [] xs) ≡ cond b [] ys
map_unless f true xs ys e = refl
map_unless f false xs ys e = e

map_same : {A : Type 0} (f g : A → ℕ) (xs : List A) → ((x : A) → f x ≡ g x) → map f xs ≡ map g xs
map_same f g [] h = refl
map_same f g (x ∷ xs) h = ap (λ (n : ℕ). n ∷ map f xs) (h x) ∙ ap (λ (l : List ℕ). g x ∷ l) (map_same f g xs h)

map_both : {C : Type 0} (paid : C → Charge) (xs : List C) → map (λ c. (paid c).bytes) xs ≡ map (λ charge. charge.bytes) (map paid xs)
map_both paid [] = refl
map_both paid (x ∷ xs) = ap (λ (l : List ℕ). (paid x).bytes ∷ l) (map_both paid xs)

back_meant : {C : Type 0} (paid : C → Charge) (first : Packet) (made : EventMade) (e : Event C) (a : Advice) → IsEvent paid first made e → map (kept_piece paid) (kept_for a e) ≡ back_made a made
back_meant paid first NewMade (New conv proto source target) a m = refl
back_meant paid first NewMade (Chunk conv way key kept chunk) a m = absurd m
back_meant paid first NewMade (Ended conv reason) a m = absurd m
back_meant paid first (ChunkMade d) (New conv proto source target) a m = absurd m
back_meant paid first (ChunkMade d) (Chunk conv way key kept chunk) a m = map_cond (kept_piece paid) a.keep (kept ++ chunk ∷ []) (kept_of d) (kept_meant paid d kept chunk m.3 m.4)
back_meant paid first (ChunkMade d) (Ended conv reason) a m = absurd m
back_meant paid first (EndedMade r) (New conv proto source target) a m = absurd m
back_meant paid first (EndedMade r) (Chunk conv way key kept chunk) a m = absurd m
back_meant paid first (EndedMade r) (Ended conv reason) a m = refl

pub stated_meant : {C : Type 0} (paid : C → Charge) (first : Packet) (made : EventMade) (e : Event C) (handler : Handler) → MeansEvent paid first made e → stated_of handler e ≡ handler first.number (seen_of first made)
stated_meant paid first made e handler m =
    ap (λ (n : ℕ). handler n (seen_in e)) (conv_meant paid first made e m.event) ∙ ap (λ (s : Seen). handler first.number s) (seen_meant paid first made e m.way m.event)

-- an answer that is right for an event is the one that its worker owes
pub answer_meant : {C : Type 0} (paid : C → Charge) (amount : C → ℕ) (first : Packet) (made : EventMade) (e : Event C) (a : Answer C) (handler : Handler) → ((c : C) → amount c ≡ (paid c).bytes) → MeansEvent paid first made e → IsRight amount handler e a
    → MeansAnswer paid (handler first.number (seen_of first made)) made a
answer_meant {C} paid amount first made e a handler same m right =
    let advice : a.advice ≡ handler first.number (seen_of first made) = right.advice ∙ stated_meant paid first made e handler m in
    record {
      advice_is = advice;
      kept = ap (map (kept_piece paid)) right.kept ∙ back_meant paid first made e a.advice m.event ∙ ap (λ (x : Advice). back_made x made) advice;
      frees = right.frees ∙ map_same amount (λ (c : C). (paid c).bytes) (owed_for a.advice e) same ∙ map_both paid (owed_for a.advice e)
          ∙ ap (map (λ (charge : Charge). charge.bytes)) (map_unless paid a.advice.keep (charges_in e) (charges_made made) (charges_meant paid first made e m.event) ∙ ap (λ (x : Advice). owed_made x made) advice);
    }
