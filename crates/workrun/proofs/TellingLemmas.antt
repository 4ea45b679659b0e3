-- What stands where nothing was written: no front of a line is all of it, since a line has its end.
use Rattle.std.proofs.Common.{◌≡◌, ℕ, ◌<◌, List, [], ◌∷◌, ◌++◌, length, refl, ap, sym, append-nil, arith, length-append}
use Rattle.std.specs.Prelude.{Option, Some, None, Result, Ok, Err, OnErr, codes}
use Rattle.std.specs.Fmt.{decimal}
use Rattle.hex.specs.Hex.{encode_lower}
use Rattle.textout.specs.Texts.{spaced}
use Rattle.scap_world.specs.Contents.{GainsPart, extended}
use Rattle.evring.specs.declared.reason.Reason.{Reason}
use Rattle.evring.specs.declared.way.Way.{Way}
use Rattle.streamkey.specs.declared.end.End.{End}
use Rattle.streamkey.specs.declared.proto.Proto.{Proto}
use Rattle.streamdefs.specs.Handler.{data_line, end_line, end_text, new_line, proto_word, reason_word, way_mark}

none_behind : (old : Option (List ℕ)) (front : List ℕ) → GainsPart old old (front ++ codes "\n")
none_behind old front = (0, some, by old)
  where
    some : 0 < length (front ++ codes "\n")
    some = let h : length (codes "\n") ≡ 1 = refl in omega (arith, length-append front (codes "\n"), h)

    by : (o : Option (List ℕ)) → o ≡ extended o []
    by None = refl
    by (Some held) = ap Some (sym (append-nil held))

none_at : {T E : Type 0} (r : Result T E) (old : Option (List ℕ)) (front : List ℕ) → OnErr r (GainsPart old old (front ++ codes "\n"))
none_at (Ok x) old front = tt
none_at (Err e) old front = none_behind old front

pub none_new : {T E : Type 0} (r : Result T E) (old : Option (List ℕ)) (conv : ℕ) (proto : Proto) (source target : End) → OnErr r (GainsPart old old (new_line conv proto source target))
unfolding new_line
none_new r old conv proto source target = none_at r old (codes "new " ++ decimal conv ++ codes " " ++ proto_word proto ++ codes " " ++ end_text source ++ codes " " ++ end_text target)

pub none_data : {T E : Type 0} (r : Result T E) (old : Option (List ℕ)) (conv : ℕ) (way : Way) (start gap over kept : ℕ) (shown : List ℕ) → OnErr r (GainsPart old old (data_line conv way start gap over kept shown))
unfolding data_line
none_data r old conv way start gap over kept shown = none_at r old (codes "data " ++ decimal conv ++ codes " " ++ way_mark way ++ spaced (start ∷ gap ∷ over ∷ kept ∷ []) ++ codes " " ++ encode_lower shown)

pub none_over : {T E : Type 0} (r : Result T E) (old : Option (List ℕ)) (conv : ℕ) (reason : Reason) → OnErr r (GainsPart old old (end_line conv reason))
unfolding end_line
none_over r old conv reason = none_at r old (codes "end " ++ decimal conv ++ codes " " ++ reason_word reason)
