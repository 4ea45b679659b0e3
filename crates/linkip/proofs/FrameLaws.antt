use Rattle.std.proofs.Common.{◌≡◌, ℕ, ◌+◌, nat_eq, nat_lt, true, false, List, [], ◌∷◌, ◌++◌, length, drop, Some, sym, ◌∙◌, ap, arith, length-append}
use Rattle.std.proofs.lemmas.Bool.Decides.{nat_tests}
use Rattle.std.proofs.lemmas.List.{drop_at, drop-drop}
use Rattle.byteorder.specs.Endian.{big_number}
use Rattle.linkip.specs.Fields.{short_at}
use Rattle.linkip.specs.Frames.{Typed, is_tag, behind_tag, behind_tags, by_ether_type, behind_header}
use Rattle.linkip.specs.Laws.{type_then, LeadsOn, Tag, IsTag, tagged, TagsArePassed, ThirdTagIsOther}

-- An EtherType and what follows it

type_number : (ether_type : ℕ) (bytes : List ℕ) → big_number 2 (type_then ether_type bytes) ≡ ether_type
type_number ether_type bytes = omega arith

typed-last : (n : ℕ) (header : List ℕ) (typed : Typed) → length header ≡ n
    → behind_header (n + 2) n (header ++ type_then typed.ether_type typed.bytes) ≡ by_ether_type (behind_tags typed)
unfolding behind_header
typed-last n header typed sized =
    let frame : List ℕ = header ++ type_then typed.ether_type typed.bytes in
    let long : nat_lt (length frame) (n + 2) ≡ false = rw length-append (grind (arith, nat_tests)) in
    let at : drop n frame ≡ type_then typed.ether_type typed.bytes = drop_at header (type_then typed.ether_type typed.bytes) n sized in
    let back : drop (n + 2) frame ≡ typed.bytes = sym (drop-drop 2 n frame) ∙ ap (λ (l : List ℕ). drop 2 l) at in
    let number : short_at frame n ≡ typed.ether_type = ap (λ (l : List ℕ). big_number 2 l) at ∙ type_number typed.ether_type typed.bytes in
    rw (long, number, back)

typed-first : (header : List ℕ) (typed : Typed) → length header ≡ 18
    → behind_header 20 0 (type_then typed.ether_type (header ++ typed.bytes)) ≡ by_ether_type (behind_tags typed)
unfolding behind_header
typed-first header typed sized =
    let long : nat_lt (length (type_then typed.ether_type (header ++ typed.bytes))) 20 ≡ false = grind (arith, nat_tests, length-append) in
    let back : drop 20 (type_then typed.ether_type (header ++ typed.bytes)) ≡ typed.bytes = drop_at header typed.bytes 18 sized in
    let number : short_at (type_then typed.ether_type (header ++ typed.bytes)) 0 ≡ typed.ether_type = type_number typed.ether_type (header ++ typed.bytes) in
    rw (long, number, back)

pub leads_on : (header : List ℕ) (typed : Typed) → LeadsOn header typed
leads_on header typed = record {
  ethernet = λ sized. typed-last 12 header typed sized;
  cooked = λ sized. typed-last 14 header typed sized;
  cooked2 = λ sized. typed-first header typed sized;
}

-- Tags

untagged : (typed : Typed) → is_tag typed.ether_type ≡ false → behind_tag typed ≡ Some typed
unfolding behind_tag
untagged typed h = rw h

passed : (tag : Tag) (inner : Typed) → IsTag tag
    → behind_tag (record { ether_type = tag.ether_type; bytes = tag.first ∷ tag.second ∷ type_then inner.ether_type inner.bytes }) ≡ Some inner
unfolding behind_tag
passed tag inner h =
    let long : nat_lt (length (tag.first ∷ tag.second ∷ type_then inner.ether_type inner.bytes)) 4 ≡ false = grind (arith, nat_tests) in
    rw (h, long, type_number inner.ether_type inner.bytes)

pub tags_passed : (tags : List Tag) (inner : Typed) → TagsArePassed tags inner
tags_passed [] inner few all plain = rw (untagged inner plain) (untagged inner plain)
tags_passed (a ∷ []) inner few all plain = rw (passed a inner (all 0 a (omega arith))) (untagged inner plain)
tags_passed (a ∷ b ∷ []) inner few all plain = rw (passed a (tagged (b ∷ []) inner) (all 0 a (omega arith))) (passed b inner (all 1 a (omega arith)))
tags_passed (a ∷ b ∷ c ∷ tags) inner few all plain = absurd (omega arith)

no_packet : (ether_type : ℕ) → is_tag ether_type ≡ true → (nat_eq ether_type 0x0800 ≡ false) × (nat_eq ether_type 0x86dd ≡ false)
no_packet ether_type h = grind (arith, nat_tests)

pub third_tag : (a b c : Tag) (inner : Typed) → ThirdTagIsOther a b c inner
unfolding by_ether_type
third_tag a b c inner ha hb hc =
    rw (passed a (tagged (b ∷ c ∷ []) inner) ha, passed b (tagged (c ∷ []) inner) hb, (no_packet c.ether_type hc).0, (no_packet c.ether_type hc).1)
