use Rattle.std.proofs.Common.{◌≡◌, ℕ, ◌+◌, ◌≤◌, Bool, true, false, cond, List, ◌++◌, length, take, drop, refl, ap, ◌∙◌, arith, nat_eq, nat_lt, length-append, length-drop}
use Rattle.std.specs.Prelude.{Option, Some, None, Result, Err, ◌%◌}
use Rattle.std.specs.Str.{bytes_eq}
use Rattle.std.proofs.lemmas.Bool.Decides.{nat_tests}
use Rattle.std.proofs.lemmas.List.{drop-append-le, take-append-le}
use Rattle.byteorder.specs.Numbers.{big_from-append, little_from-append}
use Rattle.pcapfile.specs.declared.head.FileHead.{FileHead}
use Rattle.pcapfile.specs.declared.head_fault.HeadFault.{HeadFault}
use Rattle.pcapfile.specs.declared.head_fault.HeadFault.TheVariants as fault
use Rattle.pcapfile.specs.Format.{major_at, link_at, major_version, link_numbers, big_micros, little_micros, big_nanos, little_nanos, newer_format}
use Rattle.pcapfile.specs.Head.{number, head_of, with_magic, with_link, link_of, magic_of, major_of, link_type_of}

number-append : (big : Bool) (n : ℕ) (xs ys : List ℕ) → n ≤ length xs → number big n (xs ++ ys) ≡ number big n xs
number-append true n xs ys h = big_from-append n xs ys h
number-append false n xs ys h = little_from-append n xs ys h

number_at-append : (big : Bool) (n at : ℕ) (xs ys : List ℕ) → at + n ≤ length xs → number big n (drop at (xs ++ ys)) ≡ number big n (drop at xs)
number_at-append big n at xs ys h =
    ap (number big n) (drop-append-le at xs ys (omega arith)) ∙ number-append big n (drop at xs) ys (omega (arith, length-drop at xs))

with_magic-append : (xs ys : List ℕ) → 24 ≤ length xs → (m : Option (Bool × Bool)) → with_magic (xs ++ ys) m ≡ with_magic xs m
with_magic-append xs ys h None = refl
with_magic-append xs ys h (Some m) =
    ap (λ (n : ℕ). cond (nat_eq n major_version) (with_link m.0 m.1 (link_of (link_type_of m.0 (xs ++ ys)))) (Err fault.Major)) (number_at-append m.0 2 major_at xs ys (omega arith))
    ∙ ap (λ (n : ℕ). cond (nat_eq (major_of m.0 xs) major_version) (with_link m.0 m.1 (link_of (n % link_numbers))) (Err fault.Major)) (number_at-append m.0 4 link_at xs ys (omega arith))

abbrev magic_in : List ℕ → Option (Bool × Bool)
magic_in four = cond (bytes_eq four big_micros) (Some (true, false)) (cond (bytes_eq four little_micros) (Some (false, false))
    (cond (bytes_eq four big_nanos) (Some (true, true)) (cond (bytes_eq four little_nanos) (Some (false, true)) None)))

abbrev headed : Bool → List ℕ → (Option (Bool × Bool) → Result FileHead HeadFault) → Result FileHead HeadFault
headed short four rest = cond short (Err fault.Short) (cond (bytes_eq four newer_format) (Err fault.PcapNg) (rest (magic_in four)))

-- the first 24 bytes decide
pub head_of-append : (xs ys : List ℕ) → 24 ≤ length xs → head_of (xs ++ ys) ≡ head_of xs
unfolding head_of
head_of-append xs ys h =
    ap (λ (b : Bool). headed b (take 4 (xs ++ ys)) (with_magic (xs ++ ys))) (let short : nat_lt (length (xs ++ ys)) 24 ≡ nat_lt (length xs) 24 = simp length-append (grind (arith, nat_tests)) in short)
    ∙ ap (λ (four : List ℕ). headed (nat_lt (length xs) 24) four (with_magic (xs ++ ys))) (take-append-le 4 xs ys (omega arith))
    ∙ ap (λ (r : Result FileHead HeadFault). cond (nat_lt (length xs) 24) (Err fault.Short) (cond (bytes_eq (take 4 xs) newer_format) (Err fault.PcapNg) r)) (with_magic-append xs ys h (magic_of xs))
