use Rattle.std.specs.Prelude.{ℕ, ◌+◌, ◌-◌, ◌/◌, ◌%◌, ◌&&◌, List, [], ◌∷◌, ◌++◌, length, Option, Some, None, nat_le, nat_eq, if◌then◌else◌, flat_map, replicate}
use Rattle.std.specs.Option.{option_map, option_and_then, option_or}
use Rattle.streamkey.specs.declared.addr.Addr.{Addr}
use Rattle.streamkey.specs.declared.addr.Addr.TheVariants.{V4, V6}
use Rattle.capfilter.specs.declared.address.Style.{Style}
use Rattle.capfilter.specs.declared.address.Style.TheVariants.{Dotted, Colons}
use Rattle.textout.specs.Numbers.{number}
use Rattle.capfilter.specs.Numbers.{numbers, parts}

-- Addresses as texts: docs/FORMATS.md, "Filters".

-- a decimal number of one to three digits, at most 255
abbrev pub octet : List ℕ → Option ℕ
octet = number 10 3 255

-- one to four hexadecimal digits of either case
abbrev pub group : List ℕ → Option ℕ
group = number 16 4 65535

-- how the numbers of an address are written
abbrev pub separator : Style → ℕ
separator Dotted = 46
separator Colons = 58

abbrev pub most_in : Style → ℕ
most_in Dotted = 255
most_in Colons = 65535

abbrev pub number_in : Style → List ℕ → Option ℕ
number_in Dotted = octet
number_in Colons = group

-- four octets
abbrev pub of_octets : List ℕ → Option Addr
of_octets ns = if nat_eq (length ns) 4 then Some (V4 ns) else None

-- version 4: four decimal numbers joined by dots
unfoldable pub version_4 : List ℕ → Option Addr
version_4 text = option_and_then of_octets (numbers 4 (number_in Dotted) (parts (separator Dotted) text))

-- what stands before and behind the first `::`
abbrev pub round_gap : List ℕ → Option (List ℕ × List ℕ)
round_gap [] = None
round_gap (x ∷ []) = None
round_gap (x ∷ y ∷ more) =
    if nat_eq x 58 && nat_eq y 58 then Some ([], more)
    else option_map (λ halves. (x ∷ halves.0, halves.1)) (round_gap (y ∷ more))

-- groups joined by colons, at most eight of them
abbrev pub groups : List ℕ → Option (List ℕ)
groups text = numbers 8 (number_in Colons) (parts (separator Colons) text)

-- the same, or none at all
abbrev pub some_groups : List ℕ → Option (List ℕ)
some_groups [] = Some []
some_groups (x ∷ xs) = groups (x ∷ xs)

-- the two bytes of a group
abbrev pub group_bytes : ℕ → List ℕ
group_bytes n = n / 256 ∷ n % 256 ∷ []

-- eight groups
abbrev pub of_groups : List ℕ → Option Addr
of_groups ns = if nat_eq (length ns) 8 then Some (V6 (flat_map group_bytes ns)) else None

-- fewer than eight groups before and behind a gap, which stands for zeros
abbrev pub of_halves : List ℕ → List ℕ → Option Addr
of_halves front back =
    if nat_le (length front + length back) 7
    then of_groups (front ++ replicate (8 - (length front + length back)) 0 ++ back) else None

abbrev pub of_texts : Option (List ℕ × List ℕ) → List ℕ → Option Addr
of_texts None text = option_and_then of_groups (groups text)
of_texts (Some halves) text =
    option_and_then (λ front. option_and_then (λ back. of_halves front back) (some_groups halves.1)) (some_groups halves.0)

-- version 6: eight groups joined by colons, or fewer with one `::` that stands for one zero group or more
unfoldable pub version_6 : List ℕ → Option Addr
version_6 text = of_texts (round_gap text) text

-- an address of either version
unfoldable pub address : List ℕ → Option Addr
address text = option_or (version_4 text) (version_6 text)
