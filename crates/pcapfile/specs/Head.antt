use Rattle.std.specs.Prelude.{ℕ, ◌%◌, nat_eq, nat_lt, List, length, take, drop, Bool, true, false, if◌then◌else◌, Option, Some, None, Result, Ok, Err}
use Rattle.std.specs.Str.{bytes_eq}
use Rattle.byteorder.specs.Endian.{big_number, little_number}
use Rattle.pcapfile.specs.declared.link.Link.{Link}
use Rattle.pcapfile.specs.declared.link.Link.TheVariants.{Ethernet, Raw, Cooked, Cooked2}
use Rattle.pcapfile.specs.declared.head.FileHead.{FileHead}
use Rattle.pcapfile.specs.declared.head_fault.HeadFault.{HeadFault}
use Rattle.pcapfile.specs.declared.head_fault.HeadFault.TheVariants as fault
use Rattle.pcapfile.specs.Format.{head_len, major_at, link_at, major_version, link_numbers, big_micros, little_micros, big_nanos, little_nanos, newer_format}

-- The file header of pcap 2.4: the magic in the first four bytes, the major version in two bytes at 4, the link type
-- in four bytes at 20. The minor version and the snap length are not looked at.

-- the number in the first n bytes, in the file's order
abbrev pub number : Bool → ℕ → List ℕ → ℕ
number big n bytes = if big then big_number n bytes else little_number n bytes

-- what the first four bytes say: whether numbers are big-endian, and whether fractions are nanoseconds
abbrev pub magic_of : List ℕ → Option (Bool × Bool)
magic_of bytes =
    if bytes_eq (take 4 bytes) big_micros then Some (true, false) else
    if bytes_eq (take 4 bytes) little_micros then Some (false, false) else
    if bytes_eq (take 4 bytes) big_nanos then Some (true, true) else
    if bytes_eq (take 4 bytes) little_nanos then Some (false, true) else None

-- the link of a link type
abbrev pub link_of : ℕ → Option Link
link_of n =
    if nat_eq n 1 then Some Ethernet else
    if nat_eq n 101 then Some Raw else
    if nat_eq n 113 then Some Cooked else
    if nat_eq n 276 then Some Cooked2 else None

-- the major version, and the low 16 bits of the link type
abbrev pub major_of : Bool → List ℕ → ℕ
major_of big bytes = number big 2 (drop major_at bytes)

abbrev pub link_type_of : Bool → List ℕ → ℕ
link_type_of big bytes = number big 4 (drop link_at bytes) % link_numbers

-- the head with a link, or the last fault
abbrev pub with_link : Bool → Bool → Option Link → Result FileHead HeadFault
with_link big nanos None = Err fault.Link
with_link big nanos (Some link) = Ok (record { big = big; nanos = nanos; link = link })

-- the head with a magic, or a fault from the third on
abbrev pub with_magic : List ℕ → Option (Bool × Bool) → Result FileHead HeadFault
with_magic bytes None = Err fault.Magic
with_magic bytes (Some m) =
    if nat_eq (major_of m.0 bytes) major_version
    then with_link m.0 m.1 (link_of (link_type_of m.0 bytes))
    else Err fault.Major

-- what the file header of these bytes says, or the first of its faults: Short, PcapNg, Magic, Major, Link
unfoldable pub head_of : List ℕ → Result FileHead HeadFault
head_of bytes =
    if nat_lt (length bytes) head_len then Err fault.Short else
    if bytes_eq (take 4 bytes) newer_format then Err fault.PcapNg else
    with_magic bytes (magic_of bytes)
