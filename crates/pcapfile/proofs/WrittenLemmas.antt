use Rattle.std.proofs.Common.{◌≡◌, ℕ, zero, suc, ◌+◌, ◌*◌, ◌≤◌, ◌<◌, ◌^◌, false, nat_lt, List, [], ◌∷◌, ◌++◌, length, take, drop, refl, ap, sym, ◌∙◌, arith, append_assoc, length-append, All, Ok}
use Rattle.std.proofs.lemmas.Bool.Decides.{nat_tests}
use Rattle.std.proofs.lemmas.List.Concat.{flat_map-cons}
use Rattle.std.proofs.lemmas.List.Elements.{All-head, All-tail}
use Rattle.std.proofs.Math.Seq.{take-append_seam, drop-append_seam}
use Rattle.byteorder.specs.Endian.{little_bytes, little_number}
use Rattle.byteorder.specs.Numbers.{little_number-reads_back}
use Rattle.pcapfile.specs.declared.frame.Frame.{Frame}
use Rattle.pcapfile.specs.State.{State}
use Rattle.pcapfile.specs.Format.{head_len, header_len, longest, second, microsecond}
use Rattle.pcapfile.specs.Head.{head_of}
use Rattle.pcapfile.specs.Capture.{Limits, Whole, Ends, Holds, Records, place_of, len_of, moment_of, records_from, behind_head}
use Rattle.pcapfile.specs.Written.{written_head, written_frame, Item, CanBeWritten, written_records, written_file, read_head, read_frame, read_frames, IsReadBack}
use Rattle.pcapfile.proofs.PlaceLemmas.{IsRecord, place_of-record}
use Rattle.pcapfile.proofs.CaptureLemmas.{records_at-ends, records_at-holds}

-- five parts, appended one after the other
pub appended : (out a b c d e one two three four five : List ℕ) → one ≡ out ++ a → two ≡ one ++ b → three ≡ two ++ c → four ≡ three ++ d → five ≡ four ++ e
    → five ≡ out ++ (a ++ b ++ c ++ d ++ e)
appended out a b c d e one two three four five p q r s t =
    let with : List ℕ → List ℕ → List ℕ = λ x y. y ++ x in
    let ab : two ≡ out ++ (a ++ b) = q ∙ ap (with b) p ∙ append_assoc out a b in
    let abc : three ≡ out ++ (a ++ b ++ c) = r ∙ ap (with c) ab ∙ append_assoc out (a ++ b) c in
    let abcd : four ≡ out ++ (a ++ b ++ c ++ d) = s ∙ ap (with d) abc ∙ append_assoc out (a ++ b ++ c) d in
    t ∙ ap (with e) abcd ∙ append_assoc out (a ++ b ++ c ++ d) e

-- a number that was written is read
reads_back : (n : ℕ) (rest : List ℕ) → n < 2 ^ 32 → little_number 4 (little_bytes 4 n ++ rest) ≡ n
reads_back n rest h = little_number-reads_back 4 n rest h

-- what stands in the header of a written record, with more behind it
len_of-written : (seconds fraction : ℕ) (bytes more : List ℕ) → length bytes ≤ longest → len_of read_head (written_frame seconds fraction bytes ++ more) ≡ length bytes
len_of-written seconds fraction bytes more h =
    reads_back (length bytes) (little_bytes 4 (length bytes) ++ bytes ++ more) (omega arith)

moment_of-written : (seconds fraction : ℕ) (bytes more : List ℕ) → seconds < 2 ^ 32 → fraction < 2 ^ 32
    → moment_of read_head (written_frame seconds fraction bytes ++ more) ≡ seconds * second + fraction * microsecond
moment_of-written seconds fraction bytes more h k =
    let tail : List ℕ = little_bytes 4 (length bytes) ++ little_bytes 4 (length bytes) ++ bytes ++ more in
    let one : little_number 4 (little_bytes 4 seconds ++ (little_bytes 4 fraction ++ tail)) ≡ seconds = reads_back seconds (little_bytes 4 fraction ++ tail) h in
    let two : little_number 4 (little_bytes 4 fraction ++ tail) ≡ fraction = reads_back fraction tail k in
    ap (λ (x : ℕ). x * second + little_number 4 (little_bytes 4 fraction ++ tail) * microsecond) one
    ∙ ap (λ (x : ℕ). seconds * second + x * microsecond) two

-- a written record is a header of 16 bytes and its bytes
header : ℕ → ℕ → ℕ → List ℕ
header seconds fraction len = little_bytes 4 seconds ++ little_bytes 4 fraction ++ little_bytes 4 len ++ little_bytes 4 len

bytes_of-written : (seconds fraction : ℕ) (bytes more : List ℕ) → drop header_len (written_frame seconds fraction bytes ++ more) ≡ bytes ++ more
bytes_of-written seconds fraction bytes more = refl

length-written : (seconds fraction : ℕ) (bytes : List ℕ) → length (written_frame seconds fraction bytes) ≡ header_len + length bytes
length-written seconds fraction bytes = omega arith

-- where it stands, it is read
place_of-written : (limits : Limits) (at count : ℕ) (item : Item) (more : List ℕ) → CanBeWritten item → count < limits.frames → at + (header_len + length item.bytes) ≤ limits.bytes
    → place_of read_head limits at count (written_frame item.seconds item.fraction item.bytes ++ more) ≡ Holds (read_frame at item)
place_of-written limits at count item more h within inside =
    let rest : List ℕ = written_frame item.seconds item.fraction item.bytes ++ more in
    let short : length item.bytes ≤ longest = h.short in
    let len : len_of read_head rest ≡ length item.bytes = len_of-written item.seconds item.fraction item.bytes more h.short in
    let moment : moment_of read_head rest ≡ item.seconds * second + item.fraction * microsecond = moment_of-written item.seconds item.fraction item.bytes more h.seconds h.fraction in
    let behind : drop header_len rest ≡ item.bytes ++ more = bytes_of-written item.seconds item.fraction item.bytes more in
    let bytes : take (len_of read_head rest) (drop header_len rest) ≡ item.bytes =
    ap (λ (n : ℕ). take n (drop header_len rest)) len ∙ ap (take (length item.bytes)) behind ∙ take-append_seam item.bytes more in
    let size : length rest ≡ (header_len + length item.bytes) + length more =
    length-append (written_frame item.seconds item.fraction item.bytes) more ∙ ap (λ (n : ℕ). n + length more) (length-written item.seconds item.fraction item.bytes) in
    let is : IsRecord read_head limits at count rest = record { within = within; short = omega arith; whole = omega arith; inside = omega arith } in
    place_of-record read_head limits at count rest is
    ∙ ap (λ (m : ℕ). Holds (record { at = at; moment = m; bytes = take (len_of read_head rest) (drop header_len rest) })) moment
    ∙ ap (λ (b : List ℕ). Holds (record { at = at; moment = item.seconds * second + item.fraction * microsecond; bytes = b })) bytes

-- a state that reads written bytes
reading : Limits → ℕ → ℕ → List ℕ → State
reading limits at count rest = record { head = read_head; limits = limits; at = at; count = count; rest = rest }

nothing_left : (limits : Limits) (at count : ℕ) → place_of read_head limits at count [] ≡ Ends Whole
unfolding place_of
nothing_left limits at count = refl

-- the records of written bytes from an offset on
records_from-written : (limits : Limits) (items : List Item) (turns at count : ℕ) → All CanBeWritten items → length items < turns → count + length items ≤ limits.frames
    → at + length (written_records items) ≤ limits.bytes → records_from turns read_head limits at count (written_records items) ≡ record { frames = read_frames at items; end = Whole }
unfolding reading
records_from-written limits [] zero at count all turn many long = absurd (omega arith)
records_from-written limits [] (suc turns) at count all turn many long =
    records_at-ends turns (reading limits at count []) Whole (nothing_left limits at count)
records_from-written limits (item ∷ items) zero at count all turn many long = absurd (omega arith)
records_from-written limits (item ∷ items) (suc turns) at count all turn many long =
    let write : Item → List ℕ = λ i. written_frame i.seconds i.fraction i.bytes in
    let more : List ℕ = written_records items in
    let frame : Frame = read_frame at item in
    let next : ℕ = at + (header_len + length item.bytes) in
    let first : CanBeWritten item = All-head CanBeWritten item items all in
    let parts : written_records (item ∷ items) ≡ write item ++ more = flat_map-cons write item items in
    let one = length-written item.seconds item.fraction item.bytes in
    let size : length (written_records (item ∷ items)) ≡ (header_len + length item.bytes) + length more =
    ap length parts ∙ length-append (write item) more ∙ ap (λ (n : ℕ). n + length more) one in
    let numbered : count + suc (length items) ≤ limits.frames = many in
    let stands = place_of-written limits at count item more first (omega arith) (omega arith) in
    let behind : drop (header_len + length item.bytes) (write item ++ more) ≡ more =
    ap (λ (n : ℕ). drop n (write item ++ more)) (sym one) ∙ drop-append_seam (write item) more in
    let with : Records → Records = λ r. record { frames = frame ∷ r.frames; end = r.end } in
    let rest = records_from-written limits items turns next (count + 1) (All-tail CanBeWritten item items all) (omega arith) (omega arith) (omega arith) in
    ap (records_from (suc turns) read_head limits at count) parts
    ∙ records_at-holds turns (reading limits at count (write item ++ more)) frame stands
    ∙ ap (λ (r : List ℕ). with (records_from turns read_head limits next (count + 1) r)) behind
    ∙ ap with rest

-- there are no more records than bytes of them
few_items : (items : List Item) → length items ≤ length (written_records items)
few_items [] = omega arith
few_items (item ∷ items) =
    let write : Item → List ℕ = λ i. written_frame i.seconds i.fraction i.bytes in
    let more : List ℕ = written_records items in
    let later = few_items items in
    let size : length (written_records (item ∷ items)) ≡ (header_len + length item.bytes) + length more =
    ap length (flat_map-cons write item items) ∙ length-append (write item) more ∙ ap (λ (n : ℕ). n + length more) (length-written item.seconds item.fraction item.bytes) in
    omega arith

-- the written file header is read
head_of-written : (more : List ℕ) → head_of (written_head ++ more) ≡ Ok read_head
unfolding head_of
head_of-written more =
    let long : nat_lt (length (written_head ++ more)) head_len ≡ false = grind (arith, nat_tests, length-append written_head more) in
    rw long refl

pub is_read_back : (limits : Limits) (items : List Item) → IsReadBack limits items
is_read_back limits items all many long =
    let size : length (written_file items) ≡ head_len + length (written_records items) = length-append written_head (written_records items) in
    let behind : drop head_len (written_file items) ≡ written_records items = drop-append_seam written_head (written_records items) in
    let turns : ℕ = suc (suc (length (written_file items))) in
    let few = few_items items in
    ap (behind_head limits (written_file items)) (head_of-written (written_records items))
    ∙ ap (λ (r : List ℕ). Ok (read_head, records_from turns read_head limits head_len 0 r)) behind
    ∙ ap (λ (r : Records). Ok (read_head, r)) (records_from-written limits items turns head_len 0 all (omega arith) (omega arith) (omega arith))
