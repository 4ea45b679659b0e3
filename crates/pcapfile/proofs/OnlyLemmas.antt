use Rattle.std.proofs.Common.{◌≡◌, ℕ, zero, suc, ◌+◌, ◌-◌, ◌≤◌, ◌<◌, List, [], ◌∷◌, length, take, drop, refl, ap, sym, ◌∙◌, arith, length-drop, Ok}
use Rattle.std.specs.List.{sum_by}
use Rattle.std.proofs.lemmas.List.{drop-drop}
use Rattle.std.proofs.lemmas.List.Sums.{sum_by-cons}
use Rattle.pcapfile.specs.declared.head.FileHead.{FileHead}
use Rattle.pcapfile.specs.declared.frame.Frame.{Frame}
use Rattle.pcapfile.specs.Format.{head_len, header_len, longest}
use Rattle.pcapfile.specs.State.{State}
use Rattle.pcapfile.specs.Capture.{Limits, End, Holds, place_of, len_of, moment_of, size_of, Records, behind_head, records_from}
use Rattle.pcapfile.specs.Laws.{Stands, EachStands, Accounts, NoOthersDo}
use Rattle.pcapfile.proofs.PlaceLemmas.{IsRecord, place_of-record}
use Rattle.pcapfile.proofs.RecordLemmas.{place_ends, account_ends, one_fewer, head_of-long}
use Rattle.pcapfile.proofs.CaptureLemmas.{records_at-ends, records_at-holds}

-- Records that stand in a file, with an end that accounts for the rest, are those that the definition reads.

-- the record at an offset
there : FileHead → List ℕ → ℕ → Frame
there head file n = record { at = n; moment = moment_of head (drop n file); bytes = take (len_of head (drop n file)) (drop header_len (drop n file)) }

-- a record that stands first is held by the place
first_held : (head : FileHead) (limits : Limits) (at count : ℕ) (file : List ℕ) (f : Frame) → Stands head limits at count file [] f → place_of head limits at count (drop at file) ≡ Holds f
unfolding there
first_held head limits at count file f s =
    let offset : f.at ≡ at + sum_by size_of [] = s.offset in
    let same : at ≡ f.at = omega arith in
    let rest : List ℕ = drop at file in
    let len : length f.bytes ≡ len_of head rest = s.len ∙ ap (λ (n : ℕ). len_of head (drop n file)) (sym same) in
    let whole : f.at + size_of f ≤ length file = s.whole in
    let short : length f.bytes ≤ longest = s.short in
    let inside : f.at + size_of f ≤ limits.bytes = s.inside in
    let number : count + 0 < limits.frames = s.number in
    let left : length rest ≡ length file - at = length-drop at file in
    let is : IsRecord head limits at count rest = record { within = omega arith; short = omega arith; whole = omega arith; inside = omega arith } in
    place_of-record head limits at count rest is
    ∙ ap (λ (n : ℕ). Holds (there head file n)) same
    ∙ ap (λ (m : ℕ). Holds (record { at = f.at; moment = m; bytes = take (len_of head (drop f.at file)) (drop header_len (drop f.at file)) })) (sym s.moment)
    ∙ ap (λ (b : List ℕ). Holds (record { at = f.at; moment = f.moment; bytes = b })) (sym s.bytes)

-- a record that stands behind one and others stands behind these others where that one ends
stands_on : (head : FileHead) (limits : Limits) (at count : ℕ) (file : List ℕ) (f g : Frame) (earlier : List Frame) → Stands head limits at count file (f ∷ earlier) g
    → Stands head limits (at + size_of f) (count + 1) file earlier g
stands_on head limits at count file f g earlier s =
    let offset : g.at ≡ at + sum_by size_of (f ∷ earlier) = s.offset in
    let number : count + suc (length earlier) < limits.frames = s.number in
    record {
      offset = omega (arith, sum_by-cons size_of f earlier);
      moment = s.moment;
      bytes = s.bytes;
      len = s.len;
      whole = s.whole;
      short = s.short;
      inside = s.inside;
      number = omega arith;
    }

rest_stand : (head : FileHead) (limits : Limits) (at count : ℕ) (file : List ℕ) (f : Frame) (fs : List Frame) → EachStands head limits at count file (f ∷ fs)
    → EachStands head limits (at + size_of f) (count + 1) file fs
rest_stand head limits at count file f fs each earlier later g k =
    stands_on head limits at count file f g earlier (each (f ∷ earlier) later g (ap (λ (gs : List Frame). f ∷ gs) k))

reading : FileHead → Limits → ℕ → ℕ → List ℕ → State
reading head limits at count rest = record { head = head; limits = limits; at = at; count = count; rest = rest }

only_these : (frames : List Frame) (head : FileHead) (limits : Limits) (turns at count : ℕ) (file : List ℕ) (end : End) → EachStands head limits at count file frames
    → Accounts head limits file at count frames end → length (drop at file) < turns → records_from turns head limits at count (drop at file) ≡ record { frames = frames; end = end }
unfolding reading
only_these [] head limits zero at count file end each account enough = absurd (omega arith)
only_these [] head limits (suc turns) at count file end each account enough =
    records_at-ends turns (reading head limits at count (drop at file)) end (place_ends head limits at count (drop at file) end (account_ends head limits file at count end account))
only_these (f ∷ fs) head limits zero at count file end each account enough = absurd (omega arith)
only_these (f ∷ fs) head limits (suc turns) at count file end each account enough =
    let first : Stands head limits at count file [] f = each [] fs f refl in
    let offset : f.at ≡ at + sum_by size_of [] = first.offset in
    let whole : f.at + size_of f ≤ length file = first.whole in
    let left = length-drop at file in
    let later = length-drop (at + size_of f) file in
    let with : Records → Records = λ r. record { frames = f ∷ r.frames; end = r.end } in
    records_at-holds turns (reading head limits at count (drop at file)) f (first_held head limits at count file f first)
    ∙ ap (λ (r : List ℕ). with (records_from turns head limits (at + size_of f) (count + 1) r)) (drop-drop (size_of f) at file)
    ∙ ap with (only_these fs head limits turns (at + size_of f) (count + 1) file end (rest_stand head limits at count file f fs each) (one_fewer head limits file at count f fs end account) (omega arith))

pub no_others_do : (limits : Limits) (file : List ℕ) → NoOthersDo limits file
no_others_do limits file head frames end opens each account =
    let long = head_of-long file head opens in
    let left = length-drop head_len file in
    ap (behind_head limits file) opens
    ∙ ap (λ (r : Records). Ok (head, r)) (only_these frames head limits (suc (suc (length file))) head_len 0 file end each account (omega arith))
