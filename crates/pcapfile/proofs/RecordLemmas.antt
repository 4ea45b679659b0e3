use Rattle.std.proofs.Common.{◌≡◌, ℕ, zero, suc, ◌+◌, ◌-◌, ◌≤◌, ◌<◌, ◌⊎◌, inl, inr, List, [], ◌∷◌, ◌++◌, length, take, drop, refl, ap, sym, ◌∙◌, subst, Bool, true, false, cond, nat_lt, arith, length-take, length-drop, Result, Ok, Err}
use Rattle.std.specs.List.{sum_by}
use Rattle.std.proofs.lemmas.List.{drop-drop}
use Rattle.std.proofs.lemmas.List.Sums.{sum_by-cons}
use Rattle.pcapfile.specs.declared.head.FileHead.{FileHead}
use Rattle.pcapfile.specs.declared.frame.Frame.{Frame}
use Rattle.pcapfile.specs.declared.head_fault.HeadFault.{HeadFault}
use Rattle.pcapfile.specs.Format.{head_len, header_len, longest}
use Rattle.pcapfile.specs.Capture.{Limits, End, Whole, Cut, TooBig, TooLong, Place, Ends, Holds, place_of, len_of, moment_of, size_of, Records, behind, behind_head, records_from}
use Rattle.pcapfile.specs.Head.{head_of}
use Rattle.pcapfile.specs.Laws.{Stands, EachStands, IsPastHeader, IsPastRecord, EndsThere, Accounts, RecordsStand, CaptureAccounts}
use Rattle.pcapfile.proofs.PlaceLemmas.{made, IsRecord, place_of-holds, place_of-whole, place_of-cut, place_of-too_big, place_of-too_long, place_of-nothing, place_of-partial, place_of-big, place_of-many, place_of-past_header, place_of-past_record, lt_false}

-- a list with a member is not empty
none : {X : Type 0} (earlier later : List X) (x : X) → [] ≡ earlier ++ x ∷ later → ⊥
none [] later x h = cc
none (y ∷ earlier) later x h = cc

first_same : (f g : Frame) (fs gs : List Frame) → f ∷ fs ≡ g ∷ gs → (f ≡ g) × (fs ≡ gs)
first_same f g fs gs h = (cc, cc)

-- the bytes of a record that a place holds are as many as its header says
made-len : (head : FileHead) (limits : Limits) (at count : ℕ) (rest : List ℕ) → IsRecord head limits at count rest → length ((made head at rest).bytes) ≡ len_of head rest
made-len head limits at count rest r =
    let whole : header_len + len_of head rest ≤ length rest = r.whole in
    omega (arith, length-take (len_of head rest) (drop header_len rest), length-drop header_len rest)

-- the size of a record that a place holds fits what is left
pub fits : (head : FileHead) (limits : Limits) (at count : ℕ) (rest : List ℕ) (f : Frame) → place_of head limits at count rest ≡ Holds f → size_of f ≤ length rest
fits head limits at count rest f h =
    let found = place_of-holds head limits at count rest f h in
    let whole : header_len + len_of head rest ≤ length rest = found.0.whole in
    let len = made-len head limits at count rest found.0 in
    let same = ap size_of found.1 in
    omega arith

-- the first record stands where the records begin
first_stands : (head : FileHead) (limits : Limits) (at count : ℕ) (file : List ℕ) (f : Frame) → place_of head limits at count (drop at file) ≡ Holds f → Stands head limits at count file [] f
first_stands head limits at count file f h =
    let rest : List ℕ = drop at file in
    let found = place_of-holds head limits at count rest f h in
    let r = found.0 in
    let whole : header_len + len_of head rest ≤ length rest = r.whole in
    let short : len_of head rest ≤ longest = r.short in
    let inside : at + (header_len + len_of head rest) ≤ limits.bytes = r.inside in
    let within : count < limits.frames = r.within in
    let left : length rest ≡ length file - at = length-drop at file in
    let same_at : at ≡ f.at = ap (λ (g : Frame). g.at) found.1 in
    let same_len : len_of head rest ≡ length f.bytes = sym (made-len head limits at count rest r) ∙ ap (λ (g : Frame). length g.bytes) found.1 in
    record {
      offset = omega arith;
      moment = sym (ap (λ (g : Frame). g.moment) found.1) ∙ ap (λ (n : ℕ). moment_of head (drop n file)) same_at;
      bytes = sym (ap (λ (g : Frame). g.bytes) found.1) ∙ ap (λ (n : ℕ). take (len_of head (drop n file)) (drop header_len (drop n file))) same_at;
      len = sym same_len ∙ ap (λ (n : ℕ). len_of head (drop n file)) same_at;
      whole = omega arith;
      short = omega arith;
      inside = omega arith;
      number = omega arith;
    }

-- a record that stands behind others stands behind one more before them
later_stands : (head : FileHead) (limits : Limits) (at count : ℕ) (file : List ℕ) (f g : Frame) (earlier : List Frame) → Stands head limits (at + size_of f) (count + 1) file earlier g → Stands head limits at count file (f ∷ earlier) g
later_stands head limits at count file f g earlier s =
    let offset : g.at ≡ (at + size_of f) + sum_by size_of earlier = s.offset in
    let number : (count + 1) + length earlier < limits.frames = s.number in
    record {
      offset = omega (arith, sum_by-cons size_of f earlier);
      moment = s.moment;
      bytes = s.bytes;
      len = s.len;
      whole = s.whole;
      short = s.short;
      inside = s.inside;
      number = omega arith;
    }

module _ (head : FileHead) (limits : Limits) where
  next_records : ℕ → ℕ → ℕ → List ℕ → Frame → Records
  next_records turns at count rest frame = records_from turns head limits (at + size_of frame) (count + 1) (drop (size_of frame) rest)

  stands_behind : (turns at count : ℕ) (file : List ℕ) (p : Place) → place_of head limits at count (drop at file) ≡ p
      → ((f : Frame) → EachStands head limits (at + size_of f) (count + 1) file (records_from turns head limits (at + size_of f) (count + 1) (drop (at + size_of f) file)).frames)
      → EachStands head limits at count file (behind p (next_records turns at count (drop at file))).frames
  unfolding next_records
  stands_behind turns at count file (Ends e) h ih earlier later g k = absurd (none earlier later g k)
  stands_behind turns at count file (Holds f) h ih [] later g k =
      let same = first_same f g _ _ k in
      subst (λ (x : Frame). Stands head limits at count file [] x) same.0 (first_stands head limits at count file f h)
  stands_behind turns at count file (Holds f) h ih (e ∷ earlier) later g k =
      let same = first_same f e _ _ k in
      let moved : records_from turns head limits (at + size_of f) (count + 1) (drop (at + size_of f) file) ≡ records_from turns head limits (at + size_of f) (count + 1) (drop (size_of f) (drop at file)) =
      ap (λ (r : List ℕ). records_from turns head limits (at + size_of f) (count + 1) r) (sym (drop-drop (size_of f) at file)) in
      let one = ih f earlier later g (ap (λ (r : Records). r.frames) moved ∙ same.1) in
      subst (λ (x : Frame). Stands head limits at count file (x ∷ earlier) g) same.0 (later_stands head limits at count file f g earlier one)

  pub records_from-stand : (turns at count : ℕ) (file : List ℕ) → EachStands head limits at count file (records_from turns head limits at count (drop at file)).frames
  unfolding records_from next_records
  records_from-stand zero at count file = λ earlier later g k. absurd (none earlier later g k)
  records_from-stand (suc turns) at count file =
      stands_behind turns at count file (place_of head limits at count (drop at file)) refl (λ f. records_from-stand turns (at + size_of f) (count + 1) file)

  -- where a place has an end there is its reason
  ends_there : (at count : ℕ) (rest : List ℕ) (e : End) → place_of head limits at count rest ≡ Ends e → EndsThere head limits at count rest e
  ends_there at count rest Whole h = place_of-whole head limits at count rest h
  ends_there at count rest (Cut n) h = place_of-cut head limits at count rest n h
  ends_there at count rest (TooBig a n) h = place_of-too_big head limits at count rest a n h
  ends_there at count rest TooLong h = place_of-too_long head limits at count rest h

  -- and where there is a reason, the place has that end
  pub place_ends : (at count : ℕ) (rest : List ℕ) (e : End) → EndsThere head limits at count rest e → place_of head limits at count rest ≡ Ends e
  place_ends at count rest Whole h = place_of-nothing head limits at count rest h
  place_ends at count rest (Cut n) h = place_of-partial head limits at count rest n h
  place_ends at count rest (TooBig a n) h =
      place_of-big head limits at count rest h.0 ∙ ap (λ (x : ℕ). Ends (TooBig x (len_of head rest))) h.1 ∙ ap (λ (x : ℕ). Ends (TooBig a x)) h.2
  place_ends at count rest TooLong h = by_reason h.1 where
    by_reason : (limits.frames ≤ count) ⊎ (IsPastHeader limits at rest ⊎ IsPastRecord head limits at count rest) → place_of head limits at count rest ≡ Ends TooLong
    by_reason (inl many) = place_of-many head limits at count rest h.0 many
    by_reason (inr (inl r)) = place_of-past_header head limits at count rest r
    by_reason (inr (inr r)) = place_of-past_record head limits at count rest r

  -- a reason stays where its numbers are the same
  same_reason : (file : List ℕ) (a b c d : ℕ) (e : End) → a ≡ b → c ≡ d → EndsThere head limits a c (drop a file) e → EndsThere head limits b d (drop b file) e
  same_reason file a b c d e h k x =
      subst (λ (n : ℕ). EndsThere head limits b n (drop b file) e) k (subst (λ (n : ℕ). EndsThere head limits n c (drop n file) e) h x)

  -- an end at once accounts for what is left
  ends_account : (file : List ℕ) (at count : ℕ) (e : End) → at ≤ length file → EndsThere head limits at count (drop at file) e → Accounts head limits file at count [] e
  ends_account file at count e fit h = record { taken = omega arith; why = same_reason file at (at + 0) count (count + 0) e (omega arith) (omega arith) h }

  -- and the other way round
  pub account_ends : (file : List ℕ) (at count : ℕ) (e : End) → Accounts head limits file at count [] e → EndsThere head limits at count (drop at file) e
  account_ends file at count e h = same_reason file (at + 0) at (count + 0) count e (omega arith) (omega arith) h.why

  -- what accounts behind a record accounts with it
  one_more : (file : List ℕ) (at count : ℕ) (f : Frame) (fs : List Frame) (e : End) → Accounts head limits file (at + size_of f) (count + 1) fs e → Accounts head limits file at count (f ∷ fs) e
  one_more file at count f fs e h =
      let sum = sum_by-cons size_of f fs in
      let taken : (at + size_of f) + sum_by size_of fs ≤ length file = h.taken in
      let past : (at + size_of f) + sum_by size_of fs ≡ at + sum_by size_of (f ∷ fs) = omega arith in
      let number : (count + 1) + length fs ≡ count + suc (length fs) = omega arith in
      record { taken = omega arith; why = same_reason file _ _ _ _ e past number h.why }

  -- and the other way round
  pub one_fewer : (file : List ℕ) (at count : ℕ) (f : Frame) (fs : List Frame) (e : End) → Accounts head limits file at count (f ∷ fs) e → Accounts head limits file (at + size_of f) (count + 1) fs e
  one_fewer file at count f fs e h =
      let sum = sum_by-cons size_of f fs in
      let taken : at + sum_by size_of (f ∷ fs) ≤ length file = h.taken in
      let past : at + sum_by size_of (f ∷ fs) ≡ (at + size_of f) + sum_by size_of fs = omega arith in
      let number : count + suc (length fs) ≡ (count + 1) + length fs = omega arith in
      record { taken = omega arith; why = same_reason file _ _ _ _ e past number h.why }

  accounts_behind : (turns at count : ℕ) (file : List ℕ) (p : Place) → at ≤ length file → place_of head limits at count (drop at file) ≡ p
      → ((f : Frame) → place_of head limits at count (drop at file) ≡ Holds f → Accounts head limits file (at + size_of f) (count + 1) (next_records turns at count (drop at file) f).frames (next_records turns at count (drop at file) f).end)
      → Accounts head limits file at count (behind p (next_records turns at count (drop at file))).frames (behind p (next_records turns at count (drop at file))).end
  accounts_behind turns at count file (Ends e) fit h ih = ends_account file at count e fit (ends_there at count (drop at file) e h)
  accounts_behind turns at count file (Holds f) fit h ih =
      let later = next_records turns at count (drop at file) f in
      one_more file at count f later.frames later.end (ih f h)

  pub records_from-account : (turns at count : ℕ) (file : List ℕ) → at ≤ length file → length (drop at file) < turns
      → Accounts head limits file at count (records_from turns head limits at count (drop at file)).frames (records_from turns head limits at count (drop at file)).end
  unfolding records_from next_records
  records_from-account zero at count file fit h = absurd (omega arith)
  records_from-account (suc turns) at count file fit h =
      accounts_behind turns at count file (place_of head limits at count (drop at file)) fit refl (λ f k.
      let size = fits head limits at count (drop at file) f k in
      let left = length-drop at file in
      let later = length-drop (at + size_of f) file in
      let moved : drop (at + size_of f) file ≡ drop (size_of f) (drop at file) = sym (drop-drop (size_of f) at file) in
      let P : List ℕ → Type 0 = λ r. Accounts head limits file (at + size_of f) (count + 1) (records_from turns head limits (at + size_of f) (count + 1) r).frames (records_from turns head limits (at + size_of f) (count + 1) r).end in
      subst P moved (records_from-account turns (at + size_of f) (count + 1) file (omega arith) (omega arith)))

  same_behind : (turns others at count : ℕ) (rest : List ℕ) (p : Place) → place_of head limits at count rest ≡ p
      → ((f : Frame) → place_of head limits at count rest ≡ Holds f → next_records turns at count rest f ≡ next_records others at count rest f)
      → behind p (next_records turns at count rest) ≡ behind p (next_records others at count rest)
  same_behind turns others at count rest (Ends e) h ih = refl
  same_behind turns others at count rest (Holds f) h ih =
      let with : Records → Records = λ r. record { frames = f ∷ r.frames; end = r.end } in
      ap with (ih f h)

  pub records_from-turns : (turns others at count : ℕ) (rest : List ℕ) → length rest < turns → length rest < others → records_from turns head limits at count rest ≡ records_from others head limits at count rest
  unfolding records_from next_records
  records_from-turns zero others at count rest h k = absurd (omega arith)
  records_from-turns (suc turns) zero at count rest h k = absurd (omega arith)
  records_from-turns (suc turns) (suc others) at count rest h k =
      same_behind turns others at count rest (place_of head limits at count rest) refl (λ f l.
      let fit = fits head limits at count rest f l in
      let left = length-drop (size_of f) rest in
      records_from-turns turns others (at + size_of f) (count + 1) (drop (size_of f) rest) (omega arith) (omega arith))

-- the records of a capture are those behind its head
abbrev accepted : FileHead × Records → Result (FileHead × Records) HeadFault
accepted x = Ok x

ok_same : (x y : FileHead × Records) → accepted x ≡ accepted y → x ≡ y
ok_same x y h = cc

captured : (limits : Limits) (file : List ℕ) (r : Result FileHead HeadFault) (head : FileHead) (records : Records) → behind_head limits file r ≡ Ok (head, records)
    → (r ≡ Ok head) × (records_from (suc (suc (length file))) head limits head_len 0 (drop head_len file) ≡ records)
captured limits file (Err e) head records h = absurd (cc)
captured limits file (Ok g) head records h =
    let both = ok_same _ _ h in
    let same : g ≡ head = ap (λ (x : FileHead × Records). x.0) both in
    (ap Ok same, ap (λ (x : FileHead). records_from (suc (suc (length file))) x limits head_len 0 (drop head_len file)) (sym same) ∙ ap (λ (x : FileHead × Records). x.1) both)

-- a file with a head has the bytes of one
no_fault : (b : Bool) (e : HeadFault) (r : Result FileHead HeadFault) (head : FileHead) → cond b (Err e) r ≡ Ok head → b ≡ false
no_fault true e r head h = absurd (cc)
no_fault false e r head h = refl

pub head_of-long : (file : List ℕ) (head : FileHead) → head_of file ≡ Ok head → head_len ≤ length file
unfolding head_of
head_of-long file head h = lt_false (length file) head_len (no_fault (nat_lt (length file) head_len) _ _ head h)

pub records_stand : (limits : Limits) (file : List ℕ) → RecordsStand limits file
records_stand limits file head records h =
    let found = captured limits file (head_of file) head records h in
    subst (λ (r : Records). EachStands head limits head_len 0 file r.frames) found.1 (records_from-stand head limits (suc (suc (length file))) head_len 0 file)

pub capture_accounts : (limits : Limits) (file : List ℕ) → CaptureAccounts limits file
capture_accounts limits file head records h =
    let found = captured limits file (head_of file) head records h in
    let long = head_of-long file head found.0 in
    let left = length-drop head_len file in
    let one = records_from-account head limits (suc (suc (length file))) head_len 0 file long (omega arith) in
    subst (λ (r : Records). Accounts head limits file head_len 0 r.frames r.end) found.1 one
