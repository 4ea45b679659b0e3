-- What a match finds and leaves.
use Rattle.std.proofs.Common.{◌≡◌, ℕ, ◌-◌, ◌≤◌, List, [], ◌++◌, length, take, drop, refl, ap, sym, ◌∙◌, subst, ◌⊎◌, inl, inr, arith, append_assoc, append-nil, length-drop}
use Rattle.std.specs.Prelude.{Option, Some, None, IfSome, IsSome, Result, Ok, Err}
use Rattle.std.proofs.lemmas.List.{drop-append-le, take_all}
use Rattle.capfilter.specs.Expr.{Expr}
use Rattle.pcapfile.specs.declared.head.FileHead.{FileHead}
use Rattle.pcapfile.specs.declared.head_fault.HeadFault.{HeadFault}
use Rattle.pcapfile.specs.Capture.{End, Whole, Cut, TooBig, TooLong, Records, behind_head}
use Rattle.pcapfile.specs.Head.{head_of}
use Rattle.pcapfile.proofs.FedLemmas.{capture_has_records}
use Rattle.scap_world.specs.Contents.{dropped, prefixed}
use Rattle.scap_world.specs.Files.{File, IsThere, file_of, told_file, told_put}
use Rattle.scapconf.specs.declared.status.Status.{Status}
use Rattle.scapconf.specs.declared.status.Status.TheVariants as status
use Rattle.labtop.specs.declared.matching.Matches.{Matches}
use Rattle.labtop.specs.declared.matching.Matching.{Matching}
use Rattle.labtop.specs.Answers.{IsBefore, IsPart}
use Rattle.labtop.specs.Drill.{limits}
use Rattle.labtop.specs.Matched.{HasAll, HasRead, HasReadOn, IsMatched, end_of}
use Rattle.labtop.specs.Matching.{Matched, Writes, Refuses, Unread, AllowsMatch, CompletesMatch, IsForeign, LeavesMatch, WritesMatch, matched_by, matched_in, matched_of, status_of_end}
use Rattle.labtop.specs.Names.{match_name}
use Rattle.labtop.proofs.HeadLemmas.{head_of-append}
use Rattle.labtop.proofs.ReadLemmas.{head_of-front, prefixed-moved}

pub if_some : {A : Type 0} {P Q : A → Type 0} (o : Option A) → ((a : A) → P a → Q a) → IfSome o P → IfSome o Q
if_some None f h = tt
if_some (Some a) f h = f a h

-- Bytes that are read.

pub prefixed_none : (left : Option (List ℕ)) → left ≡ prefixed [] left
prefixed_none None = refl
prefixed_none (Some bytes) = refl

pub prefixed_twice : (left mid rest : Option (List ℕ)) (front more : List ℕ) → left ≡ prefixed front mid → mid ≡ prefixed more rest → left ≡ prefixed (front ++ more) rest
prefixed_twice left mid None front more e h = e ∙ ap (prefixed front) h
prefixed_twice left mid (Some bytes) front more e h = e ∙ ap (prefixed front) h ∙ ap Some (sym (append_assoc front more bytes))

-- a read takes the front of what is left
pub moved : (left now : Option (List ℕ)) (buffer : List ℕ) (n : ℕ) (T : Type 0) → now ≡ dropped n left
    → IfSome left (λ b. (n ≤ length b) × (take n buffer ≡ take n b) × T) → left ≡ prefixed (take n buffer) now
moved None now buffer n T d h = sym (ap (prefixed (take n buffer)) d)
moved (Some b) now buffer n T d h = prefixed-moved (Some b) now [] (take n buffer) buffer n T d h refl

-- nothing was read yet
pub read_none : (filter : Expr) (head : FileHead) (fed : List ℕ) (left : Option (List ℕ)) (m : Matching) → HasRead filter head fed m → HasReadOn filter head fed left left m
read_none filter head fed left m h = record {
  more = [];
  read = subst (λ (bytes : List ℕ). HasRead filter head bytes m) (sym (append-nil fed)) h;
  moved = prefixed_none left;
}

-- a piece behind what was read
pub read_more : (filter : Expr) (head : FileHead) (fed : List ℕ) (left mid rest : Option (List ℕ)) (old new : Matching) (h : HasReadOn filter head fed left mid old)
    → HasReadOn filter head (fed ++ h.more) mid rest new → HasReadOn filter head fed left rest new
read_more filter head fed left mid rest old new h k = record {
  more = h.more ++ k.more;
  read = subst (λ (bytes : List ℕ). HasRead filter head bytes new) (append_assoc fed h.more k.more) k.read;
  moved = prefixed_twice left mid rest h.more k.more h.moved k.moved;
}

-- all was read
pub read_whole : (filter : Expr) (head : FileHead) (fed more : List ℕ) (left mid : Option (List ℕ)) (found : Matches) → left ≡ prefixed more mid
    → IfSome mid (λ bytes. bytes ≡ []) → HasAll filter head (fed ++ more) found → IfSome left (λ rest. HasAll filter head (fed ++ rest) found)
read_whole filter head fed more left None found e none h = subst (λ (o : Option (List ℕ)). IfSome o (λ rest. HasAll filter head (fed ++ rest) found)) (sym e) tt
read_whole filter head fed more left (Some bytes) found e none h =
    let all : more ≡ more ++ bytes = sym (append-nil more) ∙ ap (λ (r : List ℕ). more ++ r) (sym none) in
    subst (λ (o : Option (List ℕ)). IfSome o (λ rest. HasAll filter head (fed ++ rest) found)) (sym e)
    (subst (λ (r : List ℕ). HasAll filter head (fed ++ r) found) all h)

-- what is left changes nothing
pub read_enough : (filter : Expr) (head : FileHead) (fed more : List ℕ) (left mid : Option (List ℕ)) (found : Matches) → left ≡ prefixed more mid
    → ((rest : List ℕ) → HasAll filter head ((fed ++ more) ++ rest) found) → IfSome left (λ rest. HasAll filter head (fed ++ rest) found)
read_enough filter head fed more left None found e h = subst (λ (o : Option (List ℕ)). IfSome o (λ rest. HasAll filter head (fed ++ rest) found)) (sym e) tt
read_enough filter head fed more left (Some bytes) found e h =
    subst (λ (o : Option (List ℕ)). IfSome o (λ rest. HasAll filter head (fed ++ rest) found)) (sym e)
    (subst (λ (r : List ℕ). HasAll filter head r found) (append_assoc fed more bytes) (h bytes))

-- A capture from its first byte on.

-- all bytes behind the first 24
pub behind_front : (l : List ℕ) → take (length l - 24) (drop 24 l) ≡ drop 24 l
behind_front l = take_all (length l - 24) (drop 24 l) (omega (arith, length-drop 24 l))

-- a file with a head and its matches
matched_whole : (filter : Expr) (file : List ℕ) (head : FileHead) (found : Matches) → head_of file ≡ Ok head → HasAll filter head (drop 24 file) found → IsMatched (Ok found) (matched_in filter file)
unfolding matched_in
matched_whole filter file head found opens h =
    let same = sym (ap (behind_head limits file) opens) in
    subst (λ (v : Matched). IsMatched (Ok found) v)
    (sym (ap (λ (r : Result (FileHead × Records) HeadFault). matched_by filter r) (capture_has_records limits file head opens)))
    (h.text, ap status_of_end h.end)

matched_refused : (filter : Expr) (file : List ℕ) (kind : HeadFault) → head_of file ≡ Err kind → IsMatched (Err kind) (matched_in filter file)
unfolding matched_in
matched_refused filter file kind none =
    subst (λ (v : Matched). IsMatched (Err kind) v) (sym (ap (λ (r : Result FileHead HeadFault). matched_by filter (behind_head limits file r)) none)) refl

pub has_matched : (filter : Expr) (left mid : Option (List ℕ)) (front : List ℕ) (head : FileHead) (found : Matches) → left ≡ prefixed front mid
    → head_of front ≡ Ok head → 24 ≤ length front → IfSome mid (λ rest. HasAll filter head (drop 24 front ++ rest) found)
    → IfSome left (λ bytes. IsMatched (Ok found) (matched_in filter bytes))
has_matched filter left None front head found e opens whole h = subst (λ (o : Option (List ℕ)). IfSome o (λ bytes. IsMatched (Ok found) (matched_in filter bytes))) (sym e) tt
has_matched filter left (Some rest) front head found e opens whole h =
    subst (λ (o : Option (List ℕ)). IfSome o (λ bytes. IsMatched (Ok found) (matched_in filter bytes))) (sym e)
    (matched_whole filter (front ++ rest) head found (head_of-append front rest whole ∙ opens)
    (subst (λ (r : List ℕ). HasAll filter head r found) (sym (drop-append-le 24 front rest whole)) h))

rest_none : (mid : Option (List ℕ)) (rest : List ℕ) (A : Type 0) → mid ≡ Some rest → A ⊎ IfSome mid (λ r. r ≡ []) → A ⊎ (rest ≡ [])
rest_none mid rest A e (inl a) = inl a
rest_none mid rest A e (inr none) = inr (subst (λ (o : Option (List ℕ)). IfSome o (λ r. r ≡ [])) e none)

pub has_refused : (filter : Expr) (left mid : Option (List ℕ)) (front : List ℕ) (kind : HeadFault) → left ≡ prefixed front mid
    → head_of front ≡ Err kind → (24 ≤ length front) ⊎ IfSome mid (λ rest. rest ≡ []) → IfSome left (λ bytes. IsMatched (Err kind) (matched_in filter bytes))
has_refused filter left None front kind e none whole = subst (λ (o : Option (List ℕ)). IfSome o (λ bytes. IsMatched (Err kind) (matched_in filter bytes))) (sym e) tt
has_refused filter left (Some rest) front kind e none whole =
    subst (λ (o : Option (List ℕ)). IfSome o (λ bytes. IsMatched (Err kind) (matched_in filter bytes))) (sym e)
    (matched_refused filter (front ++ rest) kind (head_of-front front rest (rest_none (Some rest) rest (24 ≤ length front) refl whole) ∙ none))

-- A capture of a shelf.

there : (filter : Expr) (found : Result Matches HeadFault) (left told : Option (List ℕ)) → left ≡ told → IsSome told
    → IfSome left (λ bytes. IsMatched found (matched_in filter bytes)) → IsMatched found (matched_of filter told)
there filter found left None e is h = absurd (cc)
there filter found left (Some bytes) e is h = subst (λ (o : Option (List ℕ)). IfSome o (λ b. IsMatched found (matched_in filter b))) e h

pub of_shelf : (filter : Expr) (found : Result Matches HeadFault) (files now : Option (List File)) (name : List ℕ) (left : Option (List ℕ)) → now ≡ files → left ≡ told_file files name → IsThere now name
    → IfSome left (λ bytes. IsMatched found (matched_in filter bytes)) → IfSome files (λ fs. IsMatched found (matched_of filter (file_of fs name)))
of_shelf filter found None now name left same e is h = tt
of_shelf filter found (Some fs) now name left same e is h =
    there filter found left (file_of fs name) e (subst (λ (o : Option (List File)). IsThere o name) same is) h

-- Answers.

own_end : (e : End) (text : List ℕ) (end : Status) → status_of_end e ≡ end → AllowsMatch (Writes text end) (status_of_end e)
own_end Whole text end h = (tt, h)
own_end (Cut n) text end h = (tt, h)
own_end (TooBig at len) text end h = (tt, h)
own_end TooLong text end h = (tt, h)

-- the text was written
pub allowed_end : (found : Matches) (s : Status) (v : Matched) → s ≡ status_of_end (end_of found.end) → IsMatched (Ok found) v → AllowsMatch v s
allowed_end found s (Writes text end) e h = subst (AllowsMatch (Writes text end)) (sym e) (own_end (end_of found.end) text end h.1)
allowed_end found s (Refuses fault) e h = absurd h
allowed_end found s Unread e h = absurd h

-- it was not
pub allowed_unwritten : (found : Matches) (s : Status) (v : Matched) → (s ≡ status.Memory) ⊎ (s ≡ status.WriteFault) → IsMatched (Ok found) v → AllowsMatch v s
allowed_unwritten found s v (inl e) h = subst (AllowsMatch v) (sym e) tt
allowed_unwritten found s (Writes text end) (inr e) h = subst (AllowsMatch (Writes text end)) (sym e) tt
allowed_unwritten found s (Refuses fault) (inr e) h = absurd h
allowed_unwritten found s Unread (inr e) h = absurd h

pub allowed_unread : (s : Status) (v : Matched) → (s ≡ status.Memory) ⊎ (s ≡ status.ReadFault) → AllowsMatch v s
allowed_unread s v (inl e) = subst (AllowsMatch v) (sym e) tt
allowed_unread s v (inr e) = subst (AllowsMatch v) (sym e) tt

pub allowed_refused : (kind : HeadFault) (v : Matched) → IsMatched (Err kind) v → AllowsMatch v (status.NotPcap kind)
allowed_refused kind (Writes text end) h = absurd h
allowed_refused kind (Refuses fault) h = h
allowed_refused kind Unread h = absurd h

-- an end is none of the other statuses
is_end : (e : End) → (IsForeign (status_of_end e) → ⊥) × (IsBefore (status_of_end e) → ⊥) × (status_of_end e ≡ status.ReadFault → ⊥) × (status_of_end e ≡ status.WriteFault → ⊥)
is_end Whole = (λ h. h, λ h. h, λ h. cc, λ h. cc)
is_end (Cut n) = (λ h. h, λ h. h, λ h. cc, λ h. cc)
is_end (TooBig at len) = (λ h. h, λ h. h, λ h. cc, λ h. cc)
is_end TooLong = (λ h. h, λ h. h, λ h. cc, λ h. cc)

pub end_is : (e : End) (s : Status) → s ≡ status_of_end e
    → (IsForeign s → ⊥) × (IsBefore s → ⊥) × (s ≡ status.ReadFault → ⊥) × (s ≡ status.WriteFault → ⊥)
end_is e s same =
    subst (λ (x : Status). (IsForeign x → ⊥) × (IsBefore x → ⊥) × (x ≡ status.ReadFault → ⊥) × (x ≡ status.WriteFault → ⊥)) (sym same) (is_end e)

-- where no fault was counted
pub completes : (v : Matched) (s : Status) (R W : Type 0) → (s ≡ status.ReadFault → R) → (s ≡ status.WriteFault → W) → (R → ⊥) → (W → ⊥)
    → AllowsMatch v s → CompletesMatch v s
completes (Writes text end) status.Memory R W r w nr nw h = inr refl
completes (Refuses fault) status.Memory R W r w nr nw h = inr refl
completes Unread status.Memory R W r w nr nw h = refl
completes v status.ReadFault R W r w nr nw h = absurd (nr (r refl))
completes v status.WriteFault R W r w nr nw h = absurd (nw (w refl))
completes (Writes text end) status.Usage R W r w nr nw h = absurd h.0
completes (Writes text end) (status.Settings line fault) R W r w nr nw h = absurd h.0
completes (Writes text end) status.Unbuilt R W r w nr nw h = absurd h.0
completes (Writes text end) (status.NotPcap fault) R W r w nr nw h = absurd h.0
completes (Writes text end) status.Done R W r w nr nw h = inl h.1
completes (Writes text end) (status.BadRecord at len) R W r w nr nw h = inl h.1
completes (Writes text end) (status.CutShort bytes) R W r w nr nw h = inl h.1
completes (Writes text end) status.TooLong R W r w nr nw h = inl h.1
completes (Refuses fault) (status.NotPcap kind) R W r w nr nw h = inl (ap status.NotPcap h)
completes (Refuses fault) status.Usage R W r w nr nw h = absurd h
completes (Refuses fault) (status.Settings line kind) R W r w nr nw h = absurd h
completes (Refuses fault) status.Unbuilt R W r w nr nw h = absurd h
completes (Refuses fault) status.Done R W r w nr nw h = absurd h
completes (Refuses fault) (status.BadRecord at len) R W r w nr nw h = absurd h
completes (Refuses fault) (status.CutShort bytes) R W r w nr nw h = absurd h
completes (Refuses fault) status.TooLong R W r w nr nw h = absurd h
completes Unread status.Usage R W r w nr nw h = absurd h
completes Unread (status.Settings line kind) R W r w nr nw h = absurd h
completes Unread status.Unbuilt R W r w nr nw h = absurd h
completes Unread (status.NotPcap kind) R W r w nr nw h = absurd h
completes Unread status.Done R W r w nr nw h = absurd h
completes Unread (status.BadRecord at len) R W r w nr nw h = absurd h
completes Unread (status.CutShort bytes) R W r w nr nw h = absurd h
completes Unread status.TooLong R W r w nr nw h = absurd h

-- Files.

pub leaves_unchanged : (v : Matched) (out : List ℕ) (old new : Option (List File)) → new ≡ old → LeavesMatch v out old new
leaves_unchanged (Writes text end) out old new same = inl (ap (λ (f : Option (List File)). told_file f (match_name out)) same)
leaves_unchanged (Refuses fault) out old new same = same
leaves_unchanged Unread out old new same = same

pub leaves_part : (found : Matches) (v : Matched) (out : List ℕ) (old mid new : Option (List File)) → mid ≡ old
    → IsPart found.text.items (told_file mid (match_name out)) (told_file new (match_name out)) → IsMatched (Ok found) v → LeavesMatch v out old new
leaves_part found (Writes text end) out old mid new same part h =
    subst (λ (t : List ℕ). IsPart t (told_file old (match_name out)) (told_file new (match_name out))) h.0
    (subst (λ (f : Option (List File)). IsPart found.text.items (told_file f (match_name out)) (told_file new (match_name out))) same part)
leaves_part found (Refuses fault) out old mid new same part h = absurd h
leaves_part found Unread out old mid new same part h = absurd h

pub writes_whole : (found : Matches) (v : Matched) (out : List ℕ) (old mid new : Option (List File)) → mid ≡ old
    → new ≡ told_put (match_name out) found.text.items mid → IsMatched (Ok found) v → WritesMatch v out old new
writes_whole found (Writes text end) out old mid new same put h = put ∙ (λ i. told_put (match_name out) (h.0 i) (same i))
writes_whole found (Refuses fault) out old mid new same put h = absurd h
writes_whole found Unread out old mid new same put h = absurd h
