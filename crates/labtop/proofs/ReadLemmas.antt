use Rattle.std.proofs.Common.{◌≡◌, refl, ℕ, ◌+◌, ◌≤◌, ◌<◌, ◌⊎◌, inl, inr, List, [], ◌++◌, length, take, drop, ap, sym, ◌∙◌, subst, append_assoc, append-nil, arith, Bool, true, false, cond}
use Rattle.std.specs.Prelude.{Option, Some, None, IfSome, IsSome, IsOk, Result, Ok, Err}
use Rattle.std.proofs.lemmas.List.{take-append-drop, take_all, take_at}
use Rattle.scap_world.specs.Contents.{prefixed, dropped}
use Rattle.labtop.specs.declared.limits.TheConstants.{MOST_BUILT}
use Rattle.pcapfile.specs.declared.head.FileHead.{FileHead}
use Rattle.pcapfile.specs.declared.head_fault.HeadFault.{HeadFault}
use Rattle.pcapfile.specs.Capture.{behind_head}
use Rattle.pcapfile.specs.Head.{head_of}
use Rattle.scap_world.specs.declared.fault.WorldFault.{WorldFault}
use Rattle.scap_world.specs.declared.fault.WorldFault.TheVariants.{Memory as OutsideMemory, Failed}
use Rattle.scapconf.specs.declared.status.Status.TheVariants.{ReadFault}
use Rattle.labtop.specs.Causes.{reads_status}
use Rattle.labtop.specs.Drill.{NotBuilt, Refused, asked_of, limits, of_capture, verdict_of}
use Rattle.labtop.specs.Heads.{IsBehindHead}
use Rattle.labtop.specs.Settings.{is_built}
use Rattle.scap_world.specs.Files.{File, file_of, told_file, IsThere}
use Rattle.scapconf.specs.declared.status.Status.{Status}
use Rattle.scapconf.specs.declared.settings.Settings.{Settings}
use Rattle.labtop.proofs.HeadLemmas.{head_of-append}
use Rattle.labtop.proofs.VerdictLemmas.{verdict_of-take}

-- a read moves the front of what is left behind what was read
pub prefixed-moved : (left now : Option (List ℕ)) (front more buffer : List ℕ) (n : ℕ) (T : Type 0) → now ≡ dropped n left
    → IfSome left (λ b. (n ≤ length b) × (take n buffer ≡ take n b) × T) → more ≡ front ++ take n buffer
    → prefixed front left ≡ prefixed more now
prefixed-moved None now front more buffer n T d h m = sym (ap (prefixed more) d)
prefixed-moved (Some b) now front more buffer n T d h m =
    ap Some (ap (λ (r : List ℕ). front ++ r) (sym (take-append-drop n b)) ∙ sym (append_assoc front (take n b) (drop n b))
    ∙ ap (λ (r : List ℕ). (front ++ r) ++ drop n b) (sym (h.1)) ∙ ap (λ (r : List ℕ). r ++ drop n b) (sym m))
    ∙ sym (ap (prefixed more) d)

-- where nothing is left, all was read
pub read_all : (whole left : Option (List ℕ)) (bytes : List ℕ) (m : ℕ) → whole ≡ prefixed bytes left → length bytes ≤ m → IfSome left (λ b. b ≡ [])
    → IfSome whole (λ w. bytes ≡ take m w)
read_all whole None bytes m e le h = subst (λ (o : Option (List ℕ)). IfSome o (λ w. bytes ≡ take m w)) (sym e) tt
read_all whole (Some b) bytes m e le h =
    subst (λ (o : Option (List ℕ)). IfSome o (λ w. bytes ≡ take m w)) (sym e)
    (let same : bytes ++ b ≡ bytes = ap (λ (r : List ℕ). bytes ++ r) h ∙ append-nil bytes in sym (ap (take m) same ∙ take_all m bytes le))

-- where the most was read, it is the front of all
pub read_most : (whole left : Option (List ℕ)) (bytes : List ℕ) (m : ℕ) → whole ≡ prefixed bytes left → length bytes ≡ m
    → IfSome whole (λ w. bytes ≡ take m w)
read_most whole None bytes m e le = subst (λ (o : Option (List ℕ)). IfSome o (λ w. bytes ≡ take m w)) (sym e) tt
read_most whole (Some b) bytes m e le = subst (λ (o : Option (List ℕ)). IfSome o (λ w. bytes ≡ take m w)) (sym e) (sym (take_at bytes b m le))

-- what was read of a file asks for what the file asks for

pub none_there : {A : Type 0} → false ≡ true → A
none_there e = absurd (subst (λ (b : Bool). cond b ⊥ (Unit {0})) e tt)

asked_at : (s : Settings) (o : Option (List ℕ)) (bytes : List ℕ) → is_built s ≡ true → IsSome o → IfSome o (λ file. verdict_of s file ≡ verdict_of s bytes)
    → asked_of s o ≡ verdict_of s bytes
asked_at s None bytes built there h = none_there there
asked_at s (Some file) bytes built there h =
    ap (λ (b : Bool). cond b (verdict_of s file) NotBuilt) built ∙ h

pub asked_read : (s : Settings) (files : Option (List File)) (name bytes : List ℕ) → is_built s ≡ true → IsThere files name
    → IfSome (told_file files name) (λ file. verdict_of s file ≡ verdict_of s bytes) → IfSome files (λ fs. asked_of s (file_of fs name) ≡ verdict_of s bytes)
asked_read s None name bytes built there h = tt
asked_read s (Some fs) name bytes built there h = asked_at s (file_of fs name) bytes built there h

pub asked_left : (s : Settings) (files mid : Option (List File)) (name bytes : List ℕ) (left : Option (List ℕ)) → is_built s ≡ true → mid ≡ files → IsThere mid name → left ≡ told_file files name
    → IfSome left (λ file. verdict_of s file ≡ verdict_of s bytes) → IfSome files (λ fs. asked_of s (file_of fs name) ≡ verdict_of s bytes)
asked_left s files mid name bytes left built same there e h =
    asked_read s files name bytes built (subst (λ (x : Option (List File)). IsThere x name) same there) (subst (λ (o : Option (List ℕ)). IfSome o (λ file. verdict_of s file ≡ verdict_of s bytes)) e h)

-- What a read takes, behind what was taken.

-- what holds of all bytes holds of those that are left, where none came before
pub from_first : (left : Option (List ℕ)) (P : List ℕ → Type 0) → IfSome (prefixed [] left) P → IfSome left P
from_first None P h = tt
from_first (Some bytes) P h = h

some_none : {A : Type 0} {X : Type 0} (a : A) → Some a ≡ None → X
some_none a e = cc

pub taken_on : (whole left : Option (List ℕ)) (front : List ℕ) (a b c m n k : ℕ) → whole ≡ prefixed front left → IfSome whole (λ _. b ≡ a + m) → IfSome left (λ _. c ≡ b + n) → k ≡ m + n
    → IfSome whole (λ _. c ≡ a + k)
taken_on None left front a b c m n k e h t s = tt
taken_on (Some w) None front a b c m n k e h t s = some_none w e
taken_on (Some w) (Some l) front a b c m n k e h t s = omega (arith, h, t, s)

-- the same behind bytes that were there
pub taken_behind : (whole left : Option (List ℕ)) (front more : List ℕ) (l a b c m n k : ℕ) → prefixed front whole ≡ prefixed more left → IfSome whole (λ _. b + l ≡ a + m) → IfSome left (λ _. c ≡ b + n)
    → k ≡ m + n → IfSome whole (λ _. c + l ≡ a + k)
taken_behind None left front more l a b c m n k e h t s = tt
taken_behind (Some w) None front more l a b c m n k e h t s = some_none (front ++ w) e
taken_behind (Some w) (Some r) front more l a b c m n k e h t s = omega (arith, h, t, s)

-- nothing more is taken
pub taken_still : (whole left : Option (List ℕ)) (front : List ℕ) (a b c m n : ℕ) → whole ≡ prefixed front left → IfSome whole (λ _. b ≡ a + m) → c ≡ b → m < n → IfSome whole (λ _. c < a + n)
taken_still None left front a b c m n e h t s = tt
taken_still (Some w) left front a b c m n e h t s = omega (arith, h, t, s)

-- The head of a capture.

-- a refused head decides
refused_verdict : (s : Settings) (file : List ℕ) (kind : HeadFault) → head_of file ≡ Err kind → verdict_of s file ≡ Refused kind
unfolding verdict_of
refused_verdict s file kind h = ap (λ (r : Result FileHead HeadFault). of_capture s (length file) (behind_head limits file r)) h

pub head_of-front : (front rest : List ℕ) → (24 ≤ length front) ⊎ (rest ≡ []) → head_of (front ++ rest) ≡ head_of front
head_of-front front rest (inl whole) = head_of-append front rest whole
head_of-front front rest (inr none) = ap (λ (r : List ℕ). head_of (front ++ r)) none ∙ ap head_of (append-nil front)

rest_none : (mid : Option (List ℕ)) (rest : List ℕ) (A : Type 0) → mid ≡ Some rest → A ⊎ IfSome mid (λ r. r ≡ []) → A ⊎ (rest ≡ [])
rest_none mid rest A e (inl a) = inl a
rest_none mid rest A e (inr none) = inr (subst (λ (o : Option (List ℕ)). IfSome o (λ r. r ≡ [])) e none)

pub enough_refused : (s : Settings) (left mid : Option (List ℕ)) (front : List ℕ) (kind : HeadFault) → left ≡ prefixed front mid → head_of front ≡ Err kind
    → (24 ≤ length front) ⊎ IfSome mid (λ rest. rest ≡ []) → IfSome left (λ file. verdict_of s file ≡ verdict_of s front)
enough_refused s None mid front kind e h w = tt
enough_refused s (Some file) None front kind e h w = some_none file e
enough_refused s (Some file) (Some rest) front kind e h w =
    subst (λ (o : Option (List ℕ)). IfSome o (λ f. verdict_of s f ≡ verdict_of s front)) (sym e)
    (refused_verdict s (front ++ rest) kind (head_of-front front rest (rest_none (Some rest) rest (24 ≤ length front) refl w) ∙ h) ∙ sym (refused_verdict s front kind h))

-- the bytes up to one past the most are enough
pub enough_front : (s : Settings) (left mid : Option (List ℕ)) (front bytes : List ℕ) → left ≡ prefixed front mid → IfSome (prefixed front mid) (λ file. bytes ≡ take (MOST_BUILT + 1) file)
    → IfSome left (λ file. verdict_of s file ≡ verdict_of s bytes)
enough_front s left None front bytes e h = subst (λ (o : Option (List ℕ)). IfSome o (λ f. verdict_of s f ≡ verdict_of s bytes)) (sym e) tt
enough_front s left (Some rest) front bytes e h =
    subst (λ (o : Option (List ℕ)). IfSome o (λ f. verdict_of s f ≡ verdict_of s bytes)) (sym e)
    (sym (ap (verdict_of s) h ∙ verdict_of-take s (front ++ rest)))

-- behind a head that isn't refused
pub behind_head_is : (left mid : Option (List ℕ)) (front : List ℕ) (head : FileHead) (A : Type 0) → left ≡ prefixed front mid → head_of front ≡ Ok head → 24 ≤ length front
    → IfSome left (λ file. A ⊎ IsOk (head_of file))
behind_head_is left None front head A e h w = subst (λ (o : Option (List ℕ)). IfSome o (λ file. A ⊎ IsOk (head_of file))) (sym e) tt
behind_head_is left (Some rest) front head A e h w =
    subst (λ (o : Option (List ℕ)). IfSome o (λ file. A ⊎ IsOk (head_of file))) (sym e)
    (inr (subst IsOk (sym (head_of-append front rest w ∙ h)) refl))

pub failed_of : (fault : WorldFault) (status : Status) → status ≡ reads_status fault → status ≡ ReadFault → fault ≡ Failed
failed_of OutsideMemory status e h = absurd (subst IsReadFault (sym h ∙ e) tt)
  where
    IsReadFault : Status → Type 0
    IsReadFault ReadFault = Unit {0}
    IsReadFault _ = ⊥
failed_of Failed status e h = refl

pub opened_not : (files : Option (List File)) (name : List ℕ) (t : ℕ) → t ≡ 0 → IfSome files (λ fs. IsBehindHead (file_of fs name) t)
opened_not None name t e = tt
opened_not (Some fs) name t e = by (file_of fs name)
  where
    by : (o : Option (List ℕ)) → IsBehindHead o t
    by None = tt
    by (Some file) = inl (omega (arith, e))

pub failed_behind : (files mid : Option (List File)) (name : List ℕ) (left : Option (List ℕ)) (a b t : ℕ) → mid ≡ files → left ≡ told_file files name → a ≡ 0 → IfSome mid (λ _. t ≡ b)
    → IfSome left (λ file. (b < a + 24) ⊎ IsOk (head_of file)) → IfSome files (λ fs. IsBehindHead (file_of fs name) t)
failed_behind None mid name left a b t same e z k h = tt
failed_behind (Some fs) None name left a b t same e z k h = some_none fs (sym same)
failed_behind (Some fs) (Some ms) name left a b t same e z k h = by (file_of fs name) (subst (λ (o : Option (List ℕ)). IfSome o (λ file. (b < a + 24) ⊎ IsOk (head_of file))) e h)
  where
    by : (o : Option (List ℕ)) → IfSome o (λ file. (b < a + 24) ⊎ IsOk (head_of file)) → IsBehindHead o t
    by None h = tt
    by (Some file) (inl few) = inl (omega (arith, few, k, z))
    by (Some file) (inr ok) = inr ok
