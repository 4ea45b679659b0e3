-- The answers of a drill by the settings of a file.
use Rattle.std.proofs.Common.{◌≡◌, ℕ, ◌≤◌, List, refl, sym, ◌∙◌, subst, ◌⊎◌, inl, inr, true, arith}
use Rattle.std.specs.Prelude.{Option, Some, None, IfSome}
use Rattle.histbook.specs.declared.journal.Journal.{Journal}
use Rattle.scap_world.specs.Causes.{Rose}
use Rattle.scap_world.specs.Files.{File, file_of}
use Rattle.scapconf.specs.declared.settings.Settings.{Settings}
use Rattle.scapconf.specs.declared.status.Status.{Status}
use Rattle.scapconf.specs.declared.status.Status.TheVariants.{Done, Memory, Usage, Settings as Faulty, ReadFault, WriteFault, NotPcap, BadRecord, CutShort, TooLong, Unbuilt}
use Rattle.labtop.specs.Answers.{Allows, By, Completes, IsAnswer, IsDone, IsDoneBy, IsOfDrill, IsOfDrillBy, LeavesBy, LeavesParts, RefusesSettings}
use Rattle.labtop.specs.Drill.{Verdict, Delivers, Refused, NotBuilt, Missing, asked_of}
use Rattle.labtop.specs.Heads.{IsBehindHead}
use Rattle.labtop.specs.Settings.{GoesBy, is_built, terms_of}
use Rattle.labtop.proofs.SettingsLemmas.{faultless, same_settings}

answer_at : (s : Settings) (files : List File) (name : Option (List ℕ)) (capture : List ℕ) (status : Status) → GoesBy files name s → IsOfDrill status
    → Allows (asked_of s (file_of files capture)) status → IsAnswer files name capture status
answer_at s files name capture Done g k a = (s, g, a)
answer_at s files name capture Memory g k a = tt
answer_at s files name capture Usage g k a = absurd k
answer_at s files name capture (Faulty n kind) g k a = absurd k
answer_at s files name capture ReadFault g k a = tt
answer_at s files name capture WriteFault g k a = (s, g, a)
answer_at s files name capture (NotPcap kind) g k a = (s, g, a)
answer_at s files name capture (BadRecord at len) g k a = absurd k
answer_at s files name capture (CutShort bytes) g k a = absurd k
answer_at s files name capture TooLong g k a = absurd k
answer_at s files name capture Unbuilt g k a = (s, g, a)

-- two facts on the files of a shelf that tells them
both_told : (A B C : List File → Type 0) (files mid : Option (List File)) → mid ≡ files → ((fs : List File) → A fs → B fs → C fs) → IfSome files A → IfSome mid B → IfSome files C
both_told A B C None mid e f a b = tt
both_told A B C (Some fs) mid e f a b = f fs a (let P : Option (List File) → Type 0 = λ x. IfSome x B in subst P e b)

pub told_few : (files mid : Option (List File)) (P : Type 0) → mid ≡ files → IfSome mid (λ _. P) → IfSome files (λ _. P)
told_few files mid P e h = subst (λ (x : Option (List File)). IfSome x (λ _. P)) e h

pub answer_by : (s : Settings) (files mid : Option (List File)) (name : Option (List ℕ)) (capture : List ℕ) (status : Status) → mid ≡ files → IfSome files (λ fs. GoesBy fs name s) → IsOfDrill status
    → IfSome mid (λ fs. Allows (asked_of s (file_of fs capture)) status) → IfSome files (λ fs. IsAnswer fs name capture status)
answer_by s files mid name capture status e g k a =
    both_told (λ fs. GoesBy fs name s) (λ fs. Allows (asked_of s (file_of fs capture)) status) (λ fs. IsAnswer fs name capture status) files mid e
    (λ fs goes allowed. answer_at s fs name capture status goes k allowed) g a

pub done_by : (s : Settings) (files mid new : Option (List File)) (name : Option (List ℕ)) (capture out : List ℕ) (journal : Journal) → mid ≡ files → IfSome files (λ fs. GoesBy fs name s)
    → IfSome mid (λ fs. IsDone (terms_of s) (asked_of s (file_of fs capture)) out journal mid new) → IfSome files (λ fs. IsDoneBy fs name capture out journal files new)
done_by s files mid new name capture out journal e g d =
    both_told (λ fs. GoesBy fs name s) (λ fs. IsDone (terms_of s) (asked_of s (file_of fs capture)) out journal mid new) (λ fs. IsDoneBy fs name capture out journal files new) files mid e
    (λ fs goes done. (s, goes, let P : Option (List File) → Type 0 = λ x. IsDone (terms_of s) (asked_of s (file_of fs capture)) out journal x new in subst P e done)) g d

pub parts_by : (s : Settings) (files mid new : Option (List File)) (name : Option (List ℕ)) (capture out : List ℕ) → mid ≡ files → IfSome files (λ fs. GoesBy fs name s)
    → IfSome mid (λ fs. LeavesParts (terms_of s) (asked_of s (file_of fs capture)) out mid new) → IfSome files (λ fs. LeavesBy fs name capture out files new)
parts_by s files mid new name capture out e g d =
    both_told (λ fs. GoesBy fs name s) (λ fs. LeavesParts (terms_of s) (asked_of s (file_of fs capture)) out mid new) (λ fs. LeavesBy fs name capture out files new) files mid e
    (λ fs goes parts. inr (s, goes, let P : Option (List File) → Type 0 = λ x. LeavesParts (terms_of s) (asked_of s (file_of fs capture)) out x new in subst P e parts)) g d

pub parts_same : (files new : Option (List File)) (name : Option (List ℕ)) (capture out : List ℕ) → new ≡ files → IfSome files (λ fs. LeavesBy fs name capture out files new)
parts_same None new name capture out e = tt
parts_same (Some fs) new name capture out e = inl e

refusal_at : (files : List File) (name : Option (List ℕ)) (capture : List ℕ) (status : Status) → RefusesSettings (Some files) name status → IsAnswer files name capture status
refusal_at files name capture Memory h = tt
refusal_at files name capture ReadFault h = tt
refusal_at files (Some name) capture (Faulty n kind) h = h
refusal_at files None capture (Faulty n kind) h = absurd h
refusal_at files None capture Done h = absurd h
refusal_at files None capture Usage h = absurd h
refusal_at files None capture WriteFault h = absurd h
refusal_at files None capture (NotPcap kind) h = absurd h
refusal_at files None capture (BadRecord at len) h = absurd h
refusal_at files None capture (CutShort bytes) h = absurd h
refusal_at files None capture TooLong h = absurd h
refusal_at files None capture Unbuilt h = absurd h
refusal_at files (Some name) capture Done h = absurd h
refusal_at files (Some name) capture Usage h = absurd h
refusal_at files (Some name) capture WriteFault h = absurd h
refusal_at files (Some name) capture (NotPcap kind) h = absurd h
refusal_at files (Some name) capture (BadRecord at len) h = absurd h
refusal_at files (Some name) capture (CutShort bytes) h = absurd h
refusal_at files (Some name) capture TooLong h = absurd h
refusal_at files (Some name) capture Unbuilt h = absurd h

pub refusal : (files : Option (List File)) (name : Option (List ℕ)) (capture : List ℕ) (status end : Status) → end ≡ status → RefusesSettings files name status → IfSome files (λ fs. IsAnswer fs name capture end)
refusal None name capture status end e h = tt
refusal (Some fs) name capture status end e h = let P : Status → Type 0 = IsAnswer fs name capture in subst P (sym e) (refusal_at fs name capture status h)

-- The statuses of a drill.

kinds_named : (name : List ℕ) (status : Status) → IsOfDrill status → IsOfDrillBy (Some name) status
kinds_named name Done h = tt
kinds_named name Memory h = tt
kinds_named name ReadFault h = tt
kinds_named name WriteFault h = tt
kinds_named name (NotPcap kind) h = tt
kinds_named name Unbuilt h = tt
kinds_named name Usage h = absurd h
kinds_named name (Faulty n kind) h = absurd h
kinds_named name (BadRecord at len) h = absurd h
kinds_named name (CutShort bytes) h = absurd h
kinds_named name TooLong h = absurd h

pub kinds_by : (name : Option (List ℕ)) (status : Status) → IsOfDrill status → IsOfDrillBy name status
kinds_by None status h = h
kinds_by (Some name) status h = kinds_named name status h

refused_kind : (files : Option (List File)) (name : Option (List ℕ)) (status : Status) → RefusesSettings files name status → IsOfDrillBy name status
refused_kind files None Memory h = tt
refused_kind files (Some name) Memory h = tt
refused_kind files (Some name) ReadFault h = tt
refused_kind files (Some name) (Faulty n kind) h = tt
refused_kind files None ReadFault h = tt
refused_kind files None (Faulty n kind) h = absurd h
refused_kind files None Done h = tt
refused_kind files None Usage h = absurd h
refused_kind files None WriteFault h = tt
refused_kind files None (NotPcap kind) h = tt
refused_kind files None (BadRecord at len) h = absurd h
refused_kind files None (CutShort bytes) h = absurd h
refused_kind files None TooLong h = absurd h
refused_kind files None Unbuilt h = tt
refused_kind files (Some name) Done h = tt
refused_kind files (Some name) Usage h = absurd h
refused_kind files (Some name) WriteFault h = tt
refused_kind files (Some name) (NotPcap kind) h = tt
refused_kind files (Some name) (BadRecord at len) h = absurd h
refused_kind files (Some name) (CutShort bytes) h = absurd h
refused_kind files (Some name) TooLong h = absurd h
refused_kind files (Some name) Unbuilt h = tt

pub refused_kinds : (files : Option (List File)) (name : Option (List ℕ)) (status end : Status) → end ≡ status → RefusesSettings files name status → IsOfDrillBy name end
refused_kinds files name status end e h = subst (IsOfDrillBy name) (sym e) (refused_kind files name status h)

-- what a refusal is not
pub refusal_not : (X : Type 0) (files : Option (List File)) (name : Option (List ℕ)) (status end other : Status) → end ≡ status → RefusesSettings files name status → (RefusesSettings files name other → ⊥) → end ≡ other → X
refusal_not X files name status end other e h never is = absurd (never (let P : Status → Type 0 = RefusesSettings files name in subst P (sym e ∙ is) h))

pub done_refused : (files : Option (List File)) (name : Option (List ℕ)) → RefusesSettings files name Done → ⊥
done_refused files None h = h
done_refused files (Some name) h = h

pub write_refused : (files : Option (List File)) (name : Option (List ℕ)) → RefusesSettings files name WriteFault → ⊥
write_refused files None h = h
write_refused files (Some name) h = h

pub rose_since : (a b c : ℕ) → a ≤ b → Rose b c → Rose a c
rose_since a b c le h = omega arith

-- Completeness follows from the answer and the causes.

completes_allowed : (v : Verdict) (status : Status) → Allows v status → (status ≡ ReadFault → ⊥) → (status ≡ WriteFault → ⊥) → Completes v status
completes_allowed (Delivers c) Memory a r w = tt
completes_allowed (Delivers c) ReadFault a r w = absurd (r refl)
completes_allowed (Delivers c) WriteFault a r w = absurd (w refl)
completes_allowed (Delivers c) Done a r w = tt
completes_allowed (Delivers c) Usage a r w = absurd a
completes_allowed (Delivers c) (Faulty n k) a r w = absurd a
completes_allowed (Delivers c) (NotPcap kind) a r w = absurd a
completes_allowed (Delivers c) (BadRecord at len) a r w = absurd a
completes_allowed (Delivers c) (CutShort bytes) a r w = absurd a
completes_allowed (Delivers c) TooLong a r w = absurd a
completes_allowed (Delivers c) Unbuilt a r w = absurd a
completes_allowed (Refused fault) status a r w = tt
completes_allowed NotBuilt status a r w = tt
completes_allowed Missing status a r w = tt

by_same : (files : List File) (name : Option (List ℕ)) (capture : List ℕ) (status : Status) → By files name (λ s. Allows (asked_of s (file_of files capture)) status)
    → (s : Settings) → GoesBy files name s → Allows (asked_of s (file_of files capture)) status
by_same files name capture status h s g = let P : Settings → Type 0 = λ t. Allows (asked_of t (file_of files capture)) status in subst P (same_settings files name h.0 s h.1 g) h.2

allowed_by : (files : List File) (name : Option (List ℕ)) (capture : List ℕ) (status : Status) → IsAnswer files name capture status
    → (s : Settings) → GoesBy files name s → Allows (asked_of s (file_of files capture)) status
allowed_by files name capture Memory h s g = tt
allowed_by files name capture ReadFault h s g = tt
allowed_by files name capture (Faulty n k) h s g = absurd (faultless files name s n k g h)
allowed_by files name capture Usage h s g = by_same files name capture Usage h s g
allowed_by files name capture Done h s g = by_same files name capture Done h s g
allowed_by files name capture WriteFault h s g = by_same files name capture WriteFault h s g
allowed_by files name capture (NotPcap kind) h s g = by_same files name capture (NotPcap kind) h s g
allowed_by files name capture (BadRecord at len) h s g = by_same files name capture (BadRecord at len) h s g
allowed_by files name capture (CutShort bytes) h s g = by_same files name capture (CutShort bytes) h s g
allowed_by files name capture TooLong h s g = by_same files name capture TooLong h s g
allowed_by files name capture Unbuilt h s g = by_same files name capture Unbuilt h s g

pub complete_by : (files : Option (List File)) (name : Option (List ℕ)) (capture : List ℕ) (status : Status) → IfSome files (λ fs. IsAnswer fs name capture status)
    → (status ≡ ReadFault → ⊥) → (status ≡ WriteFault → ⊥) → IfSome files (λ fs. (s : Settings) → GoesBy fs name s → Completes (asked_of s (file_of fs capture)) status)
complete_by None name capture status h r w = tt
complete_by (Some fs) name capture status h r w = λ s g. completes_allowed (asked_of s (file_of fs capture)) status (allowed_by fs name capture status h s g) r w

pub complete_run : (p : Settings) (files : Option (List File)) (capture : List ℕ) (status : Status) → IfSome files (λ fs. Allows (asked_of p (file_of fs capture)) status)
    → (status ≡ ReadFault → ⊥) → (status ≡ WriteFault → ⊥) → IfSome files (λ fs. Completes (asked_of p (file_of fs capture)) status)
complete_run p None capture status h r w = tt
complete_run p (Some fs) capture status h r w = completes_allowed (asked_of p (file_of fs capture)) status h r w

-- one of two
pub neither : (A B : Type 0) → (A → ⊥) → (B → ⊥) → A ⊎ B → ⊥
neither A B a b (inl x) = a x
neither A B a b (inr x) = b x

-- a fault of reading behind the settings
pub read_behind : (s : Settings) (files mid : Option (List File)) (name : Option (List ℕ)) (capture : List ℕ) (A : Type 0) (a b c t : ℕ) → a ≤ b → mid ≡ files
    → IfSome files (λ fs. GoesBy fs name s) → Rose b c × (is_built s ≡ true) × IfSome mid (λ fs. IsBehindHead (file_of fs capture) t)
    → A ⊎ (Rose a c × IfSome files (λ fs. By fs name (λ u. is_built u ≡ true) × IsBehindHead (file_of fs capture) t))
read_behind s files mid name capture A a b c t le e g h = inr (
  rose_since a b c le h.0,
  both_told (λ fs. GoesBy fs name s) (λ fs. IsBehindHead (file_of fs capture) t) (λ fs. By fs name (λ u. is_built u ≡ true) × IsBehindHead (file_of fs capture) t) files mid e
      (λ fs goes behind. ((s, goes, h.1), behind)) g h.2,
)

pub either_since : (a b c d e f : ℕ) → a ≤ b → d ≤ e → Rose b c ⊎ Rose e f → Rose a c ⊎ Rose d f
either_since a b c d e f l m (inl h) = inl (rose_since a b c l h)
either_since a b c d e f l m (inr h) = inr (rose_since d e f m h)
