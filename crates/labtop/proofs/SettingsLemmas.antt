-- What the front of a text of settings says of the whole text.
use Rattle.std.proofs.Common.{◌≡◌, ◌≤◌, ◌⊎◌, ℕ, ◌+◌, List, length, take, ap, sym, ◌∙◌, subst, inl, inr, arith, length-take}
use Rattle.std.specs.Prelude.{Option, Some, None, IfSome, IsSome, IsSomeAnd, Result, Ok, Err, IfOk, IfErr, IsErrOf}
use Rattle.std.proofs.lemmas.Bool.{cases_lt}
use Rattle.std.proofs.lemmas.List.{take_all}
use Rattle.scap_world.specs.Files.{File, file_of, told_file, IsThere}
use Rattle.scapconf.specs.declared.settings.Settings.{Settings}
use Rattle.scapconf.specs.declared.settings_error.SettingsError.{SettingsError}
use Rattle.scapconf.specs.declared.settings_error.SettingsError.TheVariants as errors
use Rattle.scapconf.specs.declared.settings_error.SettingsKind.{SettingsKind}
use Rattle.scapconf.specs.declared.status.Status.{Status}
use Rattle.scapconf.specs.declared.status.Status.TheVariants.{Done, Memory, Usage, Settings as Faulty, ReadFault, WriteFault, NotPcap, BadRecord, CutShort, TooLong, Unbuilt}
use Rattle.scapconf.specs.Causes.{status_for}
use Rattle.scapconf.specs.Faults.{IsFault}
use Rattle.scapconf.specs.Parser.{IsMemoryOrFault}
use Rattle.scapconf.specs.Says.{Reads}
use Rattle.scapconf.proofs.LawLemmas.{one_meaning, read_or_refused}
use Rattle.scapconf.specs.declared.limits.TheConstants.{LONGEST_TEXT}
use Rattle.labtop.specs.Answers.{IsOfDrill, RefusesSettings, RefusesText, TakesFew}
use Rattle.labtop.specs.Settings.{GoesBy, HasFault, MayGoBy}
use Rattle.labtop.proofs.ReadLemmas.{none_there}

-- a text with more bytes than are read is too long
read_whole : (text front : List ℕ) (s : Settings) → front ≡ take (LONGEST_TEXT + 1) text → Reads front s → Reads text s
read_whole text front s e h = elim (cases_lt LONGEST_TEXT (length text)) [
  | inl long ↦ absurd (omega (arith, h.short, ap length e, length-take (LONGEST_TEXT + 1) text))
  | inr short ↦ subst (λ (t : List ℕ). Reads t s) (e ∙ take_all (LONGEST_TEXT + 1) text (omega arith)) h
]

fault_whole : (text front : List ℕ) (n : ℕ) (k : SettingsKind) → front ≡ take (LONGEST_TEXT + 1) text → IsFault front n k → IsFault text n k
fault_whole text front n k e (inl long) = inl (omega (arith, long.0, ap length e, length-take (LONGEST_TEXT + 1) text), long.1, long.2)
fault_whole text front n k e (inr short) = subst (λ (t : List ℕ). IsFault t n k) (e ∙ take_all (LONGEST_TEXT + 1) text (omega (arith, short.0, ap length e, length-take (LONGEST_TEXT + 1) text))) (inr short)

goes_at : (o : Option (List ℕ)) (front : List ℕ) (s : Settings) → IsSome o → IfSome o (λ text. front ≡ take (LONGEST_TEXT + 1) text) → Reads front s → IsSomeAnd o (λ text. Reads text s)
goes_at None front s there e h = none_there there
goes_at (Some text) front s there e h = read_whole text front s e h

fault_at : (o : Option (List ℕ)) (front : List ℕ) (n : ℕ) (k : SettingsKind) → IsSome o → IfSome o (λ text. front ≡ take (LONGEST_TEXT + 1) text) → IsFault front n k → IsSomeAnd o (λ text. IsFault text n k)
fault_at None front n k there e h = none_there there
fault_at (Some text) front n k there e h = fault_whole text front n k e h

goes_by_read : (files : Option (List File)) (name front : List ℕ) (s : Settings) → IsThere files name → IfSome (told_file files name) (λ text. front ≡ take (LONGEST_TEXT + 1) text)
    → Reads front s → IfSome files (λ fs. GoesBy fs (Some name) s)
goes_by_read None name front s there e h = tt
goes_by_read (Some fs) name front s there e h = goes_at (file_of fs name) front s there e h

refused_at : (files : Option (List File)) (name front : List ℕ) (n : ℕ) (k : SettingsKind) → IsThere files name → IfSome (told_file files name) (λ text. front ≡ take (LONGEST_TEXT + 1) text)
    → IsFault front n k → IfSome files (λ fs. HasFault fs (Some name) n k)
refused_at None name front n k there e h = tt
refused_at (Some fs) name front n k there e h = fault_at (file_of fs name) front n k there e h

refused_by_read : (files : Option (List File)) (name front : List ℕ) (status : Status) → IsThere files name → IfSome (told_file files name) (λ text. front ≡ take (LONGEST_TEXT + 1) text)
    → RefusesText front status → RefusesSettings files (Some name) status
refused_by_read files name front Memory there e h = tt
refused_by_read files name front (Faulty n k) there e h = refused_at files name front n k there e h
refused_by_read files name front ReadFault there e h = absurd h
refused_by_read files name front Done there e h = absurd h
refused_by_read files name front WriteFault there e h = absurd h
refused_by_read files name front Usage there e h = absurd h
refused_by_read files name front (NotPcap kind) there e h = absurd h
refused_by_read files name front (BadRecord at len) there e h = absurd h
refused_by_read files name front (CutShort bytes) there e h = absurd h
refused_by_read files name front TooLong there e h = absurd h
refused_by_read files name front Unbuilt there e h = absurd h

pub goes_read : (files : Option (List File)) (name front : List ℕ) (r : Result Settings Status) → IsThere files name → IfSome (told_file files name) (λ text. front ≡ take (LONGEST_TEXT + 1) text)
    → IfOk r (Reads front) → IfOk r (λ s. IfSome files (λ fs. GoesBy fs (Some name) s))
goes_read files name front (Ok s) there e h = goes_by_read files name front s there e h
goes_read files name front (Err status) there e h = tt

pub may_read : (name front : List ℕ) (r : Result Settings Status) → IfOk r (Reads front) → IfOk r (λ s. MayGoBy (Some name) s)
may_read name front (Ok s) h = (front, h)
may_read name front (Err status) h = tt

pub refused_read : (files : Option (List File)) (name front : List ℕ) (r : Result Settings Status) → IsThere files name → IfSome (told_file files name) (λ text. front ≡ take (LONGEST_TEXT + 1) text)
    → IfErr r (RefusesText front) → IfErr r (RefusesSettings files (Some name))
refused_read files name front (Ok s) there e h = tt
refused_read files name front (Err status) there e h = refused_by_read files name front status there e h

pub never_read : (X : Type 0) (front : List ℕ) (r : Result Settings Status) → IfErr r (RefusesText front) → IsErrOf r ReadFault → X
never_read X front r h e = absurd (let P : Result Settings Status → Type 0 = λ x. IfErr x (RefusesText front) in subst P e h)

-- What is taken of the file

few_of : (s : Status) (name : List ℕ) (taken : List ℕ → ℕ) → taken name ≤ LONGEST_TEXT + 1 → TakesFew s (Some name) taken
few_of Done name taken h = tt
few_of Memory name taken h = tt
few_of Usage name taken h = tt
few_of (Faulty n kind) name taken h = h
few_of ReadFault name taken h = tt
few_of WriteFault name taken h = tt
few_of (NotPcap kind) name taken h = tt
few_of (BadRecord at len) name taken h = tt
few_of (CutShort bytes) name taken h = tt
few_of TooLong name taken h = tt
few_of Unbuilt name taken h = tt

some_of : (files : Option (List File)) (P Q : Type 0) → (P → Q) → IfSome files (λ _. P) → IfSome files (λ _. Q)
some_of None P Q f p = tt
some_of (Some fs) P Q f p = f p

some_all : (files : Option (List File)) (P : Type 0) → P → IfSome files (λ _. P)
some_all None P p = tt
some_all (Some fs) P p = p

-- where it was read
pub few_read : (files : Option (List File)) (name : List ℕ) (taken : List ℕ → ℕ) (r : Result Settings Status) → IfSome files (λ _. taken name ≤ LONGEST_TEXT + 1)
    → IfErr r (λ e. IfSome files (λ _. TakesFew e (Some name) taken))
few_read files name taken (Ok s) h = tt
few_read files name taken (Err e) h = some_of files (taken name ≤ LONGEST_TEXT + 1) (TakesFew e (Some name) taken) (few_of e name taken) h

-- and where it wasn't
few_at : (files : Option (List File)) (name : Option (List ℕ)) (taken : List ℕ → ℕ) (e : Status) → (e ≡ Memory) ⊎ (e ≡ ReadFault) → IfSome files (λ _. TakesFew e name taken)
few_at files name taken e (inl m) = some_all files (TakesFew e name taken) (subst (λ (s : Status). TakesFew s name taken) (sym m) tt)
few_at files name taken e (inr r) = some_all files (TakesFew e name taken) (subst (λ (s : Status). TakesFew s name taken) (sym r) tt)

pub few_unread : (files : Option (List File)) (name : Option (List ℕ)) (taken : List ℕ → ℕ) (r : Result Settings Status) → IfErr r (λ e. (e ≡ Memory) ⊎ (e ≡ ReadFault))
    → IfErr r (λ e. IfSome files (λ _. TakesFew e name taken))
few_unread files name taken (Ok s) h = tt
few_unread files name taken (Err e) h = few_at files name taken e h

-- a drill behind its settings
pub few_behind : (files : Option (List File)) (s : Status) (name : Option (List ℕ)) (taken : List ℕ → ℕ) → IsOfDrill s → IfSome files (λ _. TakesFew s name taken)
few_behind files Done name taken k = some_all files (Unit {0}) tt
few_behind files Memory name taken k = some_all files (Unit {0}) tt
few_behind files Usage name taken k = absurd k
few_behind files (Faulty n kind) name taken k = absurd k
few_behind files ReadFault name taken k = some_all files (Unit {0}) tt
few_behind files WriteFault name taken k = some_all files (Unit {0}) tt
few_behind files (NotPcap kind) name taken k = some_all files (Unit {0}) tt
few_behind files (BadRecord at len) name taken k = absurd k
few_behind files (CutShort bytes) name taken k = absurd k
few_behind files TooLong name taken k = absurd k
few_behind files Unbuilt name taken k = some_all files (Unit {0}) tt

-- and one that goes by none
pub few_without : (files : Option (List File)) (status s : Status) (name : Option (List ℕ)) (taken : List ℕ → ℕ) → status ≡ s → IfSome files (λ _. TakesFew s name taken) → IfSome files (λ _. TakesFew status name taken)
few_without files status s name taken e h = subst (λ (t : Status). IfSome files (λ _. TakesFew t name taken)) (sym e) h

-- a text's refusal as a status
pub refused_as : (text : List ℕ) (error : SettingsError) (status : Status) → status ≡ status_for error → IsMemoryOrFault (IsFault text) error → RefusesText text status
refused_as text errors.Memory status is h = subst (RefusesText text) (sym is) tt
refused_as text (errors.Fault n k) status is h = subst (RefusesText text) (sym is) h

-- of one text there are one settings, and none where it has a fault
same_at : (o : Option (List ℕ)) (s t : Settings) → IsSomeAnd o (λ text. Reads text s) → IsSomeAnd o (λ text. Reads text t) → s ≡ t
same_at None s t g h = absurd g
same_at (Some text) s t g h = one_meaning text s t g h

pub same_settings : (files : List File) (name : Option (List ℕ)) (s t : Settings) → GoesBy files name s → GoesBy files name t → s ≡ t
same_settings files None s t g h = g ∙ sym h
same_settings files (Some n) s t g h = same_at (file_of files n) s t g h

faultless_at : (o : Option (List ℕ)) (s : Settings) (n : ℕ) (k : SettingsKind) → IsSomeAnd o (λ text. Reads text s) → IsSomeAnd o (λ text. IsFault text n k) → ⊥
faultless_at None s n k g h = g
faultless_at (Some text) s n k g h = read_or_refused text s n k g h

pub faultless : (files : List File) (name : Option (List ℕ)) (s : Settings) (n : ℕ) (k : SettingsKind) → GoesBy files name s → HasFault files name n k → ⊥
faultless files None s n k g h = h
faultless files (Some m) s n k g h = faultless_at (file_of files m) s n k g h
