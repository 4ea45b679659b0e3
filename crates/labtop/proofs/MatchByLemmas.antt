-- The answers of a match by the text of its filter.
use Rattle.std.proofs.Common.{◌≡◌, ℕ, List, refl, sym, subst, inl, inr}
use Rattle.std.specs.Prelude.{Option, Some, None, IfSome}
use Rattle.capfilter.specs.Expr.{Expr}
use Rattle.capfilter.specs.Faults.{Reads}
use Rattle.scap_world.specs.Files.{File, file_of}
use Rattle.scapconf.specs.declared.status.Status.{Status}
use Rattle.scapconf.specs.declared.status.Status.TheVariants.{Done, Memory, Usage, Settings as Faulty, ReadFault, WriteFault, NotPcap, BadRecord, CutShort, TooLong, Unbuilt}
use Rattle.labtop.specs.MatchAnswers.{CompletesMatched, IsMatchAnswer, IsOfMatch, IsWritten, LeavesMatched, RefusesFilter, no_filter}
use Rattle.labtop.specs.Matching.{Matched, Writes, Refuses, Unread, matched_of, AllowsMatch, CompletesMatch, IsForeign, LeavesMatch, WritesMatch}

answer_at : (e : Expr) (files : List File) (filter capture : List ℕ) (s : Status) → Reads filter e → (IsForeign s → ⊥) → AllowsMatch (matched_of e (file_of files capture)) s
    → IsMatchAnswer files filter capture s
answer_at e files filter capture Memory r f a = tt
answer_at e files filter capture ReadFault r f a = tt
answer_at e files filter capture Usage r f a = absurd (f tt)
answer_at e files filter capture Unbuilt r f a = absurd (f tt)
answer_at e files filter capture (Faulty line kind) r f a = absurd (f tt)
answer_at e files filter capture Done r f a = (e, r, a)
answer_at e files filter capture WriteFault r f a = (e, r, a)
answer_at e files filter capture (NotPcap kind) r f a = (e, r, a)
answer_at e files filter capture (BadRecord at len) r f a = (e, r, a)
answer_at e files filter capture (CutShort bytes) r f a = (e, r, a)
answer_at e files filter capture TooLong r f a = (e, r, a)

pub kinds_of_match : (e : Expr) (filter : List ℕ) (s : Status) → Reads filter e → (IsForeign s → ⊥) → IsOfMatch filter s
kinds_of_match e filter Memory r f = tt
kinds_of_match e filter Usage r f = absurd (f tt)
kinds_of_match e filter Unbuilt r f = absurd (f tt)
kinds_of_match e filter (Faulty line kind) r f = absurd (f tt)
kinds_of_match e filter ReadFault r f = (e, r, tt)
kinds_of_match e filter Done r f = (e, r, tt)
kinds_of_match e filter WriteFault r f = (e, r, tt)
kinds_of_match e filter (NotPcap kind) r f = (e, r, tt)
kinds_of_match e filter (BadRecord at len) r f = (e, r, tt)
kinds_of_match e filter (CutShort bytes) r f = (e, r, tt)
kinds_of_match e filter TooLong r f = (e, r, tt)

pub kinds_refused : (filter : List ℕ) (s : Status) → RefusesFilter filter s → IsOfMatch filter s
kinds_refused filter s (inl e) = subst (IsOfMatch filter) (sym e) tt
kinds_refused filter s (inr e) = subst (IsOfMatch filter) (sym e.0) (refl, refl, e.1)

pub match_answer : (e : Expr) (files : Option (List File)) (filter capture : List ℕ) (s : Status) → Reads filter e → (IsForeign s → ⊥)
    → IfSome files (λ fs. AllowsMatch (matched_of e (file_of fs capture)) s) → IfSome files (λ fs. IsMatchAnswer fs filter capture s)
match_answer e None filter capture s r f a = tt
match_answer e (Some fs) filter capture s r f a = answer_at e fs filter capture s r f a

pub match_written : (e : Expr) (files old new : Option (List File)) (filter capture out : List ℕ) → Reads filter e
    → IfSome files (λ fs. WritesMatch (matched_of e (file_of fs capture)) out old new) → IfSome files (λ fs. IsWritten fs filter capture out old new)
match_written e None old new filter capture out r w = tt
match_written e (Some fs) old new filter capture out r w = (e, r, w)

pub match_parts : (e : Expr) (files old new : Option (List File)) (filter capture out : List ℕ) → Reads filter e
    → IfSome files (λ fs. LeavesMatch (matched_of e (file_of fs capture)) out old new) → IfSome files (λ fs. LeavesMatched fs filter capture out old new)
match_parts e None old new filter capture out r p = tt
match_parts e (Some fs) old new filter capture out r p = inr (e, r, p)

pub match_same : (files old new : Option (List File)) (filter capture out : List ℕ) → new ≡ old → IfSome files (λ fs. LeavesMatched fs filter capture out old new)
match_same None old new filter capture out e = tt
match_same (Some fs) old new filter capture out e = inl e

-- the filter that a text is read as is the only one
pub match_complete : (e : Expr) (files : Option (List File)) (filter capture : List ℕ) (s : Status) → ((f : Expr) → Reads filter f → e ≡ f)
    → IfSome files (λ fs. CompletesMatch (matched_of e (file_of fs capture)) s) → IfSome files (λ fs. CompletesMatched fs filter capture s)
match_complete e None filter capture s only h = tt
match_complete e (Some fs) filter capture s only h = λ f r. subst (λ (x : Expr). CompletesMatch (matched_of x (file_of fs capture)) s) (only f r) h

complete_memory : (v : Matched) (s : Status) → s ≡ Memory → CompletesMatch v s
complete_memory (Writes text end) s e = inr e
complete_memory (Refuses fault) s e = inr e
complete_memory Unread s e = e

pub match_refused : (files : Option (List File)) (filter capture : List ℕ) (s : Status) → ((f : Expr) → Reads filter f → s ≡ Memory) → IfSome files (λ fs. CompletesMatched fs filter capture s)
match_refused None filter capture s only = tt
match_refused (Some fs) filter capture s only = λ f r. complete_memory (matched_of f (file_of fs capture)) s (only f r)

-- a refusal of the filter

refusal_at : (files : List File) (filter capture : List ℕ) (s : Status) → RefusesFilter filter s → IsMatchAnswer files filter capture s
refusal_at files filter capture s (inl e) = subst (IsMatchAnswer files filter capture) (sym e) tt
refusal_at files filter capture s (inr e) = subst (IsMatchAnswer files filter capture) (sym e.0) (refl, refl, e.1)

pub match_refusal : (files : Option (List File)) (filter capture : List ℕ) (s : Status) → RefusesFilter filter s → IfSome files (λ fs. IsMatchAnswer fs filter capture s)
match_refusal None filter capture s h = tt
match_refusal (Some fs) filter capture s h = refusal_at fs filter capture s h

-- what holds neither of want of memory nor of a text that is no filter doesn't hold of a refusal
pub refusal_isnt : (X : Type 0) (P : Status → Type 0) (filter : List ℕ) (s : Status) → RefusesFilter filter s → (P Memory → ⊥) → (P no_filter → ⊥) → P s → X
refusal_isnt X P filter s (inl e) m n h = absurd (m (subst P e h))
refusal_isnt X P filter s (inr e) m n h = absurd (n (subst P e.0 h))
