use Rattle.std.proofs.Common.{◌≡◌, ℕ, List, Result, Ok, Err, IfOk, IfErr, IsErrAnd, MatchResult, ◌∙◌, ap, refl}
use Rattle.capfilter.specs.declared.filter_error.FilterKind.{FilterKind}
use Rattle.capfilter.specs.declared.filter_error.FilterFault.{FilterFault}
use Rattle.capfilter.specs.declared.filter_error.FilterError.{FilterError}
use Rattle.capfilter.specs.declared.filter_error.FilterError.TheVariants as errors
use Rattle.capfilter.specs.Expr.{Expr}
use Rattle.capfilter.specs.Faults.{Reads, IsFault, IsMemoryOr}
use Rattle.capfilter.specs.Reader.{Parsed, outcome, IsRefusal}
use Rattle.capfilter.proofs.FaultLemmas.{parsed_reads, reads_parsed, refused_fault, fault_refused}

-- what came of a text, by what reading it ends with
abbrev pub Gave : List ℕ → Result Expr FilterError → Type 0
Gave text r = MatchResult r (λ filter. outcome text ≡ Parsed filter) (λ error. IsRefusal (outcome text) error)

pub gave_parsed : (text : List ℕ) (r : Result Expr FilterError) → Gave text r → IfOk r (λ filter. Reads text filter)
gave_parsed text (Ok e) h = parsed_reads text e h
gave_parsed text (Err error) h = tt

pub gave_only : (text : List ℕ) (r : Result Expr FilterError) → Gave text r → (e : Expr) → Reads text e → MatchResult r (λ filter. filter ≡ e) (λ error. error ≡ errors.Memory)
gave_only text (Ok x) h e reads = let p = reads_parsed text e reads in cc
gave_only text (Err errors.Memory) h e reads = refl
gave_only text (Err (errors.Fault fault)) h e reads = let p = reads_parsed text e reads in absurd (cc)

pub gave_refused : (text : List ℕ) (r : Result Expr FilterError) → Gave text r → IfErr r (λ error. IsMemoryOr (IsFault text) error)
gave_refused text (Ok x) h = tt
gave_refused text (Err errors.Memory) h = tt
gave_refused text (Err (errors.Fault fault)) h = refused_fault text fault.at fault.kind h

same_fault : (fault other : FilterFault) → other.at ≡ fault.at → other.kind ≡ fault.kind → other ≡ fault
same_fault fault other at kind = ap (λ (n : ℕ). record { at = n; kind = other.kind }) at ∙ ap (λ (k : FilterKind). record { at = fault.at; kind = k }) kind

pub gave_least : (text : List ℕ) (r : Result Expr FilterError) → Gave text r → (fault : FilterFault) → IsFault text fault → IsErrAnd r (λ error. IsMemoryOr (λ other. other ≡ fault) error)
gave_least text (Ok x) h fault is = let p = fault_refused text fault is in absurd (cc)
gave_least text (Err errors.Memory) h fault is = tt
gave_least text (Err (errors.Fault other)) h fault is =
    let p = fault_refused text fault is in
    let at : other.at ≡ fault.at = cc in
    let kind : other.kind ≡ fault.kind = cc in
    same_fault fault other at kind
