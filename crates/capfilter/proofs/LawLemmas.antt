use Rattle.std.proofs.Common.{◌≡◌, ℕ, List, sym, ◌∙◌, ap, refl, ◌⊎◌, inl, inr}
use Rattle.capfilter.specs.declared.filter_error.FilterKind.{FilterKind}
use Rattle.capfilter.specs.declared.filter_error.FilterFault.{FilterFault}
use Rattle.capfilter.specs.Expr.{Expr}
use Rattle.capfilter.specs.Fit.{IsFit}
use Rattle.capfilter.specs.Tokens.{tokens}
use Rattle.capfilter.specs.Faults.{bytes_of, Reads, IsFault}
use Rattle.capfilter.specs.Reader.{Outcome, Parsed, Refused, outcome}
use Rattle.capfilter.specs.Laws.{HasOneTree, HasOneFault, IsReadOrRefused}
use Rattle.capfilter.proofs.FaultLemmas.{parsed_reads, reads_parsed, refused_fault, fault_refused}
use Rattle.capfilter.proofs.FitLemmas.{fit_of_expr}

-- what is parsed has its numbers in their ranges
pub parsed_fit : (text : List ℕ) (e : Expr) → outcome text ≡ Parsed e → IsFit e
parsed_fit text e h = fit_of_expr 64 (bytes_of (tokens 0 text)) e (parsed_reads text e h).is

pub one_tree : (text : List ℕ) → HasOneTree text
one_tree text e f h g = cc (sym (reads_parsed text e h) ∙ reads_parsed text f g)

pub one_fault : (text : List ℕ) → HasOneFault text
one_fault text f g h k =
    let same : Refused f.at f.kind ≡ Refused g.at g.kind = sym (fault_refused text f h) ∙ fault_refused text g k in
    let at : f.at ≡ g.at = cc in
    let kind : f.kind ≡ g.kind = cc in
    ap (λ (n : ℕ). record { at = n; kind = f.kind }) at ∙ ap (λ (x : FilterKind). record { at = g.at; kind = x }) kind

one_by : (text : List ℕ) (o : Outcome) → outcome text ≡ o → ((e : Expr) × Reads text e) ⊎ ((f : FilterFault) × IsFault text f)
one_by text (Parsed e) h = inl (e, parsed_reads text e h)
one_by text (Refused at kind) h = inr (record { at = at; kind = kind }, refused_fault text at kind h)

not_both : (text : List ℕ) (e : Expr) (f : FilterFault) → Reads text e → ¬ IsFault text f
not_both text e f h g = let same : Parsed e ≡ Refused f.at f.kind = sym (reads_parsed text e h) ∙ fault_refused text f g in cc

pub read_or_refused : (text : List ℕ) → IsReadOrRefused text
read_or_refused text = record { one = one_by text (outcome text) refl; apart = not_both text }
