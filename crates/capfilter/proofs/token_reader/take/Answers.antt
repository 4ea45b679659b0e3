use Rattle.std.proofs.Common.{◌≤◌, ◌∙◌, ap, sym, subst, arith, ℕ, Bool}
use Rattle.capfilter.specs.Tokens.{Token}
use Rattle.capfilter.specs.Reader.{read, levels, step}
use Rattle.capfilter.specs.Parser.{state_of, frames_of, next_of, Went}
use Rattle.capfilter.proofs.OutcomeLemmas.{one_good}
use Rattle.capfilter.proofs.token_reader.take.Goals as goal

pub returns-clause-read : goal.returns-clause-read
returns-clause-read c end ts =
    let old = c.args.parser.now in
    let new = c.step.new.self in
    let token : Token = record { at = c.args.at; bytes = c.args.token.now } in
    let go = step (frames_of old.nodes.items old.frames.items) (next_of old.nodes.items old.next) c.args.token.now in
    let went = subst (λ (b : Bool). Went b go new) c.if-not-branch.false c.in_ok-step.ensures.went in
    let counted = went.1.parts.counted in
    let few : levels (frames_of new.nodes.items new.frames.items) ≤ 64 = omega (arith, counted) in
    one_good end old.count (state_of old) token ts (state_of new) (omega arith) went.0 few
    ∙ ap (λ (n : ℕ). read end n (state_of new) ts) (sym c.step.ensures.count)
