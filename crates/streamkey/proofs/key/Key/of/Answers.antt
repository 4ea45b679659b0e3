use Rattle.std.proofs.Common.{sym, ◌∙◌}
use Rattle.streamkey.proofs.OrderLemmas.{end_before-turned, lt-end_before}
use Rattle.streamkey.proofs.KeyLemmas.{key_of-down, key_of-up}
use Rattle.streamkey.proofs.key.Key.of.Goals as goal

pub invariant_of-key : goal.invariant_of-key
invariant_of-key c = end_before-turned c.args.target c.args.source (sym (lt-end_before c.args.target c.args.source) ∙ sym c.lt.ensures ∙ c.if-lt.true)

pub invariant_of-key-else-lt : goal.invariant_of-key-else-lt
invariant_of-key-else-lt c = sym (lt-end_before c.args.target c.args.source) ∙ sym c.lt.ensures ∙ c.if-lt.false

pub returns-then-lt-clause-key : goal.returns-then-lt-clause-key
returns-then-lt-clause-key c = sym (key_of-down c.args.proto c.args.source c.args.target (sym (lt-end_before c.args.target c.args.source) ∙ sym c.lt.ensures ∙ c.if-lt.true))

pub returns-else-lt-clause-key : goal.returns-else-lt-clause-key
returns-else-lt-clause-key c = sym (key_of-up c.args.proto c.args.source c.args.target (sym (lt-end_before c.args.target c.args.source) ∙ sym c.lt.ensures ∙ c.if-lt.false))

pub returns-then-lt-clause-ordered : goal.returns-then-lt-clause-ordered
returns-then-lt-clause-ordered c = end_before-turned c.args.target c.args.source (sym (lt-end_before c.args.target c.args.source) ∙ sym c.lt.ensures ∙ c.if-lt.true)

pub returns-else-lt-clause-ordered : goal.returns-else-lt-clause-ordered
returns-else-lt-clause-ordered c = sym (lt-end_before c.args.target c.args.source) ∙ sym c.lt.ensures ∙ c.if-lt.false

pub returns-then-lt-clause-way : goal.returns-then-lt-clause-way
returns-then-lt-clause-way c = key_of-down c.args.proto c.args.source c.args.target (sym (lt-end_before c.args.target c.args.source) ∙ sym c.lt.ensures ∙ c.if-lt.true)

pub returns-else-lt-clause-way : goal.returns-else-lt-clause-way
returns-else-lt-clause-way c = key_of-up c.args.proto c.args.source c.args.target (sym (lt-end_before c.args.target c.args.source) ∙ sym c.lt.ensures ∙ c.if-lt.false)
