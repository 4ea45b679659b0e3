use Rattle.std.proofs.Common.{length}
use Rattle.evring.specs.declared.advice.Advice.{Advice}
use Rattle.evring.specs.Advice.{no_advice}
use Rattle.linewords.specs.Words.{words}
use Rattle.handler.specs.Grammar.{SaysAdvice}
use Rattle.handler.proofs.rule_reader.advice_of.Given as goal

-- what is still to be read advises, behind the advice so far, what the whole does
abbrev pub invariant-loop-name : goal.invariant-loop-name
invariant-loop-name l =
    record {
      forth : (x : Advice) → SaysAdvice l.of_data l.advice (words l.left) x → SaysAdvice l.of_data no_advice (words l.line) x;
      back : (x : Advice) → SaysAdvice l.of_data no_advice (words l.line) x → SaysAdvice l.of_data l.advice (words l.left) x;
    }

abbrev pub decreases-loop-name : goal.decreases-loop-name
decreases-loop-name l = length (words l.left)
