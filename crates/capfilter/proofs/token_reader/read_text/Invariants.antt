use Rattle.std.proofs.Common.{◌≡◌, ◌≤◌, ◌-◌, length, drop}
use Rattle.capfilter.specs.Tokens.{tokens}
use Rattle.capfilter.specs.Reader.{read, outcome}
use Rattle.capfilter.specs.Parser.{state_of, IsParser}
use Rattle.capfilter.proofs.token_reader.read_text.Given as goal

-- reading the rest from here ends as reading the whole text does
abbrev pub invariant-loop-start : goal.invariant-loop-start
invariant-loop-start l =
    record {
      within : l.from ≤ length l.text;
      few : l.parser.count ≤ 512;
      is : IsParser l.parser;
      rest : outcome l.text ≡ read (length l.text) l.parser.count (state_of l.parser) (tokens l.from (drop l.from l.text));
    }

abbrev pub decreases-loop-start : goal.decreases-loop-start
decreases-loop-start l = length l.text - l.from
