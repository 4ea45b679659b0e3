use Rattle.std.proofs.Common.{◌≡◌, ◌≤◌, ◌+◌, length, take, drop, map}
use Rattle.std.specs.Str.Lines.{lines}
use Rattle.scapconf.specs.Lines.{said}
use Rattle.scapconf.specs.Faults.{AreClean}
use Rattle.scapconf.specs.Parser.{Stands}
use Rattle.scapconf.proofs.settings.Settings.read.Given as goal

-- the lines so far have no fault, and the reader stands for them
abbrev pub invariant-loop-line : goal.invariant-loop-line
invariant-loop-line l =
    record {
      rest : lines l.left ≡ drop l.number (lines l.text);
      short : length l.text ≤ 65536;
      few : l.number + length l.left ≤ 65536;
      clean : AreClean (take l.number (lines l.text));
      stands : Stands (map said (take l.number (lines l.text))) l.reader;
    }

abbrev pub decreases-loop-line : goal.decreases-loop-line
decreases-loop-line l = length l.left
