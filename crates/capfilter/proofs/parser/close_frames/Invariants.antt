use Rattle.std.proofs.Common.{◌≡◌, ◌<◌, ◌+◌, length}
use Rattle.capfilter.specs.Nodes.{root}
use Rattle.capfilter.specs.Reader.{completed}
use Rattle.capfilter.specs.Parser.{AreParts, frames_of}
use Rattle.capfilter.proofs.parser.close_frames.Given as goal

-- the frames that are left, completed, are those that were there
abbrev pub invariant-closing : goal.invariant-closing
invariant-closing l =
    record {
      some : 0 < length l.nodes.items;
      parts : AreParts l.nodes.items l.frames.items l.levels;
      few : length l.nodes.items + length l.frames.items ≡ length l.initial.nodes.items + length l.initial.frames.items;
      same : completed (frames_of l.nodes.items l.frames.items) (root l.nodes.items) ≡ completed (frames_of l.initial.nodes.items l.initial.frames.items) (root l.initial.nodes.items);
    }

abbrev pub decreases-closing : goal.decreases-closing
decreases-closing l = length l.frames.items
