use Rattle.std.proofs.Common.{◌≡◌, ◌++◌, take}
use Rattle.std.specs.Prelude.{flat_map}
use Rattle.labtop.specs.ReportLines.{lines_of}
use Rattle.labtop.proofs.summary.put_conversations.Given as goal

abbrev pub invariant-loop-conversation : goal.invariant-loop-conversation
invariant-loop-conversation l = l.out.items ≡ l.initial.out.items ++ flat_map lines_of (take l.conversation-index l.conversations)
