use Rattle.porthdr.specs.declared.seen.Seen.{Seen}
use Rattle.porthdr.specs.declared.seen.Seen.TheVariants as seen
use Rattle.porthdr.specs.Kind.{Kind, Accepted, Skipped}

-- what an answer tells, without where its payload lies in memory
abbrev pub kind : Seen → Kind
kind (seen.Accepted key toward seq flags declared payload) = Accepted key toward seq flags declared payload.now
kind (seen.Skipped skip) = Skipped skip
