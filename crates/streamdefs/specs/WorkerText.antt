-- The delivery file of a worker: a line for each event, in the order in which it served them.
use Rattle.std.specs.Prelude.{ℕ, ◌==◌, List, [], ◌∷◌, ◌++◌, map, Option, Some, None, slice_get}
use Rattle.streamdefs.specs.Lists.{how_many, or_nothing}
use Rattle.streamdefs.specs.Convo.{Convo, seen_of}
use Rattle.streamdefs.specs.Core.{Told, Core, idle_core, core_at, find_convo}
use Rattle.streamdefs.specs.Lawful.{Run}
use Rattle.streamdefs.specs.Handler.{event_line}

-- the lines of a core's events
abbrev pub lines_of : Core → List (List ℕ)
lines_of core = map (λ told. line told (find_convo told.conv core.convos)) core.events
  where
    line : Told → Option Convo → List ℕ
    line told None = []
    line told (Some c) = event_line told.conv (seen_of c.first told.event)

-- the n-th line of a core
abbrev pub line_at : List (List (List ℕ)) → ℕ → ℕ → List ℕ
line_at lines core n = or_nothing (slice_get (or_nothing (slice_get lines core)) n)

-- each mention of a core in the list stands for its next event; `seen` are the mentions before
abbrev pub served_text : List (List (List ℕ)) → List ℕ → List ℕ → List ℕ
served_text lines seen [] = []
served_text lines seen (core ∷ cores) = line_at lines core (how_many (λ c. c == core) seen) ++ served_text lines (core ∷ seen) cores

-- the text of a worker with that list
abbrev pub worker_text : Run → List ℕ → List ℕ
worker_text run list = served_text (map (λ lines. lines_of (core_at run.terms idle_core lines)) run.books) [] list
