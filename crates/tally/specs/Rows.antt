-- Moves and looks written out by hand.
use Rattle.std.specs.Prelude.{ℕ, Bool, true, false, List, [], ◌∷◌}
use Rattle.histbook.specs.declared.look_entry.LookEntry.{LookEntry}
use Rattle.tally.specs.declared.moves.Move.{Move}
use Rattle.tally.specs.declared.moves.Move.TheVariants.{Grant, Free}

-- a look at a stamp
abbrev pub look : Bool → (asked stamp found : ℕ) → LookEntry
look granted asked stamp found = record { asked = asked; granted = granted; look = record { stamp = stamp; found = found } }

-- four datagrams, of which the third is refused, and their releases
abbrev pub four : List Move
four = Grant 0 1400 ∷ Grant 1 1400 ∷ Grant 2 1200 ∷ Free 3 1400 ∷ Free 4 1400 ∷ Free 5 1200 ∷ []

abbrev pub their_looks : List LookEntry
their_looks = look true 1400 0 0 ∷ look true 1400 1 1400 ∷ look false 1400 2 2800 ∷ look true 1200 2 2800 ∷ []

-- the same as two cores keep them, one book behind the other
abbrev pub of_two_books : List Move
of_two_books = Grant 1 1400 ∷ Free 4 1400 ∷ Free 3 1400 ∷ Grant 0 1400 ∷ Grant 2 1200 ∷ Free 5 1200 ∷ []

-- two moves with one stamp
abbrev pub twice : List Move
twice = Grant 0 9 ∷ Free 1 4 ∷ Grant 1 5 ∷ Free 3 5 ∷ []

-- a stamp is missing
abbrev pub missing : List Move
missing = Grant 0 4 ∷ Free 2 4 ∷ []

-- more is given back than is used
abbrev pub overdrawn : List Move
overdrawn = Grant 0 4 ∷ Free 1 5 ∷ Grant 2 1 ∷ []
