-- What is known of a conversation beside what it stands for.
use Rattle.std.specs.Prelude.{◌≡◌, ℕ, ◌≤◌, Bool, true, List, [], Option, Some, None}
use Rattle.chunkpart.specs.ChunkParts.{ChunkParts}
use Rattle.convo.specs.declared.talk.Convo.{Convo}
use Rattle.convo.specs.Going.{charges_going}
use Rattle.convo.specs.Stands.{Stands}
use Rattle.convo.specs.Talk.{Talk, Phase}
use Rattle.streamdefs.specs.Reorder.{Charge}
use Rattle.streamdefs.specs.Terms.{Terms}
use Rattle.convo.specs.Standing.{asked_of, last_of}
use Rattle.convo.specs.Weights.{weight_of_chunks}

-- what a conversation stands for, as one fact
pub record StandsFor {C : Type 0} (paid : C → Charge) (t : Terms) (x : Convo C) (k : Talk) (phase : Phase) : Type 0 where
  pub is : Stands paid x t k phase

-- no packet of its own has a higher number, it asks for so much, and whether no charge of it goes back
pub record IsHeld {C : Type 0} (last : ℕ) (asked : Option ℕ) (gone : Bool) (x : Convo C) : Type 0 where
  pub below : last_of x ≤ last
  pub asks : asked_of x ≡ asked
  pub idle : gone ≡ true → charges_going x.going ≡ []

-- the charges of chunks, where there are some
abbrev pub weight_of_some : {C : Type 0} → (C → ℕ) → Option (List (ChunkParts C)) → ℕ
weight_of_some w None = 0
weight_of_some w (Some chunks) = weight_of_chunks w chunks
