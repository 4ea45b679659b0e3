-- What is kept of conversations of datagrams in one table: each with its number, its key, both directions and their numbers.
use Rattle.std.specs.Prelude.{◌≡◌, ⊤, ℕ, suc, ◌<◌, Bool, true, false, List, [], ◌∷◌, length, take, drop, map, Option}
use Rattle.std.specs.List.{HoldsAt, position}
use Rattle.evring.specs.declared.way.Way.{Way}
use Rattle.evring.specs.declared.way.Way.TheVariants.{Fore, Back}
use Rattle.streamkey.specs.declared.key.Key.{Key}
use Rattle.streamkey.specs.declared.toward.Toward.{Toward}
use Rattle.streamdefs.specs.Lists.{Each}
use Rattle.streamdefs.specs.Packet.{same_key}
use Rattle.datagrams.specs.declared.conversation.Conversation.{Conversation}
use Rattle.datagrams.specs.Flow.{Flow, dry}
use Rattle.datagrams.specs.Sums.{Sums, Row, no_sums}

-- a conversation before its first datagram
abbrev pub unbegun : ℕ → Key → Toward → Conversation
unbegun number key toward = record { number = number; key = key; toward = toward; fore = dry; back = dry; fore_sums = no_sums; back_sums = no_sums }

-- what it stands for, live or ended
abbrev pub row_of : Bool → Conversation → Row
row_of alive c = record {
  kept = record { live = alive; talk = record { id = c.number; key = c.key; toward = c.toward; fore = c.fore; back = c.back } };
  sums = record { fore = c.fore_sums; back = c.back_sums };
}

abbrev pub rows_of : Bool → List Conversation → List Row
rows_of alive conversations = map (row_of alive) conversations

-- one direction of it, with its numbers
abbrev pub half_of : Way → Conversation → Flow
half_of Fore c = c.fore
half_of Back c = c.back

abbrev pub sums_of : Way → Conversation → Sums
sums_of Fore c = c.fore_sums
sums_of Back c = c.back_sums

-- the conversation with another direction and other numbers of it
abbrev pub with_half : Way → Flow → Sums → Conversation → Conversation
with_half Fore f s c = record c { fore = f; fore_sums = s }
with_half Back f s c = record c { back = f; back_sums = s }

-- whether a conversation has that key
abbrev pub has_key : Key → Conversation → Bool
has_key key c = same_key c.key key

-- the place of the first conversation of that key
abbrev pub place_of : Key → List Conversation → Option ℕ
place_of key conversations = position (has_key key) conversations

-- none of these has that key
abbrev pub NoneHasKey : Key → List Conversation → Type 0
NoneHasKey key conversations = Each (λ c. has_key key c ≡ false) conversations

-- the conversation at that place has that key, and no other has it
pub record IsPlaced (key : Key) (conversations : List Conversation) (place : ℕ) : Type 0 where
  pub within : place < length conversations
  pub has : HoldsAt (λ c. has_key key c ≡ true) conversations place
  pub before : NoneHasKey key (take place conversations)
  pub behind : NoneHasKey key (drop (suc place) conversations)

abbrev pub keys_of : List Conversation → List Key
keys_of conversations = map (λ c. c.key) conversations

-- no key stands twice
abbrev pub AreApart : List Key → Type 0
AreApart [] = ⊤
AreApart (key ∷ keys) = Each (λ other. same_key key other ≡ false) keys × AreApart keys

-- a map has the places of the keys, each of which stands once
pub record IsIndex (places_in : Key → Option ℕ) (conversations : List Conversation) : Type 0 where
  pub places : (key : Key) → places_in key ≡ place_of key conversations
  pub apart : AreApart (keys_of conversations)
