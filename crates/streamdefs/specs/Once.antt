-- The deliveries of a direction against its flow: each byte at its position.
use Rattle.std.specs.Prelude.{◌≡◌, ℕ, suc, ◌≤◌, ◌==◌, List, [], ◌∷◌, ◌++◌, map, flat_map}
use Rattle.evring.specs.declared.way.Way.{Way}
use Rattle.streamdefs.specs.Lists.{how_many}
use Rattle.streamdefs.specs.Both.{of_way}
use Rattle.streamdefs.specs.Reorder.{Placed}
use Rattle.streamdefs.specs.Direction.{Direction}
use Rattle.streamdefs.specs.Convo.{Convo, Delivery}

-- bytes with their positions, which rise from one on
abbrev pub numbered : ℕ → List ℕ → List (ℕ × ℕ)
numbered position [] = []
numbered position (byte ∷ bytes) = (position, byte) ∷ numbered (suc position) bytes

-- the bytes of a flow with their positions
abbrev pub places : List Placed → List (ℕ × ℕ)
places ps = map (λ p. (p.at, p.byte)) ps

-- the fresh bytes of deliveries with their positions: the first of a delivery stands at its start, the others behind it
abbrev pub delivered_at : List Delivery → List (ℕ × ℕ)
delivered_at ds = flat_map (λ d. numbered d.piece.start d.piece.fresh) ds

-- one direction of a conversation
abbrev pub direction_of : Way → Convo → Direction
direction_of way c = of_way way c.directions

-- the fresh bytes of the deliveries, and behind them those that are pending, are the flow
abbrev pub IsDelivered : List Delivery → Direction → Type 0
IsDelivered ds d = delivered_at ds ++ places d.pending.bytes ≡ places d.view.flow

-- no position stands twice
abbrev pub EachOnce : List (ℕ × ℕ) → Type 0
EachOnce bytes = (position : ℕ) → how_many (λ b. b.0 == position) bytes ≤ 1
