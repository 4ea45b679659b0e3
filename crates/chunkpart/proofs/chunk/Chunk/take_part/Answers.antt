use Rattle.std.proofs.Common.{ℕ, List, ap, length}
use Rattle.chunkpart.proofs.PartsLemmas.{AreKept-rest}
use Rattle.chunkpart.proofs.chunk.Chunk.take_part.Goals as goal

pub invariant_of-self-2 : goal.invariant_of-self-2
invariant_of-self-2 g c =
    AreKept-rest g.C.Charge.amount c.self.inside.fresh_len (length c.bytes.result.now) c.self.inside.fresh.items c.in_ok-part.part c.pop_front.new.self.items
    c.in_ok-part.ensures.items (ap (λ (l : List ℕ). length l) c.bytes.ensures.bytes) c.self.invariant
