use Rattle.std.proofs.Common.{◌≡◌, ℕ, ◌-◌, List, ◌++◌, drop, length, sym, ◌∙◌, ap}
use Rattle.std.proofs.lemmas.List.Concat.{flat_map-append}
use Rattle.chunkpart.specs.Parts.{bytes_of}
use Rattle.chunkpart.specs.ChunkParts.{fresh_bytes}
use Rattle.chunkpart.specs.LastBytes.{last_of}
use Rattle.chunkpart.proofs.LastLemmas.{appended-more}
use Rattle.chunkpart.proofs.chunk.Chunk.put_last.Goals as goal

pub returns-clause-ok : goal.returns-clause-ok
returns-clause-ok g c =
    let joined : bytes_of c.self.inside.fresh.items ≡ bytes_of c.as_slices.result.0.now ++ bytes_of c.as_slices.result.1.now =
    ap bytes_of (sym c.as_slices.ensures.items)
    ∙ flat_map-append (λ (part : List ℕ × g.row.C.Denot). part.0) c.as_slices.result.0.now c.as_slices.result.1.now in
    appended-more c.args.out.now.items c.put_parts_behind.new.out.items c.put_parts_behind-2.new.out.items (bytes_of c.as_slices.result.0.now) (bytes_of c.as_slices.result.1.now)
    (bytes_of c.self.inside.fresh.items) (c.self.inside.fresh_len - c.from.result) c.in_ok-left.left c.in_ok-left.ensures.ok c.in_ok-left.ensures.left c.in_ok-put_parts_behind.ensures.ok joined
    ∙ ap (λ (k : ℕ). c.args.out.now.items ++ drop (k - c.from.result) (bytes_of c.self.inside.fresh.items)) c.self.invariant.counted
    ∙ ap (λ (k : ℕ). c.args.out.now.items ++ drop (length (bytes_of c.self.inside.fresh.items) - k) (bytes_of c.self.inside.fresh.items)) c.from.ensures
    ∙ ap (λ v. c.args.out.now.items ++ last_of c.args.n (fresh_bytes v)) c.self.view_is
