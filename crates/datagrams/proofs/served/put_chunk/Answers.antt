use Rattle.std.proofs.Common.{◌≡◌, ◌++◌, sym, ◌∙◌, ap}
use Rattle.std.proofs.lemmas.Result.{IfOk-equal}
use Rattle.chunkpart.specs.ChunkParts.{shown_bytes}
use Rattle.streamdefs.specs.Handler.{data_line}
use Rattle.datagrams.specs.Flow.{chunk_of, joined}
use Rattle.datagrams.proofs.ServedLemmas.{bare_shown, on_ok_holds}
use Rattle.datagrams.proofs.served.put_chunk.Goals as goal

pub returns : goal.returns
returns c =
    let appended : c.shown.new.out.items ≡ c.clear.new.self.items ++ shown_bytes c.args.chunk.now = on_ok_holds c.shown.result _ (sym c.is_err.ensures.value ∙ c.if-is_err.false) c.shown.ensures.ok in
    let bytes : c.deref.result.now ≡ joined (chunk_of c.args.chunk.now).parts = c.deref.ensures.value ∙ appended ∙ ap (λ bs. bs ++ shown_bytes c.args.chunk.now) c.clear.ensures.items ∙ bare_shown c.args.chunk.now c.requires in
    IfOk-equal c.put_data_line.result _ _ _ c.put_data_line.ensures (λ i. c.args.text.now.items ++ data_line c.args.conv c.args.way (c.start.ensures i) (c.gap.ensures i) 0 0 (bytes i))
