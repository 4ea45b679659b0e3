use Rattle.std.proofs.Common.{List, [], false, ap, sym, subst}
use Rattle.std.specs.Prelude.{OnErr}
use Rattle.scap_world.specs.Contents.{GainsPart}
use Rattle.chunkpart.specs.ChunkParts.{ChunkParts}
use Rattle.evring.specs.declared.advice.Advice.{Advice}
use Rattle.evring.specs.declared.event.Event.{Event}
use Rattle.evring.specs.declared.event.Event.TheVariants.{Chunk}
use Rattle.streamdefs.specs.Handler.{event_line}
use Rattle.handler.specs.Seen.{conv_of, seen_in}
use Rattle.workrun.specs.declared.scribe.Scribe.{Scribe}
use Rattle.workrun.specs.declared.work_turn.WorkTurn.{WorkTurn}
use Rattle.workrun.specs.declared.work_turn.WorkTurn.TheVariants.{Answer}
use Rattle.workrun.proofs.TurnLemmas.{close_front}
use Rattle.workrun.proofs.worker.Worker.begin.Goals as goal

pub returns-in-New-clause-front : goal.returns-in-New-clause-front
returns-in-New-clause-front g c =
    let answer : Advice → WorkTurn g.row.C.Denot = λ a. Answer c.args.core (record { advice = a; frees = []; kept = []; drained = false }) in
    subst (λ (e : Event g.row.C.Denot). OnErr c.close.result (GainsPart (g.K.Sink.held c.args.self.now.scribe.sink) (g.K.Sink.held c.close.new.self.scribe.sink) (event_line (conv_of e) (seen_in e)))) (sym c.in-New.is)
    (close_front c.tell_new-told.result c.close.result answer
    (g.K.Sink.held c.args.self.now.scribe.sink) (g.K.Sink.held c.tell_new-told.new.self.sink) (g.K.Sink.held c.close.new.self.scribe.sink) _ c.tell_new-told.ensures.front
    (ap (λ (s : Scribe g.row.H.Denot g.row.K.Denot). g.K.Sink.held s.sink) c.close.ensures.same.0) c.close.ensures.answer)

pub returns-in-Chunk-clause-front : goal.returns-in-Chunk-clause-front
returns-in-Chunk-clause-front g c =
    subst (λ (e : Event g.row.C.Denot). OnErr c.begin_chunk.result (GainsPart (g.K.Sink.held c.args.self.now.scribe.sink) (g.K.Sink.held c.begin_chunk.new.self.scribe.sink) (event_line (conv_of e) (seen_in e)))) (sym c.in-Chunk.is)
    (subst (λ (l : List (ChunkParts g.row.C.Denot)). OnErr c.begin_chunk.result (GainsPart (g.K.Sink.held c.args.self.now.scribe.sink) (g.K.Sink.held c.begin_chunk.new.self.scribe.sink)
    (event_line c.in-Chunk.conv (seen_in (Chunk c.in-Chunk.conv c.in-Chunk.way c.in-Chunk.key l c.in-Chunk.chunk))))) c.into_vec.ensures c.begin_chunk.ensures.front)

pub returns-in-Ended-clause-front : goal.returns-in-Ended-clause-front
returns-in-Ended-clause-front g c =
    let answer : Advice → WorkTurn g.row.C.Denot = λ a. Answer c.args.core (record { advice = a; frees = []; kept = []; drained = false }) in
    subst (λ (e : Event g.row.C.Denot). OnErr c.close-in-Ended.result (GainsPart (g.K.Sink.held c.args.self.now.scribe.sink) (g.K.Sink.held c.close-in-Ended.new.self.scribe.sink) (event_line (conv_of e) (seen_in e)))) (sym c.in-Ended.is)
    (close_front c.tell_end-told.result c.close-in-Ended.result answer
    (g.K.Sink.held c.args.self.now.scribe.sink) (g.K.Sink.held c.tell_end-told.new.self.sink) (g.K.Sink.held c.close-in-Ended.new.self.scribe.sink) _ c.tell_end-told.ensures.front
    (ap (λ (s : Scribe g.row.H.Denot g.row.K.Denot). g.K.Sink.held s.sink) c.close-in-Ended.ensures.same.0) c.close-in-Ended.ensures.answer)
