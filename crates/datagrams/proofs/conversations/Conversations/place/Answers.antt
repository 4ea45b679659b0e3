use Rattle.std.proofs.Common.{◌∙◌}
use Rattle.datagrams.proofs.PlaceLemmas.{answered_place}
use Rattle.datagrams.proofs.conversations.Conversations.place.Goals as goal

pub returns : goal.returns
returns c =
    rw (← c.self.view_is) (answered_place c.args.key.now c.self.inside.list.items c.copied.result c.self.invariant.apart (c.copied.ensures ∙ c.get.ensures.value ∙ c.self.invariant.places c.args.key.now))
