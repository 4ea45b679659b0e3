use Rattle.std.proofs.Common.{◌<◌, ◌∙◌, ap, length}
use Rattle.datagrams.specs.declared.conversation.Conversation.{Conversation}
use Rattle.datagrams.proofs.PlaceLemmas.{index_set, same_key-half}
use Rattle.datagrams.proofs.conversations.Conversations.put_half.Goals as goal

pub invariant_of-self : goal.invariant_of-self
invariant_of-self c =
    let within : c.args.place < length c.self.inside.list.items = rw c.self.view_is c.requires in
    index_set _ c.self.inside.list.items c.args.place c.put_half.new.self c.index_mut.result.now c.self.invariant within
    (ap (λ (d : Conversation). d.key) c.put_half.ensures ∙ same_key-half c.args.way _ _ c.index_mut.result.now ∙ ap (λ (d : Conversation). d.key) c.index_mut.ensures.value)
