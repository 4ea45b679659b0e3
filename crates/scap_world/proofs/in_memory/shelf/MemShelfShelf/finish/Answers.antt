use Rattle.std.proofs.Common.{arith, inl}
use Rattle.scap_world.proofs.ShelfLemmas.{Puts, longer, covers_more, number_at-puts, others_keep}
use Rattle.scap_world.proofs.in_memory.shelf.MemShelfShelf.finish.Goals as goal

pub invariant_of-self : goal.invariant_of-self
invariant_of-self c =
    let old = c.args.self.now in
    let puts : Puts c.args.name.now _ old.files c.set.new.self = inl c.set.ensures in
    record {
      some = old.some;
      within = λ h. omega (arith, old.within h, longer _ _ _ _ puts);
      reads_have_room = covers_more _ _ _ _ old.reads puts old.reads_have_room (old.reads_have_room _ c.requires);
      writes_have_room = covers_more _ _ _ _ c.raise_if.new.self puts (λ name there. c.raise_if.ensures.names name (old.writes_have_room name there)) (c.raise_if.ensures.names _ (old.writes_have_room _ c.requires));
    }

pub returns-then-named-2-clause-taken : goal.returns-then-named-2-clause-taken
returns-then-named-2-clause-taken c = let old = c.args.self.now in number_at-puts c.args.name.now _ old.files c.set.new.self (inl c.set.ensures) old.last old.number old.within

pub returns-else-named-2-clause-taken : goal.returns-else-named-2-clause-taken
returns-else-named-2-clause-taken c = let old = c.args.self.now in number_at-puts c.args.name.now _ old.files c.set.new.self (inl c.set.ensures) old.last old.number old.within

pub returns-then-named-2-clause-others : goal.returns-then-named-2-clause-others
returns-then-named-2-clause-others c = others_keep c.args.name.now _ c.args.self.now.files c.set.new.self (inl c.set.ensures)

pub returns-else-named-2-clause-others : goal.returns-else-named-2-clause-others
returns-else-named-2-clause-others c = others_keep c.args.name.now _ c.args.self.now.files c.set.new.self (inl c.set.ensures)
