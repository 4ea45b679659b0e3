use Rattle.std.proofs.Common.{List, ap, arith, inl, ◌∙◌}
use Rattle.scap_world.proofs.CountsLemmas.{there-with_value}
use Rattle.scap_world.proofs.ShelfLemmas.{Puts, puts_by, longer, covers_more, number_at-puts, others_keep}
use Rattle.scap_world.specs.Files.{File, file_of}
use Rattle.scap_world.proofs.in_memory.shelf.MemShelf.put_file.Goals as goal

pub invariant_of-self : goal.invariant_of-self
invariant_of-self c =
    let mid = c.admit.new.self in
    let puts : Puts c.args.name.now c.args.bytes mid.files c.put.new.self = puts_by _ _ _ _ c.put.result c.put.ensures.ok c.put.ensures.err in
    record {
      some = mid.some;
      within = λ h. omega (arith, mid.within h, longer _ _ _ _ puts);
      reads_have_room = covers_more _ _ _ _ mid.reads puts mid.reads_have_room c.in_ok-admit.ensures.reads;
      writes_have_room = covers_more _ _ _ _ mid.writes puts mid.writes_have_room c.in_ok-admit.ensures.writes;
    }

pub returns-clause-taken : goal.returns-clause-taken
returns-clause-taken c =
    let mid = c.admit.new.self in
    λ other. number_at-puts c.args.name.now c.args.bytes mid.files c.put.new.self (inl c.in_ok-put.ensures.ok) mid.last mid.number mid.within other ∙ c.admit.ensures.same.taken other

pub returns-clause-others : goal.returns-clause-others
returns-clause-others c =
    λ other ne. others_keep c.args.name.now c.args.bytes c.admit.new.self.files c.put.new.self (inl c.in_ok-put.ensures.ok) other ne
    ∙ ap (λ (files : List File). file_of files other) c.admit.ensures.same.files

pub returns-clause-there : goal.returns-clause-there
returns-clause-there c = there-with_value c.admit.new.self.files c.put.new.self c.args.name.now c.args.bytes c.in_ok-put.ensures.ok
