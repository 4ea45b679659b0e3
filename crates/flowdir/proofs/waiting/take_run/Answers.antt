use Rattle.std.proofs.Common.{◌≡◌, refl, sym, ◌∙◌, ap, subst, List, ◌∷◌, ℕ, length, ℤ, to_z, of_z, w64}
use Rattle.std.proofs.Math.Facts.{to_z-of_z}
use Rattle.reorder.specs.Frags.{Frag, put, cells_of}
use Rattle.flowdir.specs.declared.waiting.Waiting.{Waiting}
use Rattle.flowdir.specs.Waits.{waits_of, TakesRun}
use Rattle.flowdir.proofs.waiting.take_run.Goals as goal

takes : {C : Type 0} (start start' : ℤ) (charge : C) (items rest : List Waiting) (wait : Waiting) (fs fs' : List (Frag C)) (n : ℕ) (part : List ℕ × C) → items ≡ wait ∷ rest → start' ≡ start
    → part ≡ (wait.bytes, charge) → fs' ≡ put (record { at = wait.at; cells = cells_of start' part.0; charge = part.1 }) fs → n ≡ length wait.bytes
    → TakesRun start charge (waits_of items) fs (waits_of rest) fs' n
takes start start' charge items rest wait fs fs' n part e s p f m =
    subst (λ (xs : List Waiting). TakesRun start charge (waits_of xs) fs (waits_of rest) fs' n) (sym e)
    (refl, f ∙ (λ i. put (record { at = wait.at; cells = cells_of (s i) (p i).0; charge = (p i).1 }) fs), m)

pub returns : goal.returns
returns g c = record {
  takes = takes c.args.start (to_z w64 (of_z w64 c.args.start)) c.args.charge c.args.waits.now.items c.pop_front.new.self.items c.in-Some.wait c.args.store.now.frags c.put.new.self.frags (length c.as_slice.result.now) c.new.result
      c.in-Some.ensures.items (to_z-of_z c.ranges.start) c.new.ensures c.put.ensures.parts (ap length c.as_slice.ensures);
}
