use Rattle.std.proofs.Common.{◌≡◌, ◌≤◌, ◌+◌, ◌++◌, ◌∷◌, [], sym, subst, arith, List, length}
use Rattle.std.proofs.lemmas.List.{length-append}
use Rattle.capfilter.specs.declared.parser.Frame as code_frame
use Rattle.capfilter.specs.Parser.{AreParts, level_of}
use Rattle.capfilter.proofs.ParserLemmas.{parts-push}
use Rattle.capfilter.proofs.parser.Parser.open_join.Goals as goal

pub returns-clause-is : goal.returns-clause-is
returns-clause-is c =
    let p = c.args.self.now in
    let ns = p.nodes.items in
    let fs = p.frames.items in
    let f = c.args.frame in
    let same : p.levels + level_of f ≡ p.levels = omega (arith, c.requires.level) in
    let long : length (fs ++ f ∷ []) ≡ length fs + 1 = length-append fs (f ∷ []) in
    let few : length ns + length (fs ++ f ∷ []) ≤ p.count = omega (arith, long, c.requires.room) in
    record {
      parts = subst (λ (l : List code_frame.Frame). AreParts ns l p.levels) (sym c.in_ok-put_frame.ensures)
          (subst (AreParts ns (fs ++ f ∷ [])) same (parts-push ns fs f p.levels c.requires.is.parts c.requires.within));
      few = subst (λ (l : List code_frame.Frame). length ns + length l ≤ p.count) (sym c.in_ok-put_frame.ensures) few;
      there = tt;
    }
