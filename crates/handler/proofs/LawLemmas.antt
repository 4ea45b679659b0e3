use Rattle.std.proofs.Common.{◌≡◌, true, false, List, [], ◌∷◌}
use Rattle.evring.specs.declared.advice.Advice.{Advice}
use Rattle.handler.specs.declared.part.Part.{Part}
use Rattle.handler.specs.declared.part.Part.TheVariants.{Keep, Discard, Cutoff, Priority}
use Rattle.handler.specs.Parts.{with_parts}
use Rattle.handler.specs.Grammar.{AreFresh}

-- parts of rules that aren't for chunks don't keep
pub none_keeps : (ps : List Part) (a : Advice) → AreFresh false a ps → a.keep ≡ false → (with_parts ps a).keep ≡ false
none_keeps [] a fresh h = h
none_keeps (Keep ∷ ps) a fresh h = let never : false ≡ true = fresh.0 in absurd (cc)
none_keeps (Discard ∷ ps) a fresh h = none_keeps ps (record a { discard = true }) fresh.1 h
none_keeps (Cutoff n ∷ ps) a fresh h = none_keeps ps _ fresh.1 h
none_keeps (Priority n ∷ ps) a fresh h = none_keeps ps _ fresh.1 h
