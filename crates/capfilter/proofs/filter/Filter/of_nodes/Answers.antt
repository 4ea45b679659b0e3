use Rattle.std.proofs.Common.{List, subst, sym, ap, ◌∙◌}
use Rattle.std.specs.Str.{IsUtf8}
use Rattle.capfilter.specs.declared.node.Node.{Node}
use Rattle.capfilter.specs.Canonical.{canonical}
use Rattle.capfilter.specs.Nodes.{root}
use Rattle.capfilter.proofs.AsciiLemmas.{canonical_text}
use Rattle.capfilter.proofs.filter.Filter.of_nodes.Goals as goal

pub text_of-text-requires : goal.text_of-text-requires
text_of-text-requires c =
    subst IsUtf8 (sym (c.in_ok-shown_of.ensures ∙ ap (λ (ns : List Node). canonical (root ns)) c.as_slice.ensures.value)) (canonical_text (root c.args.nodes.items) c.requires.fit)
