use Rattle.std.proofs.Common.{◌≡◌, ℕ, List, ◌++◌, ap, subst, ◌∙◌}
use Rattle.std.specs.Prelude.{codes, OnOk}
use Rattle.std.specs.Fmt.{decimal}
use Rattle.scapconf.specs.StatusText.{kind_word}
use Rattle.scapconf.proofs.TextLemmas.{four_joined}
use Rattle.scapconf.proofs.status_text.put_settings.Goals as goal

pub returns-clause-ok : goal.returns-clause-ok
returns-clause-ok c =
    let Ends : List ℕ → Type 0 = λ word. OnOk c.put_text-2.result (c.put_text-2.new.out.items ≡ c.put_text.new.out.items ++ word) in
    four_joined c.put_text-2.result c.args.out.now.items (codes "settings: line ") (decimal c.args.line) (codes ": ") (kind_word c.args.kind)
    c.put_count.new.out.items c.put_text.new.out.items c.put_text-2.new.out.items
    (c.in_ok-put_count.ensures.ok ∙ ap (λ (n : ℕ). c.args.out.now.items ++ codes "settings: line " ++ decimal n) c.from.ensures)
    c.in_ok-put_text.ensures.ok (subst Ends c.word_of.ensures c.put_text-2.ensures.ok)
