use Rattle.std.specs.Prelude.{codes}
use Rattle.std.specs.Fmt.{decimal}
use Rattle.scapconf.proofs.TextLemmas.{three_joined}
use Rattle.scapconf.proofs.status_text.put_cut_short.Goals as goal

pub returns-clause-ok : goal.returns-clause-ok
returns-clause-ok c =
    three_joined c.put_text.result c.args.out.now.items (codes "capture ends inside a record: ") (decimal c.args.bytes) (codes " bytes")
    c.put_count.new.out.items c.put_text.new.out.items c.in_ok-put_count.ensures.ok c.put_text.ensures.ok
