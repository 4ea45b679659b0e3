use Rattle.pcapgen.proofs.Steps.{put_next}
use Rattle.pcapgen.proofs.generator.Generator.put_next.Goals as goal

pub returns-clause-ok : goal.returns-clause-ok
returns-clause-ok c =
    put_next c.put_by_kept.result _ _ c.args.out.now.items c.put_by_kept.new.out.items c.put_by_kept.ensures.full c.put_by_kept.ensures.ok c.put_by_kept.ensures.kept
