use Rattle.std.proofs.Common.{sym, arith}
use Rattle.histbook.proofs.RunsLemmas.{grown_kept, grown_spread, apart_kept}
use Rattle.histbook.proofs.work_list.grow_last.Goals as goal

pub returns-then-run-core-clause-apart : goal.returns-then-run-core-clause-apart
returns-then-run-core-clause-apart c =
    apart_kept c.args.runs.now.items c.in-Some.last c.index-run.result.now c.args.core c.args.count (omega (arith, c.in-Some.ensures, c.len.ensures)) (sym c.index-run.ensures)
    (λ e. absurd (c.if-run-core.true e)) c.requires.count c.requires.kept

pub returns-in_default-checked_add-clause-apart : goal.returns-in_default-checked_add-clause-apart
returns-in_default-checked_add-clause-apart c =
    apart_kept c.args.runs.now.items c.in-Some.last c.index-run.result.now c.args.core c.args.count (omega (arith, c.in-Some.ensures, c.len.ensures)) (sym c.index-run.ensures)
    (λ e. omega (arith, c.in_default-checked_add.ensures)) c.requires.count c.requires.kept

pub returns-clause-kept : goal.returns-clause-kept
returns-clause-kept c =
    grown_kept c.args.runs.now.items c.in-Some.last c.index-run.result.now c.args.core c.in-Some-checked_add.sum c.args.count (omega (arith, c.in-Some.ensures, c.len.ensures)) (sym c.index-run.ensures)
    c.if-run-core.false (omega (arith, c.in-Some-checked_add.ensures)) c.requires.kept

pub returns-clause-grown : goal.returns-clause-grown
returns-clause-grown c =
    grown_spread c.args.runs.now.items c.in-Some.last c.index-run.result.now c.args.core c.in-Some-checked_add.sum c.args.count (omega (arith, c.in-Some.ensures, c.len.ensures)) (sym c.index-run.ensures)
    c.if-run-core.false (omega (arith, c.in-Some-checked_add.ensures))
