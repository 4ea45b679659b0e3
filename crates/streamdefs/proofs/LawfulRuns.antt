-- The runs written out by hand are lawful, and their grants and frees are one budget history.
use Rattle.std.specs.Prelude.{refl}
use Rattle.std.proofs.Common.{rules, lit<}
use Rattle.streamdefs.specs.Lawful.{Lawful}
use Rattle.histbook.proofs.BudgetLemmas.{checked_once}
use Rattle.streamdefs.specs.Order.{OneHistory, all_moves, found_looks}
use Rattle.streamdefs.specs.RowsRuns.{four_run, one_run, copy_run, uncopied_run, spare_run, keep_run, late_keep_run, unshown_run, flush_run, hole_run, replaced_run, reset_run, closed_run, idle_run, priorities_run, rule_run, two_run}

pub one_run-lawful : Lawful one_run
one_run-lawful = record {
  segs = search rules;
  conversations = search rules;
  dues = search rules;
  ends = search rules;
  answers = assumption (refl, tt);
  window = search rules;
  looks = search rules;
  frees = search rules;
  served = search rules;
}

pub one_run-history : OneHistory one_run
one_run-history = record {
  budget = checked_once one_run.terms.marks.limit (all_moves one_run) (found_looks one_run) (record { once = search rules; found = search rules; within = search rules; settled = search rules }) (search rules);
  order = search rules;
}

pub copy_run-lawful : Lawful copy_run
copy_run-lawful = record {
  segs = search rules;
  conversations = search rules;
  dues = search rules;
  ends = search rules;
  answers = assumption (refl, tt);
  window = search rules;
  looks = search rules;
  frees = search rules;
  served = search rules;
}

pub copy_run-history : OneHistory copy_run
copy_run-history = record {
  budget = checked_once copy_run.terms.marks.limit (all_moves copy_run) (found_looks copy_run) (record { once = search rules; found = search rules; within = search rules; settled = search rules }) (search rules);
  order = search rules;
}

pub uncopied_run-lawful : Lawful uncopied_run
uncopied_run-lawful = record {
  segs = search rules;
  conversations = search rules;
  dues = search rules;
  ends = search rules;
  answers = assumption (refl, tt);
  window = search rules;
  looks = search rules;
  frees = search rules;
  served = search rules;
}

pub uncopied_run-history : OneHistory uncopied_run
uncopied_run-history = record {
  budget = checked_once uncopied_run.terms.marks.limit (all_moves uncopied_run) (found_looks uncopied_run) (record { once = search rules; found = search rules; within = search rules; settled = search rules }) (search rules);
  order = search rules;
}

pub spare_run-lawful : Lawful spare_run
spare_run-lawful = record {
  segs = search rules;
  conversations = search rules;
  dues = search rules;
  ends = search rules;
  answers = assumption (refl, tt);
  window = search rules;
  looks = search rules;
  frees = search rules;
  served = search rules;
}

pub spare_run-history : OneHistory spare_run
spare_run-history = record {
  budget = checked_once spare_run.terms.marks.limit (all_moves spare_run) (found_looks spare_run) (record { once = search rules; found = search rules; within = search rules; settled = search rules }) (search rules);
  order = search rules;
}

pub keep_run-lawful : Lawful keep_run
keep_run-lawful = record {
  segs = search rules;
  conversations = search rules;
  dues = search rules;
  ends = search rules;
  answers = assumption (refl, tt);
  window = search rules;
  looks = search rules;
  frees = search rules;
  served = search rules;
}

pub keep_run-history : OneHistory keep_run
keep_run-history = record {
  budget = checked_once keep_run.terms.marks.limit (all_moves keep_run) (found_looks keep_run) (record { once = search rules; found = search rules; within = search rules; settled = search rules }) (search rules);
  order = search rules;
}

pub late_keep_run-lawful : Lawful late_keep_run
late_keep_run-lawful = record {
  segs = search rules;
  conversations = search rules;
  dues = search rules;
  ends = search rules;
  answers = assumption (refl, tt);
  window = search rules;
  looks = search rules;
  frees = search rules;
  served = search rules;
}

pub late_keep_run-history : OneHistory late_keep_run
late_keep_run-history = record {
  budget = checked_once late_keep_run.terms.marks.limit (all_moves late_keep_run) (found_looks late_keep_run) (record { once = search rules; found = search rules; within = search rules; settled = search rules }) (search rules);
  order = search rules;
}

pub unshown_run-lawful : Lawful unshown_run
unshown_run-lawful = record {
  segs = search rules;
  conversations = search rules;
  dues = search rules;
  ends = search rules;
  answers = assumption (refl, tt);
  window = search rules;
  looks = search rules;
  frees = search rules;
  served = search rules;
}

pub unshown_run-history : OneHistory unshown_run
unshown_run-history = record {
  budget = checked_once unshown_run.terms.marks.limit (all_moves unshown_run) (found_looks unshown_run) (record { once = search rules; found = search rules; within = search rules; settled = search rules }) (search rules);
  order = search rules;
}

pub flush_run-lawful : Lawful flush_run
flush_run-lawful = record {
  segs = search rules;
  conversations = search rules;
  dues = search rules;
  ends = search rules;
  answers = assumption (refl, tt);
  window = search rules;
  looks = search rules;
  frees = search rules;
  served = search rules;
}

pub flush_run-history : OneHistory flush_run
flush_run-history = record {
  budget = checked_once flush_run.terms.marks.limit (all_moves flush_run) (found_looks flush_run) (record { once = search rules; found = search rules; within = search rules; settled = search rules }) (search rules);
  order = search rules;
}

pub hole_run-lawful : Lawful hole_run
hole_run-lawful = record {
  segs = search rules;
  conversations = search rules;
  dues = search rules;
  ends = search rules;
  answers = assumption (refl, tt);
  window = search rules;
  looks = search rules;
  frees = search rules;
  served = search rules;
}

pub hole_run-history : OneHistory hole_run
hole_run-history = record {
  budget = checked_once hole_run.terms.marks.limit (all_moves hole_run) (found_looks hole_run) (record { once = search rules; found = search rules; within = search rules; settled = search rules }) (search rules);
  order = search rules;
}

pub replaced_run-lawful : Lawful replaced_run
replaced_run-lawful = record {
  segs = search rules;
  conversations = search rules;
  dues = search rules;
  ends = search rules;
  answers = assumption (refl, tt);
  window = search rules;
  looks = search rules;
  frees = search rules;
  served = search rules;
}

pub replaced_run-history : OneHistory replaced_run
replaced_run-history = record {
  budget = checked_once replaced_run.terms.marks.limit (all_moves replaced_run) (found_looks replaced_run) (record { once = search rules; found = search rules; within = search rules; settled = search rules }) (search rules);
  order = search rules;
}

pub reset_run-lawful : Lawful reset_run
reset_run-lawful = record {
  segs = search rules;
  conversations = search rules;
  dues = search rules;
  ends = search rules;
  answers = assumption (refl, tt);
  window = search rules;
  looks = search rules;
  frees = search rules;
  served = search rules;
}

pub reset_run-history : OneHistory reset_run
reset_run-history = record {
  budget = checked_once reset_run.terms.marks.limit (all_moves reset_run) (found_looks reset_run) (record { once = search rules; found = search rules; within = search rules; settled = search rules }) (search rules);
  order = search rules;
}

pub closed_run-lawful : Lawful closed_run
closed_run-lawful = record {
  segs = search rules;
  conversations = search rules;
  dues = search rules;
  ends = search rules;
  answers = assumption (refl, tt);
  window = search rules;
  looks = search rules;
  frees = search rules;
  served = search rules;
}

pub closed_run-history : OneHistory closed_run
closed_run-history = record {
  budget = checked_once closed_run.terms.marks.limit (all_moves closed_run) (found_looks closed_run) (record { once = search rules; found = search rules; within = search rules; settled = search rules }) (search rules);
  order = search rules;
}

pub idle_run-lawful : Lawful idle_run
idle_run-lawful = record {
  segs = search rules;
  conversations = search rules;
  dues = search rules;
  ends = search rules;
  answers = assumption (refl, tt);
  window = search rules;
  looks = search rules;
  frees = search rules;
  served = search rules;
}

pub idle_run-history : OneHistory idle_run
idle_run-history = record {
  budget = checked_once idle_run.terms.marks.limit (all_moves idle_run) (found_looks idle_run) (record { once = search rules; found = search rules; within = search rules; settled = search rules }) (search rules);
  order = search rules;
}

pub priorities_run-lawful : Lawful priorities_run
priorities_run-lawful = record {
  segs = assumption (refl, tt);
  conversations = assumption (refl, tt);
  dues = search rules;
  ends = search rules;
  answers = assumption (refl, tt);
  window = search rules;
  looks = ((((refl, refl, lit< tt), tt), (((refl, refl, lit< tt), tt), (((refl, refl, lit< tt), tt), (((refl, refl, lit< tt), tt), (((refl, refl, lit< tt), tt), (((refl, refl, lit< tt), tt), (((refl, refl, lit< tt), tt), (((refl, refl, lit< tt), tt), (tt, (tt, (tt, (tt, (tt, (tt, (tt, (tt, tt)))))))))))))))), tt);
  frees = assumption (refl, tt);
  served = search rules;
}

pub priorities_run-history : OneHistory priorities_run
priorities_run-history = record {
  budget = checked_once priorities_run.terms.marks.limit (all_moves priorities_run) (found_looks priorities_run) (record { once = search rules; found = search rules; within = search rules; settled = search rules }) (search rules);
  order = search rules;
}

pub rule_run-lawful : Lawful rule_run
rule_run-lawful = record {
  segs = search rules;
  conversations = search rules;
  dues = search rules;
  ends = search rules;
  answers = assumption (refl, tt);
  window = search rules;
  looks = search rules;
  frees = search rules;
  served = search rules;
}

pub rule_run-history : OneHistory rule_run
rule_run-history = record {
  budget = checked_once rule_run.terms.marks.limit (all_moves rule_run) (found_looks rule_run) (record { once = search rules; found = search rules; within = search rules; settled = search rules }) (search rules);
  order = search rules;
}

pub two_run-lawful : Lawful two_run
two_run-lawful = record {
  segs = search rules;
  conversations = search rules;
  dues = search rules;
  ends = search rules;
  answers = assumption (refl, tt);
  window = search rules;
  looks = search rules;
  frees = search rules;
  served = search rules;
}

pub two_run-history : OneHistory two_run
two_run-history = record {
  budget = checked_once two_run.terms.marks.limit (all_moves two_run) (found_looks two_run) (record { once = search rules; found = search rules; within = search rules; settled = search rules }) (search rules);
  order = search rules;
}

pub four_run-lawful : Lawful four_run
four_run-lawful = record {
  segs = assumption (refl, tt);
  conversations = search rules;
  dues = search rules;
  ends = search rules;
  answers = assumption (refl, tt);
  window = search rules;
  looks = ((((refl, refl, lit< tt), tt), (tt, (((refl, refl, lit< tt), tt), (((refl, refl, lit< tt), tt), (((refl, refl, lit< tt), tt), (tt, (tt, (tt, (tt, tt))))))))), tt);
  frees = assumption (refl, tt);
  served = assumption (refl, tt);
}

pub four_run-history : OneHistory four_run
four_run-history = record {
  budget = checked_once four_run.terms.marks.limit (all_moves four_run) (found_looks four_run) (record { once = search rules; found = search rules; within = search rules; settled = search rules }) (search rules);
  order = search rules;
}
