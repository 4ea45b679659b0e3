use Rattle.streamdefs.proofs.FastRule.{one_run, granted_view, granted_gap, refused_view, none_view}
use Rattle.streamdefs.proofs.laws.fast_mode_holds_nothing.Goals as goal

pub returns : goal.returns
returns c = record { one = one_run; granted = granted_view; gap = granted_gap; refused = refused_view; none = none_view }
