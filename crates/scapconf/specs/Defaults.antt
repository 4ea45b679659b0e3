-- docs/FORMATS.md, "Settings": what holds where nothing is said.
use Rattle.std.specs.Prelude.{[], None}
use Rattle.cutclass.specs.declared.cut.Cut.TheVariants.{Unset}
use Rattle.cutclass.specs.declared.cutoffs.Cutoffs.{Cutoffs}
use Rattle.overpolicy.specs.declared.mode.Mode.TheVariants.{Strict}
use Rattle.overpolicy.specs.declared.policy.Policy.TheVariants.{First}
use Rattle.overpolicy.specs.declared.shape.Shape.{Shape}
use Rattle.prio_budget.specs.MarkParts.{MarkParts}
use Rattle.scapconf.specs.declared.settings.Settings.{Settings}

-- gaps are waited for, a second long and 256 KiB far; chunks have 16 KiB, repeat nothing and are never handed over for their
-- age; a conversation without packets lasts five minutes
abbrev pub default_shape : Shape
default_shape = record {
  mode = Strict;
  policy = First;
  chunk = 16384;
  overlap = 0;
  flush = 0;
  hole = 1000000000;
  reorder = 262144;
  idle = 300000000000;
}

-- no stream is cut
abbrev pub default_cutoffs : Cutoffs
default_cutoffs = record { default = Unset; fore = Unset; back = Unset; classes = [] }

-- 64 MiB for one priority, which may fill all of it; half of it any priority might fill
abbrev pub default_marks : MarkParts
default_marks = record { limit = 67108864; base = 33554432; count = 1 }

-- every packet is accepted, and there are no rules
abbrev pub default_settings : Settings
default_settings = record {
  set = record { shape = default_shape; cutoffs = default_cutoffs; marks = default_marks };
  filter = None;
  rules = [];
}
