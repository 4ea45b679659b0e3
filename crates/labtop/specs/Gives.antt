use Rattle.std.specs.Prelude.{◌≡◌, [], ◌∷◌, Result, Ok, Err}
use Rattle.labtop.specs.declared.outcome.Outcome.{Outcome}
use Rattle.scapconf.specs.declared.status.Status.{Status}
use Rattle.streamdefs.specs.Terms.{Terms}
use Rattle.labtop.specs.Answers.{Allows}
use Rattle.labtop.specs.Headline.{IsRun, delivery_for, report_for}
use Rattle.labtop.specs.Kinds as kind
use Rattle.labtop.specs.Kinds.{MayBe}
use Rattle.labtop.specs.Scapconf.{Captured}
use Rattle.labtop.specs.Drill.{Verdict, Delivers}

-- a journal that is lawful for packets, and its texts
abbrev pub HasTexts : Terms → Captured → Outcome → Type 0
HasTexts terms c o = IsRun terms c o.journal × (o.delivery.items ≡ delivery_for terms c o.journal) × (o.report.items ≡ report_for terms c o.journal)

-- a journal that is lawful for a verdict's packets, and its texts, or the verdict's refusal; want of memory may stand in place of either
abbrev pub Gives : Terms → Result Outcome Status → Verdict → Type 0
Gives terms (Ok o) (Delivers c) = HasTexts terms c o
Gives terms (Ok o) _ = ⊥
Gives terms (Err s) verdict = Allows verdict s × MayBe (kind.memory ∷ kind.not_pcap ∷ kind.unbuilt ∷ []) s
