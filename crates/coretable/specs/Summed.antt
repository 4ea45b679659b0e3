-- The totals that a table tells: those of the definition.
use Rattle.std.specs.Prelude.{◌≡◌, ⊤, ℕ, suc, ◌≤◌, List, [], ◌∷◌, length, flat_map}
use Rattle.evring.specs.declared.way.Way.{Way}
use Rattle.evring.specs.declared.way.Way.TheVariants.{Fore, Back}
use Rattle.streamdefs.specs.Packet.{Packet}
use Rattle.streamdefs.specs.Terms.{Terms}
use Rattle.streamdefs.specs.Convo.{Act, new_convo}
use Rattle.streamdefs.specs.Core.{Line, Open, history}
use Rattle.streamdefs.specs.Totals.{Total, total_of, gap_bytes}
use Rattle.streamdefs.specs.Report.{Tallied, tallied_on}
use Rattle.convo.specs.declared.dir_total.DirTotal.{DirTotal}
use Rattle.convo.specs.Talk.{kept_count, kept_counts}

-- The totals of a direction as they are kept: a count stands still at the end of its type.
abbrev pub dir_in : ℕ → Way → Total → DirTotal
dir_in conv way total = record { conv = conv; way = way; counts = kept_counts total.counts; gaps = kept_count (length total.gaps); gap_bytes = kept_count (gap_bytes total) }

-- those of a conversation, fore before back
abbrev pub dirs_in : Tallied → List DirTotal
dirs_in c = dir_in c.conv Fore c.totals.fore ∷ dir_in c.conv Back c.totals.back ∷ []

-- the totals of a history that begins with a packet
abbrev pub tallied_by : Terms → Packet → List Act → Tallied
tallied_by t first acts = record { conv = first.number; totals = record { fore = total_of t (new_convo first) Fore acts; back = total_of t (new_convo first) Back acts } }

-- those of a conversation in the lines of a core
abbrev pub tallied_in : Terms → List Line → Open → Tallied
tallied_in t lines o = record { conv = o.id; totals = record { fore = total_of t (new_convo o.convo.first) Fore (history o.id lines); back = total_of t (new_convo o.convo.first) Back (history o.id lines) } }

-- the totals of a core's lines: those of its conversations, in the order in which they opened
abbrev pub totals_on : Terms → List Line → List DirTotal
totals_on t lines = flat_map dirs_in (tallied_on t lines)

-- totals of conversations by ascending number, fore before back
abbrev pub Ascend : ℕ → List DirTotal → Type 0
Ascend from [] = ⊤
Ascend from (fore ∷ []) = ⊥
Ascend from (fore ∷ back ∷ dirs) = (from ≤ fore.conv) × (fore.way ≡ Fore) × (back.conv ≡ fore.conv) × (back.way ≡ Back) × Ascend (suc fore.conv) dirs
