-- Which entry comes next, and where its conversation stands.
use Rattle.std.specs.Prelude.{◌≡◌, ⊤, ℕ, slice_get, [], Option, Some, None}
use Rattle.evring.specs.declared.reason.Reason.TheVariants.{Replaced}
use Rattle.streamdefs.specs.Packet.{Packet}
use Rattle.streamdefs.specs.Terms.{Terms}
use Rattle.streamdefs.specs.Convo.{Convo}
use Rattle.streamdefs.specs.Convo.Act.{End}
use Rattle.streamdefs.specs.Core.{Line, Core, Open, latest_of}
use Rattle.coretable.specs.Course.{seg_line, packet_line, first_live}
use Rattle.coretable.specs.Standing.{AreEnded}
use Rattle.coretable.specs.declared.choosing.Verdict.{Verdict}
use Rattle.coretable.specs.declared.choosing.Verdict.TheVariants as V

-- the entry that it means
abbrev pub verdict_line : Packet → ℕ → Verdict → Line
verdict_line p id V.Seg = seg_line id p
verdict_line p id V.Open = seg_line p.number p
verdict_line p id V.Replaces = record { conv = id; act = End p.now Replaced [] [] }

-- a conversation of that number stands at a place, where the entry isn't one that opens one
abbrev pub StandsAt : Core → ℕ → ℕ → Type 0
StandsAt core id place = (c : Convo) × (slice_get core.convos place ≡ Some (record { id = id; convo = c }))

abbrev pub IsThere : Core → ℕ → ℕ → Verdict → Type 0
IsThere core id place V.Open = ⊤
IsThere core id place V.Seg = StandsAt core id place
IsThere core id place V.Replaces = StandsAt core id place

-- what is chosen for the packet that waits: the entry is that of the course, and stands under the conversation at a place
pub record IsPlan (t : Terms) (core : Core) (p : Packet) (place : ℕ) (v : Verdict) : Type 0 where
  pub id : ℕ
  pub line : verdict_line p id v ≡ packet_line t p (latest_of p.key core.convos)
  pub there : IsThere core id place v

-- the first conversation that is live stands there; none is
abbrev pub IsFirst : Core → Option ℕ → Type 0
IsFirst core None = first_live core.convos ≡ None
IsFirst core (Some place) = (o : Open) × (first_live core.convos ≡ Some o) × (slice_get core.convos place ≡ Some o) × AreEnded place core.convos
