-- What a conversation stands for, as one fact.
use Rattle.std.specs.Prelude.{ℕ}
use Rattle.streamdefs.specs.Terms.{Terms}
use Rattle.streamdefs.specs.Reorder.{Charge}
use Rattle.streamdefs.specs.Convo.{Act}
use Rattle.convo.specs.Stands.{Stands}
use Rattle.convo.specs.Talk.{Talk, IsWantOf}
use Rattle.convo.specs.declared.talk.Convo.{Convo}
use Rattle.convo.specs.declared.want.Want.{Want}
use Rattle.convo.specs.declared.want.Want.TheVariants.{Ask, Free, Emit, Rest}
use Rattle.coretable.specs.Held.{StandsFor}

pub closed : {C : Type 0} (paid : C → Charge) (t : Terms) (x : Convo C) (k : Talk) (act : Act) (n : ℕ) (w : Want C) → IsWantOf paid (Stands paid x t) t k act n w → IsWantOf paid (StandsFor paid t x) t k act n w
closed paid t x k act n Rest h = (h.0, record { is = h.1 })
closed paid t x k act n (Ask bytes mark) h = (h.0, record { is = h.1 })
closed paid t x k act n (Free charge) h = (h.0, record { is = h.1 })
closed paid t x k act n (Emit event) h = (h.0, record { is = h.1 })
