use Rattle.linkip.proofs.FrameLaws.{leads_on}
use Rattle.linkip.proofs.laws.a_frame_is_a_header_and_what_it_leads_to.Goals as goal

pub returns : goal.returns
returns c = λ header typed. leads_on header typed
