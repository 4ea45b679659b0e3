-- When a direction falls due.
use Rattle.std.specs.Prelude.{◌≡◌, refl, ℕ, ◌+◌, ◌<◌, Bool, true, false, cond, nat_lt, List, [], ◌∷◌, ◌++◌, length, Option, Some, None, option_map, option_to_list}
use Rattle.std.proofs.Common.{sym, ◌∙◌, ap, arith}
use Rattle.streamdefs.specs.Terms.{Terms}
use Rattle.streamdefs.specs.Reorder.{Charge, Placed}
use Rattle.streamdefs.specs.Pending.{Piece}
use Rattle.streamdefs.specs.Direction.{Direction, hole_due, flush_due, dues_in}
use Rattle.overpolicy.specs.declared.shape.Shape.{Shape}
use Rattle.flowdir.specs.Lane.{Bundle, Lane, Pends}
use Rattle.flowdir.specs.Closing.{flush_at}
use Rattle.flowdir.specs.Boundary.{HasShape, least_of}
use Rattle.flowdir.specs.Boundary.Phase.{Rests}
use Rattle.flowdir.specs.Kept.{Kept, Working, RestsFor, StandsFor}
use Rattle.flowdir.specs.Kept.Working.{Idle, Runs, Copies, Giving, Failed}

holes : (t : Terms) (d : Direction) (since : Option ℕ) (hole : ℕ) → d.hole ≡ since → t.hole ≡ hole → hole_due t d ≡ option_to_list (option_map (λ n. n + hole) since)
holes t d since hole e f = ap (λ o. hole_due t (record d { hole = o })) e ∙ by since
  where
    by : (o : Option ℕ) → hole_due t (record d { hole = o }) ≡ option_to_list (option_map (λ n. n + hole) o)
    by None = refl
    by (Some n) = ap (λ h. (n + h) ∷ []) f

flushes : {C : Type 0} (paid : C → Charge) (t : Terms) (d : Direction) (lane : Lane C) (flush : ℕ) → Pends paid lane.since lane.copy lane.chunk d.pending → t.flush ≡ flush → flush_due t d ≡ option_to_list (flush_at flush lane)
flushes {C = C} paid t d lane flush h f = by lane.chunk h
  where
    cut : (b : Bool) (n : ℕ) → ◌≡◌ {A = List ℕ} (cond b (n ∷ []) []) (option_to_list (cond b (Some n) None))
    cut true n = refl
    cut false n = refl

    by : (chunk : Option (Bundle C)) → Pends paid lane.since lane.copy chunk d.pending → flush_due t d ≡ option_to_list (flush_at flush (record lane { chunk = chunk }))
    by None h = ap (λ ps. flush_due t (record d { pending = record d.pending { bytes = ps } })) h.0
    by (Some chunk) h = some d.pending.bytes h.1.some
      where
        some : (ps : List Placed) → 0 < length ps → flush_due t (record d { pending = record d.pending { bytes = ps } }) ≡ option_to_list (flush_at flush (record lane { chunk = Some chunk }))
        some [] n = absurd (omega arith)
        some (q ∷ qs) n = (λ i. cond (nat_lt 0 (f i)) ((h.1.since_is i + f i) ∷ []) []) ∙ cut (nat_lt 0 flush) (lane.since + flush)

pub dues_stand : {C : Type 0} (paid : C → Charge) (k : Kept C) (shape : Shape) (t : Terms) (d : Direction) (pieces : List Piece) (result hole flush : Option ℕ) → HasShape shape t → StandsFor paid k d Rests pieces
    → result ≡ least_of (option_to_list hole ++ option_to_list flush) → hole ≡ option_map (λ since. since + shape.hole) k.hole → flush ≡ flush_at shape.flush k.lane → result ≡ least_of (dues_in t d)
dues_stand {C = C} paid k shape t d pieces result hole flush s h e f g = by k.work h
  where
    at_rest : RestsFor paid k d pieces → result ≡ least_of (dues_in t d)
    at_rest r = e ∙ (λ i. least_of ((ap option_to_list f ∙ sym (holes t d k.hole shape.hole r.hole s.hole)) i ++ (ap option_to_list g ∙ sym (flushes paid t d k.lane shape.flush r.lane.pends s.flush)) i))

    by : (work : Working) → StandsFor paid (record k { work = work }) d Rests pieces → result ≡ least_of (dues_in t d)
    by Idle h = at_rest (record { meets = h.meets; lane = h.lane; base = h.base; sent = h.sent; fin = h.fin; hole = h.hole })
    by Giving h = absurd h
    by Failed h = absurd h
    by (Copies bytes) h = absurd h
    by (Runs start []) h = absurd h
    by (Runs start (w ∷ ws)) h = absurd h
