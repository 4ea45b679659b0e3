-- A segment comes: what the code keeps is what the definition asks.
use Rattle.std.specs.Prelude.{◌≡◌, refl, ℕ, ◌+◌, ◌-◌, true, List, [], length, map, max, Option, ℤ}
use Rattle.std.proofs.Common.{sym, ◌∙◌, ap, subst}
use Rattle.overpolicy.specs.declared.policy.Policy.{Policy}
use Rattle.streamdefs.specs.Terms.{Terms}
use Rattle.streamdefs.specs.Ranges.{Range}
use Rattle.streamdefs.specs.Reorder.{Charge}
use Rattle.streamdefs.specs.View.{gaps_from}
use Rattle.streamdefs.specs.Direction.{Direction, Kind, Segment, Counts, start_of, lengths}
use Rattle.reorder.specs.Frags.{Frag, Ascends, free, overlaid}
use Rattle.reorder.proofs.FreeRuns.{free_within}
use Rattle.flowdir.specs.Lane.{Lane}
use Rattle.flowdir.specs.Asking.{Wait, placed_wait, Asking}
use Rattle.flowdir.specs.Classes.{at_of, bytes_at, inner_of, counts_with, sum_of_runs}
use Rattle.flowdir.specs.Waits.{wait_in}
use Rattle.flowdir.specs.Meeting.{Meets, IsFor}
use Rattle.flowdir.proofs.Asked.{begin_asking, IsCut}
use Rattle.flowdir.proofs.RunSums.{waits_few}

pub start_asking : {C : Type 0} (paid : C → Charge) (t : Terms) (kind : Kind) (d : Direction) (s : Segment) (policy : Policy) (start : ℤ) (payload : List ℕ) (cutoff : Option ℕ) (lane : Lane C) (fs fs' : List (Frag C))
    (at len below low : ℕ) (inner : List ℕ) (waits : List Wait) (counts : Counts) (wanted : ℕ)
    → t.policy ≡ policy → s.live ≡ true → IsFor s payload cutoff → start ≡ start_of kind d s → Meets paid lane fs d → Ascends lane.front fs
    → at ≡ at_of start → len ≡ length (bytes_at start payload) → below ≡ length payload - length (bytes_at start payload) → low ≡ max lane.front (at_of start)
    → inner ≡ inner_of lane.front cutoff (at_of start) (bytes_at start payload)
    → waits ≡ map (wait_in low inner) (free low (low + length inner) fs) → wanted ≡ sum_of_runs (free low (low + length inner) fs)
    → fs' ≡ overlaid policy start low inner fs → counts ≡ counts_with lane.front lane.gaps cutoff at len below (length inner) wanted
    → Asking paid t kind d s [] start fs' waits counts
start_asking {C = C} paid t kind d s policy start payload cutoff lane fs fs' at len below low inner waits counts wanted p l f st m a at_is len_is below_is low_is inner_is waits_are wanted_is fs_are counts_are =
    subst (λ (x : List (Frag C) × List Wait × Counts). Asking paid t kind d s [] start x.0 x.1 x.2) (λ i. (fs_same i, waits_same i, counts_same i)) asked
  where
    front_same : lane.front ≡ d.view.front
    front_same = sym m.front

    low_same : low ≡ max d.view.front (at_of start)
    low_same = low_is ∙ ap (λ n. max n (at_of start)) front_same

    rs : List Range
    rs = free (max d.view.front (at_of start)) (max d.view.front (at_of start) + length inner) fs

    rs_same : free low (low + length inner) fs ≡ rs
    rs_same = ap (λ n. free n (n + length inner) fs) low_same

    bytes_same : bytes_at start payload ≡ bytes_at start s.payload
    bytes_same = ap (bytes_at start) (sym f.payload_is)

    cut : IsCut kind d s start (at_of start) (bytes_at start s.payload) inner
    cut = record {
      start_is = st;
      at_is = refl;
      bytes_is = refl;
      inner_is = inner_is ∙ (λ i. inner_of (front_same i) (sym f.cutoff_is i) (at_of start) (bytes_same i));
    }

    asked : Asking paid t kind d s [] start (overlaid t.policy start (max d.view.front (at_of start)) inner fs) (map (wait_in (max d.view.front (at_of start)) inner) rs)
        (counts_with d.view.front (gaps_from 0 d.view.flow) s.cutoff (at_of start) (length (bytes_at start s.payload)) below (length inner) (lengths (map (placed_wait start) (map (wait_in (max d.view.front (at_of start)) inner) rs))))
    asked = begin_asking paid t kind d s start (at_of start) (bytes_at start s.payload) inner fs below rs cut l m.held (subst (λ n. Ascends n fs) front_same a) m.flows.rises (m.flows.front_is ∙ front_same)
        (below_is ∙ (λ i. length (sym f.payload_is i) - length (bytes_same i))) refl

    fs_same : overlaid t.policy start (max d.view.front (at_of start)) inner fs ≡ fs'
    fs_same = (λ i. overlaid (p i) start (sym low_same i) inner fs) ∙ sym fs_are

    waits_same : map (wait_in (max d.view.front (at_of start)) inner) rs ≡ waits
    waits_same = (λ i. map (wait_in (sym low_same i) inner) (sym rs_same i)) ∙ sym waits_are

    wanted_same : lengths (map (placed_wait start) (map (wait_in (max d.view.front (at_of start)) inner) rs)) ≡ wanted
    wanted_same =
        waits_few start (max d.view.front (at_of start)) inner rs (free_within (max d.view.front (at_of start)) (max d.view.front (at_of start) + length inner) fs)
        ∙ ap sum_of_runs (sym rs_same) ∙ sym wanted_is

    counts_same : counts_with d.view.front (gaps_from 0 d.view.flow) s.cutoff (at_of start) (length (bytes_at start s.payload)) below (length inner) (lengths (map (placed_wait start) (map (wait_in (max d.view.front (at_of start)) inner) rs))) ≡ counts
    counts_same =
        (λ i. counts_with (sym front_same i) (m.flows.gaps_are i) (f.cutoff_is i) (sym at_is i) ((ap length (sym bytes_same) ∙ sym len_is) i) below (length inner) (wanted_same i))
        ∙ sym counts_are
