-- Where a segment begins.
use Rattle.std.specs.Prelude.{◌≡◌, refl, ℕ, ◌+◌, ◌%◌, ◌^◌, Bool, cond, Option, None, Some, ℤ, unwrap_or}
use Rattle.std.proofs.Common.{sym, ◌∙◌}
use Rattle.streamdefs.specs.Direction.{Direction, Segment, Kind, payload_seq, start_of, base_with, fin_after}
use Rattle.flowdir.specs.declared.dir_mode.DirMode.{DirMode}
use Rattle.flowdir.specs.declared.dir_mode.DirMode.TheVariants.{Strict, Fast, Udp}
use Rattle.flowdir.specs.declared.aim.Aim.{Aim}
use Rattle.flowdir.specs.Heading.{start_by, fin_with, Tells, Says, AimsAt}
use Rattle.flowdir.specs.Boundary.{kind_of}

start_same : (mode : DirMode) (d : Direction) (s : Segment) → start_of (kind_of mode) d s ≡ start_by mode (base_with d s) (payload_seq s) d.view.front d.sent
start_same Strict d s = refl
start_same Fast d s = refl
start_same Udp d s = refl

fin_same : (kind : Kind) (d : Direction) (s : Segment) → fin_after kind d s ≡ fin_with d.fin s.fin (start_of kind d s) s.declared
fin_same kind d s = by d.fin
  where
    by : (known : Option ℕ) → fin_after kind (record d { fin = known }) s ≡ fin_with known s.fin (start_of kind (record d { fin = known }) s) s.declared
    by None = refl
    by (Some position) = refl

pub aims_at : (mode : DirMode) (base fin : Option ℕ) (sent front seq declared len pseq based summed : ℕ) (syn has_fin : Bool) (start : ℤ) (last_fin : Option ℕ) (aim : Aim) (d : Direction) (s : Segment) → Tells base sent front fin d → Says seq declared len syn has_fin s
    → pseq ≡ cond syn ((seq + 1) % 2 ^ 32) seq → based ≡ unwrap_or base pseq → start ≡ start_by mode based pseq front sent → last_fin ≡ fin_with fin has_fin start declared → summed ≡ sent + len
    → aim.start ≡ start → aim.head.base.0 ≡ based → aim.head.sent ≡ summed → aim.head.fin ≡ last_fin → AimsAt aim (kind_of mode) d s
aims_at mode base fin sent front seq declared len pseq based summed syn has_fin start last_fin aim d s t y p b st lf sm a1 a2 a3 a4 = record {
  start_is = a1 ∙ start_is;
  base_is = a2 ∙ base_is;
  sent_is = a3 ∙ sm ∙ (λ i. sym t.sent_is i + sym y.len_is i);
  fin_is = a4 ∙ lf ∙ (λ i. fin_with (sym t.fin_is i) (sym y.fin_is i) (start_is i) (sym y.declared_is i)) ∙ sym (fin_same (kind_of mode) d s);
}
  where
    seq_is : pseq ≡ payload_seq s
    seq_is = p ∙ (λ i. cond (sym y.syn_is i) ((sym y.seq_is i + 1) % 2 ^ 32) (sym y.seq_is i))

    base_is : based ≡ base_with d s
    base_is = b ∙ (λ i. unwrap_or (sym t.base_is i) (seq_is i))

    start_is : start ≡ start_of (kind_of mode) d s
    start_is = st ∙ (λ i. start_by mode (base_is i) (seq_is i) (sym t.front_is i) (sym t.sent_is i)) ∙ sym (start_same mode d s)
