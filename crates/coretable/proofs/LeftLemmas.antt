-- A table whose course has no entry under way leaves the course's book and totals.
use Rattle.std.specs.Prelude.{◌≡◌, ℕ, None, true}
use Rattle.std.proofs.Common.{◌∙◌, subst, sym}
use Rattle.streamdefs.specs.Terms.{Terms}
use Rattle.streamdefs.specs.Reorder.{Charge}
use Rattle.streamdefs.specs.Lawful.{Handler}
use Rattle.coretable.specs.Course.{Course}
use Rattle.coretable.specs.Held.{StandsFor}
use Rattle.coretable.specs.Lawfully.{IsSound}
use Rattle.coretable.specs.Left.{IsLeftOf}
use Rattle.coretable.specs.Standing.{Keeps}
use Rattle.coretable.specs.Summed.{Ascend, totals_on}
use Rattle.coretable.specs.Table.{Stands}
use Rattle.coretable.specs.declared.table.CoreTable.{CoreTable}
use Rattle.coretable.specs.declared.table_book.CoreBook.{CoreBook}
use Rattle.coretable.proofs.Soundness.{is_finished}
use Rattle.coretable.proofs.SummedLemmas.{totals_ascend}
use Rattle.coretable.proofs.TableLemmas.{idle_rests}

module _ {C : Type 0} (paid : C → Charge) (t : Terms) (last : ℕ) (handler : Handler) (m : Course) (x : CoreTable C) (left : CoreBook) where
  pub leaves_idle : left.entries ≡ x.desk.book.items
      → (IsSound t last handler m → m.under ≡ None → Keeps (StandsFor paid t) t m x.desk → left.totals.items ≡ totals_on t m.lines) → Stands paid t last handler m x → m.under ≡ None → IsLeftOf t m left
  leaves_idle entries totals stands e =
      let keeps = (idle_rests paid t m x.desk x.state e stands.at).keeps in
      let told = totals stands.sound e keeps in
      record { entries = entries ∙ keeps.book; totals = told; order = subst (Ascend 0) (sym told) (totals_ascend t last handler m stands.sound e) }

  pub leaves_over : left.entries ≡ x.desk.book.items
      → (IsSound t last handler m → m.under ≡ None → Keeps (StandsFor paid t) t m x.desk → left.totals.items ≡ totals_on t m.lines) → Stands paid t last handler m x → x.over ≡ true → IsLeftOf t m left
  leaves_over entries totals stands over = leaves_idle entries totals stands (is_finished t m (stands.ends over)).rests
