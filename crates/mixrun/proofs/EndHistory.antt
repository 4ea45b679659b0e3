-- Once all tables are over and nothing is used, the moves and looks of the journal are one history of its budget.
use Rattle.std.proofs.Common.{◌≡◌, ℕ, suc, List, [], ◌∷◌, Some, refl, ap, arith, append-nil, flat_map, length, slice_get}
use Rattle.prio_budget.specs.declared.look.Look.{Look}
use Rattle.histbook.specs.declared.look_entry.LookEntry.{LookEntry}
use Rattle.histbook.specs.Budget.{BudgetMove, total, IsOneHistory}
use Rattle.streamdefs.specs.Convo.{looks_in}
use Rattle.streamdefs.specs.Core.{Line}
use Rattle.streamdefs.specs.Order.{moves_of, all_moves, all_looks, found_looks}
use Rattle.coretable.proofs.Soundness.{is_finished}
use Rattle.mixrun.specs.Moment.{Setup, Reply, AtCore, AtWorker, Moment}
use Rattle.mixrun.specs.AtMoment.{lines_in, moves_at, looks_at}
use Rattle.mixrun.specs.Ledger.{LeadsTo, IsBalanced}
use Rattle.mixrun.specs.Books.{AreFed}
use Rattle.mixrun.specs.Queue.{InOrder}
use Rattle.mixrun.specs.AtEnd.{run_of, AllOver, AllIdle, AreCounted}
use Rattle.mixrun.proofs.ListLemmas.{total_flat, total_map}
use Rattle.mixrun.proofs.LedgerLemmas.{leads_on}
use Rattle.mixrun.proofs.CoreSums.{line_moves, line_looks, core_moves, core_looks}
use Rattle.mixrun.proofs.BudgetSteps.{moves_sum, looks_sum, freely, worker_moves, nothing_comes}
use Rattle.mixrun.proofs.EndLaws.{none_wait}

module _ {A : Type 0} (f g : A → ℕ) where
  total_equal : (xs : List A) → ((i : ℕ) (a : A) → slice_get xs i ≡ Some a → f a ≡ g a) → total f xs ≡ total g xs
  total_equal [] h = refl
  total_equal (x ∷ xs) h = omega (arith, h 0 x refl, total_equal xs (λ i a e. h (suc i) a e))

total_zero : {A : Type 0} (xs : List A) → total (λ x. 0) xs ≡ 0
total_zero [] = refl
total_zero (x ∷ xs) = omega (arith, total_zero xs)

nothing_left : {A : Type 0} (xs : List A) → length xs ≡ 0 → xs ≡ []
nothing_left [] h = refl
nothing_left (x ∷ xs) h = absurd (omega arith)

module _ (s : Setup) (m : Moment) (order : InOrder s m) (fed : AreFed s m) (counted : AreCounted s m) (over : AllOver s m) (idle : AllIdle m) where
  pub lines_are : (c : ℕ) (a : AtCore) → slice_get m.cores c ≡ Some a → lines_in a.course ≡ a.course.lines
  lines_are c a there = let none = (is_finished s.terms a.course (over c a there).0).rests in rw none (append-nil a.course.lines)

  pub no_answers : (c : ℕ) (a : AtCore) → slice_get m.cores c ≡ Some a → a.answers ≡ []
  no_answers c a there = nothing_left a.answers (none_wait s m order fed counted over c a there)

  all_moves_sum : (w : BudgetMove → ℕ) → total w (all_moves (run_of s m)) ≡ total w (moves_at m)
  all_moves_sum w =
      let books = total_flat w (λ lines. flat_map (λ line. moves_of line.act) lines) (run_of s m).books in
      let mapped = total_map (λ lines. total w (flat_map (λ line. moves_of line.act) lines)) (λ (a : AtCore). a.course.lines) m.cores in
      let each = total_equal (λ (a : AtCore). total w (flat_map (λ line. moves_of line.act) a.course.lines)) (core_moves w) m.cores (λ c a there. one c a there) in
      let hands = total_equal (worker_moves w) (λ x. 0) m.workers (λ v x there. empty v x there) in
      omega (arith, books, mapped, each, hands, total_zero m.workers, moves_sum w m)
    where
      one : (c : ℕ) (a : AtCore) → slice_get m.cores c ≡ Some a → total w (flat_map (λ line. moves_of line.act) a.course.lines) ≡ core_moves w a
      one c a there =
          let flat = total_flat w (λ line. moves_of line.act) a.course.lines in
          let lines = ap (total (line_moves w)) (lines_are c a there) in
          let none = ap (λ (l : List Reply). total (freely w) (flat_map (λ r. r.frees) l)) (no_answers c a there) in
          omega (arith, flat, lines, none)

      empty : (v : ℕ) (x : AtWorker) → slice_get m.workers v ≡ Some x → worker_moves w x ≡ 0
      empty v x there = let e = idle v x there in rw e refl

  all_looks_sum : (v : Look → ℕ) → total v (found_looks (run_of s m)) ≡ total v (looks_at m)
  all_looks_sum v =
      let found = total_map v (λ (l : LookEntry). l.look) (all_looks (run_of s m)) in
      let books = total_flat (λ (l : LookEntry). v l.look) (λ lines. flat_map (λ line. looks_in line.act) lines) (run_of s m).books in
      let mapped = total_map (λ lines. total (λ (l : LookEntry). v l.look) (flat_map (λ line. looks_in line.act) lines)) (λ (a : AtCore). a.course.lines) m.cores in
      let each = total_equal (λ (a : AtCore). total (λ (l : LookEntry). v l.look) (flat_map (λ line. looks_in line.act) a.course.lines)) (core_looks v) m.cores (λ c a there. one c a there) in
      omega (arith, found, books, mapped, each, looks_sum v m)
    where
      line_same : (lines : List Line) → total (λ line. total (λ (l : LookEntry). v l.look) (looks_in line.act)) lines ≡ total (line_looks v) lines
      line_same [] = refl
      line_same (line ∷ lines) = omega (arith, total_map v (λ (l : LookEntry). l.look) (looks_in line.act), line_same lines)

      one : (c : ℕ) (a : AtCore) → slice_get m.cores c ≡ Some a → total (λ (l : LookEntry). v l.look) (flat_map (λ line. looks_in line.act) a.course.lines) ≡ core_looks v a
      one c a there =
          let flat = total_flat (λ (l : LookEntry). v l.look) (λ line. looks_in line.act) a.course.lines in
          let lines = ap (total (line_looks v)) (lines_are c a there) in
          omega (arith, flat, lines, line_same a.course.lines)

  pub one_history : IsBalanced s m → m.pair.used ≡ 0 → IsOneHistory s.terms.marks.limit 0 (all_moves (run_of s m)) (found_looks (run_of s m))
  one_history balanced none =
      let leads : LeadsTo s.terms.marks.limit m.pair (all_moves (run_of s m)) (found_looks (run_of s m)) =
      leads_on s.terms.marks.limit m.pair m.pair (moves_at m) [] (all_moves (run_of s m)) (looks_at m) [] (found_looks (run_of s m)) balanced (nothing_comes s.terms.marks.limit m.pair balanced.room)
      (λ w. omega (arith, all_moves_sum w)) (λ v. omega (arith, all_looks_sum v)) in
      record { once = leads.once; found = leads.found; fair = leads.fair; within = leads.within; settled = omega (arith, leads.used, none) }
