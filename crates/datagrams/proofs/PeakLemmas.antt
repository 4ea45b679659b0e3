-- The numbers of the budget, kept along a book.
use Rattle.std.specs.Prelude.{◌≡◌, refl, ℕ, ◌+◌, ◌-◌, ◌≤◌, max, Bool, true, false, cond, not, List, [], ◌∷◌, ◌++◌, length, map, flat_map, filter}
use Rattle.std.proofs.Common.{sym, ◌∙◌, ap, arith, append-nil}
use Rattle.histbook.specs.declared.look_entry.LookEntry.{LookEntry}
use Rattle.histbook.specs.declared.core_entry.CoreEntry.{CoreEntry}
use Rattle.histbook.specs.InTurn.{Ask, BudgetStep, GiveBack, IsInTurn, book_steps, entry_steps, kept_peak, stamp_behind, used_behind}
use Rattle.histbook.specs.Moves.{looks_in}
use Rattle.prio_budget.specs.declared.free.Free.{Free}
use Rattle.streamdefs.specs.Terms.{Terms}
use Rattle.streamdefs.specs.Totals.{refused}
use Rattle.datagrams.specs.Assembled.{Bare, Granted, IsVerdict, Refused, Verdict, looks_by}
use Rattle.datagrams.proofs.ReplaySteps.{steps_grow}
use Rattle.datagrams.proofs.Standing.{used_by}

kept_append : (limit : ℕ) (xs ys : List BudgetStep) (stamp used last_stamp last_used high : ℕ) → IsInTurn limit xs stamp used last_stamp last_used → kept_peak (xs ++ ys) used high ≡ kept_peak ys last_used (kept_peak xs used high)
kept_append limit [] ys stamp used last_stamp last_used high h = ap (λ (u : ℕ). kept_peak ys u high) (sym h.1)
kept_append limit (x ∷ xs) ys stamp used last_stamp last_used high h = kept_append limit xs ys (stamp_behind x stamp) (used_behind x used) last_stamp last_used (max high (used_behind x used)) h.1

-- with an entry more
pub kept_booked : (limit : ℕ) (book : List CoreEntry) (entry : CoreEntry) (stamp used : ℕ) → IsInTurn limit (book_steps book) 0 0 stamp used
    → kept_peak (book_steps (book ++ entry ∷ [])) 0 0 ≡ kept_peak (entry_steps entry) used (kept_peak (book_steps book) 0 0)
kept_booked limit book entry stamp used h = ap (λ (steps : List BudgetStep). kept_peak steps 0 0) (steps_grow book entry) ∙ kept_append limit (book_steps book) (entry_steps entry) 0 0 stamp used 0 h

-- what is given back raises no maximum
pub kept_given : (frees : List Free) (used high : ℕ) → used ≤ high → kept_peak (map GiveBack frees) used high ≡ high
kept_given [] used high h = refl
kept_given (free ∷ frees) used high h = ap (kept_peak (map GiveBack frees) (used - free.bytes)) top ∙ kept_given frees (used - free.bytes) high (omega arith)
  where
    top : max high (used - free.bytes) ≡ high
    top = omega arith

-- a datagram may
pub kept_asked : (t : Terms) (payload : List ℕ) (v : Verdict) (used high : ℕ) → IsVerdict t payload v → used ≤ high → kept_peak (map Ask (looks_by v) ++ map GiveBack []) used high ≡ max high (used_by payload v used)
kept_asked t payload (Granted look) used high is h = ap (λ (b : Bool). max high (cond b (used + look.asked) used)) is.2 ∙ ap (λ (n : ℕ). max high (used + n)) is.1
kept_asked t payload (Refused look) used high is h = ap (λ (b : Bool). max high (cond b (used + look.asked) used)) is.2
kept_asked t payload Bare used high is h = omega arith

-- Refused looks.

refused_append : (xs ys : List LookEntry) → refused (xs ++ ys) ≡ refused xs + refused ys
refused_append [] ys = omega arith
refused_append (x ∷ xs) ys = by x.granted (refused_append xs ys)
  where
    by : (b : Bool) → refused (xs ++ ys) ≡ refused xs + refused ys
        → length (cond (not b) (x ∷ filter (λ look. not look.granted) (xs ++ ys)) (filter (λ look. not look.granted) (xs ++ ys))) ≡ length (cond (not b) (x ∷ filter (λ look. not look.granted) xs) (filter (λ look. not look.granted) xs)) + refused ys
    by true e = e
    by false e = omega (arith, e)

pub refused_booked : (book : List CoreEntry) (entry : CoreEntry)
    → refused (flat_map (λ (entry : CoreEntry). looks_in entry.entry) (book ++ entry ∷ [])) ≡ refused (flat_map (λ (entry : CoreEntry). looks_in entry.entry) book) + refused (looks_in entry.entry)
refused_booked [] entry = ap refused (append-nil (looks_in entry.entry)) ∙ omega arith
refused_booked (e ∷ book) entry =
    omega (
      arith,
      refused_append (looks_in e.entry) (flat_map (λ (entry : CoreEntry). looks_in entry.entry) (book ++ entry ∷ [])),
      refused_append (looks_in e.entry) (flat_map (λ (entry : CoreEntry). looks_in entry.entry) book),
      refused_booked book entry,
    )
