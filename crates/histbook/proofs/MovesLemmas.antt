-- The moves of a journal grow by those of an entry, and each grant is one of its looks.
use Rattle.std.proofs.Common.{◌≡◌, ℕ, ◌+◌, Bool, true, false, List, [], ◌∷◌, ◌++◌, ap, sym, ◌∙◌, arith, append_assoc}
use Rattle.std.specs.Prelude.{map, flat_map, if◌then◌else◌}
use Rattle.std.proofs.lemmas.List.{append-nil}
use Rattle.std.proofs.lemmas.Grind.{flat_map-append}
use Rattle.prio_budget.specs.declared.look.Look.{Look}
use Rattle.prio_budget.specs.declared.free.Free.{Free}
use Rattle.histbook.specs.declared.look_entry.LookEntry.{LookEntry}
use Rattle.histbook.specs.declared.core_entry.CoreEntry.{CoreEntry}
use Rattle.histbook.specs.declared.journal.Journal.{Journal}
use Rattle.histbook.specs.Budget.{BudgetMove, Grant, Release, total, Each, HasEachStampOnce, FoundTheUsed, StaysWithin, HadRoom}
use Rattle.histbook.specs.Moves.{looks_in, frees_in, grant_of, entry_moves, book_moves, journal_moves, entry_looks, book_looks, journal_looks, IsBudgetHistory, IsCheckedHistory}
use Rattle.histbook.proofs.BudgetLemmas.{total_append, OnGrant, checked_once, each_had_room}

module _ {C : Type 0} where
  pub each_append : (P : C → Type 0) (xs ys : List C) → Each P xs → Each P ys → Each P (xs ++ ys)
  each_append P [] ys h k = k
  each_append P (x ∷ xs) ys h k = (h.0, each_append P xs ys h.1 k)

  each_left : (P : C → Type 0) (xs ys : List C) → Each P (xs ++ ys) → Each P xs
  each_left P [] ys h = tt
  each_left P (x ∷ xs) ys h = (h.0, each_left P xs ys h.1)

  each_right : (P : C → Type 0) (xs ys : List C) → Each P (xs ++ ys) → Each P ys
  each_right P [] ys h = h
  each_right P (x ∷ xs) ys h = each_right P xs ys h.1

module _ {A B : Type 0} where
  pub each_part : {X : Type 0} (P : A → Type 0) (Q : B → Type 0) (f : X → List A) (g : X → List B) → ((x : X) → Each P (f x) → Each Q (g x)) → (xs : List X) → Each P (flat_map f xs) → Each Q (flat_map g xs)
  each_part P Q f g h [] e = tt
  each_part P Q f g h (x ∷ xs) e = each_append Q (g x) (flat_map g xs) (h x (each_left P (f x) (flat_map f xs) e)) (each_part P Q f g h xs (each_right P (f x) (flat_map f xs) e))

module _ (P : Look → Type 0) where
  pub granted_look : (look : LookEntry) → P look.look → Each (OnGrant P) (grant_of look)
  granted_look look h = by_test look.granted
    where
      by_test : (b : Bool) → Each (OnGrant P) (if b then Grant look.look look.asked ∷ [] else [])
      by_test true = (h, tt)
      by_test false = tt

  granted_looks : (looks : List LookEntry) → Each P (map (λ look. look.look) looks) → Each (OnGrant P) (flat_map grant_of looks)
  granted_looks [] e = tt
  granted_looks (look ∷ looks) e = each_append (OnGrant P) (grant_of look) (flat_map grant_of looks) (granted_look look e.0) (granted_looks looks e.1)

  releases : (frees : List Free) → Each (OnGrant P) (map Release frees)
  releases [] = tt
  releases (free ∷ frees) = (tt, releases frees)

  entry_grants : (entry : CoreEntry) → Each P (entry_looks entry) → Each (OnGrant P) (entry_moves entry)
  entry_grants entry e = each_append (OnGrant P) (flat_map grant_of (looks_in entry.entry)) (map Release (frees_in entry.entry)) (granted_looks (looks_in entry.entry) e) (releases (frees_in entry.entry))

  book_grants : (book : List CoreEntry) → Each P (book_looks book) → Each (OnGrant P) (book_moves book)
  book_grants = each_part P (OnGrant P) entry_looks entry_moves entry_grants

  pub journal_grants : (journal : Journal) → Each P (journal_looks journal) → Each (OnGrant P) (journal_moves journal)
  journal_grants journal = each_part P (OnGrant P) book_looks book_moves book_grants journal.cores

pub checked_journal : (limit : ℕ) (journal : Journal) → IsCheckedHistory limit journal → IsBudgetHistory limit journal
checked_journal limit journal checked = checked_once limit (journal_moves journal) (journal_looks journal) checked (journal_grants _ journal checked.found)

pub room_follows : (limit : ℕ) (journal : Journal) → HasEachStampOnce 0 (journal_moves journal) → FoundTheUsed 0 (journal_moves journal) (journal_looks journal)
    → StaysWithin limit (journal_moves journal) → HadRoom limit 0 (journal_moves journal)
room_follows limit journal once found within = each_had_room limit (journal_moves journal) once (journal_grants _ journal found) within

-- one entry more at the end of a book
pub moves_grow : (before : List (List CoreEntry)) (book : List CoreEntry) (entry : CoreEntry) (after : List (List CoreEntry))
    → flat_map book_moves (before ++ (book ++ entry ∷ []) ∷ after) ≡ flat_map book_moves before ++ book_moves book ++ entry_moves entry ++ flat_map book_moves after
moves_grow before book entry after =
    let m = flat_map book_moves before in
    let n = flat_map book_moves after in
    let more : book_moves (book ++ entry ∷ []) ≡ book_moves book ++ entry_moves entry = flat_map-append entry_moves book (entry ∷ []) ∙ ap (λ (l : List BudgetMove). book_moves book ++ l) (append-nil (entry_moves entry)) in
    flat_map-append book_moves before ((book ++ entry ∷ []) ∷ after) ∙ ap (λ (l : List BudgetMove). m ++ (l ++ n)) more
    ∙ sym (append_assoc m (book_moves book ++ entry_moves entry) n) ∙ ap (λ (l : List BudgetMove). l ++ n) (sym (append_assoc m (book_moves book) (entry_moves entry)))

pub totals_grow : (weight : BudgetMove → ℕ) (before : List (List CoreEntry)) (book : List CoreEntry) (entry : CoreEntry) (after : List (List CoreEntry))
    → total weight (flat_map book_moves (before ++ (book ++ entry ∷ []) ∷ after)) ≡ total weight (flat_map book_moves (before ++ book ∷ after)) + total weight (entry_moves entry)
totals_grow weight before book entry after =
    let m = flat_map book_moves before in
    let n = flat_map book_moves after in
    let now = ap (λ (l : List BudgetMove). total weight l) (moves_grow before book entry after) in
    let then_ = ap (λ (l : List BudgetMove). total weight l) (flat_map-append book_moves before (book ∷ after)) in
    omega (
      arith,
      now,
      then_,
      total_append weight (m ++ book_moves book ++ entry_moves entry) n,
      total_append weight (m ++ book_moves book) (entry_moves entry),
      total_append weight m (book_moves book),
      total_append weight m (book_moves book ++ n),
      total_append weight (book_moves book) n,
    )
