-- What a replay takes of a journal is what its history has.
use Rattle.std.proofs.Common.{◌≡◌, ℕ, suc, ◌<◌, ◌^◌, Bool, true, false, List, [], ◌∷◌, ◌++◌, refl, ap, sym, ◌∙◌, subst, length, map, flat_map}
use Rattle.std.specs.Prelude.{IfErr, IfOk, Result, Ok, Err}
use Rattle.prio_budget.specs.declared.look.Look.{Look}
use Rattle.prio_budget.specs.declared.free.Free.{Free}
use Rattle.histbook.specs.declared.look_entry.LookEntry.{LookEntry}
use Rattle.histbook.specs.declared.core_entry.CoreEntry.{CoreEntry}
use Rattle.histbook.specs.declared.entry.Entry.{Entry}
use Rattle.histbook.specs.declared.entry.Entry.TheVariants as E
use Rattle.histbook.specs.declared.journal.Journal.{Journal}
use Rattle.histbook.specs.Budget.{BudgetMove, Release, IsOneHistory}
use Rattle.histbook.specs.InTurn.{peak, book_asks}
use Rattle.histbook.specs.Moves.{looks_in, frees_in, grant_of, entry_moves, book_moves, journal_moves, entry_looks, book_looks, journal_looks, IsBudgetHistory}
use Rattle.streamdefs.specs.Packet.{Packet}
use Rattle.streamdefs.specs.Terms.{Terms}
use Rattle.streamdefs.specs.Convo.{looks_in as looks_of_act}
use Rattle.streamdefs.specs.Lawful.{Handler, Run}
use Rattle.streamdefs.specs.Order.{OneHistory, all_moves, all_looks, moves_of}
use Rattle.streamdefs.specs.Case.{act_of, line_of, run_of}
use Rattle.streamdefs.specs.Report.{budget_line, history_line}
use Rattle.streamdefs.specs.Totals.{refused}
use Rattle.tally.specs.declared.moves.Move.{Move}
use Rattle.tally.specs.declared.peak.Peak.{Peak}
use Rattle.tally.specs.declared.replay_error.ReplayError.{ReplayError}
use Rattle.tally.specs.declared.replay_error.ReplayError.TheVariants.{Memory, Disagree}
use Rattle.tally.specs.Moves.{history_of}
use Rattle.tally.specs.Laws.{move_of}
use Rattle.tally.specs.Replay.{IsOneReplay, IsPeak, OnDisagree}
use Rattle.tally.specs.Journal.{IsPeakOf, grant_in, release_in, moves_of_entry, moves_of_book, moves_in, asks_in}
use Rattle.tally.proofs.LawLemmas.{history_replayed, peaks_same}

-- The moves

map_joined : {A B : Type 0} (f : A → B) (xs ys : List A) → map f (xs ++ ys) ≡ map f xs ++ map f ys
map_joined f [] ys = refl
map_joined f (x ∷ xs) ys = ap (λ l. f x ∷ l) (map_joined f xs ys)

-- each element's part is mapped
mapped_each : {A B C : Type 0} (g : B → C) (f : A → List B) (h : A → List C) → ((x : A) → h x ≡ map g (f x)) → (xs : List A) → flat_map h xs ≡ map g (flat_map f xs)
mapped_each g f h each [] = refl
mapped_each g f h each (x ∷ xs) = (λ i. each x i ++ mapped_each g f h each xs i) ∙ sym (map_joined g (f x) (flat_map f xs))

grant_is : (look : LookEntry) → grant_in look ≡ map move_of (grant_of look)
grant_is look = by look.granted
  where
    by : (b : Bool) → grant_in (record { asked = look.asked; granted = b; look = look.look }) ≡ map move_of (grant_of (record { asked = look.asked; granted = b; look = look.look }))
    by true = refl
    by false = refl

releases_are : (frees : List Free) → flat_map release_in frees ≡ map move_of (map Release frees)
releases_are [] = refl
releases_are (free ∷ frees) = ap (λ l. release_in free ++ l) (releases_are frees)

entry_is : (entry : CoreEntry) → moves_of_entry entry ≡ map move_of (entry_moves entry)
entry_is entry =
    (λ i. mapped_each move_of grant_of grant_in grant_is (looks_in entry.entry) i ++ releases_are (frees_in entry.entry) i)
    ∙ sym (map_joined move_of (flat_map grant_of (looks_in entry.entry)) (map Release (frees_in entry.entry)))

book_is : (book : List CoreEntry) → moves_of_book book ≡ map move_of (book_moves book)
book_is book = mapped_each move_of entry_moves moves_of_entry entry_is book

pub moves_are : (journal : Journal) → moves_in journal ≡ map move_of (journal_moves journal)
moves_are journal = mapped_each move_of book_moves moves_of_book book_is journal.cores

-- The looks

found_book : (book : List CoreEntry) → book_looks book ≡ map (λ look. look.look) (book_asks book)
found_book book = mapped_each (λ (look : LookEntry). look.look) (λ (entry : CoreEntry). looks_in entry.entry) entry_looks (λ entry. refl) book

found_looks : (journal : Journal) → journal_looks journal ≡ map (λ look. look.look) (asks_in journal)
found_looks journal = mapped_each (λ (look : LookEntry). look.look) book_asks book_looks found_book journal.cores

-- A replay

replayed : (limit : ℕ) (journal : Journal) → length (journal_moves journal) < 2 ^ 32 → IsOneHistory limit 0 (journal_moves journal) (map (λ look. look.look) (asks_in journal))
    → IsOneReplay limit (moves_in journal) (asks_in journal)
replayed limit journal few h =
    subst (λ (l : List Move). IsOneReplay limit l (asks_in journal)) (sym (moves_are journal)) (history_replayed limit (journal_moves journal) (asks_in journal) few h)

pub journal_is_replayed : (limit : ℕ) (journal : Journal) → length (journal_moves journal) < 2 ^ 32 → IsBudgetHistory limit journal → IsOneReplay limit (moves_in journal) (asks_in journal)
journal_is_replayed limit journal few h =
    replayed limit journal few (subst (λ (l : List Look). IsOneHistory limit 0 (journal_moves journal) l) (found_looks journal) h)

-- the other way round: what is no replay is no history
pub no_history : (limit : ℕ) (journal : Journal) → ¬ IsOneReplay limit (map move_of (journal_moves journal)) (asks_in journal) → length (journal_moves journal) < 2 ^ 32 → ¬ IsBudgetHistory limit journal
no_history limit journal refused few h = refused (subst (λ (l : List Move). IsOneReplay limit l (asks_in journal)) (moves_are journal) (journal_is_replayed limit journal few h))

length_mapped : {A B : Type 0} (f : A → B) (xs : List A) → length (map f xs) ≡ length xs
length_mapped f [] = refl
length_mapped f (x ∷ xs) = ap suc (length_mapped f xs)

-- the peak of the replay is that of the history
pub peak_of_journal : (journal : Journal) (p : Peak) → IsPeak (map move_of (journal_moves journal)) p → IsPeakOf journal p
peak_of_journal journal p is = (is.0 ∙ length_mapped move_of (journal_moves journal), is.1 ∙ peaks_same (journal_moves journal))

-- what a replay of these answers
pub on_peak : (journal : Journal) (moves : List Move) (result : Result Peak ReplayError) → moves ≡ map move_of (journal_moves journal) → IfOk result (IsPeak moves) → IfOk result (IsPeakOf journal)
on_peak journal moves (Ok p) e h = peak_of_journal journal p (subst (λ (l : List Move). IsPeak l p) e h)
on_peak journal moves (Err error) e h = tt

pub on_refusal : (limit : ℕ) (journal : Journal) (moves : List Move) (looks : List LookEntry) (result : Result Peak ReplayError) → moves ≡ map move_of (journal_moves journal) → looks ≡ asks_in journal
    → IfErr result (λ error. OnDisagree error (λ m. ¬ IsOneReplay limit moves looks))
    → IfErr result (λ error. OnDisagree error (λ m. length (journal_moves journal) < 2 ^ 32 → ¬ IsBudgetHistory limit journal))
on_refusal limit journal moves looks (Ok p) e f h = tt
on_refusal limit journal moves looks (Err Memory) e f h = tt
on_refusal limit journal moves looks (Err (Disagree stamp kept summed)) e f h =
    no_history limit journal (subst (λ (x : List Move × List LookEntry). ¬ IsOneReplay limit x.0 x.1) (λ i. (e i, f i)) h)

-- The run of a journal has its moves and looks

of_entry : (packets : List Packet) (conv : ℕ) (e : Entry) → entry_moves (record { conv = conv; entry = e }) ≡ moves_of (act_of packets e)
of_entry packets conv (E.Seg packet now looks frees) = refl
of_entry packets conv (E.Answer event advice frees) = refl
of_entry packets conv (E.Time at looks frees) = refl
of_entry packets conv (E.End at reason looks frees) = refl

of_book : (packets : List Packet) (book : List CoreEntry) → book_moves book ≡ flat_map (λ line. moves_of line.act) (map (line_of packets) book)
of_book packets [] = refl
of_book packets (entry ∷ book) = λ i. of_entry packets entry.conv entry.entry i ++ of_book packets book i

of_books : (packets : List Packet) (books : List (List CoreEntry)) → flat_map book_moves books ≡ flat_map (λ lines. flat_map (λ line. moves_of line.act) lines) (map (map (line_of packets)) books)
of_books packets [] = refl
of_books packets (book ∷ books) = λ i. of_book packets book i ++ of_books packets books i

asks_of_entry : (packets : List Packet) (e : Entry) → looks_in e ≡ looks_of_act (act_of packets e)
asks_of_entry packets (E.Seg packet now looks frees) = refl
asks_of_entry packets (E.Answer event advice frees) = refl
asks_of_entry packets (E.Time at looks frees) = refl
asks_of_entry packets (E.End at reason looks frees) = refl

asks_of_book : (packets : List Packet) (book : List CoreEntry) → book_asks book ≡ flat_map (λ line. looks_of_act line.act) (map (line_of packets) book)
asks_of_book packets [] = refl
asks_of_book packets (entry ∷ book) = λ i. asks_of_entry packets entry.entry i ++ asks_of_book packets book i

asks_of_books : (packets : List Packet) (books : List (List CoreEntry)) → flat_map book_asks books ≡ flat_map (λ lines. flat_map (λ line. looks_of_act line.act) lines) (map (map (line_of packets)) books)
asks_of_books packets [] = refl
asks_of_books packets (book ∷ books) = λ i. asks_of_book packets book i ++ asks_of_books packets books i

module _ (terms : Terms) (packets : List Packet) (core_of : Packet → ℕ) (cores last : ℕ) (handlers : List Handler) (journal : Journal) where
  abbrev run : Run
  run = run_of terms packets core_of cores last handlers journal

  pub run_is_replayed : length (journal_moves journal) < 2 ^ 32 → OneHistory run → IsOneReplay terms.marks.limit (moves_in journal) (asks_in journal)
  run_is_replayed few h =
      replayed terms.marks.limit journal few
      (subst (λ (x : List BudgetMove × List LookEntry). IsOneHistory terms.marks.limit 0 x.0 (map (λ look. look.look) x.1)) (λ i. (sym (of_books packets journal.cores) i, sym (asks_of_books packets journal.cores) i)) h.budget)

  pub line_is : (p : Peak) → IsPeak (moves_in journal) p → history_line (all_moves run) (all_looks run) ≡ budget_line p.stamps p.peak (refused (asks_in journal))
  line_is p is = λ i. budget_line (stamps i) (highest i) (refused (sym (asks_of_books packets journal.cores) i))
    where
      stamps : length (all_moves run) ≡ p.stamps
      stamps = ap length (sym (of_books packets journal.cores)) ∙ sym (length_mapped move_of (journal_moves journal)) ∙ ap length (sym (moves_are journal)) ∙ sym is.0

      highest : peak (all_moves run) ≡ p.peak
      highest = ap peak (sym (of_books packets journal.cores)) ∙ sym (peaks_same (journal_moves journal)) ∙ ap (λ l. peak (history_of l)) (sym (moves_are journal)) ∙ sym is.1
