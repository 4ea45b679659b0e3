-- The budget history of a journal is that of the run that it tells of.
use Rattle.std.specs.Prelude.{◌≡◌, refl, ℕ, List, [], ◌∷◌, ◌++◌, length, map, flat_map}
use Rattle.std.proofs.Common.{sym, ◌∙◌, ap, subst}
use Rattle.prio_budget.specs.declared.look.Look.{Look}
use Rattle.histbook.specs.declared.look_entry.LookEntry.{LookEntry}
use Rattle.histbook.specs.declared.core_entry.CoreEntry.{CoreEntry}
use Rattle.histbook.specs.declared.journal.Journal.{Journal}
use Rattle.histbook.specs.declared.entry.Entry.{Entry}
use Rattle.histbook.specs.declared.entry.Entry.TheVariants as E
use Rattle.histbook.specs.Budget.{BudgetMove, IsOneHistory}
use Rattle.histbook.specs.Moves.{entry_moves, book_moves, journal_moves, entry_looks, book_looks, journal_looks, IsBudgetHistory}
use Rattle.histbook.specs.Moves as H
use Rattle.streamdefs.specs.Packet.{Packet}
use Rattle.streamdefs.specs.Terms.{Terms}
use Rattle.streamdefs.specs.Convo.{looks_in}
use Rattle.streamdefs.specs.Lawful.{EachCore, Handler}
use Rattle.streamdefs.specs.Order.{FreesRise, LooksRise, WorkersRise, OneHistory, all_moves, all_looks, moves_of}
use Rattle.streamdefs.specs.Totals.{peak}
use Rattle.streamdefs.specs.Case.{act_of, line_of, run_of}

-- The moves and the looks are the same.

of_entry : (packets : List Packet) (conv : ℕ) (e : Entry) → entry_moves (record { conv = conv; entry = e }) ≡ moves_of (act_of packets e)
of_entry packets conv (E.Seg packet now looks frees) = refl
of_entry packets conv (E.Answer event advice frees) = refl
of_entry packets conv (E.Time at looks frees) = refl
of_entry packets conv (E.End at reason looks frees) = refl

of_book : (packets : List Packet) (book : List CoreEntry) → book_moves book ≡ flat_map (λ line. moves_of line.act) (map (line_of packets) book)
of_book packets [] = refl
of_book packets (entry ∷ book) = λ i. of_entry packets entry.conv entry.entry i ++ of_book packets book i

pub of_books : (packets : List Packet) (books : List (List CoreEntry)) → flat_map book_moves books ≡ flat_map (λ lines. flat_map (λ line. moves_of line.act) lines) (map (map (line_of packets)) books)
of_books packets [] = refl
of_books packets (book ∷ books) = λ i. of_book packets book i ++ of_books packets books i

looks_entry : (packets : List Packet) (conv : ℕ) (e : Entry) → entry_looks (record { conv = conv; entry = e }) ≡ map (λ look. look.look) (looks_in (act_of packets e))
looks_entry packets conv (E.Seg packet now looks frees) = refl
looks_entry packets conv (E.Answer event advice frees) = refl
looks_entry packets conv (E.Time at looks frees) = refl
looks_entry packets conv (E.End at reason looks frees) = refl

found_append : (xs ys : List LookEntry) → map (λ look. look.look) (xs ++ ys) ≡ map (λ look. look.look) xs ++ map (λ look. look.look) ys
found_append [] ys = refl
found_append (x ∷ xs) ys = ap (λ (l : List Look). x.look ∷ l) (found_append xs ys)

looks_book : (packets : List Packet) (book : List CoreEntry) → book_looks book ≡ map (λ look. look.look) (flat_map (λ line. looks_in line.act) (map (line_of packets) book))
looks_book packets [] = refl
looks_book packets (entry ∷ book) = (λ i. looks_entry packets entry.conv entry.entry i ++ looks_book packets book i) ∙ sym (found_append (looks_in (act_of packets entry.entry)) _)

pub looks_books : (packets : List Packet) (books : List (List CoreEntry))
    → flat_map book_looks books ≡ map (λ look. look.look) (flat_map (λ lines. flat_map (λ line. looks_in line.act) lines) (map (map (line_of packets)) books))
looks_books packets [] = refl
looks_books packets (book ∷ books) =
    (λ i. looks_book packets book i ++ looks_books packets books i) ∙ sym (found_append (flat_map (λ line. looks_in line.act) (map (line_of packets) book)) _)

-- the looks themselves
same_asks : (packets : List Packet) (e : Entry) → looks_in (act_of packets e) ≡ H.looks_in e
same_asks packets (E.Seg packet now looks frees) = refl
same_asks packets (E.Answer event advice frees) = refl
same_asks packets (E.Time at looks frees) = refl
same_asks packets (E.End at reason looks frees) = refl

pub asks_of_book : (packets : List Packet) (book : List CoreEntry) → flat_map (λ line. looks_in line.act) (map (line_of packets) book) ≡ flat_map (λ entry. H.looks_in entry.entry) book
asks_of_book packets [] = refl
asks_of_book packets (entry ∷ book) = λ i. same_asks packets entry.entry i ++ asks_of_book packets book i

pub asks_of_books : (packets : List Packet) (books : List (List CoreEntry))
    → flat_map (λ lines. flat_map (λ line. looks_in line.act) lines) (map (map (line_of packets)) books) ≡ flat_map (λ book. flat_map (λ entry. H.looks_in entry.entry) book) books
asks_of_books packets [] = refl
asks_of_books packets (book ∷ books) = λ i. asks_of_book packets book i ++ asks_of_books packets books i

-- The histories are the same.
pub same_history : (terms : Terms) (packets : List Packet) (core_of : Packet → ℕ) (cores last : ℕ) (handlers : List Handler) (journal : Journal)
    → IsBudgetHistory terms.marks.limit journal
    → EachCore (run_of terms packets core_of cores last handlers journal) FreesRise × EachCore (run_of terms packets core_of cores last handlers journal) LooksRise
    × WorkersRise (run_of terms packets core_of cores last handlers journal)
    → OneHistory (run_of terms packets core_of cores last handlers journal)
same_history terms packets core_of cores last handlers journal h order = record {
  budget = subst (λ (x : List BudgetMove × List Look). IsOneHistory terms.marks.limit 0 x.0 x.1) (λ i. (of_books packets journal.cores i, looks_books packets journal.cores i)) h;
  order = order;
}

-- The numbers of the report's budget line are those of the journal.
pub same_budget_line : (terms : Terms) (packets : List Packet) (core_of : Packet → ℕ) (cores last : ℕ) (handlers : List Handler) (journal : Journal)
    → (length (all_moves (run_of terms packets core_of cores last handlers journal)) ≡ length (journal_moves journal))
    × (peak (all_moves (run_of terms packets core_of cores last handlers journal)) ≡ peak (journal_moves journal))
    × (all_looks (run_of terms packets core_of cores last handlers journal) ≡ flat_map (λ book. flat_map (λ entry. H.looks_in entry.entry) book) journal.cores)
same_budget_line terms packets core_of cores last handlers journal =
    (ap length (sym (of_books packets journal.cores)), ap peak (sym (of_books packets journal.cores)), asks_of_books packets journal.cores)
