-- A lawful journal is one history of its budget, whatever its packets are.
use Rattle.std.specs.Prelude.{◌≡◌, refl, ℕ, List, [], ◌∷◌, ◌++◌, map, flat_map}
use Rattle.std.proofs.Common.{sym, ◌∙◌, ap, subst}
use Rattle.prio_budget.specs.declared.look.Look.{Look}
use Rattle.histbook.specs.declared.look_entry.LookEntry.{LookEntry}
use Rattle.histbook.specs.declared.core_entry.CoreEntry.{CoreEntry}
use Rattle.histbook.specs.declared.journal.Journal.{Journal}
use Rattle.histbook.specs.declared.entry.Entry.{Entry}
use Rattle.histbook.specs.declared.entry.Entry.TheVariants as E
use Rattle.histbook.specs.Budget.{BudgetMove, IsOneHistory}
use Rattle.histbook.specs.Moves.{entry_moves, book_moves, entry_looks, book_looks, IsBudgetHistory}
use Rattle.streamdefs.specs.Packet.{Packet}
use Rattle.streamdefs.specs.Convo.{looks_in}
use Rattle.streamdefs.specs.Order.{moves_of}
use Rattle.streamdefs.specs.Case.{act_of, line_of}
use Rattle.streamdefs.specs.Terms.{Terms}
use Rattle.labtop.specs.Headline.{IsRun}
use Rattle.labtop.specs.Scapconf.{Captured}

moves_entry : (packets : List Packet) (conv : ℕ) (e : Entry) → entry_moves (record { conv = conv; entry = e }) ≡ moves_of (act_of packets e)
moves_entry packets conv (E.Seg packet now looks frees) = refl
moves_entry packets conv (E.Answer event advice frees) = refl
moves_entry packets conv (E.Time at looks frees) = refl
moves_entry packets conv (E.End at reason looks frees) = refl

moves_book : (packets : List Packet) (book : List CoreEntry) → book_moves book ≡ flat_map (λ line. moves_of line.act) (map (line_of packets) book)
moves_book packets [] = refl
moves_book packets (entry ∷ book) = λ i. moves_entry packets entry.conv entry.entry i ++ moves_book packets book i

moves_books : (packets : List Packet) (books : List (List CoreEntry)) → flat_map book_moves books ≡ flat_map (λ lines. flat_map (λ line. moves_of line.act) lines) (map (map (line_of packets)) books)
moves_books packets [] = refl
moves_books packets (book ∷ books) = λ i. moves_book packets book i ++ moves_books packets books i

looks_entry : (packets : List Packet) (conv : ℕ) (e : Entry) → entry_looks (record { conv = conv; entry = e }) ≡ map (λ look. look.look) (looks_in (act_of packets e))
looks_entry packets conv (E.Seg packet now looks frees) = refl
looks_entry packets conv (E.Answer event advice frees) = refl
looks_entry packets conv (E.Time at looks frees) = refl
looks_entry packets conv (E.End at reason looks frees) = refl

found_append : (xs ys : List LookEntry) → map (λ look. look.look) (xs ++ ys) ≡ map (λ look. look.look) xs ++ map (λ look. look.look) ys
found_append [] ys = refl
found_append (x ∷ xs) ys = ap (λ (l : List Look). x.look ∷ l) (found_append xs ys)

looks_book : (packets : List Packet) (book : List CoreEntry) → book_looks book ≡ map (λ look. look.look) (flat_map (λ line. looks_in line.act) (map (line_of packets) book))
looks_book packets [] = refl
looks_book packets (entry ∷ book) = (λ i. looks_entry packets entry.conv entry.entry i ++ looks_book packets book i) ∙ sym (found_append (looks_in (act_of packets entry.entry)) _)

looks_books : (packets : List Packet) (books : List (List CoreEntry))
    → flat_map book_looks books ≡ map (λ look. look.look) (flat_map (λ lines. flat_map (λ line. looks_in line.act) lines) (map (map (line_of packets)) books))
looks_books packets [] = refl
looks_books packets (book ∷ books) =
    (λ i. looks_book packets book i ++ looks_books packets books i) ∙ sym (found_append (flat_map (λ line. looks_in line.act) (map (line_of packets) book)) _)

pub history_of : (terms : Terms) (c : Captured) (journal : Journal) → IsRun terms c journal → IsBudgetHistory terms.marks.limit journal
history_of terms c journal run =
    subst (λ (x : List BudgetMove × List Look). IsOneHistory terms.marks.limit 0 x.0 x.1) (λ i. (sym (moves_books c.packets journal.cores) i, sym (looks_books c.packets journal.cores) i)) run.history.budget
