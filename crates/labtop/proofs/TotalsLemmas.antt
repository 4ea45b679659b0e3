-- The sums of a report.
use Rattle.std.proofs.Common.{◌≡◌, ℕ, zero, suc, ◌+◌, ◌≤◌, ◌<◌, List, [], ◌∷◌, ◌++◌, length, take, get_or, ap, sym, ◌∙◌, arith, false}
use Rattle.datagrams.specs.declared.conversation.Conversation.{Conversation}
use Rattle.datagrams.specs.Rows.{row_of}
use Rattle.datagrams.specs.Sound.{IsEven, came_bytes}
use Rattle.datagrams.specs.Sums.{Sums, over_both}
use Rattle.histbook.specs.declared.journal.Journal.{Journal}
use Rattle.streamdefs.specs.Lists.{Each, total}
use Rattle.streamdefs.specs.Report.{RecordCounts, budget_line, bytes_line, head_lines, records_line, status_line}
use Rattle.histbook.specs.JournalText.{journal_text}
use Rattle.std.specs.Prelude.{flat_map}
use Rattle.labtop.specs.Headline.{done}
use Rattle.labtop.specs.ReportLines.{lines_of, lines_with, over_all}

total_more : {X : Type 0} (f : X → ℕ) (xs : List X) (i : ℕ) (d : X) → i < length xs → total f (take (suc i) xs) ≡ total f (take i xs) + f (get_or xs i d)
total_more f [] i d l = absurd (omega arith)
total_more f (x ∷ xs) zero d l = omega arith
total_more f (x ∷ xs) (suc i) d l = omega (arith, total_more f xs i d (omega arith))

-- with the next conversation
pub over_more : (f : Sums → ℕ) (cs : List Conversation) (i : ℕ) (c : Conversation) → i < length cs → c ≡ get_or cs i c → over_all f (take (suc i) cs) ≡ over_all f (take i cs) + over_both f (row_of false c)
over_more f cs i c l e = total_more (λ (x : Conversation). over_both f (row_of false x)) cs i c l ∙ ap (λ (x : Conversation). over_all f (take i cs) + over_both f (row_of false x)) (sym e)

-- a number that is never above the bytes that came
abbrev pub IsWithin : (Sums → ℕ) → Type 0
IsWithin f = (c : Conversation) → IsEven c → over_both f (row_of false c) ≤ came_bytes c

pub payload_within : IsWithin (λ s. s.payload)
payload_within c h = omega (arith, h.fore.came, h.back.came)

pub delivered_within : IsWithin (λ s. s.delivered)
delivered_within c h = omega (arith, h.fore.came, h.fore.counted, h.fore.granted, h.back.came, h.back.counted, h.back.granted)

pub shed_within : IsWithin (λ s. s.shed)
shed_within c h = omega (arith, h.fore.came, h.fore.counted, h.back.came, h.back.counted)

all_within : (f : Sums → ℕ) → IsWithin f → (cs : List Conversation) (n : ℕ) → Each IsEven cs → over_all f (take n cs) ≤ total came_bytes cs
all_within f w [] zero h = omega arith
all_within f w [] (suc n) h = omega arith
all_within f w (c ∷ cs) zero h = omega arith
all_within f w (c ∷ cs) (suc n) h = omega (arith, w c h.0, all_within f w cs n h.1)

-- the next conversation fits
pub fits_more : (f : Sums → ℕ) → IsWithin f → (cs : List Conversation) (i : ℕ) (c : Conversation) → Each IsEven cs → i < length cs → c ≡ get_or cs i c → over_all f (take i cs) + over_both f (row_of false c) ≤ total came_bytes cs
fits_more f w cs i c h l e = omega (arith, over_more f cs i c l e, all_within f w cs (suc i) h)

-- The lines of a report, one behind the other.
pub report_joined : (journal : Journal) (table : List Conversation) (records : RecordCounts) (stamps peak refused payload delivered shed : ℕ) (a b c d e f g h : List ℕ)
    → payload ≡ over_all (λ s. s.payload) table → delivered ≡ over_all (λ s. s.delivered) table → shed ≡ over_all (λ s. s.shed) table
    → a ≡ [] → b ≡ a ++ head_lines 1 1 → c ≡ b ++ journal_text journal → d ≡ c ++ flat_map lines_of table → e ≡ d ++ records_line records
    → f ≡ e ++ bytes_line payload delivered 0 0 0 shed → g ≡ f ++ budget_line stamps peak refused → h ≡ g ++ status_line done
    → h ≡ lines_with journal table records stamps peak refused done
unfolding lines_with
report_joined journal table records stamps peak refused payload delivered shed a b c d e f g h x y z p q r s t u v w =
    w ∙ (λ i. (v ∙ (λ i. (u ∙ (λ i. (t ∙ (λ i. (s ∙ (λ i. (r ∙ (λ i. (q ∙ (λ i. p i ++ head_lines 1 1)) i ++ journal_text journal)) i ++ flat_map lines_of table)) i ++ records_line records)) i ++ bytes_line (x i) (y i) 0 0 0 (z i))) i ++ budget_line stamps peak refused)) i ++ status_line done)
