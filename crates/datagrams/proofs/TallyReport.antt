-- What the report of a run of one core of datagrams shows: the running numbers.
use Rattle.std.specs.Prelude.{◌≡◌, refl, ℕ, ◌<◌, Bool, true, false, cond, not, ◌&&◌, nat_lt, ◌==◌, List, [], ◌∷◌, ◌++◌, map, flat_map}
use Rattle.std.proofs.Common.{sym, ◌∙◌, ap, subst, arith, append-nil}
use Rattle.std.proofs.lemmas.Bool.Decides.{nat_tests}
use Rattle.std.proofs.lemmas.List.{map-append}
use Rattle.evring.specs.declared.way.Way.{Way}
use Rattle.evring.specs.declared.way.Way.TheVariants.{Fore, Back}
use Rattle.streamdefs.specs.Lists.{Each, total}
use Rattle.streamdefs.specs.Terms.{Terms}
use Rattle.std.specs.List.{list_all}
use Rattle.streamdefs.specs.Accounts.{IsAccounted}
use Rattle.streamdefs.proofs.Accounted.{accounted_at_end}
use Rattle.streamdefs.specs.Convo.{convo_after, is_live, new_convo}
use Rattle.streamdefs.specs.Core.{Line, Open, core_at, idle_core, history}
use Rattle.streamdefs.specs.Lawful.{Run}
use Rattle.streamdefs.specs.Totals.{Total, total_of}
use Rattle.streamdefs.specs.Report.{Tallied, tallied_on, put_tallied, by_number, tallied_in, totals_in, numbers_of, dir_line, dir_lines, bytes_line, totals_line, RecordCounts, Outcome, records_line, history_line, status_line, total_lines}
use Rattle.streamdefs.specs.Order.{all_moves, all_looks}
use Rattle.datagrams.specs.Flow.{plain}
use Rattle.datagrams.specs.Table.{HasNoId}
use Rattle.datagrams.specs.Sums.{Sums, HasSums, Row, kept_in, number_of, Tallies, IsBelow, Rises, numbers_in, row_lines, over_both, rows_line}

-- Numbers that rise.

-- one more, above all
pub rises_push : (ns : List ℕ) (n : ℕ) → Rises ns → Each (λ m. m < n) ns → Rises (ns ++ n ∷ [])
rises_push [] n h below = (tt, tt)
rises_push (m ∷ []) n h below = (below.0, (tt, tt))
rises_push (m ∷ k ∷ ns) n h below = (h.0, rises_push (k ∷ ns) n h.1 below.1)

-- the same numbers with another row of the same number
pub numbers_same : (xs : List Row) (r next : Row) (ys : List Row) → number_of next ≡ number_of r → map number_of (xs ++ next ∷ ys) ≡ map number_of (xs ++ r ∷ ys)
numbers_same [] r next ys e = ap (λ n. n ∷ map number_of ys) e
numbers_same (x ∷ xs) r next ys e = ap (λ ns. number_of x ∷ ns) (numbers_same xs r next ys e)

above_next : (n m : ℕ) (ns : List ℕ) → n < m → IsBelow m ns → IsBelow n ns
above_next n m [] h b = tt
above_next n m (k ∷ ns) h b = omega arith

-- none of those behind a number has it
no_id_behind : (id : ℕ) (rows : List Row) → IsBelow id (map number_of rows) → Rises (map number_of rows) → HasNoId id (kept_in rows)
no_id_behind id [] b h = tt
no_id_behind id (r ∷ rows) b h = (other, no_id_behind id rows (above_next id (number_of r) (map number_of rows) b h.0) h.1)
  where
    other : (number_of r == id) ≡ false
    other = grind (arith, nat_tests)

-- a number above all is new
pub no_id_above : (id : ℕ) (rows : List Row) → Each (λ m. m < id) (map number_of rows) → HasNoId id (kept_in rows)
no_id_above id [] h = tt
no_id_above id (r ∷ rows) h = (other, no_id_above id rows h.1)
  where
    below : number_of r < id
    below = h.0

    other : (number_of r == id) ≡ false
    other = grind (arith, nat_tests)

-- and a row of it stands behind all others
pub rises_new : (rows : List Row) (next : Row) → Rises (map number_of rows) → Each (λ m. m < number_of next) (map number_of rows) → Rises (map number_of (rows ++ next ∷ []))
rises_new rows next h below = subst Rises (sym (map-append number_of rows (next ∷ []))) (rises_push (map number_of rows) (number_of next) h below)

-- at a place of rows that rise, no other row has its number
pub lone_number : (xs : List Row) (r : Row) (ys : List Row) → Rises (map number_of (xs ++ r ∷ ys)) → HasNoId (number_of r) (kept_in xs) × HasNoId (number_of r) (kept_in ys)
lone_number [] r ys h = (tt, no_id_behind (number_of r) ys h.0 h.1)
lone_number (x ∷ xs) r ys h = let rest = lone_number xs r ys h.1 in ((other (number_of x) (number_of r) (first_below x xs r ys h), rest.0), rest.1)
  where
    other : (a b : ℕ) → a < b → (a == b) ≡ false
    other a b e = grind (arith, nat_tests)

    first_below : (x : Row) (xs : List Row) (r : Row) (ys : List Row) → Rises (map number_of (x ∷ (xs ++ r ∷ ys))) → number_of x < number_of r
    first_below x [] r ys h = h.0
    first_below x (y ∷ xs) r ys h = let later : number_of y < number_of r = first_below y xs r ys h.1 in omega (arith, h.0)

-- Rows in the order of their numbers.

less : (a b : ℕ) → a < b → nat_lt a b ≡ true
less a b h = grind (arith, nat_tests)

-- a list whose numbers rise is sorted as it is
pub by_number_rising : (ts : List Tallied) → Rises (map (λ t. t.conv) ts) → by_number ts ≡ ts
by_number_rising [] h = refl
by_number_rising (t ∷ []) h = refl
by_number_rising (t ∷ u ∷ us) h = ap (put_tallied t) (by_number_rising (u ∷ us) h.1) ∙ ap (λ b. cond b (t ∷ u ∷ us) (u ∷ put_tallied t us)) (less t.conv u.conv h.0)

-- the totals of conversations of a core
abbrev pub tallied_as : Terms → List Line → Open → Tallied
tallied_as terms lines o = record {
  conv = o.id;
  totals = record { fore = total_of terms (new_convo o.convo.first) Fore (history o.id lines); back = total_of terms (new_convo o.convo.first) Back (history o.id lines) };
}

tallied_rise : (t : Terms) (lines : List Line) (rows : List Row) (os : List Open) → Tallies t lines rows os → map (λ u. u.conv) (map (tallied_as (plain t) lines) os) ≡ map number_of rows
tallied_rise t lines [] [] h = refl
tallied_rise t lines [] (o ∷ os) h = absurd h
tallied_rise t lines (r ∷ rows) [] h = absurd h
tallied_rise t lines (r ∷ rows) (o ∷ os) h = λ i. h.0.number i ∷ tallied_rise t lines rows os h.1 i

-- Lines of the report.

pub numbers_are : (s : Sums) (total : Total) → HasSums s total → numbers_of total ≡ numbers_in s
numbers_are s total h = λ i. h.payload i ∷ h.delivered i ∷ (h.counts i).duplicate ∷ (h.counts i).late ∷ (h.counts i).cut ∷ (h.counts i).shed ∷ h.gaps i ∷ h.gap_bytes i ∷ []

line_is : (conv number : ℕ) (way : Way) (s : Sums) (total : Total) → conv ≡ number → HasSums s total → dir_line conv way (numbers_of total) ≡ dir_line number way (numbers_in s)
line_is conv number way s total e h = λ i. dir_line (e i) way (numbers_are s total h i)

lines_are : (t : Terms) (lines : List Line) (rows : List Row) (os : List Open) → Tallies t lines rows os → flat_map dir_lines (map (tallied_as (plain t) lines) os) ≡ flat_map row_lines rows
lines_are t lines [] [] h = refl
lines_are t lines [] (o ∷ os) h = absurd h
lines_are t lines (r ∷ rows) [] h = absurd h
lines_are t lines (r ∷ rows) (o ∷ os) h = λ i.
    (line_is o.id (number_of r) Fore r.sums.fore (tallied_as (plain t) lines o).totals.fore h.0.number h.0.fore i
    ++ line_is o.id (number_of r) Back r.sums.back (tallied_as (plain t) lines o).totals.back h.0.number h.0.back i)
    ++ lines_are t lines rows os h.1 i

-- a number over all directions
totals_are : (f : Total → ℕ) (g : Sums → ℕ) → ((s : Sums) (total : Total) → HasSums s total → f total ≡ g s)
    → (t : Terms) (lines : List Line) (rows : List Row) (os : List Open) → Tallies t lines rows os → total f (totals_in (map (tallied_as (plain t) lines) os)) ≡ total (over_both g) rows
totals_are f g is t lines [] [] h = refl
totals_are f g is t lines [] (o ∷ os) h = absurd h
totals_are f g is t lines (r ∷ rows) [] h = absurd h
totals_are f g is t lines (r ∷ rows) (o ∷ os) h =
    omega (
      arith,
      is r.sums.fore (tallied_as (plain t) lines o).totals.fore h.0.fore,
      is r.sums.back (tallied_as (plain t) lines o).totals.back h.0.back,
      totals_are f g is t lines rows os h.1,
    )

no_total : (rows : List Row) → total (over_both (λ s. 0)) rows ≡ 0
no_total [] = refl
no_total (r ∷ rows) = omega (arith, no_total rows)

-- what is said of conversations that have ended
one_ended : (live rest : Bool) → (not live && rest) ≡ true → (live ≡ false) × (rest ≡ true)
one_ended true rest h = absurd (grind (arith, h))
one_ended false rest h = (refl, h)

each_accounted : (t : Terms) (lines : List Line) (rows : List Row) (os : List Open) → Tallies t lines rows os → list_all (λ o. not (is_live o.convo)) os ≡ true
    → Each IsAccounted (totals_in (map (tallied_as (plain t) lines) os))
each_accounted t lines [] [] h e = tt
each_accounted t lines [] (o ∷ os) h e = absurd h
each_accounted t lines (r ∷ rows) [] h e = absurd h
each_accounted t lines (r ∷ rows) (o ∷ os) h e =
    let both : (is_live o.convo ≡ false) × (list_all (λ (o : Open). not (is_live o.convo)) os ≡ true) = one_ended (is_live o.convo) (list_all (λ (o : Open). not (is_live o.convo)) os) e in
    let dead : is_live (convo_after (plain t) (new_convo o.convo.first) (history o.id lines)) ≡ false = ap is_live h.0.convo_is ∙ both.0 in (
      accounted_at_end (plain t) o.convo.first Fore (history o.id lines) dead,
      (accounted_at_end (plain t) o.convo.first Back (history o.id lines) dead, each_accounted t lines rows os h.1 both.1),
    )

-- The report of a run of one core of datagrams, whose conversations have rising numbers.
module _ (t : Terms) (run : Run) (lines : List Line) (rows : List Row)
    (settings : run.terms ≡ plain t) (one_book : run.books ≡ lines ∷ []) (tallies : Tallies t lines rows (core_at (plain t) idle_core lines).convos) (rising : Rises (map number_of rows)) where
  abbrev os : List Open
  os = (core_at (plain t) idle_core lines).convos

  -- its totals are those of the rows, in order
  pub tallied_is : tallied_in run ≡ map (tallied_as (plain t) lines) os
  tallied_is =
      (λ i. by_number (flat_map (tallied_on (settings i)) (one_book i)))
      ∙ ap by_number (append-nil (map (tallied_as (plain t) lines) os))
      ∙ by_number_rising (map (tallied_as (plain t) lines) os) (subst Rises (sym (tallied_rise t lines rows os tallies)) rising)

  -- once all have ended, each byte that came is delivered or counted
  pub accounted_are : list_all (λ o. not (is_live o.convo)) os ≡ true → Each IsAccounted (totals_in (tallied_in run))
  accounted_are ended = subst (λ (ts : List Tallied). Each IsAccounted (totals_in ts)) (sym tallied_is) (each_accounted t lines rows os tallies ended)

  -- the lines of the directions
  pub dir_lines_are : flat_map dir_lines (tallied_in run) ≡ flat_map row_lines rows
  dir_lines_are = ap (flat_map dir_lines) tallied_is ∙ lines_are t lines rows os tallies

  over_all : (f : Total → ℕ) (g : Sums → ℕ) → ((s : Sums) (total : Total) → HasSums s total → f total ≡ g s) → total f (totals_in (tallied_in run)) ≡ total (over_both g) rows
  over_all f g is = ap (λ ts. total f (totals_in ts)) tallied_is ∙ totals_are f g is t lines rows os tallies

  pub payload_is : total (λ u. u.payload) (totals_in (tallied_in run)) ≡ total (over_both (λ s. s.payload)) rows
  payload_is = over_all (λ u. u.payload) (λ s. s.payload) (λ s u h. h.payload)

  pub delivered_is : total (λ u. u.delivered) (totals_in (tallied_in run)) ≡ total (over_both (λ s. s.delivered)) rows
  delivered_is = over_all (λ u. u.delivered) (λ s. s.delivered) (λ s u h. h.delivered)

  pub duplicate_is : total (λ u. u.counts.duplicate) (totals_in (tallied_in run)) ≡ 0
  duplicate_is = over_all (λ u. u.counts.duplicate) (λ s. 0) (λ s u h. ap (λ c. c.duplicate) h.counts) ∙ no_total rows

  pub late_is : total (λ u. u.counts.late) (totals_in (tallied_in run)) ≡ 0
  late_is = over_all (λ u. u.counts.late) (λ s. 0) (λ s u h. ap (λ c. c.late) h.counts) ∙ no_total rows

  pub cut_is : total (λ u. u.counts.cut) (totals_in (tallied_in run)) ≡ 0
  cut_is = over_all (λ u. u.counts.cut) (λ s. 0) (λ s u h. ap (λ c. c.cut) h.counts) ∙ no_total rows

  pub shed_is : total (λ u. u.counts.shed) (totals_in (tallied_in run)) ≡ total (over_both (λ s. s.shed)) rows
  shed_is = over_all (λ u. u.counts.shed) (λ s. s.shed) (λ s u h. ap (λ c. c.shed) h.counts)

  -- the line of all bytes
  pub totals_line_is : totals_line (totals_in (tallied_in run)) ≡ rows_line rows
  totals_line_is = λ i. bytes_line (payload_is i) (delivered_is i) (duplicate_is i) (late_is i) (cut_is i) (shed_is i)

  -- all lines behind the journal
  pub total_lines_are : (records : RecordCounts) (outcome : Outcome) → total_lines run records outcome
      ≡ flat_map row_lines rows ++ records_line records ++ rows_line rows ++ history_line (all_moves run) (all_looks run) ++ status_line outcome
  total_lines_are records outcome = λ i. dir_lines_are i ++ records_line records ++ totals_line_is i ++ history_line (all_moves run) (all_looks run) ++ status_line outcome
