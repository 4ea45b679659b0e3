-- The rows of a table of which the first conversations have ended.
use Rattle.std.specs.Prelude.{◌≡◌, refl, ℕ, zero, suc, ◌<◌, true, false, List, [], ◌∷◌, ◌++◌, length, map, take, drop, Option, None, Some}
use Rattle.std.proofs.Common.{inl, inr, ap, subst, arith, get_or, set}
use Rattle.std.proofs.lemmas.List.{map-append}
use Rattle.streamdefs.specs.Lists.{Each, or_else}
use Rattle.datagrams.specs.declared.conversation.Conversation.{Conversation}
use Rattle.datagrams.specs.Rows.{row_of, rows_of}
use Rattle.datagrams.specs.State.{Untold}
use Rattle.datagrams.specs.Stands.{Face, IsOf, IsThere, face_of, faces_of, last_of, numbers_in, rows_at}
use Rattle.datagrams.specs.Sums.{Rises, Row, kept_in, number_of}

-- what a row has of a conversation's face
abbrev pub face_in : Row → Face
face_in r = record { number = number_of r; key = r.kept.talk.key; toward = r.kept.talk.toward }

pub rows_live : (cs : List Conversation) → rows_at 0 cs ≡ rows_of true cs
rows_live [] = refl
rows_live (c ∷ cs) = ap (λ (l : List Row). row_of true c ∷ l) (rows_live cs)

pub rows_dead : (cs : List Conversation) → rows_at (length cs) cs ≡ rows_of false cs
rows_dead [] = refl
rows_dead (c ∷ cs) = ap (λ (l : List Row). row_of false c ∷ l) (rows_dead cs)

-- cut around the next one to end, and with that one ended
pub rows_cut : (i : ℕ) (cs : List Conversation) (d : Conversation) → i < length cs → rows_at i cs ≡ rows_of false (take i cs) ++ row_of true (get_or cs i d) ∷ rows_of true (drop (suc i) cs)
rows_cut i [] d l = absurd (omega arith)
rows_cut zero (c ∷ cs) d l = ap (λ (l : List Row). row_of true c ∷ l) (rows_live cs)
rows_cut (suc i) (c ∷ cs) d l = ap (λ (l : List Row). row_of false c ∷ l) (rows_cut i cs d (omega arith))

pub rows_ended : (i : ℕ) (cs : List Conversation) (c : Conversation) → i < length cs → rows_at (suc i) (set cs i c) ≡ rows_of false (take i cs) ++ row_of false c ∷ rows_of true (drop (suc i) cs)
rows_ended i [] c l = absurd (omega arith)
rows_ended zero (x ∷ cs) c l = ap (λ (l : List Row). row_of false c ∷ l) (rows_live cs)
rows_ended (suc i) (x ∷ cs) c l = ap (λ (l : List Row). row_of false x ∷ l) (rows_ended i cs c (omega arith))

-- their numbers
pub rows_numbers : (n : ℕ) (cs : List Conversation) → map number_of (rows_at n cs) ≡ numbers_in cs
rows_numbers n [] = refl
rows_numbers zero (c ∷ cs) = ap (λ (l : List ℕ). c.number ∷ l) (rows_numbers zero cs)
rows_numbers (suc n) (c ∷ cs) = ap (λ (l : List ℕ). c.number ∷ l) (rows_numbers n cs)

pub kept_split : (xs : List Row) (r : Row) (ys : List Row) → kept_in (xs ++ r ∷ ys) ≡ kept_in xs ++ r.kept ∷ kept_in ys
kept_split xs r ys = map-append (λ (r : Row). r.kept) xs (r ∷ ys)

-- the row of the conversation that an event is one of
pub record RowFor (u : Untold) (rows : List Row) : Type 0 where
  pub xs : List Row
  pub row : Row
  pub ys : List Row
  pub is : rows ≡ xs ++ row ∷ ys
  pub of : IsOf (face_in row) u

further : (u : Untold) (r : Row) (rows : List Row) → RowFor u rows → RowFor u (r ∷ rows)
further u r rows found = record { xs = r ∷ found.xs; row = found.row; ys = found.ys; is = ap (λ (l : List Row). r ∷ l) found.is; of = found.of }

pub row_for : (n : ℕ) (cs : List Conversation) (u : Untold) → IsThere (faces_of cs) u → RowFor u (rows_at n cs)
row_for n [] u h = absurd h
row_for zero (c ∷ cs) u (inl h) = record { xs = []; row = row_of true c; ys = rows_at zero cs; is = refl; of = h }
row_for zero (c ∷ cs) u (inr h) = further u (row_of true c) (rows_at zero cs) (row_for zero cs u h)
row_for (suc n) (c ∷ cs) u (inl h) = record { xs = []; row = row_of false c; ys = rows_at n cs; is = refl; of = h }
row_for (suc n) (c ∷ cs) u (inr h) = further u (row_of false c) (rows_at n cs) (row_for n cs u h)

-- an event of the conversation at a place
pub there_at : (cs : List Conversation) (i : ℕ) (d : Conversation) (u : Untold) → i < length cs → IsOf (face_of (get_or cs i d)) u → IsThere (faces_of cs) u
there_at [] i d u l h = absurd (omega arith)
there_at (c ∷ cs) zero d u l h = inl h
there_at (c ∷ cs) (suc i) d u l h = inr (there_at cs i d u (omega arith) h)

-- those that were there are, with one more conversation
pub there_push : (faces : List Face) (face : Face) (u : Untold) → IsThere faces u → IsThere (faces ++ face ∷ []) u
there_push [] face u h = absurd h
there_push (f ∷ faces) face u (inl h) = inl h
there_push (f ∷ faces) face u (inr h) = inr (there_push faces face u h)

pub there_last : (faces : List Face) (face : Face) (u : Untold) → IsOf face u → IsThere (faces ++ face ∷ []) u
there_last [] face u h = inl h
there_last (f ∷ faces) face u h = inr (there_last faces face u h)

module _ {X : Type 0} where
  pub each_append : (P : X → Type 0) (xs ys : List X) → Each P xs → Each P ys → Each P (xs ++ ys)
  each_append P [] ys a b = b
  each_append P (x ∷ xs) ys a b = (a.0, each_append P xs ys a.1 b)

  pub each_front : (P : X → Type 0) (xs ys : List X) → Each P (xs ++ ys) → Each P xs
  each_front P [] ys h = tt
  each_front P (x ∷ xs) ys h = (h.0, each_front P xs ys h.1)

  pub each_back : (P : X → Type 0) (xs ys : List X) → Each P (xs ++ ys) → Each P ys
  each_back P [] ys h = h
  each_back P (x ∷ xs) ys h = each_back P xs ys h.1

  pub each_like : (P Q : X → Type 0) → ((x : X) → P x → Q x) → (xs : List X) → Each P xs → Each Q xs
  each_like P Q f [] h = tt
  each_like P Q f (x ∷ xs) h = (f x h.0, each_like P Q f xs h.1)

-- The last number of those that ended.

pub last_push : (ns : List ℕ) (n : ℕ) → last_of (ns ++ n ∷ []) ≡ Some n
last_push [] n = refl
last_push (m ∷ ns) n = ap (λ (o : Option ℕ). or_else o (Some m)) (last_push ns n)

below_all : (ns : List ℕ) (m : ℕ) (ms : List ℕ) → Rises (ns ++ m ∷ ms) → Each (λ n. n < m) ns
below_all [] m ms h = tt
below_all (n ∷ []) m ms h = (h.0, tt)
below_all (n ∷ k ∷ ns) m ms h = let rest : Each (λ n. n < m) (k ∷ ns) = below_all (k ∷ ns) m ms h.1 in (omega (arith, h.0, rest.0), rest)

-- numbers that rise up to one are below it, the last one too
abbrev pub IsUnder : ℕ → Option ℕ → Type 0
IsUnder m None = Unit {0}
IsUnder m (Some n) = n < m

under : (m : ℕ) (ns : List ℕ) → Each (λ n. n < m) ns → IsUnder m (last_of ns)
under m [] h = tt
under m (n ∷ ns) h = by (last_of ns) (under m ns h.1)
  where
    by : (o : Option ℕ) → IsUnder m o → IsUnder m (or_else o (Some n))
    by None u = h.0
    by (Some k) u = u

pub last_below : (ns : List ℕ) (m : ℕ) (ms : List ℕ) → Rises (ns ++ m ∷ ms) → IsUnder m (last_of ns)
last_below ns m ms h = under m ns (below_all ns m ms h)

-- the numbers, cut around one of them
numbers_cut : (i : ℕ) (cs : List Conversation) (d : Conversation) → i < length cs → numbers_in cs ≡ take i (numbers_in cs) ++ (get_or cs i d).number ∷ numbers_in (drop (suc i) cs)
numbers_cut i [] d l = absurd (omega arith)
numbers_cut zero (c ∷ cs) d l = refl
numbers_cut (suc i) (c ∷ cs) d l = ap (λ (ns : List ℕ). c.number ∷ ns) (numbers_cut i cs d (omega arith))

pub finished_below : (i : ℕ) (cs : List Conversation) (d : Conversation) → i < length cs → Rises (numbers_in cs) → IsUnder (get_or cs i d).number (last_of (take i (numbers_in cs)))
finished_below i cs d l h = last_below (take i (numbers_in cs)) (get_or cs i d).number (numbers_in (drop (suc i) cs)) (subst Rises (numbers_cut i cs d l) h)

pub finished_next : (i : ℕ) (cs : List Conversation) (d : Conversation) → i < length cs → last_of (take (suc i) (numbers_in cs)) ≡ Some (get_or cs i d).number
finished_next i [] d l = absurd (omega arith)
finished_next zero (c ∷ cs) d l = refl
finished_next (suc i) (c ∷ cs) d l = ap (λ (o : Option ℕ). or_else o (Some c.number)) (finished_next i cs d (omega arith))

-- the last of a table may be put anew
pub set_last : (cs : List Conversation) (c e : Conversation) → set (cs ++ c ∷ []) (length cs) e ≡ cs ++ e ∷ []
set_last [] c e = refl
set_last (x ∷ cs) c e = ap (λ (l : List Conversation). x ∷ l) (set_last cs c e)
