-- Homes that grant as often as they release come in whole.
use Rattle.std.proofs.Common.{◌≡◌, ℕ, refl, sym, ap, ◌∙◌, subst, arith}
use Rattle.prio_budget.specs.History.{total, is_grant, is_release}
use Rattle.prio_budget.specs.Share.{Share, share_sum, half, IsWhole}
use Rattle.prio_budget.specs.WordParts.{HomeParts, IsAllIn, first_home, home_left, home_right, gathered}
use Rattle.prio_budget.specs.WordTests.{IsBalanced}
use Rattle.prio_budget.proofs.Totals.{total_append}

-- as many releases as grants, and as many notes met as given
abbrev IsEven : HomeParts → Type 0
IsEven home = (total is_release home.moves ≡ total is_grant home.moves) × (home.met ≡ home.given)

even_after : (before after : HomeParts) → IsEven before → IsBalanced before after → IsEven after
even_after before after e b =
    ((let m = b.moves in let x = e.0 in omega (arith, m, x)), (let g = b.given in let m = b.met in let x = e.1 in omega (arith, g, m, x)))

even_gathered : (home other : HomeParts) → IsEven home → IsEven other → IsEven (gathered home other)
even_gathered home other e d =
    let r = total_append is_release home.moves other.moves in
    let g = total_append is_grant home.moves other.moves in
    ((let x = e.0 in let y = d.0 in omega (arith, r, g, x, y)), (let x = e.1 in let y = d.1 in omega (arith, x, y)))

abbrev part : HomeParts → Share
part home = home.part

-- a home that is cut from one whose part is known, and does its work
cut : (from rest other after : HomeParts) (p : Share) → from.part ≡ p → rest ≡ home_left from → other ≡ home_right from → IsBalanced other after → IsEven from
    → (rest.part ≡ half p) × (after.part ≡ half p) × IsEven rest × IsEven after
cut from rest other after p is kept given b e =
    (ap part kept ∙ ap half is, b.part ∙ ap part given ∙ ap half is, subst IsEven (sym kept) e, even_after other after (subst IsEven (sym given) (refl, refl)) b)

comes_in : (home other now : HomeParts) (p q : Share) → home.part ≡ p → other.part ≡ q → IsEven home → IsEven other → now ≡ gathered home other → (now.part ≡ share_sum p q) × IsEven now
comes_in home other now p q a b e d is = (ap part is ∙ (λ i. share_sum (a i) (b i)), subst IsEven (sym is) (even_gathered home other e d))

-- four homes are cut from the first one, work, and come in
pub all_back : {first : ℕ} {h0 h1 h2 h3 h4 a b c d a' b' c' d' g1 g2 g3 g4 : HomeParts}
    → h0 ≡ first_home first
    → h1 ≡ home_left h0 → a ≡ home_right h0
    → h2 ≡ home_left h1 → b ≡ home_right h1
    → h3 ≡ home_left h2 → c ≡ home_right h2
    → h4 ≡ home_left h3 → d ≡ home_right h3
    → IsBalanced a a' → IsBalanced b b' → IsBalanced c c' → IsBalanced d d'
    → g1 ≡ gathered h4 a' → g2 ≡ gathered g1 b' → g3 ≡ gathered g2 c' → g4 ≡ gathered g3 d'
    → IsAllIn g4
all_back {first = first} {h0 = h0} {h1 = h1} {h2 = h2} {h3 = h3} {h4 = h4} {a = a} {b = b} {c = c} {d = d} {a' = a'} {b' = b'} {c' = c'} {d' = d'} {g1 = g1} {g2 = g2} {g3 = g3} {g4 = g4} is l1 r1 l2 r2 l3 r3 l4 r4 ba bb bc bd e1 e2 e3 e4 =
    let even : IsEven h0 = subst IsEven (sym is) (refl, refl) in
    let one = cut h0 h1 a a' (1, 0) (ap part is) l1 r1 ba even in
    let two = cut h1 h2 b b' (1, 1) one.0 l2 r2 bb one.2 in
    let three = cut h2 h3 c c' (1, 2) two.0 l3 r3 bc two.2 in
    let four = cut h3 h4 d d' (1, 3) three.0 l4 r4 bd three.2 in
    let x = comes_in h4 a' g1 (1, 4) (1, 1) four.0 one.1 four.2 one.3 e1 in
    let y = comes_in g1 b' g2 (share_sum (1, 4) (1, 1)) (1, 2) x.0 two.1 x.1 two.3 e2 in
    let z = comes_in g2 c' g3 (share_sum (share_sum (1, 4) (1, 1)) (1, 2)) (1, 3) y.0 three.1 y.1 three.3 e3 in
    let w = comes_in g3 d' g4 (share_sum (share_sum (share_sum (1, 4) (1, 1)) (1, 2)) (1, 3)) (1, 4) z.0 four.1 z.1 four.3 e4 in
    record { homes = subst IsWhole (sym w.0) refl; charges = w.1.0; notes = w.1.1 }
