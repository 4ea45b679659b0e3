-- The finite map that an ordered map of std stands for.
use Rattle.std.proofs.Common.{◌≡◌, ℕ, Bool, true, cond, List, [], ◌∷◌, sym, ◌∙◌, ap}
use Rattle.std.specs.Prelude.{Option, None, Some}
use Rattle.std.specs.Ordering.{nat_cmp, is_eq}
use Rattle.std.specs.Map.{lookup}
use Rattle.std.specs.BTreeMap as tree
use Rattle.std.specs.BTreeMap.{BTreeMap}
use Rattle.std.specs.BTreeSet.{BTreeSet, contains}
use Rattle.std.specs.FinMap as map
use Rattle.std.proofs.lemmas.Cmp.{nat_cmp_total, eq_by_cmp_equiv}
use Rattle.deadlines.specs.Dues.{Dues}
use Rattle.deadlines.specs.Order.{AreInOrder, due_cmp, is_at_moment}
use Rattle.deadlines.proofs.IndexLemmas.{moment-own}

-- it has what the entries have
pub get-seen : (es : List (ℕ × ℕ)) (q : ℕ) → map.get (map.from_entries {R = nat_cmp} es) q ≡ lookup (tree.is_at (nat_cmp q)) es
get-seen [] q = map.get-empty nat_cmp q
get-seen (e ∷ es) q =
    map.get-insert nat_cmp_total (map.from_entries es) e.0 e.1 q
    ∙ ap (cond (is_eq (nat_cmp q e.0)) (Some e.1)) (get-seen es q)

turned : (k q : ℕ) (some none : Option ℕ) → cond (is_eq (nat_cmp k q)) some none ≡ cond (is_eq (nat_cmp q k)) some none
turned k q some none = ap (λ (b : Bool). cond b some none) ((eq_by_cmp_equiv nat_cmp_total).symm k q)

pub seen-insert : (before after : BTreeMap ℕ ℕ) (k v : ℕ)
    → ((q : ℕ) → tree.get nat_cmp after q ≡ cond (is_eq (nat_cmp k q)) (Some v) (tree.get nat_cmp before q))
    → map.from_entries {R = nat_cmp} after.entries ≡ map.insert (map.from_entries before.entries) k v
seen-insert before after k v has =
    map.same_map nat_cmp_total map.nat_cmp-IsAntisymmetric _ _ (λ q.
    get-seen after.entries q
    ∙ has q
    ∙ turned k q (Some v) (tree.get nat_cmp before q)
    ∙ ap (cond (is_eq (nat_cmp q k)) (Some v)) (sym (get-seen before.entries q))
    ∙ sym (map.get-insert nat_cmp_total (map.from_entries before.entries) k v q))

pub seen-remove : (before after : BTreeMap ℕ ℕ) (k : ℕ)
    → ((q : ℕ) → tree.get nat_cmp after q ≡ cond (is_eq (nat_cmp k q)) None (tree.get nat_cmp before q))
    → map.from_entries {R = nat_cmp} after.entries ≡ map.remove (map.from_entries before.entries) k
seen-remove before after k has =
    map.same_map nat_cmp_total map.nat_cmp-IsAntisymmetric _ _ (λ q.
    get-seen after.entries q
    ∙ has q
    ∙ turned k q None (tree.get nat_cmp before q)
    ∙ ap (cond (is_eq (nat_cmp q k)) None) (sym (get-seen before.entries q))
    ∙ sym (map.get-remove nat_cmp_total (map.from_entries before.entries) k q))

-- what is due stands in the entries, and in the index
pub entry-seen : (moments : BTreeMap ℕ ℕ) (dues : Dues) → map.from_entries moments.entries ≡ dues → (id m : ℕ) → map.get dues id ≡ Some m
    → tree.get nat_cmp moments id ≡ Some m
entry-seen moments dues seen id m h = sym (get-seen moments.entries id) ∙ ap (λ (d : Dues). map.get d id) seen ∙ h

pub index-seen : (moments : BTreeMap ℕ ℕ) (order : BTreeSet (ℕ × ℕ)) (dues : Dues) → map.from_entries moments.entries ≡ dues → AreInOrder moments order
    → (id m : ℕ) → map.get dues id ≡ Some m → contains due_cmp order (m, id) ≡ true
index-seen moments order dues seen ordered id m h =
    ordered m id
    ∙ ap (λ (o : Option ℕ). is_at_moment o m) (entry-seen moments dues seen id m h)
    ∙ moment-own m
