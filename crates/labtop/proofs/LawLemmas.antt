use Rattle.std.proofs.Common.{◌≡◌, ℕ, ◌+◌, ◌≤◌, ◌<◌, List, [], ◌∷◌, length, refl, sym, ◌∙◌, true, false, Bool, arith, nat_le, nat_eq}
use Rattle.std.proofs.lemmas.Bool.Decides.{nat_tests}
use Rattle.histbook.specs.declared.look_entry.LookEntry.{LookEntry}
use Rattle.std.specs.Prelude.{◌&&◌}
use Rattle.cutclass.specs.declared.class_rule.ClassRule.{ClassRule}
use Rattle.cutclass.specs.declared.cut.Cut.{Cut}
use Rattle.cutclass.specs.declared.cut.Cut.TheVariants.{Unset, Endless, At}
use Rattle.datagrams.specs.Flow.{plain}
use Rattle.scapconf.specs.declared.settings.Settings.{Settings}
use Rattle.labtop.specs.Settings.{class_in, is_built, is_unset, is_without_classes, is_without_cutoffs, terms_of}
use Rattle.labtop.proofs.ReadLemmas.{none_there}
use Rattle.streamdefs.specs.Accounts.{IsAccounted}
use Rattle.streamdefs.specs.Convo.{Convo, mark_for}
use Rattle.streamdefs.specs.Lawful.{IsLookFor}
use Rattle.streamdefs.specs.Lists.{Each, total}
use Rattle.streamdefs.specs.Terms.{Terms}
use Rattle.streamdefs.specs.Totals.{Total}
use Rattle.streamdefs.specs.View.{Ask}

pub add_up : (ts : List Total) → Each IsAccounted ts → total (λ t. t.payload) ts
    ≡ total (λ t. t.delivered) ts + total (λ t. t.counts.duplicate) ts + total (λ t. t.counts.late) ts + total (λ t. t.counts.cut) ts + total (λ t. t.counts.shed) ts
add_up [] h = refl
add_up (t ∷ ts) h = omega (arith, h.0, add_up ts h.1)

is_past : (a m : ℕ) → nat_le a m ≡ false → m < a
is_past a m h = grind (arith, nat_tests)

is_within : (a m : ℕ) → nat_le a m ≡ true → a ≤ m
is_within a m h = grind (arith, nat_tests)

pub passed : (terms : Terms) (c : Convo) (look : LookEntry) (ask : Ask) → IsLookFor terms c look ask → look.granted ≡ false → mark_for terms c ask < look.look.found + look.asked
passed terms c look ask h e = is_past (look.look.found + look.asked) (mark_for terms c ask) (sym h.1 ∙ e)

pub fitted : (terms : Terms) (c : Convo) (look : LookEntry) (ask : Ask) → IsLookFor terms c look ask → look.granted ≡ true → look.look.found + look.asked ≤ mark_for terms c ask
fitted terms c look ask h e = is_within (look.look.found + look.asked) (mark_for terms c ask) (sym h.1 ∙ e)

-- Settings without copies, flushes, cutoffs and classes are those that are run.

both_true : (a b : Bool) → (a && b) ≡ true → (a ≡ true) × (b ≡ true)
both_true true b h = (refl, h)
both_true false b h = none_there h

unset_is : (c : Cut) → is_unset c ≡ true → Unset ≡ c
unset_is Unset h = refl
unset_is Endless h = none_there h
unset_is (At position) h = none_there h

no_class : (rules : List ClassRule) → is_without_classes rules ≡ true → [] ≡ rules
no_class [] h = refl
no_class (rule ∷ rules) h = none_there h

zero_is : (n : ℕ) → nat_eq n 0 ≡ true → 0 ≡ n
zero_is n h = grind (arith, nat_tests)

pub built_whole : (s : Settings) → is_built s ≡ true → plain (terms_of s) ≡ terms_of s
built_whole s h =
    let rules = both_true _ (nat_eq (length s.rules) 0) h in
    let cutoffs = both_true _ (is_without_cutoffs s.set.cutoffs) rules.0 in
    let sizes = both_true (nat_eq s.set.shape.overlap 0) (nat_eq s.set.shape.flush 0) cutoffs.0 in
    let classes = both_true _ (is_without_classes s.set.cutoffs.classes) cutoffs.1 in
    let back = both_true _ (is_unset s.set.cutoffs.back) classes.0 in
    let ways = both_true (is_unset s.set.cutoffs.default) (is_unset s.set.cutoffs.fore) back.0 in
    λ i. record (terms_of s) {
      overlap = zero_is s.set.shape.overlap sizes.0 i;
      flush = zero_is s.set.shape.flush sizes.1 i;
      default = unset_is s.set.cutoffs.default ways.0 i;
      cutoffs = record { fore = unset_is s.set.cutoffs.fore ways.1 i; back = unset_is s.set.cutoffs.back back.1 i };
      class = λ key toward. class_in (no_class s.set.cutoffs.classes classes.1 i) key toward;
    }
