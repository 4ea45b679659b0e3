-- Releasing the parts of a chunk, and what it shows.
use Rattle.std.specs.Prelude.{◌≡◌, refl, ℕ, suc, ◌+◌, ◌-◌, ◌≤◌, Bool, false, List, [], ◌∷◌, ◌++◌, length, map, None, Some, option_to_list, Result, Ok, Err}
use Rattle.std.specs.Result.{OnOk, is_err}
use Rattle.std.proofs.Common.{sym, ◌∙◌, ap, subst, arith, append-nil}
use mathlib.Core.List.{append_assoc}
use Rattle.std.proofs.lemmas.List.{length-append}
use Rattle.chunkpart.specs.ChunkParts.{ChunkParts, parts_of, shown_bytes}
use Rattle.chunkpart.specs.Parts.{bytes_of}
use Rattle.prio_budget.specs.BudgetParts.{BudgetParts}
use Rattle.prio_budget.specs.ChargeParts.{ChargeParts}
use Rattle.prio_budget.specs.declared.free.Free.{Free}
use Rattle.datagrams.specs.Flow.{Paid, size, joined, chunk_of, paid_of}
use Rattle.datagrams.specs.Released.{frees_from, freed_of, IsMidway}
use Rattle.datagrams.proofs.FlowLemmas.{fresh_joined}

size-append : (xs ys : List Paid) → size (xs ++ ys) ≡ size xs + size ys
size-append [] ys = omega arith
size-append (x ∷ xs) ys = omega (arith, size-append xs ys)

frees-push : (stamp : ℕ) (parts : List Paid) (part : Paid)
    → frees_from stamp (parts ++ part ∷ []) ≡ frees_from stamp parts ++ record { stamp = stamp + length parts; bytes = length part.bytes } ∷ []
frees-push stamp [] part = λ i. record { stamp = at i; bytes = length part.bytes } ∷ []
  where
    at : stamp ≡ stamp + 0
    at = omega arith
frees-push stamp (first ∷ parts) part =
    ap (λ fs. record { stamp = stamp; bytes = length first.bytes } ∷ fs) (frees-push (stamp + 1) parts part)
    ∙ ap (λ n. record { stamp = stamp; bytes = length first.bytes } ∷ (frees_from (stamp + 1) parts ++ record { stamp = n; bytes = length part.bytes } ∷ [])) at
  where
    at : stamp + 1 + length parts ≡ stamp + suc (length parts)
    at = omega arith

-- the bytes of the next part are in use
midway_room : (parts left : List Paid) (part : Paid) (before now : BudgetParts) (frees : List Free)
    → IsMidway parts (part ∷ left) before now frees → size parts ≤ before.used → length part.bytes ≤ now.used
midway_room parts left part before now frees m h = omega (arith, ap size m.all, size-append m.done (part ∷ left), m.used)

-- the next part is released
midway_step : (parts left : List Paid) (part : Paid) (before now after : BudgetParts) (frees : List Free)
    → IsMidway parts (part ∷ left) before now frees → size parts ≤ before.used
    → after ≡ record { limit = now.limit; stamp = now.stamp + 1; used = now.used - length part.bytes }
    → IsMidway parts left before after (frees ++ record { stamp = now.stamp; bytes = length part.bytes } ∷ [])
midway_step parts left part before now after frees m h e = record {
  done = m.done ++ part ∷ [];
  all = m.all ∙ sym (append_assoc m.done (part ∷ []) left);
  limit = ap (λ b. b.limit) e ∙ m.limit;
  stamp = omega (arith, ap (λ b. b.stamp) e, m.stamp, length-append m.done (part ∷ []));
  used = omega (arith, ap (λ b. b.used) e, m.used, size-append m.done (part ∷ []), midway_room parts left part before now frees m h);
  frees_are = ap (λ fs. fs ++ record { stamp = now.stamp; bytes = length part.bytes } ∷ []) m.frees_are
      ∙ ap (λ n. frees_from before.stamp m.done ++ record { stamp = n; bytes = length part.bytes } ∷ []) m.stamp
      ∙ sym (frees-push before.stamp m.done part);
}

-- Of these parts some are released, and the others are left; and the frees are kept unless memory was wanting.
pub record IsReleasing (parts left : List (List ℕ × ChargeParts)) (before now : BudgetParts) (full : Bool) (frees : List Free) : Type 0 where
  pub told : List Free
  pub midway : IsMidway (map paid_of parts) (map paid_of left) before now told
  pub kept : full ≡ false → frees ≡ told

pub releasing_none : (parts : List (List ℕ × ChargeParts)) (before : BudgetParts) (frees : List Free) → frees ≡ [] → IsReleasing parts parts before before false frees
releasing_none parts before frees e = record {
  told = [];
  midway = record { done = []; all = refl; limit = refl; stamp = omega arith; used = omega arith; frees_are = refl };
  kept = λ _. e;
}

-- the bytes of the next charge are in use
pub releasing_room : (parts left now_left : List (List ℕ × ChargeParts)) (part : List ℕ × ChargeParts) (n : ℕ) (before now : BudgetParts) (full : Bool) (frees : List Free)
    → IsReleasing parts now_left before now full frees → now_left ≡ part ∷ left → size (map paid_of parts) ≤ before.used → n ≡ length part.0
    → n ≤ now.used
releasing_room parts left now_left part n before now full frees r l h e =
    omega (arith, e, midway_room (map paid_of parts) (map paid_of left) (paid_of part) before now r.told (subst (λ ps. IsMidway (map paid_of parts) (map paid_of ps) before now r.told) l r.midway) h)

-- it is released
pub releasing_step : (parts left now_left : List (List ℕ × ChargeParts)) (part : List ℕ × ChargeParts) (n : ℕ) (before now after : BudgetParts) (full after_full : Bool) (frees after_frees : List Free)
    → IsReleasing parts now_left before now full frees → now_left ≡ part ∷ left → size (map paid_of parts) ≤ before.used → n ≡ length part.0
    → after ≡ record { limit = now.limit; stamp = now.stamp + 1; used = now.used - n }
    → (after_full ≡ false → (full ≡ false) × (after_frees ≡ frees ++ record { stamp = now.stamp; bytes = n } ∷ []))
    → IsReleasing parts left before after after_full after_frees
releasing_step parts left now_left part n before now after full after_full frees after_frees r l h e a k = record {
  told = r.told ++ record { stamp = now.stamp; bytes = length part.0 } ∷ [];
  midway = midway_step (map paid_of parts) (map paid_of left) (paid_of part) before now after r.told
      (subst (λ ps. IsMidway (map paid_of parts) (map paid_of ps) before now r.told) l r.midway) h
      (a ∙ λ i. record { limit = now.limit; stamp = now.stamp + 1; used = now.used - e i });
  kept = λ f. (k f).1 ∙ ap (λ fs. fs ++ record { stamp = now.stamp; bytes = n } ∷ []) (r.kept (k f).0)
      ∙ ap (λ m. r.told ++ record { stamp = now.stamp; bytes = m } ∷ []) e;
}

-- none is left
pub released_all : (parts left : List (List ℕ × ChargeParts)) (before now : BudgetParts) (full : Bool) (frees : List Free)
    → IsReleasing parts left before now full frees → left ≡ [] → now ≡ freed_of (map paid_of parts) before
released_all parts left before now full frees r l = λ i. record { limit = m.limit i; stamp = stamp_is i; used = used_is i }
  where
    m : IsMidway (map paid_of parts) [] before now r.told
    m = subst (λ ps. IsMidway (map paid_of parts) (map paid_of ps) before now r.told) l r.midway

    done_is : map paid_of parts ≡ m.done
    done_is = m.all ∙ append-nil m.done

    stamp_is : now.stamp ≡ before.stamp + length (map paid_of parts)
    stamp_is = m.stamp ∙ ap (λ ps. before.stamp + length ps) (sym done_is)

    used_is : now.used ≡ before.used - size (map paid_of parts)
    used_is = omega (arith, m.used, ap size done_is)

pub released_frees : (parts left : List (List ℕ × ChargeParts)) (before now : BudgetParts) (full : Bool) (frees : List Free)
    → IsReleasing parts left before now full frees → left ≡ [] → full ≡ false → frees ≡ frees_from before.stamp (map paid_of parts)
released_frees parts left before now full frees r l f = r.kept f ∙ m.frees_are ∙ ap (frees_from before.stamp) (sym done_is)
  where
    m : IsMidway (map paid_of parts) [] before now r.told
    m = subst (λ ps. IsMidway (map paid_of parts) (map paid_of ps) before now r.told) l r.midway

    done_is : map paid_of parts ≡ m.done
    done_is = m.all ∙ append-nil m.done

-- the parts of a chunk without a copy are its fresh ones
pub fresh_taken : (old new : ChunkParts ChargeParts) (part : List ℕ × ChargeParts) → old.tail ≡ None → new.tail ≡ None
    → parts_of old ≡ option_to_list (Some part) ++ parts_of new → old.fresh ≡ part ∷ new.fresh
fresh_taken old new part h k e = sym (ap (λ t. option_to_list t ++ old.fresh) h) ∙ e ∙ ap (λ t. part ∷ (option_to_list t ++ new.fresh)) k

pub fresh_none : (old : ChunkParts ChargeParts) → old.tail ≡ None → parts_of old ≡ [] → old.fresh ≡ []
fresh_none old h e = sym (ap (λ t. option_to_list t ++ old.fresh) h) ∙ e

-- and it shows their bytes
pub bare_shown : (c : ChunkParts ChargeParts) → c.tail ≡ None → shown_bytes c ≡ joined (chunk_of c).parts
bare_shown c h = ap (λ t. bytes_of (option_to_list t) ++ bytes_of c.fresh) h ∙ fresh_joined c.fresh

-- what stands where there was no error
pub on_ok_holds : {X Y : Type 0} (r : Result X Y) (P : Type 0) → is_err r ≡ false → OnOk r P → P
on_ok_holds (Ok x) P e h = h
on_ok_holds (Err y) P e h = cc
