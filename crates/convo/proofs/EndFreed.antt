-- A charge was given back at an End.
use Rattle.convo.specs.Directions.{DirStands, dir_kind}
use Rattle.std.proofs.Common.{◌≡◌, sym, ◌∙◌, ap, subst, ℕ, suc, ◌+◌, ◌<◌, ◌≤◌, List, [], ◌∷◌, ◌++◌, length, length-append, arith}
use Rattle.evring.specs.declared.way.Way.TheVariants.{Fore, Back}
use Rattle.evring.specs.declared.reason.Reason.{Reason}
use Rattle.histbook.specs.declared.look_entry.LookEntry.{LookEntry}
use Rattle.prio_budget.specs.declared.free.Free.{Free}
use Rattle.streamdefs.specs.Terms.{Terms}
use Rattle.streamdefs.specs.Reorder.{Charge}
use Rattle.streamdefs.specs.Pending.{Piece}
use Rattle.streamdefs.specs.Direction.{Direction, Deed, next_by}
use Rattle.streamdefs.specs.Direction.Next.{Gives}
use Rattle.streamdefs.specs.Direction.Deed.{Ends}
use Rattle.streamdefs.specs.Convo.{Act, kind_of}
use Rattle.streamdefs.specs.Convo.Act.{End}
use Rattle.streamdefs.specs.Want.{want, with_free}
use Rattle.streamdefs.specs.Want.Want.{Release}
use Rattle.flowdir.specs.Boundary.{IsStep}
use Rattle.flowdir.specs.Boundary.Phase.{Works}
use Rattle.convo.specs.Talk.{Talk, IsWantOf}
use Rattle.convo.specs.Talk.Phase.{Under}
use Rattle.convo.specs.Standing.{IsMidway}
use Rattle.convo.specs.Stands.{Stands}
use Rattle.convo.specs.Endings.{IsBetween, EndsFore, EndsBack, LeavesFore, LeavesBack, spares_fore, spares_back, unshown_fore, unshown_back}
use Rattle.convo.specs.declared.talk.Convo.{Convo}
use Rattle.convo.specs.declared.stage.Stage.TheVariants as at
use Rattle.convo.specs.declared.moment.Moment.{Moment}
use Rattle.convo.specs.declared.want.Want.{Want}
use Rattle.flowdir.specs.declared.step.Step.{Step}
use Rattle.convo.proofs.DefSteps.{want_release}
use Rattle.convo.proofs.Dirs.{midway_on}
use Rattle.convo.proofs.Found.{FoundEnd, found_end, ends_fore, leaves_fore, ends_back, leaves_back}
use Rattle.convo.proofs.GivesSteps.{end_move, gives_within, gives_early, gives_behind}
use Rattle.convo.proofs.EndSteps.{between_on}

one_more : (frees : List Free) (free : Free) → length (frees ++ free ∷ []) ≡ suc (length frees)
one_more frees free = omega (arith, length-append frees (free ∷ []))

module _ {C : Type 0} (paid : C → Charge) (t : Terms) where
  -- the entry is that End
  at_act : (y : Convo C) (k : Talk) (act : Act) (emitted : ℕ) (free : Free) (m : ℕ) (moment : Moment) (reason why : Reason) (looks : List LookEntry) (frees : List Free) (out : Want C)
      → act ≡ End m reason looks frees → emitted ≡ 0 → m ≡ moment.at → reason ≡ why
      → IsWantOf paid (Stands paid y t) t k (End moment.at why looks (frees ++ free ∷ [])) 0 out
      → IsWantOf paid (Stands paid y t) t k (with_free free act) emitted out
  at_act y k act emitted free m moment reason why looks frees out a e n r h =
      subst (λ e. IsWantOf paid (Stands paid y t) t k (with_free free act) e out) (sym e)
      (subst (λ act. IsWantOf paid (Stands paid y t) t k (with_free free act) 0 out) (sym (a ∙ ap (λ m. End m reason looks frees) n ∙ ap (λ r. End moment.at r looks frees) r)) h)

  pub freed_leaves_fore : (x y : Convo C) (k : Talk) (act : Act) (emitted : ℕ) (free : Free) (moment : Moment) (reason : Reason) (out : Want C)
      → Stands paid x t k (Under act emitted) → x.stage ≡ at.Unshown moment reason Fore
      → ((looks : List LookEntry) (frees : List Free) (more : ℕ) → LeavesFore paid t x k moment.at more → more ≤ length (unshown_fore t k.convo moment.at)
      → length frees ≡ length (spares_fore t k.convo moment.at) + more → IsWantOf paid (Stands paid y t) t k (End moment.at reason looks frees) 0 out)
      → IsWantOf paid (Stands paid y t) t k (with_free free act) emitted out
  freed_leaves_fore x y k act emitted free moment reason out st stage goes =
      let f : FoundEnd paid t x k act emitted = found_end paid t x k act emitted st (rw stage tt) in
      let l = leaves_fore paid t x k f.m f.reason reason (length f.frees) moment f.ending stage in
      let n = one_more f.frees free in
      let a = subst (λ m. length f.frees ≡ length (spares_fore t k.convo m) + l.2.0) l.0 l.2.1 in
      let b = subst (λ m. l.2.0 < length (unshown_fore t k.convo m)) l.0 l.2.2 in
      let w = subst (λ m. LeavesFore paid t x k m (suc l.2.0)) l.0 l.2.3 in
      at_act y k act emitted free f.m moment f.reason reason f.looks f.frees out f.act_is f.first l.0 l.1
      (goes f.looks (f.frees ++ free ∷ []) (suc l.2.0) w (omega arith) (omega arith))

  pub freed_leaves_back : (x y : Convo C) (k : Talk) (act : Act) (emitted : ℕ) (free : Free) (moment : Moment) (reason : Reason) (out : Want C)
      → Stands paid x t k (Under act emitted) → x.stage ≡ at.Unshown moment reason Back
      → ((looks : List LookEntry) (frees : List Free) (more : ℕ) → LeavesBack paid t x k moment.at more
      → length frees ≡ length (spares_fore t k.convo moment.at) + length (unshown_fore t k.convo moment.at) + length (spares_back t k.convo moment.at) + more
      → IsWantOf paid (Stands paid y t) t k (End moment.at reason looks frees) 0 out)
      → IsWantOf paid (Stands paid y t) t k (with_free free act) emitted out
  freed_leaves_back x y k act emitted free moment reason out st stage goes =
      let f : FoundEnd paid t x k act emitted = found_end paid t x k act emitted st (rw stage tt) in
      let l = leaves_back paid t x k f.m f.reason reason (length f.frees) moment f.ending stage in
      let n = one_more f.frees free in
      let a = subst (λ m. length f.frees ≡ length (spares_fore t k.convo m) + length (unshown_fore t k.convo m) + length (spares_back t k.convo m) + l.2.0) l.0 l.2.1 in
      let w = subst (λ m. LeavesBack paid t x k m (suc l.2.0)) l.0 l.2.3 in
      at_act y k act emitted free f.m moment f.reason reason f.looks f.frees out f.act_is f.first l.0 l.1
      (goes f.looks (f.frees ++ free ∷ []) (suc l.2.0) w (omega arith))

  pub freed_ends_fore : (x x1 y : Convo C) (k : Talk) (act : Act) (emitted : ℕ) (free : Free) (charge : Charge) (moment : Moment) (reason : Reason) (step : Step C) (out : Want C)
      → Stands paid x t k (Under act emitted) → x.stage ≡ at.End moment reason Fore → want t k.convo act emitted ≡ Release charge
      → x1 ≡ record x { fore = record x.fore { dir = x1.fore.dir } } → dir_kind x1.fore.dir ≡ dir_kind x.fore.dir
      → ((d : Direction) (deed : Deed) (given : ℕ) (pieces : List Piece) → DirStands paid x.fore.dir d (Works t deed given) pieces → next_by t (dir_kind x.fore.dir) d deed given ≡ Gives charge
      → IsStep paid (DirStands paid x1.fore.dir) t (dir_kind x.fore.dir) d deed (suc given) pieces step)
      → ((looks : List LookEntry) (frees : List Free) → IsMidway paid t x1 k Fore
      → IsStep paid (DirStands paid x1.fore.dir) t (kind_of t k.convo) k.convo.directions.fore (Ends moment.at) (length frees) [] step
      → length frees ≤ length (spares_fore t k.convo moment.at) → IsWantOf paid (Stands paid y t) t k (End moment.at reason looks frees) 0 out)
      → IsWantOf paid (Stands paid y t) t k (with_free free act) emitted out
  freed_ends_fore x x1 y k act emitted free charge moment reason step out st stage wants same kind_is steps goes =
      let f : FoundEnd paid t x k act emitted = found_end paid t x k act emitted st (rw stage tt) in
      let l = ends_fore paid t x k f.m f.reason reason (length f.frees) moment f.ending stage in
      let n = one_more f.frees free in
      let few = subst (λ m. length f.frees < length (spares_fore t k.convo m)) l.0 l.2 in
      let w = subst (λ m. EndsFore paid t x k m (length f.frees)) l.0 l.3 in
      let act_is : act ≡ End moment.at reason f.looks f.frees = f.act_is ∙ ap (λ m. End m f.reason f.looks f.frees) l.0 ∙ ap (λ r. End moment.at r f.looks f.frees) l.1 in
      let next = sym (end_move t k.convo moment.at reason f.looks f.frees) ∙ want_release t k.convo (End moment.at reason f.looks f.frees) emitted charge (ap (λ act. want t k.convo act emitted) (sym act_is) ∙ wants) in
      let here = gives_early (spares_fore t k.convo moment.at) (unshown_fore t k.convo moment.at) (spares_back t k.convo moment.at ++ unshown_back t k.convo moment.at) (length f.frees) charge few next in
      let gives = subst (λ kd. next_by t kd k.convo.directions.fore (Ends moment.at) (length f.frees) ≡ Gives charge) (sym w.midway.kinds.fore_is) here in
      let h = steps k.convo.directions.fore (Ends moment.at) (length f.frees) [] w.here gives in
      let h2 = subst (λ kd. IsStep paid (DirStands paid x1.fore.dir) t kd k.convo.directions.fore (Ends moment.at) (suc (length f.frees)) [] step) w.midway.kinds.fore_is h in
      let h3 = subst (λ n. IsStep paid (DirStands paid x1.fore.dir) t (kind_of t k.convo) k.convo.directions.fore (Ends moment.at) n [] step) (sym n) h2 in
      let mid = subst (λ x. IsMidway paid t x k Fore) (sym same) (midway_on paid t k Fore x x1.fore.dir w.midway kind_is) in
      at_act y k act emitted free f.m moment f.reason reason f.looks f.frees out f.act_is f.first l.0 l.1
      (goes f.looks (f.frees ++ free ∷ []) mid h3 (omega arith))

  pub freed_ends_back : (x x1 y : Convo C) (k : Talk) (act : Act) (emitted : ℕ) (free : Free) (charge : Charge) (moment : Moment) (reason : Reason) (step : Step C) (out : Want C)
      → Stands paid x t k (Under act emitted) → x.stage ≡ at.End moment reason Back → want t k.convo act emitted ≡ Release charge
      → x1 ≡ record x { back = record x.back { dir = x1.back.dir } } → dir_kind x1.back.dir ≡ dir_kind x.back.dir
      → ((d : Direction) (deed : Deed) (given : ℕ) (pieces : List Piece) → DirStands paid x.back.dir d (Works t deed given) pieces → next_by t (dir_kind x.back.dir) d deed given ≡ Gives charge
      → IsStep paid (DirStands paid x1.back.dir) t (dir_kind x.back.dir) d deed (suc given) pieces step)
      → ((looks : List LookEntry) (frees : List Free) (more : ℕ) → IsBetween paid t x1 k moment.at
      → IsStep paid (DirStands paid x1.back.dir) t (kind_of t k.convo) k.convo.directions.back (Ends moment.at) more [] step
      → more ≤ length (spares_back t k.convo moment.at) → length frees ≡ length (spares_fore t k.convo moment.at) + length (unshown_fore t k.convo moment.at) + more
      → IsWantOf paid (Stands paid y t) t k (End moment.at reason looks frees) 0 out)
      → IsWantOf paid (Stands paid y t) t k (with_free free act) emitted out
  freed_ends_back x x1 y k act emitted free charge moment reason step out st stage wants same kind_is steps goes =
      let f : FoundEnd paid t x k act emitted = found_end paid t x k act emitted st (rw stage tt) in
      let l = ends_back paid t x k f.m f.reason reason (length f.frees) moment f.ending stage in
      let n = one_more f.frees free in
      let more : ℕ = l.2.0 in
      let sf : List Charge = spares_fore t k.convo moment.at in
      let uf : List Charge = unshown_fore t k.convo moment.at in
      let len : length (sf ++ uf) ≡ length sf + length uf = length-append sf uf in
      let a = subst (λ m. length f.frees ≡ length (spares_fore t k.convo m) + length (unshown_fore t k.convo m) + l.2.0) l.0 l.2.1 in
      let few = subst (λ m. l.2.0 < length (spares_back t k.convo m)) l.0 l.2.2 in
      let w = subst (λ m. EndsBack paid t x k m l.2.0) l.0 l.2.3 in
      let act_is : act ≡ End moment.at reason f.looks f.frees = f.act_is ∙ ap (λ m. End m f.reason f.looks f.frees) l.0 ∙ ap (λ r. End moment.at r f.looks f.frees) l.1 in
      let next = sym (end_move t k.convo moment.at reason f.looks f.frees) ∙ want_release t k.convo (End moment.at reason f.looks f.frees) emitted charge (ap (λ act. want t k.convo act emitted) (sym act_is) ∙ wants) in
      let next2 = sym (gives_behind (sf ++ uf) (spares_back t k.convo moment.at ++ unshown_back t k.convo moment.at) (length f.frees) more (omega arith)) ∙ next in
      let here = gives_within (spares_back t k.convo moment.at) (unshown_back t k.convo moment.at) more charge few next2 in
      let gives = subst (λ kd. next_by t kd k.convo.directions.back (Ends moment.at) more ≡ Gives charge) (sym w.between.beside.kinds.back_is) here in
      let h = steps k.convo.directions.back (Ends moment.at) more [] w.here gives in
      let h2 = subst (λ kd. IsStep paid (DirStands paid x1.back.dir) t kd k.convo.directions.back (Ends moment.at) (suc more) [] step) w.between.beside.kinds.back_is h in
      let b = subst (λ x. IsBetween paid t x k moment.at) (sym same) (between_on paid t x x1.back.dir k moment.at kind_is w.between) in
      at_act y k act emitted free f.m moment f.reason reason f.looks f.frees out f.act_is f.first l.0 l.1
      (goes f.looks (f.frees ++ free ∷ []) (suc more) b h2 (omega arith) (omega arith))
