-- A moment that is due was answered.
use Rattle.convo.specs.Directions.{DirStands, dir_kind}
use Rattle.std.proofs.Common.{◌≡◌, refl, sym, ◌∙◌, ap, subst, ℕ, suc, ◌+◌, ◌≤◌, List, [], ◌∷◌, ◌++◌, length, length-append, Option, arith, inl, inr}
use mathlib.Core.List.{append_assoc}
use Rattle.evring.specs.declared.way.Way.{Way}
use Rattle.evring.specs.declared.reason.Reason.{Reason}
use Rattle.evring.specs.declared.way.Way.TheVariants.{Fore, Back}
use Rattle.histbook.specs.declared.look_entry.LookEntry.{LookEntry}
use Rattle.prio_budget.specs.declared.free.Free.{Free}
use Rattle.streamdefs.specs.Terms.{Terms}
use Rattle.streamdefs.specs.Reorder.{Charge}
use Rattle.streamdefs.specs.View.{Ask as Request}
use Rattle.streamdefs.specs.Pending.{Piece}
use Rattle.streamdefs.specs.Direction.{Direction, Kind, Deed, next_by, with_one_look}
use Rattle.streamdefs.specs.Direction.Next.{Asks, Gives}
use Rattle.streamdefs.specs.Direction.Deed.{Falls_due}
use Rattle.streamdefs.specs.Convo.{Act, kind_of}
use Rattle.streamdefs.specs.Convo.Act.{Seg, Answer, Time, End}
use Rattle.streamdefs.specs.Want.{want, with_look, with_free}
use Rattle.streamdefs.specs.Want.Want.{Reserve, Release}
use Rattle.flowdir.specs.Boundary.{IsStep, IsLookOf}
use Rattle.flowdir.specs.Boundary.Phase.{Works}
use Rattle.convo.specs.Talk.{Talk, IsWantOf}
use Rattle.convo.specs.Talk.Phase.{Under}
use Rattle.convo.specs.Standing.{IsMidway}
use Rattle.convo.specs.Stands.{Stands}
use Rattle.convo.specs.Endings.{IsEnding}
use Rattle.convo.specs.Endings.IsEnding.{Ends_fore, Leaves_fore, Ends_back, Leaves_back}
use Rattle.convo.specs.Timings.{IsTiming, IsTimeDone, IsUnfinished, asks_due, spares_due}
use Rattle.convo.specs.Timings.IsTiming.{Times_fore, Times_back}
use Rattle.convo.specs.declared.talk.Convo.{Convo}
use Rattle.convo.specs.declared.stage.Stage.{Stage}
use Rattle.convo.specs.declared.stage.Stage.TheVariants as at
use Rattle.convo.specs.declared.moment.Moment.{Moment}
use Rattle.convo.specs.declared.want.Want.{Want}
use Rattle.flowdir.specs.declared.step.Step.{Step}
use Rattle.convo.proofs.DefSteps.{want_reserve, want_release}
use Rattle.convo.proofs.Dirs.{midway_on}
use Rattle.convo.proofs.TimeTurn.{done_on, fore_next}
use Rattle.convo.proofs.TimeSteps.{ask_within, back_move, gives_within_due}

-- a moment that is under way
pub record FoundTime {C : Type 0} (paid : C → Charge) (t : Terms) (x : Convo C) (k : Talk) (act : Act) (emitted : ℕ) : Type 0 where
  pub m : ℕ
  pub looks : List LookEntry
  pub frees : List Free
  pub act_is : act ≡ Time m looks frees
  pub first : emitted ≡ 0
  pub timing : IsTiming paid t x k m looks (length frees)

-- a stage of a moment
abbrev pub IsTimeStage : Stage → Type 0
IsTimeStage (at.Time moment way) = Unit {0}
IsTimeStage _ = ⊥

same_time : (a b : Moment) (v w : Way) → ◌≡◌ {A = Stage} (at.Time a v) (at.Time b w) → (a ≡ b) × (v ≡ w)
same_time a b v w e = (cc, cc)

one_more : {X : Type 0} (xs : List X) (x : X) → length (xs ++ x ∷ []) ≡ suc (length xs)
one_more xs x = omega (arith, length-append xs (x ∷ []))

module _ {C : Type 0} (paid : C → Charge) (t : Terms) where
  not_time : (m : ℕ) (reason : Reason) (given : ℕ) (x : Convo C) (k : Talk) → IsEnding paid t x k m reason given → IsTimeStage x.stage → ⊥
  not_time m reason given x k (Ends_fore moment a b c d) st = subst IsTimeStage b st
  not_time m reason given x k (Leaves_fore moment more a b c d e) st = subst IsTimeStage b st
  not_time m reason given x k (Ends_back moment more a b c d e) st = subst IsTimeStage b st
  not_time m reason given x k (Leaves_back moment more a b c d e) st = subst IsTimeStage b st

  pub found_time : (x : Convo C) (k : Talk) (act : Act) (emitted : ℕ) → Stands paid x t k (Under act emitted) → IsTimeStage x.stage → FoundTime paid t x k act emitted
  found_time x k (Seg p now looks frees) emitted (inl w) st = absurd (subst IsTimeStage w.2.2 st)
  found_time x k (Answer event advice frees) emitted (inl w) st = absurd (subst IsTimeStage w.2.stage st)
  found_time x k (Time m looks frees) emitted (inl w) st = record { m = m; looks = looks; frees = frees; act_is = refl; first = w.1; timing = w.2 }
  found_time x k (End m reason looks frees) emitted (inl w) st = absurd (not_time m reason (length frees) x k w.2 st)
  found_time x k act emitted (inr w) st = absurd (subst IsTimeStage w.left.handing.stage st)

  times_fore : (x : Convo C) (k : Talk) (m : ℕ) (looks : List LookEntry) (given : ℕ) (moment : Moment) → IsTiming paid t x k m looks given → x.stage ≡ at.Time moment Fore
      → (m ≡ moment.at) × IsMidway paid t x k Fore × DirStands paid x.fore.dir k.convo.directions.fore (Works t (Falls_due m looks) given) []
      × (length looks ≤ length (asks_due t (kind_of t k.convo) k.convo.directions.fore m)) × (given ≤ length (spares_due t (kind_of t k.convo) k.convo.directions.fore m))
      × IsUnfinished (next_by t (kind_of t k.convo) k.convo.directions.fore (Falls_due m looks) given)
  times_fore x k m looks given moment (Times_fore moment2 e st w here a b u) stage =
      let h = same_time moment2 moment Fore Fore (sym st ∙ stage) in (sym e ∙ ap (λ m. m.at) h.0, w, here, a, b, u)
  times_fore x k m looks given moment (Times_back moment2 first more back e st l n w here) stage = absurd (cc)

  times_back : (x : Convo C) (k : Talk) (m : ℕ) (looks : List LookEntry) (given : ℕ) (moment : Moment) → IsTiming paid t x k m looks given → x.stage ≡ at.Time moment Back
      → (m ≡ moment.at) × ((first more : List LookEntry) × (back : ℕ) × (looks ≡ first ++ more) × (given ≡ length (spares_due t (kind_of t k.convo) k.convo.directions.fore m) + back)
      × IsTimeDone paid t x k m first × DirStands paid x.back.dir k.convo.directions.back (Works t (Falls_due m more) back) [])
  times_back x k m looks given moment (Times_fore moment2 e st w here a b u) stage = absurd (cc)
  times_back x k m looks given moment (Times_back moment2 first more back e st l n w here) stage =
      let h = same_time moment2 moment Back Back (sym st ∙ stage) in (sym e ∙ ap (λ m. m.at) h.0, (first, more, back, l, n, w, here))

  pub told_fore : (x x1 y : Convo C) (k : Talk) (act : Act) (emitted : ℕ) (look : LookEntry) (request : Request) (mark : ℕ) (moment : Moment) (granted : Option C) (step : Step C) (out : Want C)
      → Stands paid x t k (Under act emitted) → x.stage ≡ at.Time moment Fore → want t k.convo act emitted ≡ Reserve request mark → IsLookOf paid granted look
      → x1 ≡ record x { fore = record x.fore { dir = x1.fore.dir } } → dir_kind x1.fore.dir ≡ dir_kind x.fore.dir
      → ((d : Direction) (deed : Deed) (given : ℕ) (pieces : List Piece) → DirStands paid x.fore.dir d (Works t deed given) pieces → next_by t (dir_kind x.fore.dir) d deed given ≡ Asks request → IsLookOf paid granted look
      → IsStep paid (DirStands paid x1.fore.dir) t (dir_kind x.fore.dir) d (with_one_look look deed) given pieces step)
      → ((looks : List LookEntry) (frees : List Free) → IsMidway paid t x1 k Fore
      → IsStep paid (DirStands paid x1.fore.dir) t (kind_of t k.convo) k.convo.directions.fore (Falls_due moment.at looks) (length frees) [] step
      → length looks ≤ length (asks_due t (kind_of t k.convo) k.convo.directions.fore moment.at) → length frees ≤ length (spares_due t (kind_of t k.convo) k.convo.directions.fore moment.at)
      → IsWantOf paid (Stands paid y t) t k (Time moment.at looks frees) 0 out)
      → IsWantOf paid (Stands paid y t) t k (with_look look act) emitted out
  told_fore x x1 y k act emitted look request mark moment granted step out st stage wants looked same kind_is steps goes =
      let f : FoundTime paid t x k act emitted = found_time x k act emitted st (rw stage tt) in
      let kd : Kind = kind_of t k.convo in
      let df : Direction = k.convo.directions.fore in
      let l = times_fore x k f.m f.looks (length f.frees) moment f.timing stage in
      let act_is : act ≡ Time moment.at f.looks f.frees = f.act_is ∙ ap (λ m. Time m f.looks f.frees) l.0 in
      let here = subst (λ m. DirStands paid x.fore.dir df (Works t (Falls_due m f.looks) (length f.frees)) []) l.0 l.2 in
      let few = subst (λ m. length f.frees ≤ length (spares_due t kd df m)) l.0 l.4 in
      let u = subst (λ m. IsUnfinished (next_by t kd df (Falls_due m f.looks) (length f.frees))) l.0 l.5 in
      let asks = sym (fore_next t k moment.at f.looks f.frees u) ∙ want_reserve t k.convo (Time moment.at f.looks f.frees) emitted request mark (ap (λ act. want t k.convo act emitted) (sym act_is) ∙ wants) in
      let in_them = ask_within t kd df moment.at f.looks (length f.frees) request asks in
      let h = steps df (Falls_due moment.at f.looks) (length f.frees) [] here (subst (λ kd. next_by t kd df (Falls_due moment.at f.looks) (length f.frees) ≡ Asks request) (sym l.1.kinds.fore_is) asks) looked in
      let h2 = subst (λ kd. IsStep paid (DirStands paid x1.fore.dir) t kd df (Falls_due moment.at (f.looks ++ look ∷ [])) (length f.frees) [] step) l.1.kinds.fore_is h in
      let mid = subst (λ x. IsMidway paid t x k Fore) (sym same) (midway_on paid t k Fore x x1.fore.dir l.1 kind_is) in
      let n = one_more f.looks look in
      subst (λ e. IsWantOf paid (Stands paid y t) t k (with_look look act) e out) (sym f.first)
      (subst (λ act. IsWantOf paid (Stands paid y t) t k (with_look look act) 0 out) (sym act_is)
      (goes (f.looks ++ look ∷ []) f.frees mid h2 (omega arith) few))

  pub freed_fore : (x x1 y : Convo C) (k : Talk) (act : Act) (emitted : ℕ) (free : Free) (charge : Charge) (moment : Moment) (step : Step C) (out : Want C)
      → Stands paid x t k (Under act emitted) → x.stage ≡ at.Time moment Fore → want t k.convo act emitted ≡ Release charge
      → x1 ≡ record x { fore = record x.fore { dir = x1.fore.dir } } → dir_kind x1.fore.dir ≡ dir_kind x.fore.dir
      → ((d : Direction) (deed : Deed) (given : ℕ) (pieces : List Piece) → DirStands paid x.fore.dir d (Works t deed given) pieces → next_by t (dir_kind x.fore.dir) d deed given ≡ Gives charge
      → IsStep paid (DirStands paid x1.fore.dir) t (dir_kind x.fore.dir) d deed (suc given) pieces step)
      → ((looks : List LookEntry) (frees : List Free) → IsMidway paid t x1 k Fore
      → IsStep paid (DirStands paid x1.fore.dir) t (kind_of t k.convo) k.convo.directions.fore (Falls_due moment.at looks) (length frees) [] step
      → length looks ≤ length (asks_due t (kind_of t k.convo) k.convo.directions.fore moment.at) → length frees ≤ length (spares_due t (kind_of t k.convo) k.convo.directions.fore moment.at)
      → IsWantOf paid (Stands paid y t) t k (Time moment.at looks frees) 0 out)
      → IsWantOf paid (Stands paid y t) t k (with_free free act) emitted out
  freed_fore x x1 y k act emitted free charge moment step out st stage wants same kind_is steps goes =
      let f : FoundTime paid t x k act emitted = found_time x k act emitted st (rw stage tt) in
      let kd : Kind = kind_of t k.convo in
      let df : Direction = k.convo.directions.fore in
      let l = times_fore x k f.m f.looks (length f.frees) moment f.timing stage in
      let act_is : act ≡ Time moment.at f.looks f.frees = f.act_is ∙ ap (λ m. Time m f.looks f.frees) l.0 in
      let here = subst (λ m. DirStands paid x.fore.dir df (Works t (Falls_due m f.looks) (length f.frees)) []) l.0 l.2 in
      let asked = subst (λ m. length f.looks ≤ length (asks_due t kd df m)) l.0 l.3 in
      let u = subst (λ m. IsUnfinished (next_by t kd df (Falls_due m f.looks) (length f.frees))) l.0 l.5 in
      let gives = sym (fore_next t k moment.at f.looks f.frees u) ∙ want_release t k.convo (Time moment.at f.looks f.frees) emitted charge (ap (λ act. want t k.convo act emitted) (sym act_is) ∙ wants) in
      let in_them = gives_within_due t kd df moment.at f.looks (length f.frees) charge gives in
      let h = steps df (Falls_due moment.at f.looks) (length f.frees) [] here (subst (λ kd. next_by t kd df (Falls_due moment.at f.looks) (length f.frees) ≡ Gives charge) (sym l.1.kinds.fore_is) gives) in
      let h2 = subst (λ kd. IsStep paid (DirStands paid x1.fore.dir) t kd df (Falls_due moment.at f.looks) (suc (length f.frees)) [] step) l.1.kinds.fore_is h in
      let n = one_more f.frees free in
      let h3 = subst (λ n. IsStep paid (DirStands paid x1.fore.dir) t kd df (Falls_due moment.at f.looks) n [] step) (sym n) h2 in
      let mid = subst (λ x. IsMidway paid t x k Fore) (sym same) (midway_on paid t k Fore x x1.fore.dir l.1 kind_is) in
      subst (λ e. IsWantOf paid (Stands paid y t) t k (with_free free act) e out) (sym f.first)
      (subst (λ act. IsWantOf paid (Stands paid y t) t k (with_free free act) 0 out) (sym act_is)
      (goes f.looks (f.frees ++ free ∷ []) mid h3 asked (omega arith)))

  pub told_back : (x x1 y : Convo C) (k : Talk) (act : Act) (emitted : ℕ) (look : LookEntry) (request : Request) (mark : ℕ) (moment : Moment) (granted : Option C) (step : Step C) (out : Want C)
      → Stands paid x t k (Under act emitted) → x.stage ≡ at.Time moment Back → want t k.convo act emitted ≡ Reserve request mark → IsLookOf paid granted look
      → x1 ≡ record x { back = record x.back { dir = x1.back.dir } } → dir_kind x1.back.dir ≡ dir_kind x.back.dir
      → ((d : Direction) (deed : Deed) (given : ℕ) (pieces : List Piece) → DirStands paid x.back.dir d (Works t deed given) pieces → next_by t (dir_kind x.back.dir) d deed given ≡ Asks request → IsLookOf paid granted look
      → IsStep paid (DirStands paid x1.back.dir) t (dir_kind x.back.dir) d (with_one_look look deed) given pieces step)
      → ((first more : List LookEntry) (frees : List Free) (back : ℕ) → IsTimeDone paid t x1 k moment.at first
      → IsStep paid (DirStands paid x1.back.dir) t (kind_of t k.convo) k.convo.directions.back (Falls_due moment.at more) back [] step
      → length frees ≡ length (spares_due t (kind_of t k.convo) k.convo.directions.fore moment.at) + back
      → IsWantOf paid (Stands paid y t) t k (Time moment.at (first ++ more) frees) 0 out)
      → IsWantOf paid (Stands paid y t) t k (with_look look act) emitted out
  told_back x x1 y k act emitted look request mark moment granted step out st stage wants looked same kind_is steps goes =
      let f : FoundTime paid t x k act emitted = found_time x k act emitted st (rw stage tt) in
      let kd : Kind = kind_of t k.convo in
      let db : Direction = k.convo.directions.back in
      let l = times_back x k f.m f.looks (length f.frees) moment f.timing stage in
      let first : List LookEntry = l.1.0 in
      let more : List LookEntry = l.1.1 in
      let back : ℕ = l.1.2 in
      let act_is : act ≡ Time moment.at (first ++ more) f.frees = f.act_is ∙ ap (λ m. Time m f.looks f.frees) l.0 ∙ ap (λ l. Time moment.at l f.frees) l.1.3 in
      let n = subst (λ m. length f.frees ≡ length (spares_due t kd k.convo.directions.fore m) + l.1.2) l.0 l.1.4 in
      let d = subst (λ m. IsTimeDone paid t x k m l.1.0) l.0 l.1.5 in
      let here = subst (λ m. DirStands paid x.back.dir db (Works t (Falls_due m l.1.1) l.1.2) []) l.0 l.1.6 in
      let asks = sym (back_move t k.convo moment.at first more f.frees back d.asked n)
      ∙ want_reserve t k.convo (Time moment.at (first ++ more) f.frees) emitted request mark (ap (λ act. want t k.convo act emitted) (sym act_is) ∙ wants) in
      let h = steps db (Falls_due moment.at more) back [] here (subst (λ kd. next_by t kd db (Falls_due moment.at more) back ≡ Asks request) (sym d.kinds.back_is) asks) looked in
      let h2 = subst (λ kd. IsStep paid (DirStands paid x1.back.dir) t kd db (Falls_due moment.at (more ++ look ∷ [])) back [] step) d.kinds.back_is h in
      let d1 = subst (λ x. IsTimeDone paid t x k moment.at first) (sym same) (done_on paid t x x1.back.dir k moment.at first kind_is d) in
      subst (λ e. IsWantOf paid (Stands paid y t) t k (with_look look act) e out) (sym f.first)
      (subst (λ act. IsWantOf paid (Stands paid y t) t k (with_look look act) 0 out) (sym act_is)
      (subst (λ looks. IsWantOf paid (Stands paid y t) t k (Time moment.at looks f.frees) 0 out) (sym (append_assoc first more (look ∷ [])))
      (goes first (more ++ look ∷ []) f.frees back d1 h2 n)))

  pub freed_back : (x x1 y : Convo C) (k : Talk) (act : Act) (emitted : ℕ) (free : Free) (charge : Charge) (moment : Moment) (step : Step C) (out : Want C)
      → Stands paid x t k (Under act emitted) → x.stage ≡ at.Time moment Back → want t k.convo act emitted ≡ Release charge
      → x1 ≡ record x { back = record x.back { dir = x1.back.dir } } → dir_kind x1.back.dir ≡ dir_kind x.back.dir
      → ((d : Direction) (deed : Deed) (given : ℕ) (pieces : List Piece) → DirStands paid x.back.dir d (Works t deed given) pieces → next_by t (dir_kind x.back.dir) d deed given ≡ Gives charge
      → IsStep paid (DirStands paid x1.back.dir) t (dir_kind x.back.dir) d deed (suc given) pieces step)
      → ((first more : List LookEntry) (frees : List Free) (back : ℕ) → IsTimeDone paid t x1 k moment.at first
      → IsStep paid (DirStands paid x1.back.dir) t (kind_of t k.convo) k.convo.directions.back (Falls_due moment.at more) back [] step
      → length frees ≡ length (spares_due t (kind_of t k.convo) k.convo.directions.fore moment.at) + back
      → IsWantOf paid (Stands paid y t) t k (Time moment.at (first ++ more) frees) 0 out)
      → IsWantOf paid (Stands paid y t) t k (with_free free act) emitted out
  freed_back x x1 y k act emitted free charge moment step out st stage wants same kind_is steps goes =
      let f : FoundTime paid t x k act emitted = found_time x k act emitted st (rw stage tt) in
      let kd : Kind = kind_of t k.convo in
      let db : Direction = k.convo.directions.back in
      let l = times_back x k f.m f.looks (length f.frees) moment f.timing stage in
      let first : List LookEntry = l.1.0 in
      let more : List LookEntry = l.1.1 in
      let back : ℕ = l.1.2 in
      let act_is : act ≡ Time moment.at (first ++ more) f.frees = f.act_is ∙ ap (λ m. Time m f.looks f.frees) l.0 ∙ ap (λ l. Time moment.at l f.frees) l.1.3 in
      let n = subst (λ m. length f.frees ≡ length (spares_due t kd k.convo.directions.fore m) + l.1.2) l.0 l.1.4 in
      let d = subst (λ m. IsTimeDone paid t x k m l.1.0) l.0 l.1.5 in
      let here = subst (λ m. DirStands paid x.back.dir db (Works t (Falls_due m l.1.1) l.1.2) []) l.0 l.1.6 in
      let gives = sym (back_move t k.convo moment.at first more f.frees back d.asked n)
      ∙ want_release t k.convo (Time moment.at (first ++ more) f.frees) emitted charge (ap (λ act. want t k.convo act emitted) (sym act_is) ∙ wants) in
      let h = steps db (Falls_due moment.at more) back [] here (subst (λ kd. next_by t kd db (Falls_due moment.at more) back ≡ Gives charge) (sym d.kinds.back_is) gives) in
      let h2 = subst (λ kd. IsStep paid (DirStands paid x1.back.dir) t kd db (Falls_due moment.at more) (suc back) [] step) d.kinds.back_is h in
      let d1 = subst (λ x. IsTimeDone paid t x k moment.at first) (sym same) (done_on paid t x x1.back.dir k moment.at first kind_is d) in
      let o = one_more f.frees free in
      subst (λ e. IsWantOf paid (Stands paid y t) t k (with_free free act) e out) (sym f.first)
      (subst (λ act. IsWantOf paid (Stands paid y t) t k (with_free free act) 0 out) (sym act_is)
      (goes first more (f.frees ++ free ∷ []) (suc back) d1 h2 (omega arith)))
