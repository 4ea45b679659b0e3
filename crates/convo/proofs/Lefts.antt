-- What is left behind a step of a direction.
use Rattle.std.proofs.Common.{◌≡◌, refl, sym, ◌∙◌, ap, ℕ, ◌+◌, ◌*◌, ◌≤◌, Bool, true, false, not, cond, Option, Some, None, arith}
use Rattle.std.specs.Prelude.{nat_le}
use Rattle.evring.specs.declared.reason.Reason.{Reason}
use Rattle.evring.specs.declared.way.Way.{Way}
use Rattle.evring.specs.declared.way.Way.TheVariants.{Fore, Back}
use Rattle.flowdir.specs.Kept.{Kept as DirKept}
use Rattle.flowdir.specs.declared.counts.Counts.{Counts}
use Rattle.flowdir.specs.declared.step.Step.{Step}
use Rattle.flowdir.specs.declared.step.Step.TheVariants.{Ask, Free, Done}
use Rattle.convo.specs.Directions.{DirAdds, DirFalls, DirLowers, dir_due, due_now, if_done}
use Rattle.convo.specs.Left.{Adds, Gives, Lowers, Pays, due_at, grants_left, price_of, stage_work, work_left}
use Rattle.convo.specs.Standing.{finished_segment, half_of, least_by, with_counts, with_half}
use Rattle.convo.specs.declared.going.Going.{Going}
use Rattle.convo.specs.declared.stage.Stage.{Stage}
use Rattle.convo.specs.declared.stage.Stage.TheVariants as at
use Rattle.convo.specs.declared.talk.Convo.{Convo}
use Rattle.convo.specs.declared.want.Want.{Want}
use Rattle.convo.proofs.DirSteps.{due_count}

pub adds_fore : {C : Type 0} (grants work more : ℕ) (x : Convo C) (dir : DirKept C) → more ≡ 8 * work → DirAdds grants work x.fore.dir dir → Adds grants more x (record x { fore = record x.fore { dir = dir } })
adds_fore grants work more x dir e a =
    let p = a.grants_most in
    let q = a.work_most in
    record { grants_most = omega arith; work_most = omega arith }

pub adds_back : {C : Type 0} (grants work more : ℕ) (x : Convo C) (dir : DirKept C) → more ≡ 8 * work → DirAdds grants work x.back.dir dir → Adds grants more x (record x { back = record x.back { dir = dir } })
adds_back grants work more x dir e a =
    let p = a.grants_most in
    let q = a.work_most in
    record { grants_most = omega arith; work_most = omega arith }

pub lowers_fore : {C : Type 0} (granted : Option C) (x : Convo C) (dir : DirKept C) → DirLowers granted x.fore.dir dir → Lowers granted x (record x { fore = record x.fore { dir = dir } })
lowers_fore granted x dir a =
    let p = a.grants_less in
    let q = a.work_less in
    record { grants_less = omega arith; work_less = omega arith }

pub lowers_back : {C : Type 0} (granted : Option C) (x : Convo C) (dir : DirKept C) → DirLowers granted x.back.dir dir → Lowers granted x (record x { back = record x.back { dir = dir } })
lowers_back granted x dir a =
    let p = a.grants_less in
    let q = a.work_less in
    record { grants_less = omega arith; work_less = omega arith }

opens_most : (b : Bool) → cond b 3 0 ≤ 3
opens_most true = omega arith
opens_most false = omega arith

-- counts are no work
counted_work : {C : Type 0} (way : Way) (counts : Counts) (x : Convo C) → work_left (with_counts way counts x) ≡ work_left x
counted_work Fore counts x = refl
counted_work Back counts x = refl

counted_grants : {C : Type 0} (way : Way) (counts : Counts) (x : Convo C) → grants_left (with_counts way counts x) ≡ grants_left x
counted_grants Fore counts x = refl
counted_grants Back counts x = refl

counted_stage : {C : Type 0} (way : Way) (counts : Counts) (x : Convo C) → (with_counts way counts x).stage ≡ x.stage
counted_stage Fore counts x = refl
counted_stage Back counts x = refl

finished_left : {C : Type 0} (owed : Option (Reason × ℕ)) (now : ℕ) (x : Convo C) → stage_work x.stage ≡ 4 → Adds 0 0 x (finished_segment owed now x)
finished_left owed now x e =
    let n = opens_most (not x.begun) in
    record { grants_most = omega arith; work_most = omega arith }

pub segment_left : {C : Type 0} (way : Way) (now : ℕ) (reset : Bool) (counts : Counts) (x x1 x2 y : Convo C) (out : Want C) → x.stage ≡ at.Segment way now reset → x1 ≡ with_counts way counts x → x2 ≡ finished_segment x2.owed now x1
    → Pays {C = C} None 0 0 out x2 y → Pays {C = C} None 0 1 out x y
segment_left way now reset counts x x1 x2 y out st e1 e2 l =
    let a = counted_work way counts x in
    let b = counted_grants way counts x in
    let s : stage_work x1.stage ≡ 4 = ap (λ x. stage_work x.stage) e1 ∙ ap stage_work (counted_stage way counts x) ∙ ap stage_work st in
    let f = finished_left x2.owed now x1 s in
    let w1 = ap work_left e1 in
    let g1 = ap grants_left e1 in
    let w2 = ap work_left e2 in
    let g2 = ap grants_left e2 in
    let p = f.grants_most in
    let q = f.work_most in
    let r = l.grants_most in
    let t = l.work_most in
    record { grants_most = omega arith; work_most = omega arith }

-- what is due at a moment is due in one direction
least_now : (moment : ℕ) (a b : Option ℕ) → least_by a b ≡ Some moment → 1 ≤ due_now moment a + due_now moment b
least_now moment None None e = absurd (cc)
least_now moment None (Some m) e = let n = due_count moment (Some m) e in omega arith
least_now moment (Some m) None e = let n = due_count moment (Some m) e in omega arith
least_now moment (Some m) (Some n) e = by (nat_le m n) refl
  where
    by : (b : Bool) → nat_le m n ≡ b → 1 ≤ due_now moment (Some m) + due_now moment (Some n)
    by true h = let d = due_count moment (Some m) (ap (λ b. Some (cond b m n)) (sym h) ∙ e) in omega arith
    by false h = let d = due_count moment (Some n) (ap (λ b. Some (cond b m n)) (sym h) ∙ e) in omega arith

done_count : {C : Type 0} (step : Step C) (f b : ℕ) → 1 ≤ f + if_done step 1 → 1 ≤ f + b → 1 ≤ f + if_done step b
done_count (Ask bytes) f b h k = h
done_count (Free charge) f b h k = h
done_count (Done counts) f b h k = k

-- what is paid at a moment, and how much more is paid where it is due
pub record PaysAt {C : Type 0} (hole flush moment : ℕ) (want : Want C) (x y : Convo C) : Type 0 where
  pub left : Pays {C = C} None 0 2 want x y
  pub due : due_at hole flush x ≡ Some moment → Pays {C = C} None 0 0 want x y
  pub less : due_at hole flush x ≡ Some moment → Lowers {C = C} None x y

pub time_left : {C : Type 0} (hole flush moment : ℕ) (stage : Stage) (x x1 y : Convo C) (step : Step C) (out : Want C) → stage_work stage ≡ 1
    → x1 ≡ record x { fore = record x.fore { dir = x1.fore.dir }; stage = stage } → DirFalls hole flush moment x.fore.dir x1.fore.dir step
    → grants_left y ≤ grants_left x1 → work_left y + price_of out + 8 * if_done step (due_now moment (dir_due hole flush x1.back.dir)) ≤ work_left x1 + 1
    → PaysAt hole flush moment out x y
time_left {C = C} hole flush moment stage x x1 y step out st e f g w =
    let a = ap work_left e in
    let b = ap grants_left e in
    let p = f.grants_most in
    let q = f.work_most in
    let same : if_done step (due_now moment (dir_due hole flush x1.back.dir)) ≡ if_done step (due_now moment (dir_due hole flush x.back.dir)) =
    ap (λ x. if_done step (due_now moment (dir_due hole flush x.back.dir))) e in
    let count : due_at hole flush x ≡ Some moment → 1 ≤ due_now moment (dir_due hole flush x.fore.dir) + if_done step (due_now moment (dir_due hole flush x.back.dir)) = λ due.
    done_count step (due_now moment (dir_due hole flush x.fore.dir)) (due_now moment (dir_due hole flush x.back.dir)) f.busy (least_now moment (dir_due hole flush x.fore.dir) (dir_due hole flush x.back.dir) due) in
    record {
      left = record { grants_most = omega arith; work_most = omega arith };
      due = λ is. let n = count is in record { grants_most = omega arith; work_most = omega arith };
      less = λ is. let n = count is in record { grants_less = omega arith; work_less = omega arith };
    }

-- what is kept in a direction is left to go back
pub leave_left : {C : Type 0} (way : Way) (going : Going C) (stage : Stage) (x y : Convo C) → y ≡ with_half way (half_of way y) x → Gives 0 (half_of way x) (half_of way y)
    → (grants_left (record y { going = going; stage = stage }) ≤ grants_left x) × (work_left (record y { going = going; stage = stage }) + stage_work x.stage ≤ work_left x + stage_work stage)
leave_left Fore going stage x y s g =
    let a = ap grants_left s in
    let b = ap (λ y. work_left (record y { going = going; stage = stage })) s in
    let p = g.grants_most in
    let q = g.work_most in
    (omega arith, omega arith)
leave_left Back going stage x y s g =
    let a = ap grants_left s in
    let b = ap (λ y. work_left (record y { going = going; stage = stage })) s in
    let p = g.grants_most in
    let q = g.work_most in
    (omega arith, omega arith)
