use Rattle.std.proofs.Common.{◌≡◌, ℕ, List, [], ◌∷◌, ap, sym, ◌∙◌, subst, ◌⊎◌, inl, inr, Bool, true, false, cond}
use Rattle.std.specs.Prelude.{Option, Some, None, IfSome, Result, Ok, Err}
use Rattle.streamdefs.specs.Terms.{Terms}
use Rattle.scap_world.specs.Files.{File, file_of, told_file, told_put}
use Rattle.histbook.specs.Moves.{IsBudgetHistory}
use Rattle.labtop.proofs.HistoryLemmas.{history_of}
use Rattle.labtop.specs.declared.outcome.Outcome.{Outcome}
use Rattle.scapconf.specs.declared.status.Status.{Status}
use Rattle.scapconf.specs.declared.status.Status.TheVariants.{Done, Memory, Usage, Settings as Faulty, ReadFault, WriteFault, NotPcap, BadRecord, CutShort, TooLong, Unbuilt}
use Rattle.labtop.specs.Kinds as kind
use Rattle.labtop.specs.Kinds.{MayBe}
use Rattle.labtop.specs.Names.{delivery_name, report_name}
use Rattle.labtop.specs.Drill.{Verdict, Delivers, Refused, NotBuilt, Missing, asked_of, verdict_of}
use Rattle.labtop.specs.Gives.{Gives}
use Rattle.scapconf.specs.declared.settings.Settings.{Settings}
use Rattle.labtop.specs.Settings.{is_built, terms_of}
use Rattle.labtop.specs.Answers.{Allows, Completes, InTurn, IsDone, IsPart, LeavesParts}

parts_given : (m : Terms) (o : Outcome) (v : Verdict) (out : List ℕ) (old new : Option (List File)) → Gives m (Ok o) v
    → IsPart o.delivery.items (told_file old (delivery_name out)) (told_file new (delivery_name out))
    → IsPart o.report.items (told_file old (report_name out)) (told_file new (report_name out)) → InTurn o.delivery.items out old new → LeavesParts m v out old new
parts_given m o (Delivers p) out old new g d r u = inr (record {
  journal = o.journal;
  run = g.0;
  delivery = subst (λ (t : List ℕ). IsPart t (told_file old (delivery_name out)) (told_file new (delivery_name out))) g.1 d;
  report = subst (λ (t : List ℕ). IsPart t (told_file old (report_name out)) (told_file new (report_name out))) g.2 r;
  turn = subst (λ (t : List ℕ). InTurn t out old new) g.1 u;
})
parts_given m o (Refused fault) out old new g d r u = absurd g
parts_given m o NotBuilt out old new g d r u = absurd g
parts_given m o Missing out old new g d r u = absurd g

done_given : (m : Terms) (o : Outcome) (v : Verdict) (out : List ℕ) (old new : Option (List File)) → Gives m (Ok o) v
    → new ≡ told_put (report_name out) o.report.items (told_put (delivery_name out) o.delivery.items old) → IsDone m v out o.journal old new
done_given m o (Delivers p) out old new g e = (g.0, e ∙ (λ i. told_put (report_name out) (g.2 i) (told_put (delivery_name out) (g.1 i) old)))
done_given m o (Refused fault) out old new g e = absurd g
done_given m o NotBuilt out old new g e = absurd g
done_given m o Missing out old new g e = absurd g

-- the journal of an outcome
history_given : (t : Terms) (o : Outcome) (v : Verdict) → Gives t (Ok o) v → IsBudgetHistory t.marks.limit o.journal
history_given t o (Delivers c) h = history_of t c o.journal h.0
history_given t o (Refused fault) h = absurd h
history_given t o NotBuilt h = absurd h
history_given t o Missing h = absurd h

pub has_history : (p : Settings) (o : Outcome) (front : List ℕ) → Gives (terms_of p) (Ok o) (verdict_of p front) → IsBudgetHistory p.set.marks.limit o.journal
has_history p o front h = history_given (terms_of p) o (verdict_of p front) h

-- a refusal in place of an outcome
refused_by : (t : Terms) (s : Status) (v : Verdict) → Gives t (Err s) v → Allows v s × Completes v s
refused_by t s v h = (h.0, completes v s h.1 h.0)
  where
    completes : (v : Verdict) (s : Status) → MayBe (kind.memory ∷ kind.not_pcap ∷ kind.unbuilt ∷ []) s → Allows v s → Completes v s
    completes (Refused fault) s k a = tt
    completes NotBuilt s k a = tt
    completes Missing s k a = tt
    completes (Delivers c) Memory k a = tt
    completes (Delivers c) (NotPcap fault) k a = absurd a
    completes (Delivers c) Unbuilt k a = absurd a
    completes (Delivers c) Done k a = absurd k
    completes (Delivers c) Usage k a = absurd k
    completes (Delivers c) (Faulty line fault) k a = absurd k
    completes (Delivers c) ReadFault k a = absurd k
    completes (Delivers c) WriteFault k a = absurd k
    completes (Delivers c) (BadRecord at len) k a = absurd k
    completes (Delivers c) (CutShort bytes) k a = absurd k
    completes (Delivers c) TooLong k a = absurd k

-- an outcome that is written, or not
written_by : (t : Terms) (o : Outcome) (s : Status) (v : Verdict) → Gives t (Ok o) v → (s ≡ Done) ⊎ ((s ≡ Memory) ⊎ (s ≡ WriteFault)) → Allows v s
written_by t o s (Delivers c) h (inl e) = subst (Allows (Delivers c)) (sym e) tt
written_by t o s (Delivers c) h (inr (inl e)) = subst (Allows (Delivers c)) (sym e) tt
written_by t o s (Delivers c) h (inr (inr e)) = subst (Allows (Delivers c)) (sym e) tt
written_by t o s (Refused fault) h e = absurd h
written_by t o s NotBuilt h e = absurd h
written_by t o s Missing h e = absurd h

-- What was read of a file, and what it gives: the file asks for what was read.

pub record HasRead (p : Settings) (files : Option (List File)) (name : List ℕ) (r : Result Outcome Status) (front : List ℕ) : Type 0 where
  pub same : IfSome files (λ fs. asked_of p (file_of fs name) ≡ verdict_of p front)
  pub gives : Gives (terms_of p) r (verdict_of p front)

pub has_read : (p : Settings) (files : Option (List File)) (name : List ℕ) (r : Result Outcome Status) (bytes front : List ℕ) → front ≡ bytes
    → IfSome files (λ fs. asked_of p (file_of fs name) ≡ verdict_of p bytes) → Gives (terms_of p) r (verdict_of p front) → HasRead p files name r front
has_read p files name r bytes front read same gives = record {
  same = subst (λ (b : List ℕ). IfSome files (λ fs. asked_of p (file_of fs name) ≡ verdict_of p b)) (sym read) same;
  gives = gives;
}

-- what holds of the verdict on what was read holds of the file's
of_file : (P : Verdict → Type 0) (p : Settings) (files : Option (List File)) (name : List ℕ) (r : Result Outcome Status) (front : List ℕ) → HasRead p files name r front
    → P (verdict_of p front) → IfSome files (λ fs. P (asked_of p (file_of fs name)))
of_file P p None name r front h q = tt
of_file P p (Some fs) name r front h q = subst P (sym h.same) q

pub allowed : (p : Settings) (files : Option (List File)) (name : List ℕ) (s end : Status) (front : List ℕ) → end ≡ s → HasRead p files name (Err s) front
    → IfSome files (λ fs. Allows (asked_of p (file_of fs name)) end)
allowed p files name s end front e h =
    of_file (λ (v : Verdict). Allows v end) p files name (Err s) front h
    (subst (Allows (verdict_of p front)) (sym e) (refused_by (terms_of p) s (verdict_of p front) h.gives).0)

pub complete_refused : (p : Settings) (files : Option (List File)) (name : List ℕ) (s end : Status) (front : List ℕ) → end ≡ s → HasRead p files name (Err s) front
    → IfSome files (λ fs. Completes (asked_of p (file_of fs name)) end)
complete_refused p files name s end front e h =
    of_file (λ (v : Verdict). Completes v end) p files name (Err s) front h
    (subst (Completes (verdict_of p front)) (sym e) (refused_by (terms_of p) s (verdict_of p front) h.gives).1)

pub written : (p : Settings) (files : Option (List File)) (name : List ℕ) (o : Outcome) (s end : Status) (front : List ℕ) → end ≡ s → HasRead p files name (Ok o) front
    → (s ≡ Done) ⊎ ((s ≡ Memory) ⊎ (s ≡ WriteFault)) → IfSome files (λ fs. Allows (asked_of p (file_of fs name)) end)
written p files name o s end front e h w =
    of_file (λ (v : Verdict). Allows v end) p files name (Ok o) front h
    (subst (Allows (verdict_of p front)) (sym e) (written_by (terms_of p) o s (verdict_of p front) h.gives w))

-- the outputs hold parts of the texts that the capture's bytes ask for
pub parts_left : (p : Settings) (files : Option (List File)) (name : List ℕ) (o : Outcome) (front out : List ℕ) (old mid new : Option (List File)) → mid ≡ old → HasRead p files name (Ok o) front
    → IsPart o.delivery.items (told_file mid (delivery_name out)) (told_file new (delivery_name out))
    → IsPart o.report.items (told_file mid (report_name out)) (told_file new (report_name out))
    → InTurn o.delivery.items out mid new
    → IfSome files (λ fs. LeavesParts (terms_of p) (asked_of p (file_of fs name)) out old new)
parts_left p files name o front out old mid new e h d r u =
    of_file (λ (v : Verdict). LeavesParts (terms_of p) v out old new) p files name (Ok o) front h
    (subst (λ (x : Option (List File)). LeavesParts (terms_of p) (verdict_of p front) out x new) e (parts_given (terms_of p) o (verdict_of p front) out mid new h.gives d r u))

-- the whole texts
pub all_done : (p : Settings) (files : Option (List File)) (name : List ℕ) (o : Outcome) (front out : List ℕ) (old mid new : Option (List File)) → mid ≡ old → HasRead p files name (Ok o) front
    → new ≡ told_put (report_name out) o.report.items (told_put (delivery_name out) o.delivery.items mid)
    → IfSome files (λ fs. IsDone (terms_of p) (asked_of p (file_of fs name)) out o.journal old new)
all_done p files name o front out old mid new e h w =
    of_file (λ (v : Verdict). IsDone (terms_of p) v out o.journal old new) p files name (Ok o) front h
    (done_given (terms_of p) o (verdict_of p front) out old new h.gives (w ∙ ap (λ (x : Option (List File)). told_put (report_name out) o.report.items (told_put (delivery_name out) o.delivery.items x)) e))

-- what isn't built of the settings
asked_unbuilt : (p : Settings) (o : Option (List ℕ)) → is_built p ≡ false → asked_of p o ≡ NotBuilt
asked_unbuilt p None h = ap (λ (b : Bool). cond b Missing NotBuilt) h
asked_unbuilt p (Some file) h = ap (λ (b : Bool). cond b (verdict_of p file) NotBuilt) h

pub unbuilt : (P : Verdict → Type 0) (p : Settings) (files : Option (List File)) (name : List ℕ) → is_built p ≡ false → P NotBuilt → IfSome files (λ fs. P (asked_of p (file_of fs name)))
unbuilt P p None name h q = tt
unbuilt P p (Some fs) name h q = subst P (sym (asked_unbuilt p (file_of fs name) h)) q

-- a refusal before anything is written
leaves_same : (t : Terms) (v : Verdict) (out : List ℕ) (old new : Option (List File)) → new ≡ old → LeavesParts t v out old new
leaves_same t (Delivers c) out old new e = inl e
leaves_same t (Refused fault) out old new e = e
leaves_same t NotBuilt out old new e = e
leaves_same t Missing out old new e = e

pub left_same : (p : Settings) (files : Option (List File)) (name out : List ℕ) (old new : Option (List File)) → new ≡ old → IfSome files (λ fs. LeavesParts (terms_of p) (asked_of p (file_of fs name)) out old new)
left_same p None name out old new e = tt
left_same p (Some fs) name out old new e = leaves_same (terms_of p) (asked_of p (file_of fs name)) out old new e

pub built : (b x : Bool) → b ≡ x → b ≡ true → x ≡ true
built b x e h = sym e ∙ h
