-- What a core is still to load stays in order through its steps.
use Rattle.std.proofs.Common.{◌≡◌, ℕ, Bool, true, false, cond, List, [], ◌∷◌, ◌++◌, Option, Some, None, refl, ap, sym, ◌∙◌, subst, append_assoc, drop, flat_map}
use Rattle.streamdefs.specs.Packet.{Packet}
use Rattle.streamdefs.specs.Terms.{Terms}
use Rattle.streamdefs.specs.Convo.{Act}
use Rattle.streamdefs.specs.Convo.Act.{Seg, Answer, Time, End}
use Rattle.streamdefs.specs.Want.Want.{Reserve, Release, Emit, Rest}
use Rattle.streamdefs.specs.Core.{Line, Core, Open, Owed, Due}
use Rattle.coretable.specs.Course.{Course, Under, Job, Choice, Stop, step, core_of, due_line, due_by, first_live, closing_choice, due_first, choice, choice_step, has_room, is_answered, begun, looked, freed, emitted, job_behind}
use Rattle.coretable.specs.Course.Job.{Nothing, Takes, Closes}
use Rattle.coretable.specs.Course.Choice.{Begins, Waits, Closed}
use Rattle.coretable.specs.Course.Step.{Goes, Stops}
use Rattle.coretable.specs.Course.Stop.{Wants, Fills, Rests, Finishes}
use Rattle.mixrun.specs.Moment.{Input, AtCore, Pair}
use Rattle.mixrun.specs.Moment.Input.{Brings, Ends}
use Rattle.mixrun.specs.Moves.{CoreMove, moved, under_way, with_input, Serves}
use Rattle.mixrun.specs.Moves.CoreMove.{Loads, Asks, Frees, Emits, TakesBack}
use Rattle.mixrun.specs.Steps.{MayMove, CoreStep}
use Rattle.mixrun.specs.AtMoment.{packet_in}
use Rattle.mixrun.specs.Books.{AreLoadable}
use Rattle.mixrun.specs.Drill.{HasItsEnd, IsEnding, IsBehind}
use Rattle.mixrun.proofs.SilentSteps.{Going, goes_on, runs}
use Rattle.mixrun.proofs.SilentSteps.Going.{Completing, Beginning}
use Rattle.mixrun.proofs.BookSteps.{rests_at}
use Rattle.mixrun.proofs.CoreSums.{first_of}
use Rattle.mixrun.proofs.CoreQueue.{at_under}

-- An entry that begins while the end is worked off is no packet's

abbrev KeepsClosing : ℕ → Choice → Type 0
KeepsClosing at (Begins line) = job_behind line.act (Closes at) ≡ Closes at
KeepsClosing at Waits = Unit {0}
KeepsClosing at Closed = Unit {0}

due_keeps : (at : ℕ) (d : Due) → job_behind (due_line d).act (Closes at) ≡ Closes at
due_keeps at d = by d.idle
  where
    by : (b : Bool) → job_behind (due_line (record { at = d.at; conv = d.conv; idle = b })).act (Closes at) ≡ Closes at
    by true = refl
    by false = refl

first_keeps : (at : ℕ) (due : Option Due) (next : Choice) → KeepsClosing at next → KeepsClosing at (due_first due next)
first_keeps at None next h = h
first_keeps at (Some d) next h = due_keeps at d

end_keeps : (at : ℕ) (o : Option Open) → KeepsClosing at (closing_choice at o)
end_keeps at None = tt
end_keeps at (Some o) = refl

choice_keeps : (terms : Terms) (core : Core) (at : ℕ) → KeepsClosing at (choice terms core (Closes at))
choice_keeps terms core at = by core.owed refl
  where
    by : (o : Option Owed) → core.owed ≡ o → KeepsClosing at (choice terms core (Closes at))
    by None e = rw (choice, e) (first_keeps at (due_by terms core at) (closing_choice at (first_live core.convos)) (end_keeps at (first_live core.convos)))
    by (Some owed) e = rw (choice, e) refl

closing_stays : (core : Core) (m next : Course) (at : ℕ) (x : Choice) → m.job ≡ Closes at → KeepsClosing at x → choice_step core m x ≡ Goes next → next.job ≡ Closes at
closing_stays core m next at (Begins line) job keeps h = by (has_room core) h
  where
    by : (b : Bool) → cond b (Goes (begun m line)) (Stops Fills) ≡ Goes next → next.job ≡ Closes at
    by true g = let same : begun m line ≡ next = cc in ap (λ (c : Course). c.job) (sym same) ∙ ap (job_behind line.act) job ∙ keeps
    by false g = absurd cc
closing_stays core m next at Waits job keeps h = absurd cc
closing_stays core m next at Closed job keeps h = by (is_answered core) h
  where
    by : (b : Bool) → cond b (Stops Finishes) (Stops Fills) ≡ Goes next → next.job ≡ Closes at
    by true g = absurd cc
    by false g = absurd cc

-- What is still to come has its end through what a table does by itself

open_behind : (act : Act) (inputs : List Input) → HasItsEnd inputs → IsEnding (job_behind act Nothing) inputs
open_behind (Seg p now looks frees) inputs h = h
open_behind (Answer event advice frees) inputs h = h
open_behind (Time at looks frees) inputs h = h
open_behind (End at reason looks frees) inputs h = h

taken_behind : (act : Act) (p : Packet) (inputs : List Input) → HasItsEnd inputs → IsEnding (job_behind act (Takes p)) inputs
taken_behind (Seg q now looks frees) p inputs h = h
taken_behind (Answer event advice frees) p inputs h = h
taken_behind (Time at looks frees) p inputs h = h
taken_behind (End at reason looks frees) p inputs h = h

begins_ending : (terms : Terms) (m next : Course) (line : Line) (inputs : List Input) → m.under ≡ None → step terms m ≡ Goes next → next ≡ begun m line → IsEnding m.job inputs → IsEnding next.job inputs
begins_ending terms m next line inputs none goes same h = by m.job refl h
  where
    job : (j : Job) → m.job ≡ j → next.job ≡ job_behind line.act j
    job j e = ap (λ (c : Course). c.job) same ∙ ap (job_behind line.act) e

    by : (j : Job) → m.job ≡ j → IsEnding j inputs → IsEnding next.job inputs
    by Nothing e g = subst (λ (k : Job). IsEnding k inputs) (sym (job Nothing e)) (open_behind line.act inputs g)
    by (Takes p) e g = subst (λ (k : Job). IsEnding k inputs) (sym (job (Takes p) e)) (taken_behind line.act p inputs g)
    by (Closes at) e g =
        let by_step : choice_step (core_of terms m) m (choice terms (core_of terms m) m.job) ≡ Goes next = rw (step, none) at goes in
        let chosen : choice_step (core_of terms m) m (choice terms (core_of terms m) (Closes at)) ≡ Goes next = ap (λ (k : Job). choice_step (core_of terms m) m (choice terms (core_of terms m) k)) (sym e) ∙ by_step in
        let stays = closing_stays (core_of terms m) m next at (choice terms (core_of terms m) (Closes at)) e (choice_keeps terms (core_of terms m) at) chosen in
        subst (λ (k : Job). IsEnding k inputs) (sym stays) g

module _ (terms : Terms) (last : ℕ) (packets : List Packet) where
  silent : (inputs : List Input) (m next : Course) → step terms m ≡ Goes next → IsBehind last packets m inputs → IsBehind last packets next inputs
  silent inputs m next goes h = by (goes_on terms m next goes)
    where
      by : Going terms m next → IsBehind last packets next inputs
      by (Completing u under w same) = subst (λ (c : Course). IsBehind last packets c inputs) (sym same) (record { loadable = h.loadable; ends = h.ends; packets_are = h.packets_are })
      by (Beginning line none fresh room same) = record {
        loadable = subst (λ (c : Course). AreLoadable last c.number c.clock inputs) (sym same) h.loadable;
        ends = begins_ending terms m next line inputs none goes same h.ends;
        packets_are = ap (λ (c : Course). c.packets ++ flat_map packet_in inputs) same ∙ h.packets_are;
      }

  loads : (input : Input) (rest : List Input) (m : Course) → m.job ≡ Nothing → IsBehind last packets m (input ∷ rest) → IsBehind last packets (with_input m input) rest
  loads (Brings p) rest m nothing h = record {
    loadable = h.loadable.3;
    ends = subst (λ (j : Job). IsEnding j (Brings p ∷ rest)) nothing h.ends;
    packets_are = append_assoc m.packets (p ∷ []) (flat_map packet_in rest) ∙ h.packets_are;
  }
  loads (Ends at) rest m nothing h = record {
    loadable = subst (λ (l : List Input). AreLoadable last m.number at l) (sym h.loadable.2) tt;
    ends = h.loadable.2;
    packets_are = h.packets_are;
  }

  under_keeps : (change : Course → Under → Course) → ((m : Course) (u : Under) → (change m u).number ≡ m.number) → ((m : Course) (u : Under) → (change m u).clock ≡ m.clock) → ((m : Course) (u : Under) → (change m u).job ≡ m.job)
      → ((m : Course) (u : Under) → (change m u).packets ≡ m.packets) → (m : Course) (inputs : List Input) → IsBehind last packets m inputs → IsBehind last packets (under_way change m) inputs
  under_keeps change number clock job all m inputs h = by m.under refl
    where
      by : (o : Option Under) → m.under ≡ o → IsBehind last packets (under_way change m) inputs
      by None e = subst (λ (c : Course). IsBehind last packets c inputs) (sym (let same : under_way change m ≡ m = rw (under_way, e) refl in same)) h
      by (Some u) e = subst (λ (c : Course). IsBehind last packets c inputs) (sym (at_under change m u e)) (record {
        loadable = subst (λ (x : ℕ × ℕ). AreLoadable last x.0 x.1 inputs) (λ i. (sym (number m u) i, sym (clock m u) i)) h.loadable;
        ends = subst (λ (j : Job). IsEnding j inputs) (sym (job m u)) h.ends;
        packets_are = ap (λ l. l ++ flat_map packet_in inputs) (all m u) ∙ h.packets_are;
      })

  -- with what comes behind the inputs that were offered
  moves : (p : Pair) (a : AtCore) (tail : List Input) (move : CoreMove) → MayMove terms p a move → IsBehind last packets a.course (a.inputs ++ tail) → IsBehind last packets (moved terms move a).course ((moved terms move a).inputs ++ tail)
  moves p a tail (Loads input) (stop, stops, serves) h = by stop stops serves
    where
      by : (stop : Stop) → step terms a.course ≡ Stops stop → Serves terms p a (Loads input) stop → IsBehind last packets (with_input a.course input) (drop 1 a.inputs ++ tail)
      by Rests e s =
          loads input (drop 1 a.inputs ++ tail) a.course (rests_at terms a.course e).1
          (subst (λ (l : List Input). IsBehind last packets a.course (l ++ tail)) (first_of input a.inputs s) h)
      by (Wants (Reserve ask k)) e s = absurd s
      by (Wants (Release charge)) e s = absurd s
      by (Wants (Emit event)) e s = absurd s
      by (Wants Rest) e s = absurd s
      by Fills e s = absurd s
      by Finishes e s = absurd s
  moves p a tail (Asks look) may h = under_keeps (λ m u. looked m u look) (λ m u. refl) (λ m u. refl) (λ m u. refl) (λ m u. refl) a.course (a.inputs ++ tail) h
  moves p a tail (Frees free) may h = under_keeps (λ m u. freed m u free) (λ m u. refl) (λ m u. refl) (λ m u. refl) (λ m u. refl) a.course (a.inputs ++ tail) h
  moves p a tail (Emits given) may h = under_keeps emitted (λ m u. refl) (λ m u. refl) (λ m u. refl) (λ m u. refl) a.course (a.inputs ++ tail) h
  moves p a tail (TakesBack reply) may h = record { loadable = h.loadable; ends = h.ends; packets_are = h.packets_are }

  pub core_behind : (move : CoreMove) (a : AtCore) (p : Pair) (b : AtCore) (q : Pair) (tail : List Input) → CoreStep terms move a p b q → IsBehind last packets a.course (a.inputs ++ tail) → IsBehind last packets b.course (b.inputs ++ tail)
  core_behind move a p b q tail s h =
      let mid : AtCore = moved terms move a in
      let there = moves p a tail move s.may h in
      let end = runs terms (λ (m : Course). IsBehind last packets m (mid.inputs ++ tail)) (λ m next e x. silent (mid.inputs ++ tail) m next e x) s.settles.0 mid.course b.course s.settles.2.0 there in
      subst (λ (l : List Input). IsBehind last packets b.course (l ++ tail)) (sym (ap (λ (x : AtCore). x.inputs) s.settles.3)) end
