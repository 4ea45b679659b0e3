-- How what a history gives of a conversation goes on, line by line of the book.
use Rattle.std.specs.Prelude.{◌≡◌, refl, Bool, true, false, cond, ℕ, ◌==◌, List, [], ◌∷◌, ◌++◌, filter, map, Option, None, Some}
use Rattle.std.proofs.Common.{sym, ◌∙◌, ap, subst}
use Rattle.streamdefs.specs.Terms.{Terms}
use Rattle.streamdefs.specs.Convo.{Act, Convo, new_convo, after, convo_after}
use Rattle.streamdefs.specs.Convo.Act.{Seg, Answer, Time, End}
use Rattle.streamdefs.specs.Core.{Line, Core, history, idle_core, find_convo, found_by, core_after, core_at}
use Rattle.streamdefs.proofs.Histories.{find_put, found_is, history_of}
use Rattle.convo.specs.Talk.{Talk, new_talk, talk_after, talk_at}
use Rattle.coretable.specs.Standing.{beside, nothing_beside, opened_by, talk_by, talk_of, beside_of}
use Rattle.coretable.proofs.Places.{from_test, same_number}

-- A conversation that the core hasn't is a new one.
new_by : (core : Core) (conv : ℕ) (act : Act) → find_convo conv core.convos ≡ None → found_by core (record { conv = conv; act = act }) ≡ new_convo (opened_by act)
new_by core conv (Seg p now looks frees) e = rw (found_by, e) refl
new_by core conv (Answer event advice frees) e = rw (found_by, e) refl
new_by core conv (Time at looks frees) e = rw (found_by, e) refl
new_by core conv (End at reason looks frees) e = rw (found_by, e) refl

-- the conversation that a history gives, where it has an entry
abbrev pub convo_by : Terms → List Act → Option Convo
convo_by t [] = None
convo_by t (act ∷ acts) = Some (convo_after t (new_convo (opened_by act)) (act ∷ acts))

convo_one : (t : Terms) (core : Core) (line : Line) (lines : List Line) (id : ℕ) (b : Bool) → (line.conv == id) ≡ b → find_convo id core.convos ≡ None
    → (find_convo id (core_after t core line).convos ≡ None → find_convo id (core_at t (core_after t core line) lines).convos ≡ convo_by t (history id lines))
    → find_convo id (core_at t (core_after t core line) lines).convos ≡ convo_by t (map (λ l. l.act) (cond b (line ∷ filter (λ l. l.conv == id) lines) (filter (λ l. l.conv == id) lines)))
convo_one t core line lines id true e none rest =
    history_of t (core_after t core line) lines id (after t (new_convo (opened_by line.act)) line.act)
    (find_put id line.conv (after t (found_by core line) line.act) core.convos ∙ ap (λ b. cond b (Some (after t (found_by core line) line.act)) (find_convo id core.convos)) e
    ∙ ap (λ c. Some (after t c line.act)) (new_by core line.conv line.act (subst (λ k. find_convo k core.convos ≡ None) (sym (from_test line.conv id e)) none)))
convo_one t core line lines id false e none rest =
    rest (find_put id line.conv (after t (found_by core line) line.act) core.convos ∙ ap (λ b. cond b (Some (after t (found_by core line) line.act)) (find_convo id core.convos)) e ∙ none)

pub convo_is : (t : Terms) (core : Core) (lines : List Line) (id : ℕ) → find_convo id core.convos ≡ None → find_convo id (core_at t core lines).convos ≡ convo_by t (history id lines)
convo_is t core [] id none = none
convo_is t core (line ∷ lines) id none = convo_one t core line lines id (line.conv == id) refl none (λ n. convo_is t (core_after t core line) lines id n)

-- What a history gives is the definition's conversation behind it.
convo_at : (t : Terms) (k : Talk) (acts : List Act) → (talk_at t k acts).convo ≡ convo_after t k.convo acts
convo_at t k [] = refl
convo_at t k (act ∷ acts) = convo_at t (talk_after t k act) acts

pub some_same : {x y : Convo} → Some x ≡ Some y → x ≡ y
some_same e = cc

given_by : (t : Terms) (acts : List Act) (c : Convo) → convo_by t acts ≡ Some c → (talk_by t acts).convo ≡ c
given_by t [] c e = absurd cc
given_by t (act ∷ acts) c e = convo_at t (new_talk (opened_by act)) (act ∷ acts) ∙ some_same e

-- so it is the core's
pub convo_told : (t : Terms) (lines : List Line) (id : ℕ) (c : Convo) → find_convo id (core_at t idle_core lines).convos ≡ Some c → (talk_of t lines id).convo ≡ c
convo_told t lines id c e = given_by t (history id lines) c (sym (convo_is t idle_core lines id refl) ∙ e)

-- The history of a conversation that the core hasn't is empty.
none_by : (t : Terms) (acts : List Act) → convo_by t acts ≡ None → acts ≡ []
none_by t [] e = refl
none_by t (act ∷ acts) e = absurd cc

pub beside_none : (t : Terms) (lines : List Line) (id : ℕ) → find_convo id (core_at t idle_core lines).convos ≡ None → beside_of t lines id ≡ nothing_beside
beside_none t lines id e = ap (λ acts. record { owed = (talk_by t acts).owed; sums = (talk_by t acts).sums }) (none_by t (history id lines) (sym (convo_is t idle_core lines id refl) ∙ e))

-- One line more.
one_act : (line : Line) (id : ℕ) (b : Bool) → map (λ (l : Line). l.act) (cond b (line ∷ []) []) ≡ cond b (line.act ∷ []) []
one_act line id true = refl
one_act line id false = refl

one_front : (l : Line) (id : ℕ) (rest more : List Line) (acts : List Act) (b : Bool) → map (λ (l : Line). l.act) more ≡ map (λ (l : Line). l.act) rest ++ acts
    → map (λ (l : Line). l.act) (cond b (l ∷ more) more) ≡ map (λ (l : Line). l.act) (cond b (l ∷ rest) rest) ++ acts
one_front l id rest more acts true e = ap (λ more. l.act ∷ more) e
one_front l id rest more acts false e = e

history_push : (id : ℕ) (lines : List Line) (line : Line) → history id (lines ++ line ∷ []) ≡ history id lines ++ cond (line.conv == id) (line.act ∷ []) []
history_push id [] line = one_act line id (line.conv == id)
history_push id (l ∷ lines) line =
    one_front l id (filter (λ l. l.conv == id) lines) (filter (λ l. l.conv == id) (lines ++ line ∷ [])) (cond (line.conv == id) (line.act ∷ []) []) (l.conv == id) (history_push id lines line)

append_none : {A : Type 0} (xs : List A) → xs ++ [] ≡ xs
append_none [] = refl
append_none (x ∷ xs) = ap (λ ys. x ∷ ys) (append_none xs)

-- of another conversation
pub told_other : (t : Terms) (lines : List Line) (line : Line) (id : ℕ) → (line.conv == id) ≡ false → beside_of t (lines ++ line ∷ []) id ≡ beside_of t lines id
told_other t lines line id e =
    ap (λ acts. record { owed = (talk_by t acts).owed; sums = (talk_by t acts).sums })
    (history_push id lines line ∙ ap (λ b. history id lines ++ cond b (line.act ∷ []) []) e ∙ append_none (history id lines))

-- of this one
talk_push : (t : Terms) (k : Talk) (acts : List Act) (act : Act) → talk_at t k (acts ++ act ∷ []) ≡ talk_after t (talk_at t k acts) act
talk_push t k [] act = refl
talk_push t k (a ∷ acts) act = talk_push t (talk_after t k a) acts act

abbrev start_by : Terms → List Act → Act → Talk
start_by t [] act = new_talk (opened_by act)
start_by t (a ∷ acts) act = talk_by t (a ∷ acts)

by_push : (t : Terms) (acts : List Act) (act : Act) → talk_by t (acts ++ act ∷ []) ≡ talk_after t (start_by t acts act) act
by_push t [] act = refl
by_push t (a ∷ acts) act = talk_push t (new_talk (opened_by a)) (a ∷ acts) act

-- what stands before a line
start_one : (t : Terms) (core : Core) (line : Line) (acts : List Act) → find_convo line.conv core.convos ≡ convo_by t acts
    → start_by t acts line.act ≡ beside (found_by core line) (record { owed = (talk_by t acts).owed; sums = (talk_by t acts).sums })
start_one t core line [] e = ap (λ c. beside c nothing_beside) (sym (new_by core line.conv line.act e))
start_one t core line (a ∷ acts) e =
    ap (λ c. beside c (record { owed = (talk_by t (a ∷ acts)).owed; sums = (talk_by t (a ∷ acts)).sums }))
    (convo_at t (new_talk (opened_by a)) (a ∷ acts) ∙ sym (found_is core line (convo_after t (new_convo (opened_by a)) (a ∷ acts)) e))

pub told_on : (t : Terms) (lines : List Line) (line : Line)
    → beside (after t (found_by (core_at t idle_core lines) line) line.act) (beside_of t (lines ++ line ∷ []) line.conv) ≡ talk_after t (beside (found_by (core_at t idle_core lines) line) (beside_of t lines line.conv)) line.act
told_on t lines line = ap (λ (k : Talk). beside (after t (found_by (core_at t idle_core lines) line) line.act) (record { owed = k.owed; sums = k.sums })) behind
  where
    behind : talk_of t (lines ++ line ∷ []) line.conv ≡ talk_after t (beside (found_by (core_at t idle_core lines) line) (beside_of t lines line.conv)) line.act
    behind = ap (talk_by t) (history_push line.conv lines line ∙ ap (λ b. history line.conv lines ++ cond b (line.act ∷ []) []) (same_number line.conv)) ∙ by_push t (history line.conv lines) line.act
        ∙ ap (λ k. talk_after t k line.act) (start_one t (core_at t idle_core lines) line (history line.conv lines) (convo_is t idle_core lines line.conv refl))
