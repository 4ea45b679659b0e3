-- One entry more at the end of a history or a book.
use Rattle.std.specs.Prelude.{◌≡◌, refl, List, [], ◌∷◌, ◌++◌}
use Rattle.std.proofs.Common.{sym, ◌∙◌, ap, rules}
use mathlib.Core.List.{append_assoc}
use Rattle.streamdefs.specs.Terms.{Terms}
use Rattle.streamdefs.specs.Convo.{Act, Convo, after, convo_after, along}
use Rattle.streamdefs.specs.Core.{Line, Core, core_after, core_at, Along}

pub convo_after_push : (terms : Terms) (c : Convo) (acts : List Act) (act : Act) → convo_after terms c (acts ++ act ∷ []) ≡ after terms (convo_after terms c acts) act
convo_after_push terms c [] act = refl
convo_after_push terms c (a ∷ acts) act = convo_after_push terms (after terms c a) acts act

pub along_push : {X : Type 0} (terms : Terms) (f : Convo → Act → List X) (c : Convo) (acts : List Act) (act : Act)
    → along terms f c (acts ++ act ∷ []) ≡ along terms f c acts ++ f (convo_after terms c acts) act
along_push terms f c [] act = search rules
along_push terms f c (a ∷ acts) act = ap (λ xs. f c a ++ xs) (along_push terms f (after terms c a) acts act) ∙ sym (append_assoc (f c a) _ _)

pub core_at_push : (terms : Terms) (core : Core) (lines : List Line) (line : Line) → core_at terms core (lines ++ line ∷ []) ≡ core_after terms (core_at terms core lines) line
core_at_push terms core [] line = refl
core_at_push terms core (l ∷ lines) line = core_at_push terms (core_after terms core l) lines line

pub Along_push : (terms : Terms) (Law : Core → Line → Type 0) (core : Core) (lines : List Line) (line : Line)
    → Along terms Law core lines → Law (core_at terms core lines) line → Along terms Law core (lines ++ line ∷ [])
Along_push terms Law core [] line h here = (here, tt)
Along_push terms Law core (l ∷ lines) line h here = (h.0, Along_push terms Law (core_after terms core l) lines line h.1 here)

pub Along_front : (terms : Terms) (Law : Core → Line → Type 0) (core : Core) (lines more : List Line) → Along terms Law core (lines ++ more) → Along terms Law core lines
Along_front terms Law core [] more h = tt
Along_front terms Law core (l ∷ lines) more h = (h.0, Along_front terms Law (core_after terms core l) lines more h.1)
