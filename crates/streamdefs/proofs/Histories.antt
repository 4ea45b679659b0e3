-- What a book makes of a conversation is what the conversation's history makes of it.
use Rattle.std.specs.Prelude.{◌≡◌, refl, ℕ, ◌==◌, Bool, true, false, cond, List, [], ◌∷◌, Some, filter, map}
use Rattle.std.proofs.Common.{sym, ◌∙◌, ap, subst, arith}
use Rattle.streamdefs.specs.Terms.{Terms}
use Rattle.streamdefs.specs.Convo.{Convo, after, convo_after}
use Rattle.streamdefs.specs.Core.{Line, Core, Open, history, find_convo, put_convo, found_by, core_after, core_at}

found_put : (id k : ℕ) (c : Convo) (o : Open) (os : List Open) (b : Bool) → (o.id == k) ≡ b
    → find_convo id (put_convo k c os) ≡ cond (k == id) (Some c) (find_convo id os)
    → find_convo id (cond b (record { id = k; convo = c } ∷ os) (o ∷ put_convo k c os)) ≡ cond (k == id) (Some c) (find_convo id (o ∷ os))
found_put id k c o os true e h = grind arith
found_put id k c o os false e h = grind arith

pub find_put : (id k : ℕ) (c : Convo) (os : List Open) → find_convo id (put_convo k c os) ≡ cond (k == id) (Some c) (find_convo id os)
find_put id k c [] = refl
find_put id k c (o ∷ os) = found_put id k c o os (o.id == k) refl (find_put id k c os)

pub found_is : (core : Core) (line : Line) (c : Convo) → find_convo line.conv core.convos ≡ Some c → found_by core line ≡ c
found_is core line c e = rw (found_by, e) refl

-- what the conversation is after one entry of the book
after_one : (terms : Terms) (core : Core) (line : Line) (id : ℕ) (c : Convo) → find_convo id core.convos ≡ Some c
    → find_convo id (core_after terms core line).convos ≡ cond (line.conv == id) (Some (after terms (found_by core line) line.act)) (Some c)
after_one terms core line id c known = find_put id line.conv _ core.convos ∙ ap (cond (line.conv == id) _) known

one_more : (terms : Terms) (core : Core) (line : Line) (lines : List Line) (id : ℕ) (c : Convo) (b : Bool) → (line.conv == id) ≡ b → find_convo id core.convos ≡ Some c
    → ((d : Convo) → find_convo id (core_after terms core line).convos ≡ Some d
    → find_convo id (core_at terms (core_after terms core line) lines).convos ≡ Some (convo_after terms d (history id lines)))
    → find_convo id (core_at terms (core_after terms core line) lines).convos ≡ Some (convo_after terms c (map (λ l. l.act) (cond b (line ∷ filter (λ l. l.conv == id) lines) (filter (λ l. l.conv == id) lines))))
one_more terms core line lines id c true e known rest =
    rest (after terms c line.act) (after_one terms core line id c known ∙ ap (λ b. cond b (Some (after terms (found_by core line) line.act)) (Some c)) e
    ∙ ap (λ x. Some (after terms x line.act)) (found_is core line c (subst (λ k. find_convo k core.convos ≡ Some c) (sym same) known)))
  where
    same : line.conv ≡ id
    same = grind arith
one_more terms core line lines id c false e known rest = rest c (after_one terms core line id c known ∙ ap (λ b. cond b (Some (after terms (found_by core line) line.act)) (Some c)) e)

pub history_of : (terms : Terms) (core : Core) (lines : List Line) (id : ℕ) (c : Convo) → find_convo id core.convos ≡ Some c
    → find_convo id (core_at terms core lines).convos ≡ Some (convo_after terms c (history id lines))
history_of terms core [] id c known = known
history_of terms core (line ∷ lines) id c known = one_more terms core line lines id c (line.conv == id) refl known (λ d found. history_of terms (core_after terms core line) lines id d found)
