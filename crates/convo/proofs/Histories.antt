-- A talk behind a history is the conversation behind it, with the sums of the history.
use Rattle.std.proofs.Common.{◌≡◌, refl, sym, ◌∙◌, ap, ℕ, ◌+◌, Bool, true, false, cond, List, [], ◌∷◌, ◌++◌, map, arith}
use Rattle.std.specs.Prelude.{filter, nat_lt}
use Rattle.std.proofs.lemmas.List.Elements.{filter-append}
use mathlib.Core.List.{append_assoc, append-nil}
use Rattle.evring.specs.declared.way.Way.{Way}
use Rattle.evring.specs.declared.way.Way.TheVariants.{Fore, Back}
use Rattle.streamdefs.specs.Both.{of_way, same_way}
use Rattle.streamdefs.specs.Terms.{Terms}
use Rattle.streamdefs.specs.Packet.{Packet as Accepted}
use Rattle.streamdefs.specs.View.{Gap}
use Rattle.streamdefs.specs.Direction.{Counts as Classes, no_counts}
use Rattle.streamdefs.specs.Convo.{Act, Delivery, after, along, convo_after, counts_in, deliveries_in, new_convo}
use Rattle.streamdefs.specs.Totals.{counts_of, deliveries_of, gaps_before, plus}
use Rattle.convo.specs.Counted.{gap_before}
use Rattle.convo.specs.Talk.{Talk, new_talk, talk_after, talk_at}
use Rattle.convo.proofs.SumSteps.{plus_none, same_counts}

pub convo_behind : (t : Terms) (k : Talk) (acts : List Act) → (talk_at t k acts).convo ≡ convo_after t k.convo acts
convo_behind t k [] = refl
convo_behind t k (act ∷ acts) = convo_behind t (talk_after t k act) acts

add_behind : (a b c : ℕ) → a + b + c ≡ a + (b + c)
add_behind a b c = omega arith

none_add : (n : ℕ) → 0 + n ≡ n
none_add n = omega arith

plus_behind : (a b c : Classes) → plus (plus a b) c ≡ plus a (plus b c)
plus_behind a b c =
    same_counts (plus (plus a b) c) (plus a (plus b c)) (add_behind a.duplicate b.duplicate c.duplicate) (add_behind a.late b.late c.late) (add_behind a.cut b.cut c.cut) (add_behind a.taken b.taken c.taken) (add_behind a.shed b.shed c.shed)

none_plus : (c : Classes) → plus no_counts c ≡ c
none_plus c = same_counts (plus no_counts c) c (none_add c.duplicate) (none_add c.late) (none_add c.cut) (none_add c.taken) (none_add c.shed)

counts_behind : (t : Terms) (k : Talk) (way : Way) (acts : List Act) → (of_way way (talk_at t k acts).sums).counts ≡ plus (of_way way k.sums).counts (counts_of t k.convo way acts)
counts_behind t k Fore [] = sym (plus_none k.sums.fore.counts)
counts_behind t k Back [] = sym (plus_none k.sums.back.counts)
counts_behind t k Fore (act ∷ acts) =
    counts_behind t (talk_after t k act) Fore acts ∙ plus_behind k.sums.fore.counts (counts_in t k.convo Fore act) (counts_of t (after t k.convo act) Fore acts)
counts_behind t k Back (act ∷ acts) =
    counts_behind t (talk_after t k act) Back acts ∙ plus_behind k.sums.back.counts (counts_in t k.convo Back act) (counts_of t (after t k.convo act) Back acts)

pub counts_are : (t : Terms) (first : Accepted) (way : Way) (acts : List Act) → (of_way way (talk_at t (new_talk first) acts).sums).counts ≡ counts_of t (new_convo first) way acts
counts_are t first Fore acts = counts_behind t (new_talk first) Fore acts ∙ none_plus (counts_of t (new_convo first) Fore acts)
counts_are t first Back acts = counts_behind t (new_talk first) Back acts ∙ none_plus (counts_of t (new_convo first) Back acts)

gaps_step : (b : Bool) (x : Delivery) (us vs : List Delivery) (gs : List Gap) → map (λ d. gap_before d.piece) vs ≡ map (λ d. gap_before d.piece) us ++ gs
    → map (λ d. gap_before d.piece) (cond b (x ∷ vs) vs) ≡ map (λ d. gap_before d.piece) (cond b (x ∷ us) us) ++ gs
gaps_step true x us vs gs h = ap (λ l. gap_before x.piece ∷ l) h
gaps_step false x us vs gs h = h

gaps_split : (xs ys : List Delivery) → gaps_before (xs ++ ys) ≡ gaps_before xs ++ gaps_before ys
gaps_split [] ys = refl
gaps_split (x ∷ xs) ys = gaps_step (nat_lt 0 x.piece.gap) x (filter (λ d. nat_lt 0 d.piece.gap) xs) (filter (λ d. nat_lt 0 d.piece.gap) (xs ++ ys)) (gaps_before ys) (gaps_split xs ys)

-- the gaps before deliveries of which these come first
gaps_join : (way : Way) (xs ys : List Delivery) → gaps_before (filter (λ d. same_way way d.way) (xs ++ ys)) ≡ gaps_before (filter (λ d. same_way way d.way) xs) ++ gaps_before (filter (λ d. same_way way d.way) ys)
gaps_join way xs ys =
    let fx : List Delivery = filter (λ d. same_way way d.way) xs in
    let fy : List Delivery = filter (λ d. same_way way d.way) ys in
    ap gaps_before (filter-append (λ d. same_way way d.way) xs ys) ∙ gaps_split fx fy

gaps_behind : (t : Terms) (k : Talk) (way : Way) (acts : List Act) → (of_way way (talk_at t k acts).sums).gaps ≡ (of_way way k.sums).gaps ++ gaps_before (deliveries_of t k.convo way acts)
gaps_behind t k Fore [] = sym (append-nil k.sums.fore.gaps)
gaps_behind t k Back [] = sym (append-nil k.sums.back.gaps)
gaps_behind t k Fore (act ∷ acts) =
    let here : List Gap = gaps_before (filter (λ d. same_way Fore d.way) (deliveries_in t k.convo act)) in
    let later : List Delivery = along t (deliveries_in t) (after t k.convo act) acts in
    gaps_behind t (talk_after t k act) Fore acts ∙ append_assoc k.sums.fore.gaps here (gaps_before (filter (λ d. same_way Fore d.way) later))
    ∙ ap (λ gs. k.sums.fore.gaps ++ gs) (sym (gaps_join Fore (deliveries_in t k.convo act) later))
gaps_behind t k Back (act ∷ acts) =
    let here : List Gap = gaps_before (filter (λ d. same_way Back d.way) (deliveries_in t k.convo act)) in
    let later : List Delivery = along t (deliveries_in t) (after t k.convo act) acts in
    gaps_behind t (talk_after t k act) Back acts ∙ append_assoc k.sums.back.gaps here (gaps_before (filter (λ d. same_way Back d.way) later))
    ∙ ap (λ gs. k.sums.back.gaps ++ gs) (sym (gaps_join Back (deliveries_in t k.convo act) later))

pub gaps_are : (t : Terms) (first : Accepted) (way : Way) (acts : List Act) → (of_way way (talk_at t (new_talk first) acts).sums).gaps ≡ gaps_before (deliveries_of t (new_convo first) way acts)
gaps_are t first Fore acts = gaps_behind t (new_talk first) Fore acts
gaps_are t first Back acts = gaps_behind t (new_talk first) Back acts
