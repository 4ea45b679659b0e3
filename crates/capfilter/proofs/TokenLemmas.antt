use Rattle.std.proofs.Common.{◌≡◌, ◌≤◌, ◌<◌, ℕ, suc, ◌+◌, ◌-◌, Bool, true, false, not, cond, ◌&&◌, ◌||◌, List, [], ◌∷◌, ◌++◌, length, take, drop, get_or, nat_eq, sym, ◌∙◌, ap, refl, arith, subst, nat_lt}
use Rattle.std.proofs.Common.{length-take, length-drop, get_or-take, get_or-drop}
use Rattle.std.proofs.lemmas.List.{take-append-drop, drop_all, drop-drop}
use Rattle.std.specs.List.{list_all}
use Rattle.std.proofs.lemmas.Bool.Decides.{nat_tests}
use Rattle.std.proofs.lemmas.Grind.{common_steps}
use Rattle.capfilter.specs.Tokens.{Token, tokens, is_blank, is_bracket, is_plain, begins_plain, with_plain}

-- one step by what the byte is
tokens_when : ℕ → ℕ → List ℕ → Bool → Bool → List Token
tokens_when at b bs blank bracket =
    cond blank (tokens (at + 1) bs) (cond bracket (record { at = at; bytes = b ∷ [] } ∷ tokens (at + 1) bs) (with_plain at b (tokens (at + 1) bs)))

tokens_by : (at b : ℕ) (bs : List ℕ) (blank bracket : Bool) → is_blank b ≡ blank → is_bracket b ≡ bracket → tokens at (b ∷ bs) ≡ tokens_when at b bs blank bracket
unfolding tokens_when
tokens_by at b bs blank bracket e f = ap (λ (x : Bool). tokens_when at b bs x (is_bracket b)) e ∙ ap (λ (x : Bool). tokens_when at b bs blank x) f

pub tokens-blank : (at b : ℕ) (bs : List ℕ) → is_blank b ≡ true → tokens at (b ∷ bs) ≡ tokens (at + 1) bs
unfolding tokens_when
tokens-blank at b bs e = tokens_by at b bs true (is_bracket b) e refl

pub tokens-bracket : (at b : ℕ) (bs : List ℕ) → is_blank b ≡ false → is_bracket b ≡ true → tokens at (b ∷ bs) ≡ record { at = at; bytes = b ∷ [] } ∷ tokens (at + 1) bs
unfolding tokens_when
tokens-bracket at b bs e f = tokens_by at b bs false true e f

tokens-plain : (at b : ℕ) (bs : List ℕ) → is_blank b ≡ false → is_bracket b ≡ false → tokens at (b ∷ bs) ≡ with_plain at b (tokens (at + 1) bs)
unfolding tokens_when
tokens-plain at b bs e f = tokens_by at b bs false false e f

-- the next byte of a text
here : (text : List ℕ) (i : ℕ) → i < length text → drop i text ≡ get_or text i 0 ∷ drop (i + 1) text
here text i within = grind (arith, common_steps)

pub tokens_past_blank : (text : List ℕ) (i : ℕ) → i < length text → is_blank (get_or text i 0) ≡ true → tokens i (drop i text) ≡ tokens (i + 1) (drop (i + 1) text)
tokens_past_blank text i within blank = ap (tokens i) (here text i within) ∙ tokens-blank i (get_or text i 0) (drop (i + 1) text) blank

-- tokens stand at their text's offset or behind it
data Behind (at : ℕ) : List Token → Type 0 where
  no_token : Behind at []
  some_token : (t : Token) (ts : List Token) → at ≤ t.at → Behind at (t ∷ ts)

Behind_plain : (at b : ℕ) (ts : List Token) → Behind at (with_plain at b ts)
Behind_plain at b [] = some_token _ _ (omega arith)
Behind_plain at b (t ∷ ts) = joined (nat_eq t.at (at + 1) && begins_plain t.bytes)
  where
    joined : (c : Bool) → Behind at (cond c (record { at = at; bytes = b ∷ t.bytes } ∷ ts) (record { at = at; bytes = b ∷ [] } ∷ t ∷ ts))
    joined true = some_token _ _ (omega arith)
    joined false = some_token _ _ (omega arith)

Behind_less : (at : ℕ) (ts : List Token) → Behind (at + 1) ts → Behind at ts
Behind_less at [] no_token = no_token
Behind_less at (t ∷ ts) (some_token _ _ h) = some_token t ts (omega arith)

Behind_by : (at b : ℕ) (bs : List ℕ) → Behind (at + 1) (tokens (at + 1) bs) → (blank bracket : Bool) → Behind at (tokens_when at b bs blank bracket)
unfolding tokens_when
Behind_by at b bs h true bracket = Behind_less at (tokens (at + 1) bs) h
Behind_by at b bs h false true = some_token _ _ (omega arith)
Behind_by at b bs h false false = Behind_plain at b (tokens (at + 1) bs)

Behind_tokens : (bs : List ℕ) (at : ℕ) → Behind at (tokens at bs)
unfolding tokens_when
Behind_tokens [] at = no_token
Behind_tokens (b ∷ bs) at = Behind_by at b bs (Behind_tokens bs (at + 1)) (is_blank b) (is_bracket b)

-- a plain byte joins no token that stands further on
apart_from : (at b : ℕ) (ts : List Token) → Behind (at + 2) ts → with_plain at b ts ≡ record { at = at; bytes = b ∷ [] } ∷ ts
apart_from at b [] no_token = refl
apart_from at b (t ∷ ts) (some_token _ _ h) =
    let no : nat_eq t.at (at + 1) ≡ false = far t.at at h in
    ap (λ (c : Bool). cond (c && begins_plain t.bytes) (record { at = at; bytes = b ∷ t.bytes } ∷ ts) (record { at = at; bytes = b ∷ [] } ∷ t ∷ ts)) no
  where
    far : (n at : ℕ) → at + 2 ≤ n → nat_eq n (at + 1) ≡ false
    far n at h = grind (arith, nat_tests)

and_false : (b : Bool) → (b && false) ≡ false
and_false true = refl
and_false false = refl

-- nor a bracket
apart_from_bracket : (at b : ℕ) (t : Token) (ts : List Token) → begins_plain t.bytes ≡ false → with_plain at b (t ∷ ts) ≡ record { at = at; bytes = b ∷ [] } ∷ t ∷ ts
apart_from_bracket at b t ts h =
    ap (λ (c : Bool). cond (nat_eq t.at (at + 1) && c) (record { at = at; bytes = b ∷ t.bytes } ∷ ts) (record { at = at; bytes = b ∷ [] } ∷ t ∷ ts)) h
    ∙ ap (λ (c : Bool). cond c (record { at = at; bytes = b ∷ t.bytes } ∷ ts) (record { at = at; bytes = b ∷ [] } ∷ t ∷ ts)) (and_false (nat_eq t.at (at + 1)))

alone_by : (at b c : ℕ) (cs : List ℕ) (blank bracket : Bool) → is_blank c ≡ blank → is_bracket c ≡ bracket → is_plain c ≡ false
    → with_plain at b (tokens (at + 1) (c ∷ cs)) ≡ record { at = at; bytes = b ∷ [] } ∷ tokens (at + 1) (c ∷ cs)
alone_by at b c cs true bracket e f h =
    let step = tokens-blank (at + 1) c cs e in
    let two : at + 1 + 1 ≡ at + 2 = omega arith in
    apart_from at b (tokens (at + 1) (c ∷ cs)) (subst (λ (ts : List Token). Behind (at + 2) ts) (sym step) (subst (λ (n : ℕ). Behind n (tokens (at + 1 + 1) cs)) two (Behind_tokens cs (at + 1 + 1))))
alone_by at b c cs false true e f h =
    let step = tokens-bracket (at + 1) c cs e f in
    ap (with_plain at b) step ∙ apart_from_bracket at b (record { at = at + 1; bytes = c ∷ [] }) (tokens (at + 1 + 1) cs) h ∙ ap (λ (ts : List Token). record { at = at; bytes = b ∷ [] } ∷ ts) (sym step)
alone_by at b c cs false false e f h = absurd (cc (ap (λ (x : Bool). not (x || is_bracket c)) e ∙ ap (λ (x : Bool). not x) f))

-- a plain byte with none behind it is a token
alone : (at b : ℕ) (rest : List ℕ) → begins_plain rest ≡ false → with_plain at b (tokens (at + 1) rest) ≡ record { at = at; bytes = b ∷ [] } ∷ tokens (at + 1) rest
alone at b [] h = refl
alone at b (c ∷ cs) h = alone_by at b c cs _ _ refl refl h

and_left : (x y : Bool) → (x && y) ≡ true → x ≡ true
and_left true y h = refl
and_left false y h = h

and_right : (x y : Bool) → (x && y) ≡ true → y ≡ true
and_right true y h = h
and_right false y h = absurd (cc)

not_blank : (blank bracket : Bool) → not (blank || bracket) ≡ true → blank ≡ false
not_blank true bracket h = absurd (cc)
not_blank false bracket h = refl

not_bracket : (blank bracket : Bool) → not (blank || bracket) ≡ true → bracket ≡ false
not_bracket true bracket h = absurd (cc)
not_bracket false true h = absurd (cc)
not_bracket false false h = refl

-- the longest run of plain bytes is a token
run_from : (b : ℕ) (w rest : List ℕ) (at : ℕ) → list_all is_plain (b ∷ w) ≡ true → begins_plain rest ≡ false
    → tokens at ((b ∷ w) ++ rest) ≡ record { at = at; bytes = b ∷ w } ∷ tokens (at + length (b ∷ w)) rest
run_from b [] rest at all stops =
    let plain = and_left (is_plain b) true all in
    let one : at + 1 ≡ at + length (b ∷ []) = omega arith in
    tokens-plain at b rest (not_blank _ _ plain) (not_bracket _ _ plain) ∙ alone at b rest stops
    ∙ ap (λ (n : ℕ). record { at = at; bytes = b ∷ [] } ∷ tokens n rest) one
run_from b (c ∷ w) rest at all stops =
    let plain = and_left (is_plain b) (list_all is_plain (c ∷ w)) all in
    let more = and_right (is_plain b) (list_all is_plain (c ∷ w)) all in
    let there : is_plain c ≡ true = and_left (is_plain c) (list_all is_plain w) more in
    let tail : List Token = tokens (at + 1 + length (c ∷ w)) rest in
    let same : nat_eq (at + 1) (at + 1) ≡ true = itself (at + 1) in
    let on : at + 1 + length (c ∷ w) ≡ at + length (b ∷ c ∷ w) = omega arith in
    tokens-plain at b ((c ∷ w) ++ rest) (not_blank _ _ plain) (not_bracket _ _ plain)
    ∙ ap (with_plain at b) (run_from c w rest (at + 1) more stops)
    ∙ ap (λ (x : Bool). cond (x && is_plain c) (record { at = at; bytes = b ∷ c ∷ w } ∷ tail) (record { at = at; bytes = b ∷ [] } ∷ record { at = at + 1; bytes = c ∷ w } ∷ tail)) same
    ∙ ap (λ (x : Bool). cond x (record { at = at; bytes = b ∷ c ∷ w } ∷ tail) (record { at = at; bytes = b ∷ [] } ∷ record { at = at + 1; bytes = c ∷ w } ∷ tail)) there
    ∙ ap (λ (n : ℕ). record { at = at; bytes = b ∷ c ∷ w } ∷ tokens n rest) on
  where
    itself : (n : ℕ) → nat_eq n n ≡ true
    itself n = grind (arith, nat_tests)

pub tokens-run : (w rest : List ℕ) (at : ℕ) → 0 < length w → list_all is_plain w ≡ true → begins_plain rest ≡ false
    → tokens at (w ++ rest) ≡ record { at = at; bytes = w } ∷ tokens (at + length w) rest
tokens-run [] rest at some all stops = absurd (omega arith)
tokens-run (b ∷ w) rest at some all stops = run_from b w rest at all stops

all_by_index : (xs : List ℕ) → ((i : ℕ) → i < length xs → is_plain (get_or xs i 0) ≡ true) → list_all is_plain xs ≡ true
all_by_index [] h = refl
all_by_index (x ∷ xs) h = ap (λ (b : Bool). b && list_all is_plain xs) (h 0 (omega arith)) ∙ all_by_index xs (λ i within. h (suc i) (omega arith))

-- a run between two places of a text
pub tokens_run_at : (text : List ℕ) (start end : ℕ) → start < end → end ≤ length text → ((i : ℕ) → start ≤ i → i < end → is_plain (get_or text i 0) ≡ true)
    → (end < length text → is_plain (get_or text end 0) ≡ false)
    → tokens start (drop start text) ≡ record { at = start; bytes = take (end - start) (drop start text) } ∷ tokens end (drop end text)
tokens_run_at text start end some within plain stops =
    let w : List ℕ = take (end - start) (drop start text) in
    let long : length w ≡ end - start = simp (length-take, length-drop) (omega arith) in
    let split : drop start text ≡ w ++ drop end text = cut_there in
    let all : list_all is_plain w ≡ true = all_by_index w (λ i h. plain_at i (omega arith)) in
    let on : start + length w ≡ end = omega arith in
    ap (tokens start) split ∙ tokens-run w (drop end text) start (omega arith) all (last (nat_lt end (length text)) refl)
    ∙ ap (λ (n : ℕ). record { at = start; bytes = w } ∷ tokens n (drop end text)) on
  where
    cut_there : drop start text ≡ take (end - start) (drop start text) ++ drop end text
    cut_there =
        let on : start + (end - start) ≡ end = omega arith in
        sym (take-append-drop (end - start) (drop start text)) ∙ ap (λ (xs : List ℕ). take (end - start) (drop start text) ++ xs) (drop-drop (end - start) start text ∙ ap (λ (n : ℕ). drop n text) on)

    plain_at : (i : ℕ) → i < end - start → is_plain (get_or (take (end - start) (drop start text)) i 0) ≡ true
    plain_at i h = rw (get_or-take, get_or-drop) (plain (start + i) (omega arith) (omega arith))

    last : (b : Bool) → nat_lt end (length text) ≡ b → begins_plain (drop end text) ≡ false
    last true e = let h : end < length text = grind (arith, nat_tests) in ap begins_plain (here text end h) ∙ stops h
    last false e = let h : length text ≤ end = grind (arith, nat_tests) in ap begins_plain (drop_all end text h)

-- a bracket at a place of a text
pub tokens_bracket_at : (text : List ℕ) (start : ℕ) → start < length text → is_blank (get_or text start 0) ≡ false → is_bracket (get_or text start 0) ≡ true
    → tokens start (drop start text) ≡ record { at = start; bytes = take (start + 1 - start) (drop start text) } ∷ tokens (start + 1) (drop (start + 1) text)
tokens_bracket_at text start within blank bracket =
    let one : take (start + 1 - start) (drop start text) ≡ get_or text start 0 ∷ [] = first_byte in
    ap (tokens start) (here text start within) ∙ tokens-bracket start (get_or text start 0) (drop (start + 1) text) blank bracket
    ∙ ap (λ (xs : List ℕ). record { at = start; bytes = xs } ∷ tokens (start + 1) (drop (start + 1) text)) (sym one)
  where
    first_byte : take (start + 1 - start) (drop start text) ≡ get_or text start 0 ∷ []
    first_byte = let one : start + 1 - start ≡ 1 = omega arith in ap (λ (n : ℕ). take n (drop start text)) one ∙ ap (take 1) (here text start within)

blank_is_plain : (blank bracket : Bool) → blank ≡ false → bracket ≡ false → not (blank || bracket) ≡ true
blank_is_plain blank bracket e f = ap (λ (x : Bool). not (x || bracket)) e ∙ ap (λ (x : Bool). not x) f

pub is_plain_there : (b : ℕ) → is_blank b ≡ false → is_bracket b ≡ false → is_plain b ≡ true
is_plain_there b e f = blank_is_plain (is_blank b) (is_bracket b) e f

-- a run that begins with a plain byte has one byte or more
pub stops_behind : (text : List ℕ) (start end : ℕ) → start < length text → start ≤ end → is_plain (get_or text start 0) ≡ true → (end < length text → is_plain (get_or text end 0) ≡ false) → start < end
stops_behind text start end within behind plain stops = by_case (nat_lt start end) refl
  where
    by_case : (b : Bool) → nat_lt start end ≡ b → start < end
    by_case true e = grind (arith, nat_tests)
    by_case false e =
        let same : end ≡ start = grind (arith, nat_tests) in
        absurd (cc (stops (omega arith), ap (λ (i : ℕ). is_plain (get_or text i 0)) same))
