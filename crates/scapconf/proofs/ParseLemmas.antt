use Rattle.std.proofs.Common.{◌≡◌, ◌≤◌, ◌<◌, ℕ, zero, suc, ◌+◌, List, [], ◌∷◌, ◌++◌, length, take, drop, get_or, sym, ◌∙◌, ap, refl, subst, arith, map, length-drop, inl, inr, ◌⊎◌}
use Rattle.std.proofs.lemmas.List.{map-append, length-append, take_more, drop-drop}
use Rattle.std.proofs.lemmas.Grind.{common_steps}
use Rattle.std.specs.Str.Lines.{lines}
use Rattle.scapconf.specs.declared.settings_error.SettingsKind.{SettingsKind}
use Rattle.scapconf.specs.declared.settings.Settings.{Settings}
use Rattle.scapconf.specs.declared.line_error.LineError.{LineError}
use Rattle.scapconf.specs.declared.line_error.LineError.TheVariants as errors
use Rattle.scapconf.specs.declared.reader.Reader.{Reader}
use Rattle.linewords.specs.Words.{Words}
use Rattle.scapconf.specs.Lines.{said}
use Rattle.scapconf.specs.Faults.{IsClean, AreClean, line_at, IsFaultOf, IsFault}
use Rattle.scapconf.specs.Says.{Says, Reads}
use Rattle.scapconf.specs.Parser.{Stands, IsMemoryOr, IsMemoryOrFault, error_at}

-- Lines taken one after the other.

within_of : (ls : List (List ℕ)) (n : ℕ) (line : List ℕ) (rest : List (List ℕ)) → drop n ls ≡ line ∷ rest → n < length ls
within_of ls n line rest h = let e : length (drop n ls) ≡ length rest + 1 = ap length h ∙ omega arith in omega (arith, length-drop n ls)

line_here : (ls : List (List ℕ)) (n : ℕ) (line : List ℕ) (rest : List (List ℕ)) → drop n ls ≡ line ∷ rest → get_or ls n [] ≡ line
line_here [] zero line rest h = absurd (cc)
line_here [] (suc n) line rest h = absurd (cc)
line_here (x ∷ xs) zero line rest h = cc
line_here (x ∷ xs) (suc n) line rest h = line_here xs n line rest h

pub lines_taken : (ls : List (List ℕ)) (n : ℕ) (line : List ℕ) (rest : List (List ℕ)) → drop n ls ≡ line ∷ rest → take (n + 1) ls ≡ take n ls ++ line ∷ []
lines_taken ls n line rest h = take_more ls n [] (within_of ls n line rest h) ∙ ap (λ (l : List ℕ). take n ls ++ l ∷ []) (line_here ls n line rest h)

said_more : (ls : List (List ℕ)) (n : ℕ) (line : List ℕ) (rest : List (List ℕ)) → drop n ls ≡ line ∷ rest → map said (take (n + 1) ls) ≡ map said (take n ls) ++ said line ∷ []
said_more ls n line rest h = ap (map said) (lines_taken ls n line rest h) ∙ map-append said (take n ls) (line ∷ [])

pub stands_more : (ls : List (List ℕ)) (n : ℕ) (line : List ℕ) (rest : List (List ℕ)) (reader : Reader) → drop n ls ≡ line ∷ rest → Stands (map said (take n ls) ++ said line ∷ []) reader
    → Stands (map said (take (n + 1) ls)) reader
stands_more ls n line rest reader h g = subst (λ (ws : List Words). Stands ws reader) (sym (said_more ls n line rest h)) g

pub drop_more : (ls : List (List ℕ)) (n : ℕ) (line : List ℕ) (rest : List (List ℕ)) → drop n ls ≡ line ∷ rest → drop (n + 1) ls ≡ rest
drop_more ls n line rest h = sym (drop-drop 1 n ls) ∙ ap (drop 1) h

take_front : (xs ys : List (List ℕ)) (i : ℕ) → i ≤ length xs → take i (xs ++ ys) ≡ take i xs
take_front xs ys i h = grind (arith, common_steps)

take_whole : (xs : List (List ℕ)) (i : ℕ) → length xs ≤ i → take i xs ≡ xs
take_whole xs i h = grind (arith, common_steps)

get_front : (xs ys : List (List ℕ)) (i : ℕ) → i < length xs → get_or (xs ++ ys) i [] ≡ get_or xs i []
get_front xs ys i h = grind (arith, common_steps)

get_last : (xs : List (List ℕ)) (y : List ℕ) → get_or (xs ++ y ∷ []) (length xs) [] ≡ y
get_last [] y = refl
get_last (x ∷ xs) y = get_last xs y

lower : (i n : ℕ) → i < n + 1 → (i < n) ⊎ (i ≡ n)
lower i n h = grind arith

clean_more : (xs : List (List ℕ)) (line : List ℕ) → AreClean xs → IsClean (map said xs) line → AreClean (xs ++ line ∷ [])
clean_more xs line h g i within =
    let few : i < length xs + 1 = omega (arith, length-append xs (line ∷ [])) in
    by_place (lower i (length xs) few)
  where
    by_place : (i < length xs) ⊎ (i ≡ length xs) → IsClean (map said (take i (xs ++ line ∷ []))) (line_at i (xs ++ line ∷ []))
    by_place (inl lt) =
        subst (λ (ls : List (List ℕ)). IsClean (map said ls) (line_at i (xs ++ line ∷ []))) (sym (take_front xs (line ∷ []) i (omega arith)))
        (subst (λ (l : List ℕ). IsClean (map said (take i xs)) l) (sym (get_front xs (line ∷ []) i lt)) (h i lt))
    by_place (inr e) =
        subst (λ (ls : List (List ℕ)). IsClean (map said ls) (line_at i (xs ++ line ∷ []))) (sym (take_front xs (line ∷ []) i (omega arith) ∙ take_whole xs i (omega arith)))
        (subst (λ (l : List ℕ). IsClean (map said xs) l) (sym (ap (λ (k : ℕ). get_or (xs ++ line ∷ []) k []) e ∙ get_last xs line)) g)

pub clean_taken : (ls : List (List ℕ)) (n : ℕ) (line : List ℕ) (rest : List (List ℕ)) → drop n ls ≡ line ∷ rest → AreClean (take n ls) → IsClean (map said (take n ls)) line
    → AreClean (take (n + 1) ls)
clean_taken ls n line rest h g k = subst (λ (xs : List (List ℕ)). AreClean xs) (sym (lines_taken ls n line rest h)) (clean_more (take n ls) line g k)

-- the first fault is that of the next line
fault_next : (text : List ℕ) (n : ℕ) (line : List ℕ) (rest : List (List ℕ)) (kind : SettingsKind) → length text ≤ 65536 → drop n (lines text) ≡ line ∷ rest → AreClean (take n (lines text))
    → IsFaultOf (map said (take n (lines text))) line kind → IsFault text (n + 1) kind
fault_next text n line rest kind short h clean fault =
    inr (
      short,
      record {
        at = n;
        within = within_of (lines text) n line rest h;
        number_is = refl;
        clean = clean;
        fault = subst (λ (l : List ℕ). IsFaultOf (map said (take n (lines text))) l kind) (sym (line_here (lines text) n line rest h)) fault;
      },
    )

ended : (ls : List (List ℕ)) (n : ℕ) → drop n ls ≡ [] → take n ls ≡ ls
ended ls n h = let e : length (drop n ls) ≡ 0 = ap length h in take_whole ls n (omega (arith, length-drop n ls))

-- all lines were taken
pub reads_all : (text : List ℕ) (n : ℕ) (reader : Reader) (s : Settings) → length text ≤ 65536 → drop n (lines text) ≡ [] → AreClean (take n (lines text))
    → Stands (map said (take n (lines text))) reader → s ≡ reader.settings → Reads text s
reads_all text n reader s short h clean stands e =
    let all = ended (lines text) n h in
    record {
      short = short;
      clean = subst (λ (ls : List (List ℕ)). AreClean ls) all clean;
      says = subst (λ (t : Settings). Says (map said (lines text)) t) (sym e)
          (subst (λ (ls : List (List ℕ)). Says (map said ls) reader.settings) all stands.says);
    }

-- no line was taken yet
pub none_clean : (ls : List (List ℕ)) → AreClean (take 0 ls)
none_clean ls i within = absurd (none i within)
  where
    none : (k : ℕ) → k < 0 → ⊥
    none k lt = omega arith

pub refused_next : (text : List ℕ) (n : ℕ) (line : List ℕ) (rest : List (List ℕ)) (error : LineError) → length text ≤ 65536 → drop n (lines text) ≡ line ∷ rest → AreClean (take n (lines text))
    → IsMemoryOr (IsFaultOf (map said (take n (lines text))) line) error → IsMemoryOrFault (IsFault text) (error_at (n + 1) error)
refused_next text n line rest errors.Memory short h clean fault = tt
refused_next text n line rest (errors.Fault kind) short h clean fault = fault_next text n line rest kind short h clean fault
