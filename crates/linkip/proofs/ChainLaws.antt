use Rattle.std.proofs.Common.{◌≡◌, ℕ, zero, suc, ◌+◌, ◌*◌, ◌<◌, ◌≤◌, nat_lt, ◌||◌, Bool, true, false, List, [], ◌∷◌, ◌++◌, length, take, drop, Option, Some, None, refl, sym, ◌∙◌, ap, arith, append_assoc, length-append}
use Rattle.std.proofs.lemmas.Bool.Decides.{nat_tests}
use Rattle.std.proofs.lemmas.List.{drop_at, get_or_append_left, get_or-take, length-take-le, take-append-drop}
use Rattle.std.specs.Prelude.{slice_index, MatchOption}
use Rattle.linkip.specs.Ipv6.{Upper, is_extension, is_cut, extension_length, upper_within, upper_in}
use Rattle.linkip.specs.Chains.{joined, IsChain, IsBehindChain, IsCutChain, IsWholeChain}
use Rattle.linkip.proofs.ChainLemmas.{upper_within-ends, upper_within-cut, upper_within-passes, upper_in-passes_to, shorter}

-- A chain of whole extension headers is passed.

-- a whole extension header and what follows it

header-length : (header rest : List ℕ) → length header ≡ extension_length header → extension_length (header ++ rest) ≡ extension_length header
header-length header rest sized =
    let one : 1 < length header = rw sized (omega arith) in
    ap (λ (n : ℕ). (n + 1) * 8) (get_or_append_left header rest 0 1 one)

header-next : (header rest : List ℕ) → length header ≡ extension_length header → slice_index header 0 ≡ slice_index (header ++ rest) 0
header-next header rest sized =
    let none : 0 < length header = rw sized (omega arith) in
    sym (get_or_append_left header rest 0 0 none)

cut-test : (size long : ℕ) → 8 ≤ size → size ≤ long → (nat_lt long 8 || nat_lt long size) ≡ false
cut-test size long least within = grind (arith, nat_tests)

header-whole : (header rest : List ℕ) → length header ≡ extension_length header → is_cut (header ++ rest) ≡ false
header-whole header rest sized =
    let least : 8 ≤ length header = rw sized (omega arith) in
    let same : extension_length (header ++ rest) ≡ length header = header-length header rest sized ∙ sym sized in
    let within : length header ≤ length (header ++ rest) = rw length-append (omega arith) in
    rw same (cut-test (length header) (length (header ++ rest)) least within)

header-behind : (header rest : List ℕ) → length header ≡ extension_length header → rest ≡ drop (extension_length (header ++ rest)) (header ++ rest)
header-behind header rest sized =
    sym (drop_at header rest (extension_length (header ++ rest)) (sized ∙ sym (header-length header rest sized)))

pub chain-passed : (first : ℕ) (headers : List (List ℕ)) (last : ℕ) (rest : List ℕ) → IsChain first headers last
    → upper_in first (joined headers ++ rest) ≡ upper_in last rest
chain-passed first [] last rest same = ap (λ (n : ℕ). upper_in n rest) same
chain-passed first (header ∷ headers) last rest (extension, sized, chain) =
    rw (append_assoc header (joined headers) rest)
    (upper_in-passes_to first (header ++ (joined headers ++ rest)) (slice_index header 0) (joined headers ++ rest) extension
    (header-whole header (joined headers ++ rest) sized) (header-next header (joined headers ++ rest) sized)
    (header-behind header (joined headers ++ rest) sized)
    ∙ chain-passed (slice_index header 0) headers last rest chain)

-- What is passed is a chain of whole extension headers.

both : {A B : Type 0} {P Q : Upper → Type 0} (o : Option Upper) → MatchOption o A P → (A → B) → ((u : Upper) → P u → Q u) → MatchOption o B Q
both None h a p = a h
both (Some u) h a p = p u h

-- the header with which a chain begins

uncut-within : (size long : ℕ) → (nat_lt long 8 || nat_lt long size) ≡ false → size ≤ long
uncut-within size long h = grind (arith, nat_tests)

front-length : (bytes : List ℕ) → is_cut bytes ≡ false → length (take (extension_length bytes) bytes) ≡ extension_length bytes
front-length bytes whole = length-take-le (extension_length bytes) bytes (uncut-within (extension_length bytes) (length bytes) whole)

front-says : (bytes : List ℕ) → extension_length (take (extension_length bytes) bytes) ≡ extension_length bytes
front-says bytes =
    let one : 1 < extension_length bytes = omega arith in
    ap (λ (n : ℕ). (n + 1) * 8) (get_or-take (extension_length bytes) bytes 1 0 one)

front-next : (bytes : List ℕ) → slice_index (take (extension_length bytes) bytes) 0 ≡ slice_index bytes 0
front-next bytes =
    let none : 0 < extension_length bytes = omega arith in
    get_or-take (extension_length bytes) bytes 0 0 none

chain-more : (next : ℕ) (bytes : List ℕ) (last : ℕ) (rest : List ℕ) → is_extension next ≡ true → is_cut bytes ≡ false
    → IsBehindChain (slice_index bytes 0) (drop (extension_length bytes) bytes) last rest → IsBehindChain next bytes last rest
chain-more next bytes last rest extension whole b = record {
  headers = take (extension_length bytes) bytes ∷ b.headers;
  chain = (extension, front-length bytes whole ∙ sym (front-says bytes), rw (front-next bytes) b.chain);
  whole = sym (take-append-drop (extension_length bytes) bytes)
      ∙ ap (λ (back : List ℕ). take (extension_length bytes) bytes ++ back) b.whole
      ∙ sym (append_assoc (take (extension_length bytes) bytes) (joined b.headers) rest);
}

found-step : (turns next : ℕ) (bytes : List ℕ) (e c : Bool) → is_extension next ≡ e → is_cut bytes ≡ c
    → (is_cut bytes ≡ false → MatchOption (upper_within turns (slice_index bytes 0) (drop (extension_length bytes) bytes))
    (IsCutChain (slice_index bytes 0) (drop (extension_length bytes) bytes))
    (λ u. IsWholeChain (slice_index bytes 0) (drop (extension_length bytes) bytes) u))
    → MatchOption (upper_within (suc turns) next bytes) (IsCutChain next bytes) (λ u. IsWholeChain next bytes u)
found-step turns next bytes false c h cut more =
    rw (upper_within-ends turns next bytes h) (record { behind = record { headers = []; chain = refl; whole = refl }; ends = h })
found-step turns next bytes true true h cut more =
    rw (upper_within-cut turns next bytes h cut)
    (record { last = next; rest = bytes; behind = record { headers = []; chain = refl; whole = refl }; extension = h; cut = cut })
found-step turns next bytes true false h whole more =
    rw (upper_within-passes turns next bytes h whole)
    (both (upper_within turns (slice_index bytes 0) (drop (extension_length bytes) bytes)) (more whole)
    (λ cut. record {
      last = cut.last;
      rest = cut.rest;
      behind = chain-more next bytes cut.last cut.rest h whole cut.behind;
      extension = cut.extension;
      cut = cut.cut;
    })
    (λ u found. record { behind = chain-more next bytes u.next u.left h whole found.behind; ends = found.ends }))

found-within : (turns next : ℕ) (bytes : List ℕ) → length bytes < turns
    → MatchOption (upper_within turns next bytes) (IsCutChain next bytes) (λ u. IsWholeChain next bytes u)
found-within zero next bytes room = absurd (omega arith)
found-within (suc turns) next bytes room =
    found-step turns next bytes (is_extension next) (is_cut bytes) refl refl
    (λ whole.
    let s : length (drop (extension_length bytes) bytes) < length bytes = shorter bytes whole in
    found-within turns (slice_index bytes 0) (drop (extension_length bytes) bytes) (omega arith))

pub chain-found : (next : ℕ) (bytes : List ℕ) → MatchOption (upper_in next bytes) (IsCutChain next bytes) (λ u. IsWholeChain next bytes u)
chain-found next bytes = found-within (suc (length bytes)) next bytes (omega arith)
