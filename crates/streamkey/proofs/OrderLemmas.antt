use Rattle.std.proofs.Common.{◌≡◌, ℕ, List, [], ◌∷◌, refl, ap, arith, true, false, sym, ◌∙◌}
use Rattle.std.specs.declared.cmp.Ordering.{Ordering}
use Rattle.std.specs.declared.cmp.Ordering.TheVariants.{Less, Equal, Greater}
use Rattle.std.specs.Ordering.{ordering_then, ordering_reverse, nat_cmp, is_lt, is_some_and, partial_lt}
use Rattle.std.specs.Cmp.Lexicographic.{slice_cmp}
use Rattle.std.proofs.lemmas.Map.Lookups.{exact_bytes}
use Rattle.std.proofs.lemmas.Bool.Decides.{nat_tests}
use Rattle.streamkey.specs.declared.addr.Addr.{Addr}
use Rattle.streamkey.specs.declared.addr.Addr.TheVariants.{V4, V6}
use Rattle.streamkey.specs.declared.end.End.{End}
use Rattle.streamkey.specs.declared.proto.Proto.{Proto}
use Rattle.streamkey.specs.declared.proto.Proto.TheVariants.{Tcp, Udp}
use Rattle.streamkey.specs.KeyParts.{KeyParts}
use Rattle.streamkey.specs.Order.{number_order, bytes_order, addr_order, end_order, end_before, proto_order, key_order}
use Rattle.streamkey.specs.contracts.proto.ProtoOrd.TheImpl as proto_ord
use Rattle.streamkey.specs.contracts.key.KeyOrd.TheImpl as key_ord
use Rattle.streamkey.specs.contracts.addr.AddrOrd.TheImpl as addr_ord
use Rattle.streamkey.specs.contracts.end.EndOrd.TheImpl as end_ord
use Rattle.streamkey.specs.contracts.end.EndPartialOrd.TheImpl as end_partial_ord
use Rattle.streamkey.specs.contracts.end.EndOrd.TheImpl.Laws.{matches_partial_cmp-law}

pub slice_cmp-bytes_order : (xs ys : List ℕ) → slice_cmp nat_cmp xs ys ≡ bytes_order xs ys
slice_cmp-bytes_order [] [] = refl
slice_cmp-bytes_order [] (y ∷ ys) = refl
slice_cmp-bytes_order (x ∷ xs) [] = refl
slice_cmp-bytes_order (x ∷ xs) (y ∷ ys) = ap (λ o. ordering_then (nat_cmp x y) o) (slice_cmp-bytes_order xs ys)

pub cmp-addr_order : (a b : Addr) → (addr_ord.ghosts).cmp a b ≡ addr_order a b
cmp-addr_order (V4 a) (V4 b) = slice_cmp-bytes_order a b
cmp-addr_order (V4 a) (V6 b) = refl
cmp-addr_order (V6 a) (V4 b) = refl
cmp-addr_order (V6 a) (V6 b) = slice_cmp-bytes_order a b

pub cmp-end_order : (a b : End) → (end_ord.ghosts).cmp a b ≡ end_order a b
cmp-end_order a b = ap (λ o. ordering_then o (number_order a.port b.port)) (cmp-addr_order a.addr b.addr)

-- whether the derived comparison says that an end is less
pub lt-end_before : (a b : End) → partial_lt (end_partial_ord.ghosts).partial_cmp a b ≡ end_before a b
lt-end_before a b = ap (is_some_and is_lt) (matches_partial_cmp-law a b) ∙ ap is_lt (cmp-end_order a b)

-- the other way round each order is turned round
number_order-turned : (x y : ℕ) → number_order y x ≡ ordering_reverse (number_order x y)
number_order-turned x y = grind (arith, nat_tests)

ordering_then-turned : (o p : Ordering) → ordering_reverse (ordering_then o p) ≡ ordering_then (ordering_reverse o) (ordering_reverse p)
ordering_then-turned Less p = refl
ordering_then-turned Equal p = refl
ordering_then-turned Greater p = refl

bytes_order-turned : (xs ys : List ℕ) → bytes_order ys xs ≡ ordering_reverse (bytes_order xs ys)
bytes_order-turned [] [] = refl
bytes_order-turned [] (y ∷ ys) = refl
bytes_order-turned (x ∷ xs) [] = refl
bytes_order-turned (x ∷ xs) (y ∷ ys) =
    ap (λ o. ordering_then o (bytes_order ys xs)) (number_order-turned x y) ∙ ap (λ o. ordering_then (ordering_reverse (number_order x y)) o) (bytes_order-turned xs ys) ∙ sym (ordering_then-turned (number_order x y) (bytes_order xs ys))

addr_order-turned : (a b : Addr) → addr_order b a ≡ ordering_reverse (addr_order a b)
addr_order-turned (V4 a) (V4 b) = bytes_order-turned a b
addr_order-turned (V4 a) (V6 b) = refl
addr_order-turned (V6 a) (V4 b) = refl
addr_order-turned (V6 a) (V6 b) = bytes_order-turned a b

pub end_order-turned : (a b : End) → end_order b a ≡ ordering_reverse (end_order a b)
end_order-turned a b =
    ap (λ o. ordering_then o (number_order b.port a.port)) (addr_order-turned a.addr b.addr) ∙ ap (λ o. ordering_then (ordering_reverse (addr_order a.addr b.addr)) o) (number_order-turned a.port b.port) ∙ sym (ordering_then-turned (addr_order a.addr b.addr) (number_order a.port b.port))

-- what is equal in an order is the same
number_order-same : (x y : ℕ) → number_order x y ≡ Equal → x ≡ y
number_order-same x y h = grind (arith, nat_tests)

then_equal : (o p : Ordering) → ordering_then o p ≡ Equal → (o ≡ Equal) × (p ≡ Equal)
then_equal Less p h = absurd (cc)
then_equal Equal p h = (refl, h)
then_equal Greater p h = absurd (cc)

addr_order-same : (a b : Addr) → addr_order a b ≡ Equal → a ≡ b
addr_order-same (V4 a) (V4 b) h = ap V4 (exact_bytes a b (slice_cmp-bytes_order a b ∙ h))
addr_order-same (V4 a) (V6 b) h = absurd (cc)
addr_order-same (V6 a) (V4 b) h = absurd (cc)
addr_order-same (V6 a) (V6 b) h = ap V6 (exact_bytes a b (slice_cmp-bytes_order a b ∙ h))

pub end_order-same : (a b : End) → end_order a b ≡ Equal → a ≡ b
end_order-same a b h =
    let both = then_equal (addr_order a.addr b.addr) (number_order a.port b.port) h in
    let made : Addr → ℕ → End = λ addr port. record { addr = addr; port = port } in
    ap (λ (addr : Addr). made addr a.port) (addr_order-same a.addr b.addr both.0) ∙ ap (made b.addr) (number_order-same a.port b.port both.1)

-- of two ends at most one comes before the other
is_lt-turned : (o : Ordering) → is_lt o ≡ true → is_lt (ordering_reverse o) ≡ false
is_lt-turned Less h = refl
is_lt-turned Equal h = refl
is_lt-turned Greater h = cc

pub end_before-turned : (a b : End) → end_before a b ≡ true → end_before b a ≡ false
end_before-turned a b h = ap is_lt (end_order-turned a b) ∙ is_lt-turned (end_order a b) h

-- and at least one, unless they are the same
neither_less : (o : Ordering) → is_lt o ≡ false → is_lt (ordering_reverse o) ≡ false → o ≡ Equal
neither_less Less h k = cc
neither_less Equal h k = refl
neither_less Greater h k = cc

pub end_before-same : (a b : End) → end_before a b ≡ false → end_before b a ≡ false → a ≡ b
end_before-same a b h k = end_order-same a b (neither_less (end_order a b) h (ap is_lt (sym (end_order-turned a b)) ∙ k))

cmp-proto_order : (a b : Proto) → (proto_ord.ghosts).cmp a b ≡ proto_order a b
cmp-proto_order Tcp Tcp = refl
cmp-proto_order Tcp Udp = refl
cmp-proto_order Udp Tcp = refl
cmp-proto_order Udp Udp = refl

-- the derived comparison of keys is the order of keys
pub cmp-key_order : (a b : KeyParts) → (key_ord.ghosts).cmp a b ≡ key_order a b
cmp-key_order a b =
    ap (λ o. ordering_then ((proto_ord.ghosts).cmp a.proto b.proto) (ordering_then o ((end_ord.ghosts).cmp a.high b.high))) (cmp-end_order a.low b.low) ∙ ap (λ o. ordering_then ((proto_ord.ghosts).cmp a.proto b.proto) (ordering_then (end_order a.low b.low) o)) (cmp-end_order a.high b.high) ∙ ap (λ o. ordering_then o (ordering_then (end_order a.low b.low) (end_order a.high b.high))) (cmp-proto_order a.proto b.proto)
