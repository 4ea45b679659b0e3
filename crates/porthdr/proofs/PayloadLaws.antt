use Rattle.std.proofs.Common.{◌≡◌, ℕ, nat_eq, Bool, true, false, cond, List, ◌++◌, take, drop, sym, ◌∙◌, ap, append_assoc}
use Rattle.std.proofs.lemmas.List.{take-append-drop}
use Rattle.pcapfile.specs.declared.link.Link.{Link}
use Rattle.streamkey.specs.declared.addr.Addr.{Addr}
use Rattle.linkip.specs.Carried.{Carried, Ip, Fragment, Other, Short}
use Rattle.linkip.specs.Frames.{network}
use Rattle.linkip.specs.Laws.{LiesIn}
use Rattle.linkip.proofs.LyingLaws.{network-lies}
use Rattle.porthdr.specs.Kind.{Kind}
use Rattle.porthdr.specs.Tcp.{header_length, tcp}
use Rattle.porthdr.specs.Tcp.{is_short as tcp_short}
use Rattle.porthdr.specs.Udp.{payload_length, is_short, udp}
use Rattle.porthdr.specs.Transport.{transport, kind_of}
use Rattle.porthdr.specs.Laws.{PayloadLiesIn}

-- The payload of a record lies in its frame.

cond-lies : (frame : List ℕ) (b : Bool) (x y : Kind) → PayloadLiesIn frame x → PayloadLiesIn frame y → PayloadLiesIn frame (cond b x y)
cond-lies frame true x y hx hy = hx
cond-lies frame false x y hx hy = hy

-- a part of a body that lies in a frame

part : (before body after : List ℕ) (n most : ℕ) (frame : List ℕ) → frame ≡ before ++ (body ++ after)
    → frame ≡ (before ++ take n body) ++ (take most (drop n body) ++ (drop most (drop n body) ++ after))
part before body after n most frame e =
    e ∙ ap (λ (l : List ℕ). before ++ (l ++ after)) (sym (take-append-drop n body))
    ∙ ap (λ (l : List ℕ). before ++ l) (append_assoc (take n body) (drop n body) after)
    ∙ sym (append_assoc before (take n body) (drop n body ++ after))
    ∙ ap (λ (l : List ℕ). (before ++ take n body) ++ (l ++ after)) (sym (take-append-drop most (drop n body)))
    ∙ ap (λ (l : List ℕ). (before ++ take n body) ++ l) (append_assoc (take most (drop n body)) (drop most (drop n body)) after)

back : (before body after : List ℕ) (n : ℕ) (frame : List ℕ) → frame ≡ before ++ (body ++ after)
    → frame ≡ (before ++ take n body) ++ (drop n body ++ after)
back before body after n frame e =
    e ∙ ap (λ (l : List ℕ). before ++ (l ++ after)) (sym (take-append-drop n body))
    ∙ ap (λ (l : List ℕ). before ++ l) (append_assoc (take n body) (drop n body) after)
    ∙ sym (append_assoc before (take n body) (drop n body ++ after))

tcp-lies : (frame before after : List ℕ) (source target : Addr) (declared : ℕ) (body : List ℕ) → frame ≡ before ++ (body ++ after)
    → PayloadLiesIn frame (tcp source target declared body)
unfolding tcp
tcp-lies frame before after source target declared body e =
    cond-lies frame (tcp_short body) _ _ tt (before ++ take (header_length body) body, after, back before body after (header_length body) frame e)

udp-lies : (frame before after : List ℕ) (source target : Addr) (declared : ℕ) (body : List ℕ) → frame ≡ before ++ (body ++ after)
    → PayloadLiesIn frame (udp source target declared body)
unfolding udp
udp-lies frame before after source target declared body e =
    cond-lies frame (is_short body) _ _ tt
    (before ++ take 8 body, drop (payload_length declared body) (drop 8 body) ++ after, part before body after 8 (payload_length declared body) frame e)

transport-lies : (frame : List ℕ) (c : Carried) → LiesIn frame c → PayloadLiesIn frame (transport c)
transport-lies frame (Ip proto source target declared body) (before, after, e) =
    cond-lies frame (nat_eq proto 6) _ _ (tcp-lies frame before after source target declared body e)
    (cond-lies frame (nat_eq proto 17) _ _ (udp-lies frame before after source target declared body e) tt)
transport-lies frame Fragment h = tt
transport-lies frame Other h = tt
transport-lies frame Short h = tt

pub kind-lies : (link : Link) (frame : List ℕ) → PayloadLiesIn frame (kind_of link frame)
kind-lies link frame = transport-lies frame (network link frame) (network-lies link frame)
