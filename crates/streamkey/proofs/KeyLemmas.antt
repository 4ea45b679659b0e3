use Rattle.std.proofs.Common.{◌≡◌, ◌≢◌, Bool, true, false, sym, ◌∙◌, ap, refl, cond, subst}
use Rattle.streamkey.specs.declared.proto.Proto.{Proto}
use Rattle.streamkey.specs.declared.end.End.{End}
use Rattle.streamkey.specs.declared.key.Key.{Key}
use Rattle.streamkey.specs.declared.toward.Toward.{Toward}
use Rattle.streamkey.specs.declared.toward.Toward.TheVariants.{Up, Down}
use Rattle.streamkey.specs.Order.{end_before}
use Rattle.streamkey.specs.Key.{key_of, source_of, target_of, opposite, IsOrdered}
use Rattle.streamkey.specs.Packet.{IsWay}
use Rattle.streamkey.proofs.OrderLemmas.{end_before-turned, end_before-same}

-- the key and way by what is known of the ends
key_when : Proto → End → End → Bool → Key × Toward
key_when proto source target b =
    cond b (record { proto = proto; low = target; high = source }, Down) (record { proto = proto; low = source; high = target }, Up)

pub key_of-down : (proto : Proto) (source target : End) → end_before target source ≡ true
    → key_of proto source target ≡ (record { proto = proto; low = target; high = source }, Down)
unfolding key_when
key_of-down proto source target h = ap (λ (b : Bool). key_when proto source target b) h

pub key_of-up : (proto : Proto) (source target : End) → end_before target source ≡ false
    → key_of proto source target ≡ (record { proto = proto; low = source; high = target }, Up)
unfolding key_when
key_of-up proto source target h = ap (λ (b : Bool). key_when proto source target b) h

-- the key and the way of two ends are those of a packet between them
way_when : (proto : Proto) (source target : End) (b : Bool) → end_before target source ≡ b → IsWay (key_of proto source target).0 (key_of proto source target).1
way_when proto source target true e =
    subst (λ (p : Key × Toward). IsWay p.0 p.1) (sym (key_of-down proto source target e)) (key_of-down proto source target e)
way_when proto source target false e =
    subst (λ (p : Key × Toward). IsWay p.0 p.1) (sym (key_of-up proto source target e)) (key_of-up proto source target e)

pub way_of-ends : (proto : Proto) (source target : End) → IsWay (key_of proto source target).0 (key_of proto source target).1
way_of-ends proto source target = way_when proto source target _ refl

-- two ends that differ: one comes before the other
end_before-apart : (b : Bool) (low high : End) → end_before low high ≡ b → end_before high low ≡ false → low ≢ high → b ≡ true
end_before-apart true low high e h apart = refl
end_before-apart false low high e h apart = absurd (apart (end_before-same low high e h))

pub readings-apart : (key : Key) (toward : Toward) → IsOrdered key → key.low ≢ key.high
    → key_of key.proto (source_of key toward) (target_of key toward) ≡ (key, toward)
readings-apart key Up h apart = key_of-up key.proto key.low key.high h
readings-apart key Down h apart = key_of-down key.proto key.high key.low (end_before-apart (end_before key.low key.high) key.low key.high refl h apart)

pub readings-same : (key : Key) (toward : Toward) → IsOrdered key → key.low ≡ key.high
    → key_of key.proto (source_of key toward) (target_of key toward) ≡ (key, Up)
readings-same key Up h same = key_of-up key.proto key.low key.high h
readings-same key Down h same =
    ap (λ (e : End). key_of key.proto e key.low) (sym same) ∙ ap (λ (e : End). key_of key.proto key.low e) same ∙ key_of-up key.proto key.low key.high h

-- the two ways of one pair of ends, by which of them comes first
ways_when : (proto : Proto) (source target : End) (b c : Bool) → end_before target source ≡ b → end_before source target ≡ c
    → ((key_of proto target source).0 ≡ (key_of proto source target).0) × (source ≢ target → (key_of proto target source).1 ≡ opposite (key_of proto source target).1)
ways_when proto source target true true e f = absurd (cc (end_before-turned target source e))
ways_when proto source target true false e f =
    let down = key_of-down proto source target e in
    let up = key_of-up proto target source f in
    (ap (λ (p : Key × Toward). p.0) up ∙ sym (ap (λ (p : Key × Toward). p.0) down), λ apart. ap (λ (p : Key × Toward). p.1) up ∙ sym (ap (λ (p : Key × Toward). opposite p.1) down))
ways_when proto source target false true e f =
    let down = key_of-down proto target source f in
    let up = key_of-up proto source target e in
    (ap (λ (p : Key × Toward). p.0) down ∙ sym (ap (λ (p : Key × Toward). p.0) up), λ apart. ap (λ (p : Key × Toward). p.1) down ∙ sym (ap (λ (p : Key × Toward). opposite p.1) up))
ways_when proto source target false false e f =
    let same : target ≡ source = end_before-same target source e f in
    (ap (λ (a : End). (key_of proto a source).0) same ∙ sym (ap (λ (a : End). (key_of proto source a).0) same), λ apart. absurd (apart (sym same)))

pub both_ways : (proto : Proto) (source target : End)
    → ((key_of proto target source).0 ≡ (key_of proto source target).0) × (source ≢ target → (key_of proto target source).1 ≡ opposite (key_of proto source target).1)
both_ways proto source target = ways_when proto source target _ _ refl refl
