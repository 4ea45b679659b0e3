use Rattle.std.proofs.Common.{◌≡◌, ℕ, suc, zero, ◌+◌, ◌≤◌, List, [], ◌++◌, length, take, refl, ap, sym, subst, ◌∙◌, inl, inr, arith, append_assoc}
use Rattle.std.specs.Prelude.{Option, Some, None, Result, Ok, Err, OnOk, OnErr}
use Rattle.std.proofs.Math.Seq.{take-append-add, take-append_seam}
use Rattle.std.proofs.lemmas.Bool.{cases_lt}
use Rattle.std.proofs.lemmas.List.{append-nil, take-append-le, take_all}
use Rattle.pcapfile.specs.Written.{written_head}
use Rattle.scap_world.specs.Contents.{extended, GainsFront}
use Rattle.pcapgen.specs.Kept.{Kept, StandsFor}
use Rattle.pcapgen.specs.Made.{made_file, made_record, made_records}
use Rattle.pcapgen.specs.Writing.{Reaches, LeavesFront, ReachesNext, StaysReached}

-- What a writer of a made capture reaches.

extended-extended : (start : Option (List ℕ)) (a b : List ℕ) → extended (extended start a) b ≡ extended start (a ++ b)
extended-extended None a b = refl
extended-extended (Some bytes) a b = ap Some (append_assoc bytes a b)

extended-nil : (start : Option (List ℕ)) → start ≡ extended start []
extended-nil None = refl
extended-nil (Some bytes) = ap Some (sym (append-nil bytes))

-- Before the first record.
pub begun : (seed : ℕ) (start : Option (List ℕ)) (kept : Kept) (waiting : List ℕ) → StandsFor seed 0 kept → waiting ≡ written_head → Reaches seed 0 start start kept waiting
begun seed start kept waiting stands head = record {
  written = [];
  generator = stands;
  held = extended-nil start;
  text = head ∙ sym (append-nil written_head);
}

-- What waits is written.
pub flushed : {T E : Type 0} (r : Result T E) (held held' : Option (List ℕ)) (kept kept' : Kept) (waiting waiting' : List ℕ)
    → OnOk r (held' ≡ extended held waiting) → OnOk r (waiting' ≡ []) → kept' ≡ kept → OnOk r (StaysReached held held' kept kept' waiting waiting')
flushed (Ok x) held held' kept kept' waiting waiting' p q e = λ seed i start r. record {
  written = r.written ++ waiting;
  generator = subst (StandsFor seed i) (sym e) r.generator;
  held = p ∙ ap (λ (h : Option (List ℕ)). extended h waiting) r.held ∙ extended-extended start r.written waiting;
  text = ap (λ (w : List ℕ). (r.written ++ waiting) ++ w) q ∙ append-nil (r.written ++ waiting) ∙ r.text;
}
flushed (Err x) held held' kept kept' waiting waiting' p q e = tt

-- A front of what waits is written.
front_written : (held held' : Option (List ℕ)) (kept : Kept) (waiting : List ℕ) → GainsFront held held' waiting → LeavesFront held held' kept waiting
front_written held held' kept waiting g = λ seed i start r. (
  length r.written + g.0,
  g.1 ∙ ap (λ (h : Option (List ℕ)). extended h (take g.0 waiting)) r.held ∙ extended-extended start r.written (take g.0 waiting)
      ∙ ap (λ (t : List ℕ). extended start t) (sym (take-append-add r.written waiting g.0))
      ∙ ap (λ (t : List ℕ). extended start (take (length r.written + g.0) t)) r.text,
)

pub flush_failed : {T E : Type 0} (r : Result T E) (held held' : Option (List ℕ)) (kept : Kept) (waiting : List ℕ)
    → OnErr r (GainsFront held held' waiting) → OnErr r (LeavesFront held held' kept waiting)
flush_failed (Ok x) held held' kept waiting g = tt
flush_failed (Err x) held held' kept waiting g = front_written held held' kept waiting g

-- A record more waits.
pub next_reached : (held held' : Option (List ℕ)) (kept between kept' : Kept) (waiting some waiting' : List ℕ) → StaysReached held held' kept between waiting some
    → ((seed i : ℕ) → StandsFor seed i between → (waiting' ≡ some ++ made_record seed i) × StandsFor seed (suc i) kept')
    → ReachesNext held held' kept kept' waiting waiting'
next_reached held held' kept between kept' waiting some waiting' stays next = λ seed i start r.
    let t : Reaches seed i start held' between some = stays seed i start r in
    let n : (waiting' ≡ some ++ made_record seed i) × StandsFor seed (suc i) kept' = next seed i t.generator in
    record {
      written = t.written;
      generator = n.1;
      held = t.held;
      text = ap (λ (w : List ℕ). t.written ++ w) n.0 ∙ sym (append_assoc t.written some (made_record seed i))
          ∙ ap (λ (x : List ℕ). x ++ made_record seed i) t.text ∙ append_assoc written_head (made_records seed i) (made_record seed i);
    }

-- No record more could be made.
pub none_made : (held held' : Option (List ℕ)) (kept between : Kept) (waiting some : List ℕ) → StaysReached held held' kept between waiting some → LeavesFront held held' kept waiting
none_made held held' kept between waiting some stays = λ seed i start r.
    let t : Reaches seed i start held' between some = stays seed i start r in (
      length t.written,
      t.held ∙ ap (λ (x : List ℕ). extended start x) (sym (take-append_seam t.written some)) ∙ ap (λ (x : List ℕ). extended start (take (length t.written) x)) t.text,
    )

-- The file of some records begins that of more.
records_front : (seed i count : ℕ) → i ≤ count → (rest : List ℕ) × (made_records seed count ≡ made_records seed i ++ rest)
records_front seed i zero h = let none : 0 ≡ i = omega arith in ([], ap (made_records seed) none ∙ sym (append-nil (made_records seed i)))
records_front seed i (suc n) h = elim (cases_lt n i) [
  | inl more ↦ let all : suc n ≡ i = omega arith in ([], ap (made_records seed) all ∙ sym (append-nil (made_records seed i)))
  | inr few ↦ let before = records_front seed i n few in
      (before.0 ++ made_record seed n, ap (λ (x : List ℕ). x ++ made_record seed n) before.1 ∙ append_assoc (made_records seed i) before.0 (made_record seed n))
]

front_of_more : (n : ℕ) (front rest : List ℕ) → (k : ℕ) × (take n front ≡ take k (front ++ rest))
front_of_more n front rest = elim (cases_lt (length front) n) [
  | inl long ↦ (length front, take_all n front (omega arith) ∙ sym (take-append_seam front rest))
  | inr short ↦ (n, sym (take-append-le n front rest short))
]

pub front_of_file : (seed i count : ℕ) (start held : Option (List ℕ)) → i ≤ count → GainsFront start held (made_file seed i) → GainsFront start held (made_file seed count)
front_of_file seed i count start held h g =
    let more = records_front seed i count h in
    let k = front_of_more g.0 (made_file seed i) more.0 in (
      k.0,
      g.1 ∙ ap (λ (x : List ℕ). extended start x) k.1
          ∙ ap (λ (x : List ℕ). extended start (take k.0 x)) (append_assoc written_head (made_records seed i) more.0 ∙ ap (λ (x : List ℕ). written_head ++ x) (sym more.1)),
    )

-- The end: all that waits is written, or a front of it.
pub all_written : {T E : Type 0} (r : Result T E) (seed i count : ℕ) (start held held' : Option (List ℕ)) (kept : Kept) (waiting : List ℕ) → i ≡ count
    → Reaches seed i start held kept waiting → OnOk r (held' ≡ extended held waiting) → OnOk r (held' ≡ extended start (made_file seed count))
all_written (Ok x) seed i count start held held' kept waiting e r p =
    p ∙ ap (λ (h : Option (List ℕ)). extended h waiting) r.held ∙ extended-extended start r.written waiting
    ∙ ap (λ (t : List ℕ). extended start t) (r.text ∙ ap (made_file seed) e)
all_written (Err x) seed i count start held held' kept waiting e r p = tt

pub rest_failed : {T E : Type 0} (r : Result T E) (seed i count : ℕ) (start held held' : Option (List ℕ)) (kept : Kept) (waiting : List ℕ) → i ≡ count
    → Reaches seed i start held kept waiting → OnErr r (GainsFront held held' waiting) → OnErr r (GainsFront start held' (made_file seed count))
rest_failed (Ok x) seed i count start held held' kept waiting e r g = tt
rest_failed (Err x) seed i count start held held' kept waiting e r g =
    front_of_file seed i count start held' (omega (arith, e)) (front_written held held' kept waiting g seed i start r)
