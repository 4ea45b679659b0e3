use Rattle.std.proofs.Common.{◌≡◌, ℕ, List, [], length, take, refl, ap, sym, ◌∙◌, inl, inr, arith}
use Rattle.std.specs.Prelude.{Option, Some, None, Result, Ok, Err, OnOk, OnErr}
use Rattle.std.proofs.lemmas.Bool.{cases_lt}
use Rattle.std.proofs.lemmas.List.{take_all, take-take, length-take}
use Rattle.scap_world.specs.Contents.{extended, GainsFront}
use Rattle.scap_world.specs.Files.{File, put, told_file, told_put, told_kept, emptied, fronted, KeepsFront}
use Rattle.scap_world.specs.declared.fault.Failed.{Failed}
use Rattle.scap_world.proofs.FilesLemmas.{file_of-put}
use Rattle.labtop.specs.Answers.{IsPart}

-- a front of a front
front_of_front : (m n : ℕ) (xs : List ℕ) → (k : ℕ) × (take m (take n xs) ≡ take k xs)
front_of_front m n xs = elim (cases_lt m n) [
  | inl h ↦ (m, take-take m n xs (omega arith))
  | inr h ↦ (n, take_all m (take n xs) (omega (arith, length-take n xs)))
]

-- all that is held is a front of it
whole_front : (held : Option (List ℕ)) → (m : ℕ) × (held ≡ fronted m held)
whole_front None = (0, refl)
whole_front (Some bytes) = (length bytes, ap Some (sym (take_all (length bytes) bytes (omega arith))))

-- a front of what was written, kept in a file that was made
part_kept : (old new : Option (List File)) (name text : List ℕ) (n m : ℕ)
    → new ≡ told_kept name (fronted m (extended (emptied old) (take n text))) (told_put name [] old)
    → IsPart text (told_file old name) (told_file new name)
part_kept None new name text n m e = inl (ap (λ (f : Option (List File)). told_file f name) e)
part_kept (Some files) new name text n m e = let k = front_of_front m n text in
    inr (k.0, ap (λ (f : Option (List File)). told_file f name) e ∙ file_of-put (put name [] files) name (take m (take n text)) ∙ ap Some k.1)

part_at : (old made new : Option (List File)) (name text : List ℕ) (empty held : Option (List ℕ)) (n : ℕ)
    → empty ≡ emptied old → made ≡ told_put name [] old → held ≡ extended empty (take n text) → KeepsFront name held made new
    → IsPart text (told_file old name) (told_file new name)
part_at old made new name text empty held n e m h k =
    part_kept old new name text n k.0 (k.1
    ∙ ap (λ (x : Option (List ℕ)). told_kept name (fronted k.0 x) made) (h ∙ ap (λ (x : Option (List ℕ)). extended x (take n text)) e)
    ∙ ap (λ (f : Option (List File)). told_kept name (fronted k.0 (extended (emptied old) (take n text))) f) m)

kept_whole : (name : List ℕ) (held : Option (List ℕ)) (made new : Option (List File)) → new ≡ told_kept name held made → KeepsFront name held made new
kept_whole name held made new e = let k = whole_front held in (k.0, e ∙ ap (λ (x : Option (List ℕ)). told_kept name x made) k.1)

kept_either : (name : List ℕ) (held : Option (List ℕ)) (made new : Option (List File)) (r : Result (Unit {0}) Failed)
    → OnOk r (new ≡ told_kept name held made) → OnErr r (KeepsFront name held made new) → KeepsFront name held made new
kept_either name held made new (Ok u) o e = kept_whole name held made new o
kept_either name held made new (Err x) o e = e

-- writing failed, however the file was finished
pub part_of_failed : (old made new : Option (List File)) (name text : List ℕ) (empty held : Option (List ℕ)) (r : Result (Unit {0}) Failed)
    → empty ≡ emptied old → made ≡ told_put name [] old → GainsFront empty held text
    → OnOk r (new ≡ told_kept name held made) → OnErr r (KeepsFront name held made new)
    → IsPart text (told_file old name) (told_file new name)
part_of_failed old made new name text empty held r e m g o k =
    part_at old made new name text empty held g.0 e m g.1 (kept_either name held made new r o k)

-- all was written, and a front of it was kept
pub part_of_written : (old made new : Option (List File)) (name text : List ℕ) (empty held : Option (List ℕ))
    → empty ≡ emptied old → made ≡ told_put name [] old → held ≡ extended empty text → KeepsFront name held made new
    → IsPart text (told_file old name) (told_file new name)
part_of_written old made new name text empty held e m h k =
    part_at old made new name text empty held (length text) e m
    (h ∙ ap (λ (x : List ℕ). extended empty x) (sym (take_all (length text) text (omega arith)))) k

-- the whole text was kept
pub part_of_whole : (old new : Option (List File)) (name text : List ℕ) → new ≡ told_put name text old → IsPart text (told_file old name) (told_file new name)
part_of_whole None new name text e = inl (ap (λ (f : Option (List File)). told_file f name) e)
part_of_whole (Some files) new name text e =
    inr (length text, ap (λ (f : Option (List File)). told_file f name) e ∙ file_of-put files name text ∙ ap Some (sym (take_all (length text) text (omega arith))))
