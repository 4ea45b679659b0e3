use Rattle.std.proofs.Common.{◌≡◌, ◌≢◌, ℕ, List, [], refl, ap, sym, ◌∙◌, subst}
use Rattle.std.specs.Prelude.{Option, Some, None}
use Rattle.scap_world.proofs.TablesLemmas.{value_of-with_value, value_of-with_value_other, with_value-with_value}
use Rattle.scap_world.specs.Files.{File, put, file_of, told_put, told_kept, told_file, emptied}
use Rattle.scap_world.specs.Contents.{extended}

pub file_of-put : (files : List File) (name bytes : List ℕ) → file_of (put name bytes files) name ≡ Some bytes
file_of-put files name bytes = value_of-with_value files name bytes

pub file_of-put_other : (files : List File) (name bytes other : List ℕ) → other ≢ name → file_of (put name bytes files) other ≡ file_of files other
file_of-put_other files name bytes other ne = value_of-with_value_other files name bytes other ne

pub put-put : (files : List File) (name first second : List ℕ) → put name second (put name first files) ≡ put name second files
put-put files name first second = with_value-with_value files name first second

-- what was made empty, written and finished is the file with these bytes
pub told_kept-written : (files : Option (List File)) (name bytes : List ℕ) → told_kept name (extended (emptied files) bytes) (told_put name [] files) ≡ told_put name bytes files
told_kept-written None name bytes = refl
told_kept-written (Some files) name bytes = ap Some (put-put files name [] bytes)

pub told_file-put_other : (files : Option (List File)) (name bytes other : List ℕ) → other ≢ name → told_file (told_put name bytes files) other ≡ told_file files other
told_file-put_other None name bytes other ne = refl
told_file-put_other (Some files) name bytes other ne = file_of-put_other files name bytes other ne

pub file_of-others : (old new : List File) (name bytes : List ℕ) → new ≡ put name bytes old → (other : List ℕ) → other ≢ name → file_of new other ≡ file_of old other
file_of-others old new name bytes e other ne = subst (λ (f : List File). file_of f other ≡ file_of old other) (sym e) (file_of-put_other old name bytes other ne)

-- a file that was made, written whole and finished
pub file_written : (name bytes : List ℕ) (files made finished : Option (List File)) (empty held : Option (List ℕ))
    → empty ≡ emptied files → made ≡ told_put name [] files → held ≡ extended empty bytes → finished ≡ told_kept name held made
    → finished ≡ told_put name bytes files
file_written name bytes files made finished empty held e m h f =
    f ∙ ap (λ (l : Option (List ℕ)). told_kept name l made) (h ∙ ap (λ (l : Option (List ℕ)). extended l bytes) e)
    ∙ ap (λ (l : Option (List File)). told_kept name (extended (emptied files) bytes) l) m
    ∙ told_kept-written files name bytes
