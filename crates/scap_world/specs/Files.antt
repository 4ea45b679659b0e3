use Rattle.std.specs.Prelude.{ℕ, ◌≡◌, List, [], take, Option, Some, None, IsSome}
use Rattle.scap_world.specs.Tables.{value_of, with_value}

-- a file's name and its bytes
abbrev pub File : Type 0
File = List ℕ × List ℕ

-- the bytes of the first file of that name
abbrev pub file_of : List File → List ℕ → Option (List ℕ)
file_of files name = value_of files name

-- the files with that one in the place of the first of its name, or at the end
abbrev pub put : List ℕ → List ℕ → List File → List File
put name bytes files = with_value name bytes files

-- the same of files that may not be told
abbrev pub told_file : Option (List File) → List ℕ → Option (List ℕ)
told_file None name = None
told_file (Some files) name = file_of files name

abbrev pub told_put : List ℕ → List ℕ → Option (List File) → Option (List File)
told_put name bytes None = None
told_put name bytes (Some files) = Some (put name bytes files)

-- nothing, where files are told
abbrev pub emptied : Option (List File) → Option (List ℕ)
emptied None = None
emptied (Some files) = Some []

-- what is held becomes the file of that name
abbrev pub told_kept : List ℕ → Option (List ℕ) → Option (List File) → Option (List File)
told_kept name None files = files
told_kept name (Some held) files = told_put name held files

-- a front of what is held
abbrev pub fronted : ℕ → Option (List ℕ) → Option (List ℕ)
fronted n None = None
fronted n (Some held) = Some (take n held)

-- a front of what is held becomes the file of that name
abbrev pub KeepsFront : List ℕ → Option (List ℕ) → Option (List File) → Option (List File) → Type 0
KeepsFront name held old new = (n : ℕ) × (new ≡ told_kept name (fronted n held) old)

-- where files are told, one of that name is there
abbrev pub IsThere : Option (List File) → List ℕ → Type 0
IsThere None name = Unit {0}
IsThere (Some files) name = IsSome (file_of files name)
