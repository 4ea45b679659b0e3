use Rattle.std.specs.Prelude.{ℕ, ◌≡◌, zero, suc, List, [], ◌∷◌, Some, if◌then◌else◌}
use Rattle.std.specs.Str.{bytes_eq}
use Rattle.scap_world.specs.Files.{File, file_of}
use Rattle.scap_world.specs.MemSink as sink
use Rattle.scap_world.specs.MemSource as source
use Rattle.scap_world.specs.Plans.{Planned, no_calls}
use Rattle.scap_world.specs.Tables.{count_of}
use Rattle.scap_world.specs.declared.in_memory.fail_call.FailCall.TheVariants.{Read, Write}
use Rattle.scap_world.specs.declared.in_memory.shelf.MemShelf.{MemShelf}
use Rattle.scap_world.specs.declared.in_memory.sink.MemSink.{MemSink}
use Rattle.scap_world.specs.declared.in_memory.source.MemSource.{MemSource}

-- its files
abbrev pub files_of : MemShelf → List File
files_of shelf = shelf.files

-- how often opening or reading a name has failed
abbrev pub read_count : MemShelf → List ℕ → ℕ
read_count shelf = count_of shelf.reads

-- how often creating, writing or finishing a name has failed
abbrev pub write_count : MemShelf → List ℕ → ℕ
write_count shelf = count_of shelf.writes

-- the number where the file of that index has the name, else 0
abbrev pub number_at : List File → ℕ → ℕ → List ℕ → ℕ
number_at [] i n name = 0
number_at (file ∷ files) zero n name = if bytes_eq file.0 name then n else 0
number_at (file ∷ files) (suc i) n name = number_at files i n name

-- how many bytes were taken under a name from the source that was ended last
abbrev pub taken_under : MemShelf → List ℕ → ℕ
taken_under shelf = number_at shelf.files shelf.last shelf.number

-- what is told to fail
abbrev pub planned : MemShelf → List Planned
planned shelf = shelf.plans

-- how many bytes go in one read or write at most
abbrev pub piece_of : MemShelf → ℕ
piece_of shelf = shelf.most

-- how many sources and sinks are out
abbrev pub open_count : MemShelf → ℕ
open_count shelf = shelf.open_files

-- every count of faults is as it was
pub record KeepsCounts (old new : MemShelf) : Type 0 where
  pub reads : (name : List ℕ) → read_count new name ≡ read_count old name
  pub writes : (name : List ℕ) → write_count new name ≡ write_count old name

-- whatever is told is as it was
pub record IsUnchanged (old new : MemShelf) : Type 0 where
  pub files : files_of new ≡ files_of old
  pub counts : KeepsCounts old new
  pub taken : (name : List ℕ) → taken_under new name ≡ taken_under old name
  pub planned : planned new ≡ planned old
  pub piece : piece_of new ≡ piece_of old
  pub open_files : open_count new ≡ open_count old

-- the source has the whole file left, and those reads on it fail that are told to
pub record IsOpened (shelf : MemShelf) (name : List ℕ) (opened : MemSource) : Type 0 where
  pub left : file_of (files_of shelf) name ≡ Some (source.left_of opened)
  pub taken : source.taken_of opened ≡ 0
  pub piece : source.piece_of opened ≡ piece_of shelf
  pub reads : source.reads_of opened ≡ no_calls name Read (planned shelf)

-- the sink holds nothing, and those writes on it fail that are told to
pub record IsCreated (shelf : MemShelf) (name : List ℕ) (created : MemSink) : Type 0 where
  pub held : sink.held_of created ≡ []
  pub piece : sink.piece_of created ≡ piece_of shelf
  pub writes : sink.writes_of created ≡ no_calls name Write (planned shelf)
