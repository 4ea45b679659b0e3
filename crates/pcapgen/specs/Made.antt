use Rattle.std.specs.Prelude.{ℕ, zero, suc, ◌*◌, ◌/◌, ◌%◌, List, [], ◌++◌}
use Rattle.pcapfile.specs.Written.{written_frame, written_head}
use Rattle.pcapgen.specs.Draws.{drawn_at}
use Rattle.pcapgen.specs.Flows.{begin_at}
use Rattle.pcapgen.specs.Frame.{frame}

-- The made capture of a seed.

-- its i-th record, from 0: one each millisecond
abbrev pub made_record : ℕ → ℕ → List ℕ
made_record seed i = written_frame (i / 1000) (i % 1000 * 1000) (frame (drawn_at seed i) (begin_at seed i))

-- its first records, one after the other
abbrev pub made_records : ℕ → ℕ → List ℕ
made_records seed zero = []
made_records seed (suc i) = made_records seed i ++ made_record seed i

-- the file of so many records
abbrev pub made_file : ℕ → ℕ → List ℕ
made_file seed count = written_head ++ made_records seed count
