-- What a table leaves of its course.
use Rattle.std.specs.Prelude.{◌≡◌, map}
use Rattle.streamdefs.specs.Terms.{Terms}
use Rattle.coretable.specs.Course.{Course}
use Rattle.coretable.specs.Standing.{entry_of}
use Rattle.coretable.specs.Summed.{Ascend, totals_on}
use Rattle.coretable.specs.declared.table_book.CoreBook.{CoreBook}

-- the book of the course's lines, and the totals of these lines, by ascending number
pub record IsLeftOf (t : Terms) (m : Course) (left : CoreBook) : Type 0 where
  pub entries : left.entries ≡ map entry_of m.lines
  pub totals : left.totals.items ≡ totals_on t m.lines
  pub order : Ascend 0 left.totals.items
