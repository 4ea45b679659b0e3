use Rattle.std.specs.Prelude.{◌≡◌, ℕ, ◌+◌, ◌*◌, ◌/◌, ◌%◌, ◌<◌, ◌≤◌, List, get_or, slice_set}
use Rattle.pcapfile.specs.Written.{written_frame}
use Rattle.pcapgen.specs.declared.draws.Drawn.{Drawn}
use Rattle.pcapgen.specs.Draws.{drawn_from, next, state_before}
use Rattle.pcapgen.specs.Flows.{begin_of, reached, sent_before}
use Rattle.pcapgen.specs.Frame.{frame}

-- What a generator keeps: the state, the number of records made, and how far each direction was sent, flow by flow.
pub record Kept : Type 0 where
  pub state : ℕ
  pub number : ℕ
  pub sent : List ℕ

-- it stands before the i-th record of a seed
pub record StandsFor (seed i : ℕ) (kept : Kept) : Type 0 where
  pub state : kept.state ≡ state_before seed i
  pub number : kept.number ≡ i
  pub sent : (flow way : ℕ) → flow < 64 → way < 2 → get_or kept.sent (2 * flow + way) 0 ≡ sent_before seed flow way i

-- no direction was sent further than 400 bytes a record
abbrev pub IsBounded : ℕ → List ℕ → Type 0
IsBounded number sent = (place : ℕ) → place < 128 → get_or sent place 0 ≤ 400 * number

-- where a record's direction stands among what is kept
abbrev pub place : Drawn → ℕ
place drawn = 2 * drawn.flow + drawn.way

-- the next record by what is kept
abbrev pub next_record : Kept → List ℕ
next_record kept =
    let drawn = drawn_from kept.state in
    written_frame (kept.number / 1000) (kept.number % 1000 * 1000) (frame drawn (begin_of drawn (get_or kept.sent (place drawn) 0)))

-- what is kept behind it
abbrev pub behind : Kept → Kept
behind kept =
    let drawn = drawn_from kept.state in
    record {
      state = next (next (next (next kept.state)));
      number = kept.number + 1;
      sent = slice_set kept.sent (place drawn) (reached drawn (get_or kept.sent (place drawn) 0));
    }
