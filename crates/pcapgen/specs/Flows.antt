use Rattle.std.specs.Prelude.{ℕ, zero, suc, ◌+◌, ◌-◌, ◌%◌, min, max, nat_eq, Bool, ◌&&◌, if◌then◌else◌}
use Rattle.pcapgen.specs.declared.draws.Drawn.{Drawn}
use Rattle.pcapgen.specs.Draws.{drawn_at}

-- The 64 flows of a made capture, and how far each of their directions was sent.

-- even flows are of TCP, odd ones of UDP
abbrev pub is_tcp : ℕ → Bool
is_tcp flow = nat_eq (flow % 2) 0

-- where a record's payload begins in its direction, of which so much was sent before.
-- In one of eight steps TCP sends its last 50 bytes again, in one it leaves out as many as it sends.
unfoldable pub begin_of : Drawn → ℕ → ℕ
begin_of drawn sent =
    if is_tcp drawn.flow && nat_eq drawn.step 0 then sent - min sent 50
    else (if is_tcp drawn.flow && nat_eq drawn.step 1 then sent + drawn.len else sent)

-- how far its direction is sent behind it
unfoldable pub reached : Drawn → ℕ → ℕ
reached drawn sent = max sent (begin_of drawn sent + drawn.len)

-- whether it is of that flow and way
abbrev pub is_of : Drawn → ℕ → ℕ → Bool
is_of drawn flow way = nat_eq drawn.flow flow && nat_eq drawn.way way

-- how far a flow was sent on a way before the i-th record
abbrev pub sent_before : ℕ → ℕ → ℕ → ℕ → ℕ
sent_before seed flow way zero = 0
sent_before seed flow way (suc i) =
    let drawn = drawn_at seed i in
    let sent = sent_before seed flow way i in
    if is_of drawn flow way then reached drawn sent else sent

-- where the payload of the i-th record begins
abbrev pub begin_at : ℕ → ℕ → ℕ
begin_at seed i = let drawn = drawn_at seed i in begin_of drawn (sent_before seed drawn.flow drawn.way i)
