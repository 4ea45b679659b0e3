-- One core: what a prefix of its book makes of it.
use Rattle.std.specs.Prelude.{⊤, ℕ, suc, ◌+◌, Bool, true, false, cond, not, ◌&&◌, ◌||◌, ◌==◌, nat_lt, List, [], ◌∷◌, ◌++◌, map, filter, flat_map, Option, Some, None, max}
use Rattle.evring.specs.declared.reason.Reason.{Reason}
use Rattle.evring.specs.declared.reason.Reason.TheVariants.{Idle, Finish}
use Rattle.streamkey.specs.declared.key.Key.{Key}
use Rattle.streamdefs.specs.Lists.{or_else}
use Rattle.streamdefs.specs.Packet.{Packet, no_packet, is_tcp, has_syn, same_key}
use Rattle.streamdefs.specs.Terms.{Terms}
use Rattle.streamdefs.specs.Convo.{Act, Convo, Event, new_convo, after, events_in, ending, is_live, time_dues, idle_dues}
use Rattle.streamdefs.specs.Convo.Act.{Seg, Answer, Time, End}

-- an entry of a core's book, under its conversation
pub record Line : Type 0 where
  pub conv : ℕ
  pub act : Act

-- the history of a conversation: its entries, in the core's order
abbrev pub history : ℕ → List Line → List Act
history id lines = map (λ line. line.act) (filter (λ line. line.conv == id) lines)

-- an End that the core's next entry has to be
pub record Owed : Type 0 where
  pub conv : ℕ
  pub reason : Reason
  pub at : ℕ

-- an event of a core, with its conversation
pub record Told : Type 0 where
  pub conv : ℕ
  pub event : Event

-- a conversation with its number
pub record Open : Type 0 where
  pub id : ℕ
  pub convo : Convo

-- What a prefix of its book makes of a core: its conversations in the order in which they opened, all its events and how
-- many of them are answered, the End that its last entry made due, that last entry (Answers aside), the greatest moment of
-- its Times and its Ends of `idle`, and the conversation of its last End of `finish`.
pub record Core : Type 0 where
  pub convos : List Open
  pub events : List Told
  pub answered : ℕ
  pub owed : Option Owed
  pub last : Option Line
  pub timed : ℕ
  pub finished : Option ℕ

-- before any entry
abbrev pub idle_core : Core
idle_core = record { convos = []; events = []; answered = 0; owed = None; last = None; timed = 0; finished = None }

-- the conversation of a number, where it opened
abbrev pub find_convo : ℕ → List Open → Option Convo
find_convo id [] = None
find_convo id (o ∷ os) = cond (o.id == id) (Some o.convo) (find_convo id os)

-- a conversation in the place of the one with its number, or behind all others
abbrev pub put_convo : ℕ → Convo → List Open → List Open
put_convo id c [] = record { id = id; convo = c } ∷ []
put_convo id c (o ∷ os) = cond (o.id == id) (record { id = id; convo = c } ∷ os) (o ∷ put_convo id c os)

-- a key's last conversation
abbrev pub latest_of : Key → List Open → Option Open
latest_of key [] = None
latest_of key (o ∷ os) = or_else (latest_of key os) (cond (same_key o.convo.first.key key) (Some o) None)

-- the conversation that an entry finds; a first packet finds a new one
abbrev pub found_by : Core → Line → Convo
found_by core line = known (find_convo line.conv core.convos) line.act
  where
    known : Option Convo → Act → Convo
    known (Some c) act = c
    known None (Seg p now looks frees) = new_convo p
    known None _ = new_convo no_packet

-- whether an entry is an Answer
abbrev pub is_answer : Act → Bool
is_answer (Answer event advice frees) = true
is_answer _ = false

-- the greatest moment of Times and Ends of `idle`, with an entry
abbrev pub timed_by : ℕ → Act → ℕ
timed_by timed (Time at looks frees) = max timed at
timed_by timed (End at Idle looks frees) = max timed at
timed_by timed _ = timed

-- the conversation of the last End of `finish`, with an entry
abbrev pub finished_by : Option ℕ → Line → Option ℕ
finished_by finished line = by line.act
  where
    by : Act → Option ℕ
    by (End at Finish looks frees) = Some line.conv
    by _ = finished

-- the End that is owed to a conversation
abbrev pub owed_by : ℕ → Option (Reason × ℕ) → Option Owed
owed_by conv None = None
owed_by conv (Some ending) = Some (record { conv = conv; reason = ending.0; at = ending.1 })

-- the core after an entry
abbrev pub core_after : Terms → Core → Line → Core
core_after terms core line =
    let c = found_by core line in
    record {
      convos = put_convo line.conv (after terms c line.act) core.convos;
      events = core.events ++ map (λ event. record { conv = line.conv; event = event }) (events_in terms c line.act);
      answered = cond (is_answer line.act) (suc core.answered) core.answered;
      owed = cond (is_answer line.act) core.owed (owed_by line.conv (ending terms c line.act));
      last = cond (is_answer line.act) core.last (Some line);
      timed = timed_by core.timed line.act;
      finished = finished_by core.finished line;
    }

-- the core after a book
abbrev pub core_at : Terms → Core → List Line → Core
core_at terms core [] = core
core_at terms core (line ∷ lines) = core_at terms (core_after terms core line) lines

-- a law of each entry, given what the entries before it made of the core
abbrev pub Along : Terms → (Core → Line → Type 0) → Core → List Line → Type 0
Along terms Law core [] = ⊤
Along terms Law core (line ∷ lines) = Law core line × Along terms Law (core_after terms core line) lines

-- The conversation that a packet belongs to: its key's live one; a late TCP packet's ended one; else a new one.
abbrev pub conversation_of : Terms → Core → Packet → ℕ → ℕ
conversation_of terms core p now = of (latest_of p.key core.convos)
  where
    of : Option Open → ℕ
    of None = p.number
    of (Some o) = cond (is_live o.convo || (is_tcp p && not (has_syn p) && nat_lt now (o.convo.clock + terms.idle))) o.id p.number

-- the moment at which a conversation is due for a Time, or for its End of `idle`
pub record Due : Type 0 where
  pub at : ℕ
  pub conv : ℕ
  pub idle : Bool

-- the dues of a conversation
abbrev pub dues_of : Terms → Open → List Due
dues_of terms o =
    map (λ at. record { at = at; conv = o.id; idle = false }) (time_dues terms o.convo)
    ++ map (λ at. record { at = at; conv = o.id; idle = true }) (idle_dues terms o.convo)

-- the dues of a core: those of all its conversations
abbrev pub dues : Terms → Core → List Due
dues terms core = flat_map (dues_of terms) core.convos

-- by moment, then by conversation, a Time before the End of `idle`
abbrev pub is_sooner : Due → Due → Bool
is_sooner a b = nat_lt a.at b.at || ((a.at == b.at) && (nat_lt a.conv b.conv || ((a.conv == b.conv) && not a.idle && b.idle)))

-- the sooner of two
abbrev pub sooner : Due → Option Due → Due
sooner d None = d
sooner d (Some e) = cond (is_sooner e d) e d

-- the first of these
abbrev pub first_due : List Due → Option Due
first_due [] = None
first_due (d ∷ ds) = Some (sooner d (first_due ds))
