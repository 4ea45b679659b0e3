-- The lines of a delivery file: docs/FORMATS.md, "Delivery lines".
use Rattle.std.specs.Prelude.{ℕ, List, [], ◌∷◌, ◌++◌, length, codes}
use Rattle.std.specs.Fmt.{decimal}
use Rattle.hex.specs.Hex.{encode_lower}
use Rattle.textout.specs.Addresses.{dotted, grouped}
use Rattle.textout.specs.Texts.{spaced}
use Rattle.evring.specs.declared.reason.Reason.{Reason}
use Rattle.evring.specs.declared.reason.Reason.TheVariants.{Reset, Closed, Idle, Replaced, Finish}
use Rattle.evring.specs.declared.way.Way.{Way}
use Rattle.evring.specs.declared.way.Way.TheVariants.{Fore, Back}
use Rattle.streamkey.specs.declared.addr.Addr.{Addr}
use Rattle.streamkey.specs.declared.addr.Addr.TheVariants.{V4, V6}
use Rattle.streamkey.specs.declared.end.End.{End}
use Rattle.streamkey.specs.declared.proto.Proto.{Proto}
use Rattle.streamkey.specs.declared.proto.Proto.TheVariants.{Tcp, Udp}
use Rattle.streamkey.specs.Key.{source_of, target_of}
use Rattle.streamdefs.specs.Convo.{Seen}
use Rattle.streamdefs.specs.Convo.Seen.{Created, Data, Over}

-- an address
abbrev pub address_text : Addr → List ℕ
address_text (V4 a) = dotted a
address_text (V6 a) = grouped a

-- an end: its address and its port
unfoldable pub end_text : End → List ℕ
end_text end = address_text end.addr ++ codes " " ++ decimal end.port

-- a protocol
abbrev pub proto_word : Proto → List ℕ
proto_word Tcp = codes "tcp"
proto_word Udp = codes "udp"

-- a direction
abbrev pub way_mark : Way → List ℕ
way_mark Fore = codes ">"
way_mark Back = codes "<"

-- why a conversation ended
abbrev pub reason_word : Reason → List ℕ
reason_word Reset = codes "reset"
reason_word Closed = codes "closed"
reason_word Idle = codes "idle"
reason_word Replaced = codes "replaced"
reason_word Finish = codes "finish"

-- a conversation begins: the source and the target of its first packet
unfoldable pub new_line : ℕ → Proto → End → End → List ℕ
new_line conv proto source target =
    codes "new " ++ decimal conv ++ codes " " ++ proto_word proto ++ codes " " ++ end_text source ++ codes " " ++ end_text target ++ codes "\n"

-- bytes are delivered: where the fresh ones start, the gap before them, how many are a copy and how many were kept, and the bytes
unfoldable pub data_line : ℕ → Way → (start gap over kept : ℕ) → List ℕ → List ℕ
data_line conv way start gap over kept shown =
    codes "data " ++ decimal conv ++ codes " " ++ way_mark way ++ spaced (start ∷ gap ∷ over ∷ kept ∷ []) ++ codes " " ++ encode_lower shown ++ codes "\n"

-- a conversation ends
unfoldable pub end_line : ℕ → Reason → List ℕ
end_line conv reason = codes "end " ++ decimal conv ++ codes " " ++ reason_word reason ++ codes "\n"

-- the line of an event
abbrev pub event_line : ℕ → Seen → List ℕ
event_line conv (Created key toward) = new_line conv key.proto (source_of key toward) (target_of key toward)
event_line conv (Data key way start gap over kept shown) = data_line conv way start gap over (length kept) shown
event_line conv (Over reason) = end_line conv reason
