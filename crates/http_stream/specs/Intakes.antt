-- What the parts of a stream's loop do: reading, the head, the body, the end.
use Rattle.std.specs.Prelude.{◌≡◌, ℕ, ◌+◌, ◌<◌, ◌≤◌, ◌&&◌, Bool, true, false, nat_lt, List, [], ◌++◌, length, take, drop, Option, None, Some, IsSome, Result, Ok, Err, ◌⊎◌, if◌then◌else◌}
use Rattle.edge_io.specs.Counts.{Rose}
use Rattle.edge_io.specs.Told.{TellsNoMore, told}
use Rattle.http_messages.specs.Replies.{ReplyValue, reply_text}
use Rattle.http_messages.specs.Requests.{RequestValue}
use Rattle.http_framing.specs.declared.blanks.TheConstants.{MOST_HEAD_BYTES}
use Rattle.http_framing.specs.declared.fault.FrameFault.{FrameFault}
use Rattle.http_framing.specs.Faults.{fault_text}
use Rattle.http_framing.specs.Fronts.{Front, HasFront, continues, finished, refused, wants, whole}
use Rattle.http_framing.specs.Heads.{HeadValue, IsRead, blank_length, head_end}
use Rattle.http_framing.specs.HeadTests.{asks_continue, body_length}
use Rattle.http_stream.specs.declared.handler.HandleFault.{HandleFault}
use Rattle.http_stream.specs.declared.handler.HandleFault.TheVariants as faults
use Rattle.http_stream.specs.declared.ending.StreamEnd.{StreamEnd}
use Rattle.http_stream.specs.declared.ending.StreamEnd.TheVariants as ends
use Rattle.http_stream.specs.declared.stop.Stop.{Stop}
use Rattle.http_stream.specs.declared.stop.Stop.TheVariants.{Finished, Memory, ReadFault, Refused}
use Rattle.http_stream.specs.declared.stop.Seen.{Seen}
use Rattle.http_stream.specs.declared.stop.Seen.TheVariants as seen
use Rattle.http_stream.specs.Exchanges.{IsFrontOf, memory_text}

-- these bytes were added, where they are told
pub record Added (old new : Option (List ℕ)) (bytes : List ℕ) : Type 0 where
  pub untold : TellsNoMore old new
  pub added : IsSome new → told new ≡ told old ++ bytes

-- blank bytes in front were dropped, and are no longer counted among those that the stream may take
pub record Shed (room : ℕ) (bytes : List ℕ) (room_left : ℕ) (rest : List ℕ) : Type 0 where
  pub count : ℕ
  pub blank : count ≤ blank_length bytes
  pub behind : rest ≡ drop count bytes
  pub counted : room ≡ count + room_left

-- a head that passes its tests stands in front: where it ends, and the length of its body
pub record HeadAt (bytes : List ℕ) (end : ℕ) (head : HeadValue) (count : ℕ) : Type 0 where
  pub blank : blank_length bytes ≡ 0
  pub ends : head_end bytes ≡ Some end
  pub reads : IsRead (take end bytes) (Some head)
  pub tests : body_length head ≡ Ok count

-- whether what asks for the body is due behind the head
abbrev pub is_due : ℕ → ℕ → HeadValue → Bool
is_due room end head = asks_continue head && nat_lt end room

-- why no request is asked, by what stands at the front; whether what asks for a body was due before
abbrev pub Stops : ℕ → Bool → List ℕ → Stop → Bool → Type 0
Stops room over bytes Finished due = HasFront room over bytes finished × (due ≡ false)
Stops room over bytes (Refused fault) due = HasFront room over bytes (refused fault due)
Stops room over bytes ReadFault due = HasFront room over bytes (wants due)
Stops room over bytes Memory due = due ≡ true → (front : Front) × HasFront room over bytes front × (continues front ≡ true)

-- why nothing was read
abbrev pub IsUnread : Stop → Type 0
IsUnread Finished = ⊥
IsUnread (Refused fault) = ⊥
IsUnread ReadFault = Unit {0}
IsUnread Memory = Unit {0}

-- what a read added, and that nothing is left where it added nothing
abbrev pub Filled : Result ℕ Stop → List ℕ → Option (List ℕ) → Type 0
Filled (Ok n) bytes left = (length bytes ≡ n) × (n ≡ 0 → told left ≡ [])
Filled (Err stop) bytes left = (bytes ≡ []) × IsUnread stop

-- the bytes are the front of a head that has not ended, or none, and more may come
pub record IsShort (room : ℕ) (bytes : List ℕ) : Type 0 where
  pub none : head_end bytes ≡ None
  pub few : length bytes < MOST_HEAD_BYTES
  pub more : length bytes < room

-- what the bytes tell of a head, where no blank byte stands in front
abbrev pub Sees : ℕ → List ℕ → Seen → Type 0
Sees room bytes (seen.Ended end) = head_end bytes ≡ Some end
Sees room bytes (seen.Refused fault) = (over : Bool) → HasFront room over bytes (refused fault false)
Sees room bytes seen.Wants = IsShort room bytes

-- a fault of the source has its cause
abbrev pub IsCaused : ℕ → ℕ → Stop → Type 0
IsCaused before now stop = stop ≡ ReadFault → Rose before now

-- why no request is asked, where the source has nothing left if that is said
abbrev pub StopsHere : ℕ → List ℕ → Option (List ℕ) → Stop → Bool → Type 0
StopsHere room bytes left stop due = (over : Bool) × (over ≡ true → told left ≡ []) × Stops room over bytes stop due

-- a head has ended there, behind no blank byte
abbrev pub HeadEnded : List ℕ → ℕ → Type 0
HeadEnded bytes end = (blank_length bytes ≡ 0) × (head_end bytes ≡ Some end) × (end ≤ length bytes)

abbrev pub HeadStep : ℕ → List ℕ → Option (List ℕ) → Result (Option ℕ) Stop → Type 0
HeadStep room bytes left (Ok None) = Unit {0}
HeadStep room bytes left (Ok (Some end)) = HeadEnded bytes end
HeadStep room bytes left (Err stop) = StopsHere room bytes left stop false

abbrev pub HeadAwaited : ℕ → List ℕ → Option (List ℕ) → Result ℕ Stop → Type 0
HeadAwaited room bytes left (Ok end) = HeadEnded bytes end
HeadAwaited room bytes left (Err stop) = StopsHere room bytes left stop false

-- a head that passes its tests was read; whether what asks for its body is due
abbrev pub IsHeaded : ℕ → List ℕ → HeadValue → ℕ → ℕ → Bool → Type 0
IsHeaded room bytes head end count due = HeadAt bytes end head count × (due ≡ is_due room end head) × (end ≤ length bytes)

abbrev pub BodyStep : ℕ → List ℕ → Option (List ℕ) → {T : Type 0} → Result T Stop → Bool → Type 0
BodyStep room bytes left (Ok done) due = Unit {0}
BodyStep room bytes left (Err stop) due = StopsHere room bytes left stop due

-- the body is there, or it isn't to come
abbrev pub BodyAwaited : ℕ → List ℕ → Option (List ℕ) → {T : Type 0} → Result T Stop → Bool → ℕ → Type 0
BodyAwaited room bytes left (Ok done) due most = most ≤ length bytes
BodyAwaited room bytes left (Err stop) due most = StopsHere room bytes left stop due

-- a request was taken from the front of the bytes, and these stand behind it
pub record Taken (room : ℕ) (bytes : List ℕ) (request : RequestValue) (due closes : Bool) (room_left : ℕ) (rest : List ℕ) : Type 0 where
  pub front : HasFront room false bytes (whole request due closes rest)
  pub counted : room + length rest ≡ room_left + length bytes
  pub less : length rest < length bytes

-- how a stream ends for this reason, and what is written then
abbrev pub Closes : Stop → StreamEnd → List ℕ → Type 0
Closes Finished end out = (end ≡ ends.Done) × (out ≡ [])
Closes ReadFault end out = (end ≡ ends.ReadFault) × (out ≡ [])
Closes Memory end out = (end ≡ ends.Memory) × IsFrontOf out (memory_text true)
Closes (Refused fault) end out =
    ((end ≡ ends.Refused) × (out ≡ fault_text fault)) ⊎ ((end ≡ ends.WriteFault) × IsFrontOf out (fault_text fault))

-- a reply was written: behind one that closes the stream is done
abbrev pub Writes : Bool → List ℕ → Option StreamEnd → List ℕ → Type 0
Writes closes text None out = (closes ≡ false) × (out ≡ text)
Writes closes text (Some end) out =
    ((closes ≡ true) × (end ≡ ends.Done) × (out ≡ text)) ⊎ ((end ≡ ends.WriteFault) × IsFrontOf out text)

-- an answer was written
abbrev pub Responds : Bool → Result ReplyValue HandleFault → Option StreamEnd → List ℕ → Type 0
Responds closes (Ok reply) result out = Writes closes (reply_text reply closes) result out
Responds closes (Err faults.Memory) result out = Writes closes (memory_text closes) result out
Responds closes (Err faults.Spent) result out = (result ≡ Some ends.Spent) × (out ≡ [])

-- a writer sent the text, and at an error a front of it
abbrev pub Sent : {T E : Type 0} → Result T E → List ℕ → List ℕ → Type 0
Sent (Ok done) text out = out ≡ text
Sent (Err fault) text out = IsFrontOf out text

-- how a stream ends behind a reply that was written
abbrev pub EndsBehind : {T E : Type 0} → Result T E → Bool → Option StreamEnd → Type 0
EndsBehind (Ok done) closes end = end ≡ (if closes then Some ends.Done else None)
EndsBehind (Err fault) closes end = end ≡ Some ends.WriteFault
