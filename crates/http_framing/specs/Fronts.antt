-- What stands at the front of a stream of requests.
use Rattle.std.specs.Prelude.{◌≡◌, ℕ, ◌+◌, Bool, true, false, ◌&&◌, nat_lt, nat_le, List, [], ◌∷◌, length, take, drop, Option, None, Some, Result, Ok, Err, if◌then◌else◌}
use Rattle.http_messages.specs.Requests.{RequestValue}
use Rattle.http_framing.specs.declared.blanks.TheConstants.{MOST_HEAD_BYTES}
use Rattle.http_framing.specs.declared.fault.FrameFault.{FrameFault}
use Rattle.http_framing.specs.declared.fault.FrameFault.TheVariants.{BadHead, HeadTooLarge, StreamTooLarge, Truncated}
use Rattle.http_framing.specs.Heads.{HeadValue, IsRead, blank_length, head_bytes, head_end, skip_blank}
use Rattle.http_framing.specs.HeadTests.{asks_continue, body_length, ends_stream}

pub data Front : Type 0 where
  -- more bytes are due; whether a continue is due before them
  wants : Bool → Front
  -- the input ended between requests
  finished : Front
  -- a reply of its own, which ends the stream; whether a continue is due before it
  refused : FrameFault → Bool → Front
  -- a request; whether a continue is due before its body; whether it ends the stream; the bytes behind it
  whole : RequestValue → Bool → Bool → List ℕ → Front

-- a part stands there and more is due: the stream takes no more, or the input is over, or more may come
abbrev pub partly : Bool → Bool → Bool → Front
partly full over continues =
    if full then refused StreamTooLarge continues else (if over then refused Truncated continues else wants continues)

-- nothing stands there
abbrev pub between : Bool → Bool → Front
between full over = if full then refused StreamTooLarge false else (if over then finished else wants false)

-- a part of a head stands there, of this length
abbrev pub in_head : Bool → Bool → ℕ → Front
in_head full over count = if nat_le MOST_HEAD_BYTES count then refused HeadTooLarge false else partly full over false

-- the request of a head and of its body
abbrev pub request_of : HeadValue → List ℕ → RequestValue
request_of head body = record { method = head.method; target = head.target; fields = head.fields; body = body }

-- a head that passes its tests, with the length of its body and the bytes behind it
abbrev pub in_body : Bool → Bool → Bool → HeadValue → ℕ → List ℕ → Front
in_body full over continues head count behind =
    if nat_le count (length behind)
    then whole (request_of head (take count behind)) continues (ends_stream head) (drop count behind)
    else partly full over continues

-- a head, with the length of its body or the first test that fails, and the bytes behind it
abbrev pub tested : Bool → Bool → Bool → HeadValue → Result ℕ FrameFault → List ℕ → Front
tested full over continues head (Err fault) behind = refused fault false
tested full over continues head (Ok count) behind = in_body full over continues head count behind

-- the bytes up to the first empty line, which read as this, and the bytes behind it; whether the stream takes more behind the head
abbrev pub behind_head : Bool → Bool → Bool → Option HeadValue → List ℕ → Front
behind_head full over more None behind = refused BadHead false
behind_head full over more (Some head) behind = tested full over (asks_continue head && more) head (body_length head) behind

-- the bytes without the blank ones in front of them, with the end of their head
abbrev pub front_at : ℕ → Bool → List ℕ → Option HeadValue → List ℕ → Option ℕ → Front
front_at room over bytes read [] end = between (nat_le room (length bytes)) over
front_at room over bytes read (byte ∷ rest) None = in_head (nat_le room (length bytes)) over (length (byte ∷ rest))
front_at room over bytes read (byte ∷ rest) (Some end) =
    behind_head (nat_le room (length bytes)) over (nat_lt (blank_length bytes + end) room) read (drop end (byte ∷ rest))

-- what stands at the front of the bytes: `room` is how many the stream may take from here on, `over` says that no more come behind these,
-- and `read` is what the bytes of the head read as
abbrev pub front_of : ℕ → Bool → List ℕ → Option HeadValue → Front
front_of room over bytes read = front_at room over bytes read (skip_blank bytes) (head_end (skip_blank bytes))

-- this stands at the front of the bytes
abbrev pub HasFront : ℕ → Bool → List ℕ → Front → Type 0
HasFront room over bytes front = (read : Option HeadValue) × IsRead (head_bytes bytes) read × (front ≡ front_of room over bytes read)

-- whether a continue is due
abbrev pub continues : Front → Bool
continues (wants due) = due
continues finished = false
continues (refused fault due) = due
continues (whole request due ends rest) = due

-- later bytes leave the fault as it is
abbrev pub is_settled : FrameFault → Bool
is_settled Truncated = false
is_settled StreamTooLarge = false
is_settled fault = true
