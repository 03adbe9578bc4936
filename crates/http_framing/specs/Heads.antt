-- Where a head begins and ends in the bytes of a stream, and what it reads as.
use Rattle.std.specs.Prelude.{◌≡◌, ℕ, ◌+◌, ◌≤◌, Bool, false, not, ◌==◌, ◌||◌, ◌&&◌, nat_lt, List, [], ◌∷◌, length, take, drop, map, Option, None, Some, if◌then◌else◌, unwrap_or}
use Rattle.std.specs.List.{position_or_len}
use Rattle.std.specs.Option.{option_map}
use Rattle.httparse.specs.Grammar.{Field, RequestHead, ReadsRequest, field_value}
use Rattle.http_messages.specs.Fields.{FieldValue}
use Rattle.http_framing.specs.declared.blanks.TheConstants.{MOST_HEAD_BYTES}
use Rattle.http_framing.specs.declared.head.TheConstants.{MOST_FIELDS}

-- a carriage return or a line feed
abbrev pub is_line_byte : ℕ → Bool
is_line_byte byte = byte == 13 || byte == 10

-- how many carriage returns and line feeds stand in front
abbrev pub blank_length : List ℕ → ℕ
blank_length bytes = position_or_len (λ byte. not (is_line_byte byte)) bytes

-- the bytes without them
abbrev pub skip_blank : List ℕ → List ℕ
skip_blank bytes = drop (blank_length bytes) bytes

abbrev pub begins_with : ℕ → List ℕ → Bool
begins_with first [] = false
begins_with first (byte ∷ bytes) = byte == first

-- how many bytes the line end has that stands in front, a line feed or a carriage return and a line feed; 0 where none stands there
abbrev pub line_end : List ℕ → ℕ
line_end [] = 0
line_end (byte ∷ bytes) = if byte == 10 then 1 else (if byte == 13 && begins_with 10 bytes then 2 else 0)

-- how many bytes there are up to the end of the first empty line, which is a line feed and a line end behind it; none without an empty line
abbrev pub head_length : List ℕ → Option ℕ
head_length [] = None
head_length (byte ∷ bytes) =
    if byte == 10 && nat_lt 0 (line_end bytes) then Some (1 + line_end bytes) else option_map (λ n. 1 + n) (head_length bytes)

-- the same where the first empty line ends within the bytes that a head may have
abbrev pub head_end : List ℕ → Option ℕ
head_end bytes = head_length (take MOST_HEAD_BYTES bytes)

-- the bytes of the head behind the blank ones, up to and with its empty line; none of them where it has not ended
abbrev pub head_bytes : List ℕ → List ℕ
head_bytes bytes = take (unwrap_or (head_end (skip_blank bytes)) 0) (skip_blank bytes)

-- a head: its method and its target, the number behind the point of its version, its fields
pub record HeadValue : Type 0 where
  pub method : List ℕ
  pub target : List ℕ
  pub minor : ℕ
  pub fields : List FieldValue

-- the value of a field of the grammar
abbrev pub value_of_field : Field → FieldValue
value_of_field field = record { name = field.name; value = field_value field }

-- the value of a head of the grammar
abbrev pub value_of_head : RequestHead → HeadValue
value_of_head h = record { method = h.method; target = h.target; minor = h.minor; fields = map value_of_field h.fields }

-- the bytes are a head of the grammar, which has no more fields than a head may have
pub record IsHeadText (bytes : List ℕ) (h : RequestHead) : Type 0 where
  pub reads : ReadsRequest bytes h []
  pub few : length h.fields ≤ MOST_FIELDS

-- what the bytes up to and with the first empty line read as
abbrev pub IsRead : List ℕ → Option HeadValue → Type 0
IsRead bytes (Some head) = (h : RequestHead) × IsHeadText bytes h × (head ≡ value_of_head h)
IsRead bytes None = (h : RequestHead) → ¬ (IsHeadText bytes h)
