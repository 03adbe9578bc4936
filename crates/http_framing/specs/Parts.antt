-- The parts of a head by the places in its bytes.
use Rattle.std.specs.Prelude.{ℕ, List, map}
use Rattle.httparse.specs.Spans.{span_bytes}
use Rattle.httparse.specs.declared.spans.HeaderSpan.{HeaderSpan}
use Rattle.httparse.specs.declared.spans.RequestSpans.{RequestSpans}
use Rattle.http_messages.specs.Fields.{FieldValue}
use Rattle.http_framing.specs.Heads.{HeadValue}

-- the field of these places
abbrev pub field_at : List ℕ → HeaderSpan → FieldValue
field_at bytes header = record { name = span_bytes bytes header.name; value = span_bytes bytes header.value }

-- the head of these places and fields
abbrev pub head_at : List ℕ → RequestSpans → List HeaderSpan → HeadValue
head_at bytes spans headers =
    record { method = span_bytes bytes spans.method; target = span_bytes bytes spans.path; minor = spans.version; fields = map (field_at bytes) headers }
