-- The tests of a head that come before its route.
use Rattle.std.specs.Prelude.{ℕ, Bool, not, ◌&&◌, ◌==◌, nat_lt, List, [], ◌∷◌, length, Result, Ok, Err, if◌then◌else◌, codes, bytes_eq}
use Rattle.std.specs.Char.{is_ascii_digit}
use Rattle.std.specs.List.{list_all, list_any, slice_split}
use Rattle.std.specs.Str.{str_eq_ignore_ascii_case}
use Rattle.std.specs.Str.Parse.{digits_value}
use Rattle.httparse.specs.Grammar.{trim_ows}
use Rattle.http_messages.specs.Fields.{FieldValue, is_named, values_of}
use Rattle.http_framing.specs.declared.fault.FrameFault.{FrameFault}
use Rattle.http_framing.specs.declared.fault.FrameFault.TheVariants.{BodyTooLarge, Host, Length, NoLength, TransferEncoding, Version}
use Rattle.http_framing.specs.declared.lengths.TheConstants.{MOST_BODY_BYTES}
use Rattle.http_framing.specs.Heads.{HeadValue}

abbrev pub is_post : HeadValue → Bool
is_post head = bytes_eq head.method (codes "POST")

-- how many fields have this name
abbrev pub field_count : List ℕ → HeadValue → ℕ
field_count name head = length (values_of name head.fields)

-- one or more digits alone
abbrev pub is_length : List ℕ → Bool
is_length value = nat_lt 0 (length value) && list_all is_ascii_digit value

-- the number of a length, whose zeros in front don't count
abbrev pub length_value : List ℕ → ℕ
length_value value = digits_value 10 value

-- the number of the one length
abbrev pub length_of_text : List ℕ → Result ℕ FrameFault
length_of_text value =
    if is_length value then (if nat_lt MOST_BODY_BYTES (length_value value) then Err BodyTooLarge else Ok (length_value value)) else Err Length

-- the length of the body by the values of the fields Content-Length; whether the method is POST, which needs one
abbrev pub length_of_values : Bool → List (List ℕ) → Result ℕ FrameFault
length_of_values post [] = if post then Err NoLength else Ok 0
length_of_values post (value ∷ []) = length_of_text value
length_of_values post (value ∷ other ∷ more) = Err Length

-- how many bytes the body has, or the first test that fails
abbrev pub body_length : HeadValue → Result ℕ FrameFault
body_length head =
    if not (head.minor == 1) then Err Version else (
    if not (field_count (codes "Host") head == 1) then Err Host else (
    if nat_lt 0 (field_count (codes "Transfer-Encoding") head) then Err TransferEncoding else
    length_of_values (is_post head) (values_of (codes "Content-Length") head.fields)))

-- the field asks that its body be asked for
abbrev pub expects : FieldValue → Bool
expects field = is_named (codes "Expect") field && str_eq_ignore_ascii_case field.value (codes "100-continue")

-- a POST asks that its body be asked for
abbrev pub asks_continue : HeadValue → Bool
asks_continue head = is_post head && list_any expects head.fields

abbrev pub is_comma : ℕ → Bool
is_comma byte = byte == 44

-- the part of a list is `close`, without the spaces and tabs around it
abbrev pub is_close : List ℕ → Bool
is_close part = str_eq_ignore_ascii_case (trim_ows part) (codes "close")

-- the field says that the stream ends behind this request
abbrev pub closes : FieldValue → Bool
closes field = is_named (codes "Connection") field && list_any is_close (slice_split is_comma field.value)

abbrev pub ends_stream : HeadValue → Bool
ends_stream head = list_any closes head.fields
