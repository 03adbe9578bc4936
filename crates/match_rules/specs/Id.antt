-- What may name a paper, a reviewer or an institution.
use Rattle.std.specs.Prelude.{ℕ, List, length, Bool, ◌&&◌, ◌||◌, ◌==◌, not, nat_lt, nat_le}
use Rattle.std.specs.List.{list_all}
use Rattle.std.specs.Char.{is_whitespace}
use Rattle.std.specs.Str.{chars, is_utf8}
use Rattle.match_rules.specs.declared.ids.TheConstants.{MOST_ID_BYTES}

-- U+0000 to U+001F and U+007F to U+009F
abbrev pub is_control : ℕ → Bool
is_control c = nat_lt c 32 || (nat_lt 126 c && nat_lt c 160)

-- a character that an id may hold: no white space, no control character, no comma, no quotation mark
abbrev pub is_id_char : ℕ → Bool
is_id_char c = not (is_whitespace c || (is_control c || (c == 44 || c == 34)))

-- a character that the name of an institution may hold: no semicolon beside these
abbrev pub is_institution_char : ℕ → Bool
is_institution_char c = is_id_char c && not (c == 59)

-- 1 to 128 bytes
abbrev pub has_id_length : List ℕ → Bool
has_id_length bytes = nat_le 1 (length bytes) && nat_le (length bytes) MOST_ID_BYTES

-- of UTF-8, each character passing the test
abbrev pub is_name : (ℕ → Bool) → List ℕ → Bool
is_name test bytes = has_id_length bytes && (is_utf8 bytes && list_all test (chars bytes))

-- the id of a paper or a reviewer
unfoldable pub is_id : List ℕ → Bool
is_id bytes = is_name is_id_char bytes

-- the name of an institution
unfoldable pub is_institution : List ℕ → Bool
is_institution bytes = is_name is_institution_char bytes
