-- What may name a chair or a source.
use Rattle.std.specs.Prelude.{ℕ, List, length, Bool, ◌&&◌, ◌||◌, ◌==◌, not, nat_le}
use Rattle.std.specs.List.{list_all}
use Rattle.std.specs.Char.{is_ascii_digit, is_ascii_graphic, is_ascii_lowercase}

-- a visible character of ASCII, and no comma or quotation mark
abbrev pub is_chair_byte : ℕ → Bool
is_chair_byte b = is_ascii_graphic b && not (b == 44 || b == 34)

-- 1 to 128 of them
unfoldable pub is_chair_name : List ℕ → Bool
is_chair_name name = (nat_le 1 (length name) && nat_le (length name) 128) && list_all is_chair_byte name

-- a character of a to z, 0 to 9, _ and -
abbrev pub is_source_byte : ℕ → Bool
is_source_byte b = (is_ascii_lowercase b || is_ascii_digit b) || (b == 95 || b == 45)

-- 1 to 32 of them
unfoldable pub is_source_name : List ℕ → Bool
is_source_name name = (nat_le 1 (length name) && nat_le (length name) 32) && list_all is_source_byte name
