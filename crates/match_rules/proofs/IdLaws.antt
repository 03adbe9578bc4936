-- When a text is a name, by its length and its characters.
use Rattle.std.proofs.Common.{◌≡◌, ℕ, List, Bool, true, false, ◌&&◌, refl}
use Rattle.std.proofs.lemmas.Str.{is_utf8-from_IsUtf8}
use Rattle.std.specs.List.{list_all}
use Rattle.std.specs.Str.{chars, IsUtf8}
use Rattle.match_rules.specs.Id.{has_id_length, is_name}

failed_left : (a b : Bool) → a ≡ false → false ≡ (a && b)
failed_left a b e = rw e refl

joined : (a b c : Bool) → a ≡ true → b ≡ true → c ≡ (a && (b && c))
joined a b c is_a is_b = rw (is_a, is_b) refl

-- a text of another length names nothing
pub is_name-length : (test : ℕ → Bool) (bytes : List ℕ) → has_id_length bytes ≡ false → false ≡ is_name test bytes
is_name-length test bytes none = failed_left _ _ none

-- a text of the right length is a name where its characters pass
pub is_name-chars : (test : ℕ → Bool) (bytes : List ℕ) → has_id_length bytes ≡ true → IsUtf8 bytes → list_all test (chars bytes) ≡ is_name test bytes
is_name-chars test bytes some utf8 = joined _ _ _ some (is_utf8-from_IsUtf8 bytes utf8)
