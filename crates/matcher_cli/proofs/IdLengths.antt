-- An id has at most 128 bytes.
use Rattle.std.proofs.Common.{◌≡◌, ℕ, ◌≤◌, true, List, length, ◌&&◌}
use Rattle.std.specs.Prelude.{nat_le}
use Rattle.std.specs.List.{list_all}
use Rattle.std.specs.Str.{chars, is_utf8}
use Rattle.std.proofs.lemmas.Bool.{and_parts, leb-true}
use Rattle.match_rules.specs.Id.{is_id, is_id_char}

pub id_is_short : (id : List ℕ) → is_id id ≡ true → length id ≤ 128
unfolding is_id
id_is_short id is =
    let lengths = and_parts (nat_le 1 (length id) && nat_le (length id) 128) (is_utf8 id && list_all is_id_char (chars id)) is in
    leb-true (length id) 128 (and_parts (nat_le 1 (length id)) (nat_le (length id) 128) lengths.0).1
