-- What the fields of a request say of its caller and its numbers.
use Rattle.std.specs.Prelude.{ℕ, List, codes, Option, None, Some, if◌then◌else◌}
use Rattle.std.specs.Option.{option_and_then}
use Rattle.desk_keeper.specs.Names.{is_chair_name}
use Rattle.desk_keeper.specs.Reading.{number_in}
use Rattle.http_messages.specs.Fields.{FieldValue, only, values_of}

abbrev pub chair_in : List ℕ → Option (List ℕ)
chair_in value = if is_chair_name value then Some value else None

-- the chair that the one field X-Chair names
abbrev pub chair_of : List FieldValue → Option (List ℕ)
chair_of fields = option_and_then chair_in (only (values_of (codes "X-Chair") fields))

-- the number that the one field of this name spells
abbrev pub number_of : List ℕ → List FieldValue → Option ℕ
number_of name fields = option_and_then number_in (only (values_of name fields))
