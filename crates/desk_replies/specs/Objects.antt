-- The members of a JSON object, put together one by one. They stand in the byte order of their keys.
use Rattle.std.specs.Prelude.{ℕ, ℤ, List}
use Rattle.serde_json.specs.Data.{Members, number, object, put, string, unsigned}
use Rattle.serde_json.specs.Find.{of_integer}
use Rattle.serde_json.specs.Written.{compact_text}

-- a number at this key
abbrev pub with_number : List ℕ → ℕ → Members → Members
with_number key amount members = put key (number (unsigned amount)) members

-- a signed number at this key
abbrev pub with_integer : List ℕ → ℤ → Members → Members
with_integer key amount members = put key (number (of_integer amount)) members

-- a text at this key
abbrev pub with_text : List ℕ → List ℕ → Members → Members
with_text key text members = put key (string text) members

-- the text of the object, without spaces
abbrev pub object_text : Members → List ℕ
object_text members = compact_text (object members)
