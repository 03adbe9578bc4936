-- What a reading of fields comes to.
use Rattle.std.proofs.Common.{◌≡◌, ℕ, ◌<◌, List, [], ◌∷◌, length, refl, arith}
use Rattle.text_lines.specs.Fields.{fields}
use Rattle.text_lines.proofs.FieldLaws.{fields_some}
use Rattle.desk_keeper.specs.Reading.{head_in, head_from}

head_by : (a b c : List ℕ) (parts : List (List ℕ)) → 0 < length parts → head_in (a ∷ b ∷ c ∷ parts) ≡ head_from a b c parts
head_by a b c [] some = absurd (omega arith)
head_by a b c (d ∷ parts) some = refl

-- a line has a field
pub head_more : (a b c line : List ℕ) → head_in (a ∷ b ∷ c ∷ fields line) ≡ head_from a b c (fields line)
head_more a b c line = head_by a b c (fields line) (fields_some line)
