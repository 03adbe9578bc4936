-- Numbers behind labels, as lines print them.
use Rattle.std.specs.Prelude.{ℕ, ℤ, List, ◌++◌, decimal}
use Rattle.std.specs.Fmt.{signed_decimal}

unfoldable pub labelled : List ℕ → ℕ → List ℕ
labelled label number = label ++ decimal number

unfoldable pub labelled_signed : List ℕ → ℤ → List ℕ
labelled_signed label number = label ++ signed_decimal number
