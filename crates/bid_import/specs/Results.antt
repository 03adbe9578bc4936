-- One step after another, where each may fail.
use Rattle.std.specs.Prelude.{Result, Ok, Err}

-- the one, and then the other with what it gave; or the fault of the first
infixl 10 ◌>>=◌
abbrev pub ◌>>=◌ : {A B E : Type 0} → Result A E → (A → Result B E) → Result B E
(Ok x) >>= more = more x
(Err fault) >>= more = Err fault
