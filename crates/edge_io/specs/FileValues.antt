-- A file as contracts see it.
use Rattle.std.specs.Prelude.{ℕ, List}

pub record FileValue : Type 0 where
  pub name : List ℕ
  pub bytes : List ℕ
