-- A request: the parts of its head, and its body.
use Rattle.std.specs.Prelude.{ℕ, List}
use Rattle.http_messages.specs.Fields.{FieldValue}

pub record RequestValue : Type 0 where
  pub method : List ℕ
  pub target : List ℕ
  pub fields : List FieldValue
  pub body : List ℕ
