use Rattle.std.proofs.Common.{sym}
use Rattle.text_lines.proofs.FieldLaws.{fields_some, one_of_more}
use Rattle.text_lines.proofs.fields.one_field.Goals as goal

pub returns-in-Some : goal.returns-in-Some
returns-in-Some c = rw c.in-Some.ensures (sym (one_of_more c.in-Some.field-0.0.now _ (fields_some c.in-Some.field-0.1.now)))
