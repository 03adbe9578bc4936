use Rattle.text_lines.proofs.FieldLaws.{fields_by_split}
use Rattle.text_lines.proofs.fields.first_field.Goals as goal

pub returns : goal.returns
returns c = fields_by_split c.args.line.now c.split_once.result c.split_once.ensures.cases
