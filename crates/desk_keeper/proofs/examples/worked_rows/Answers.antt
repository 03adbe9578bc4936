-- The rows compute where their parts are unfolded.
use Rattle.std.proofs.Common.{refl}
use Rattle.std.specs.Fmt.{digits}
use Rattle.text_lines.specs.Fields.{with_spaces}
use Rattle.text_lines.specs.Texts.{line_of}
use Rattle.desk_keeper.specs.Examples.{ann}
use Rattle.desk_keeper.specs.Rows.{row_of, head_of}
use Rattle.desk_keeper.proofs.examples.worked_rows.Goals as goal

pub returns-clause-edit : goal.returns-clause-edit
unfolding ann row_of head_of with_spaces line_of digits
returns-clause-edit c = refl

pub returns-clause-values : goal.returns-clause-values
unfolding ann row_of head_of with_spaces line_of digits
returns-clause-values c = refl

pub returns-clause-submit : goal.returns-clause-submit
unfolding ann row_of head_of with_spaces line_of digits
returns-clause-submit c = refl

pub returns-clause-fair : goal.returns-clause-fair
unfolding ann row_of head_of with_spaces line_of digits
returns-clause-fair c = refl

pub returns-clause-publish : goal.returns-clause-publish
unfolding ann row_of head_of with_spaces line_of digits
returns-clause-publish c = refl

pub returns-clause-draw : goal.returns-clause-draw
unfolding ann row_of head_of with_spaces line_of digits
returns-clause-draw c = refl
