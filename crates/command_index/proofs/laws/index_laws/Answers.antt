use Rattle.std.proofs.Common.{◌∙◌, ◌==◌, ◌&&◌, Some, None, cond, ap, length, bytes_eq}
use Rattle.desk_history.specs.Histories.{commands}
use Rattle.command_index.proofs.PlaceLaws.{nowhere, taken_out}
use Rattle.command_index.proofs.laws.index_laws.Goals as goal

pub returns-clause-accepted : goal.returns-clause-accepted
returns-clause-accepted c H old new caller number command reply read is put by its =
    put by its ∙ ap (λ found. cond (bytes_eq caller by && number == its) (Some (record { entry = length H; command = commands H })) found) (is by its)

pub returns-clause-withdrawn : goal.returns-clause-withdrawn
returns-clause-withdrawn c H old added new caller number place none is add out by its =
    out by its
    ∙ ap (λ found. cond (bytes_eq caller by && number == its) None found) (add by its)
    ∙ taken_out H caller number by its place (old by its) (nowhere H caller number none) (is by its)
