use Rattle.std.proofs.Common.{rules, ap, refl, length, ◌<◌, ◌≤◌, Some}
use Rattle.edge_io.specs.declared.folder.TheConstants.{MOST_FILE_BYTES}
use Rattle.edge_io.proofs.Fronts.{longer_than_front, all_of_front}
use Rattle.edge_io.proofs.dir.answer_of_front.Goals as goal

pub returns-then-len-gt-MOST_FILE_BYTES : goal.returns-then-len-gt-MOST_FILE_BYTES
returns-then-len-gt-MOST_FILE_BYTES c =
    let long : MOST_FILE_BYTES < length c.args.front.items = search rules in
    λ all e. (all, refl, longer_than_front MOST_FILE_BYTES _ all e long)

pub returns : goal.returns
returns c =
    let short : length c.args.front.items ≤ MOST_FILE_BYTES = search rules in
    λ all e. (ap Some (all_of_front MOST_FILE_BYTES _ all e short), short)
