use Rattle.std.proofs.Common.{sym, ◌∙◌}
use Rattle.desk_routes.proofs.EditLaws.{edit_no_table, edit_no_how, edit_wrong, edit_right}
use Rattle.desk_routes.proofs.targets.edit_place.Goals as goal

pub returns-in-Err : goal.returns-in-Err
returns-in-Err c = edit_no_table c.args.second.now c.args.third.now c.in-Err.fault c.in-Err.ensures

pub returns-in_default : goal.returns-in_default
returns-in_default c = edit_no_how c.args.second.now c.args.third.now c.in-Ok.table c.in-Ok.ensures (sym c.how_in.ensures ∙ c.in_default.is)

pub returns-then-not-are_edit_words : goal.returns-then-not-are_edit_words
returns-then-not-are_edit_words c =
    edit_wrong c.args.second.now c.args.third.now c.in-Ok.table c.in-Some.how c.in-Ok.ensures (sym c.how_in.ensures ∙ c.in-Some.is) (sym c.are_edit_words.ensures ∙ c.if-not-are_edit_words.true)

pub returns : goal.returns
returns c =
    edit_right c.args.second.now c.args.third.now c.in-Ok.table c.in-Some.how c.in-Ok.ensures (sym c.how_in.ensures ∙ c.in-Some.is) (sym c.are_edit_words.ensures ∙ c.if-not-are_edit_words.false)
