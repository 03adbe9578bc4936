use Rattle.std.proofs.Common.{◌≡◌, ◌∙◌, sym, take}
use Rattle.std.proofs.lemmas.List.{take_all}
use Rattle.made_conference.specs.Rows.{value_row}
use Rattle.made_conference.specs.Tables.{values_text}
use Rattle.made_conference.proofs.TableLaws.{items_none, text_of_more}
use Rattle.made_conference.proofs.tables.values_text.Goals as goal

pub loop-pair-init : goal.loop-pair-init
loop-pair-init c = c.new-text.ensures.items ∙ sym (items_none value_row c.args.pairs.now)

pub loop-pair-preserved : goal.loop-pair-preserved
loop-pair-preserved c =
    text_of_more value_row c.args.pairs.now c.loop-pair.pair-index _ _ _ _ c.loop-pair-test.true c.loop-pair.invariant (c.as_slice.ensures ∙ c.value_line.ensures) c.in_ok-extend_from_slice.ensures.items

pub returns : goal.returns
unfolding values_text
returns c =
    let whole : take c.loop-pair.pair-index c.args.pairs.now ≡ c.args.pairs.now = take_all _ _ c.loop-pair-test.false in
    rw whole at c.loop-pair.invariant
