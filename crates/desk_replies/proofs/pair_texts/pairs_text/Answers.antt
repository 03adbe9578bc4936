use Rattle.std.proofs.Common.{refl}
use Rattle.text_lines.specs.Texts.{line_of}
use Rattle.desk_replies.specs.Accepted.{pair_line, pairs_text}
use Rattle.desk_replies.proofs.PairLines.{all_lines, next_line}
use Rattle.desk_replies.proofs.pair_texts.pairs_text.Goals as goal

pub loop-pair-init : goal.loop-pair-init
unfolding pairs_text line_of
loop-pair-init c = rw c.in_ok-text.ensures.items refl

pub loop-pair-preserved : goal.loop-pair-preserved
loop-pair-preserved c =
    rw c.in_ok-push_pair.ensures
    (next_line pair_line c.args.pairs.now c.loop-pair.pair-index c.pair-item.result c.pair-item.result _ _ c.loop-pair-test.true c.pair-item.is c.loop-pair.invariant)

pub returns : goal.returns
returns c = all_lines pair_line c.args.pairs.now c.loop-pair.pair-index _ _ c.loop-pair-test.false c.loop-pair.invariant
