use Rattle.std.proofs.Common.{◌∙◌, ap, sym, ◌++◌}
use Rattle.made_conference.specs.Numbers.{state_after}
use Rattle.made_conference.specs.Pairs.{paper_pairs}
use Rattle.made_conference.proofs.PairLaws.{flat_map_range_more}
use Rattle.made_conference.proofs.pairs.pairs_of.Goals as goal

pub loop-paper-init : goal.loop-paper-init
unfolding state_after
loop-paper-init g c = record { pairs = c.new-pairs.ensures.items; state = c.requires }

pub loop-paper-preserved : goal.loop-paper-preserved
loop-paper-preserved g c = record {
  pairs = c.in_ok-push_pairs.ensures.pairs ∙ ap (λ xs. xs ++ paper_pairs g.seed c.loop-paper.paper) c.loop-paper.invariant.pairs ∙ sym (flat_map_range_more (paper_pairs g.seed) c.loop-paper.paper);
  state = c.in_ok-push_pairs.ensures.state;
}
