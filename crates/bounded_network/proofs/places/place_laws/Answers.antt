use Rattle.bounded_network.proofs.Compiled.{arc_count, arc-of_pair, arc-of_paper, arc-of_group, arc-of_reviewer, flow-length, flow-of_pair, flow-of_paper, flow-of_group, flow-of_reviewer}
use Rattle.bounded_network.proofs.places.place_laws.Goals as goal

pub returns : goal.returns
returns c = record {
  arcs = arc_count;
  pair_arcs = arc-of_pair;
  paper_arcs = arc-of_paper;
  group_arcs = arc-of_group;
  reviewer_arcs = arc-of_reviewer;
  amounts = flow-length;
  pair_amounts = flow-of_pair;
  paper_amounts = flow-of_paper;
  group_amounts = flow-of_group;
  reviewer_amounts = flow-of_reviewer;
}
