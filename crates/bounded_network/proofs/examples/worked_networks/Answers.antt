use Rattle.std.proofs.Common.{refl}
use Rattle.match_rules.specs.Groups.{groups, group_of}
use Rattle.bounded_network.proofs.examples.worked_networks.Goals as goal

pub returns : goal.returns
unfolding groups group_of
returns c = record {
  small_nodes = refl;
  small_arcs = refl;
  first_pair = refl;
  first_paper = refl;
  last_reviewer = refl;
  dropped = refl;
  low_need = refl;
  low_room = refl;
  low_cut = refl;
  locked_pair = refl;
  locked_need = refl;
  locked_room = refl;
  locked_cut = refl;
  house_pair = refl;
  house_group = refl;
  house_need = refl;
  house_room = refl;
  house_paper_place = refl;
  house_group_place = refl;
  house_reviewer_place = refl;
  house_arcs = refl;
  house_parent = refl;
  empty_nodes = refl;
  empty_arcs = refl;
  half_flow = refl;
  half_cost = refl;
  half_score = refl;
  seven_prices = refl;
  rounds = refl;
  whole = refl;
  above = refl;
  rounded_pair = refl;
  rounded_paper = refl;
  rebounded = refl;
  rebounded_past = refl;
}
