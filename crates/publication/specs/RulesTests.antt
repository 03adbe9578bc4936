-- What the lines of the text of rules are asked for, by the table of codes, and what they stand for.
use Rattle.std.specs.Prelude.{ℕ, ◌+◌, Bool, true, ◌&&◌, ◌||◌, ◌==◌, nat_le, nat_lt, List, slice_get}
use Rattle.std.specs.Option.{option_map_or}
use Rattle.match_rules.specs.declared.rules.RulePaper.{RulePaper}
use Rattle.match_rules.specs.declared.rules.RuleReviewer.{RuleReviewer}
use Rattle.match_rules.specs.declared.rules.RulePair.{RulePair}
use Rattle.match_rules.specs.declared.rules.TheConstants.{RULES_TICKETS, MOST_DEMAND, MOST_DEMAND_IN_ALL, MOST_LOAD}
use Rattle.match_rules.specs.Id.{is_id, is_institution}
use Rattle.match_rules.specs.Rules.{demand_total, most_score}
use Rattle.text_lines.specs.Fields.{fields}
use Rattle.text_lines.specs.LineTests.{Tests, LineTests, are_so_many, part}
use Rattle.text_lines.specs.Numbers.{is_canonical, is_canonical_signed, value, signed_value, size}
use Rattle.publication.specs.RulesReading.{is_paper_behind, is_reviewer_behind, is_pair_behind}

-- ---- a paper: its id and its demand

abbrev pub paper_from : List (List ℕ) → RulePaper
paper_from parts = record { id = part 0 parts; demand = value (part 1 parts) }

-- with the demand that the papers before leave
abbrev pub paper_parts : List RulePaper → List (List ℕ) → Tests
paper_parts before parts = record {
  form = are_so_many 2 parts;
  number = is_canonical (part 1 parts);
  range = nat_le (value (part 1 parts)) MOST_DEMAND && nat_le (demand_total before + value (part 1 parts)) MOST_DEMAND_IN_ALL;
  id = is_id (part 0 parts);
  order = is_paper_behind before (part 0 parts);
}

-- ---- a reviewer: its id, its least and its greatest load, and its institution where it has one

abbrev pub reviewer_from : List (List ℕ) → RuleReviewer
reviewer_from parts = record { id = part 0 parts; institution = slice_get parts 3; least = value (part 1 parts); greatest = value (part 2 parts) }

abbrev pub reviewer_parts : List RuleReviewer → List (List ℕ) → Tests
reviewer_parts before parts = record {
  form = are_so_many 3 parts || are_so_many 4 parts;
  number = is_canonical (part 1 parts) && is_canonical (part 2 parts);
  range = nat_le (value (part 2 parts)) MOST_LOAD && nat_le (value (part 1 parts)) (value (part 2 parts));
  id = is_id (part 0 parts) && option_map_or is_institution (slice_get parts 3) true;
  order = is_reviewer_behind before (part 0 parts);
}

-- ---- a pair: the places of its paper and its reviewer, its score, its floor and its cap

abbrev pub pair_from : List (List ℕ) → RulePair
pair_from parts = record { paper = value (part 0 parts); reviewer = value (part 1 parts); score = signed_value (part 2 parts); floor = value (part 3 parts); cap = value (part 4 parts) }

-- a floor of none or all tickets, and a cap from the floor to all tickets
abbrev pub are_tickets : ℕ → ℕ → Bool
are_tickets floor cap = nat_le cap RULES_TICKETS && (nat_le floor cap && (floor == 0 || floor == RULES_TICKETS))

-- of so many papers and reviewers
abbrev pub pair_parts : ℕ → ℕ → List RulePair → List (List ℕ) → Tests
pair_parts papers reviewers before parts = record {
  form = are_so_many 5 parts;
  number = is_canonical (part 0 parts) && (is_canonical (part 1 parts) && (is_canonical_signed (part 2 parts) && (is_canonical (part 3 parts) && is_canonical (part 4 parts))));
  range = nat_lt (value (part 0 parts)) papers && (nat_lt (value (part 1 parts)) reviewers && (nat_le (size (part 2 parts)) most_score && are_tickets (value (part 3 parts)) (value (part 4 parts))));
  id = true;
  order = is_pair_behind before (pair_from parts);
}

-- ---- the same of lines

abbrev pub paper_tests : List RulePaper → LineTests
paper_tests before line = paper_parts before (fields line)

abbrev pub reviewer_tests : List RuleReviewer → LineTests
reviewer_tests before line = reviewer_parts before (fields line)

abbrev pub pair_tests : ℕ → ℕ → List RulePair → LineTests
pair_tests papers reviewers before line = pair_parts papers reviewers before (fields line)
