-- Reading the text of rules, line by line, with the first code that applies to a line.
use Rattle.std.specs.Prelude.{ℕ, ◌+◌, ◌-◌, Bool, true, ◌&&◌, ◌||◌, ◌==◌, nat_le, nat_lt, List, length, Option, None, Some, Result, Ok, slice_get, codes}
use Rattle.std.specs.Option.{option_map_or}
use Rattle.std.specs.Ordering.{is_lt}
use Rattle.match_rules.specs.declared.rules.RulePaper.{RulePaper}
use Rattle.match_rules.specs.declared.rules.RuleReviewer.{RuleReviewer}
use Rattle.match_rules.specs.declared.rules.RulePair.{RulePair}
use Rattle.match_rules.specs.declared.rules.TheConstants.{RULES_TICKETS, MOST_PAPERS, MOST_REVIEWERS, MOST_PAIRS, MOST_DEMAND, MOST_DEMAND_IN_ALL, MOST_LOAD, MOST_LIMIT}
use Rattle.match_rules.specs.Id.{is_id, is_institution}
use Rattle.match_rules.specs.Rules.{RulesValue, rules_value, demand_total, id_cmp, most_score}
use Rattle.text_lines.specs.declared.fault.LineCode.{LineCode}
use Rattle.text_lines.specs.declared.fault.LineCode.TheVariants.{Number, Range, Id, Order}
use Rattle.text_lines.specs.declared.fault.TextFault.{TextFault}
use Rattle.text_lines.specs.Fields.{fields, two_of, three_or_four_of, five_of}
use Rattle.text_lines.specs.Forms.{fixed, in_form, needs, number_from, integer_from, number_after, section_at}
use Rattle.text_lines.specs.Numbers.{is_canonical, is_canonical_signed}
use Rattle.text_lines.specs.Reading.{◌>>=◌, Cursor, due}

-- the last of the items, where there is one
abbrev pub last_of : {A : Type 0} → List A → Option A
last_of items = slice_get items (length items - 1)

-- a test of the last item and this one, which holds of a first item
abbrev pub behind_last : {A : Type 0} → (A → Bool) → List A → Bool
behind_last test items = option_map_or test (last_of items) true

-- the id of a field
abbrev pub id_of : List ℕ → Result (List ℕ) LineCode
id_of field = do
  named ← needs (is_id field) Id
  Ok field

-- ---- papers

abbrev pub is_paper_behind : List RulePaper → List ℕ → Bool
is_paper_behind before id = behind_last (λ (paper : RulePaper). is_lt (id_cmp paper.id id)) before

-- a paper of this id field and demand, behind these papers
abbrev pub paper_with : List RulePaper → List ℕ → ℕ → Result RulePaper LineCode
paper_with before id demand = do
  few ← needs (nat_le (demand_total before + demand) MOST_DEMAND_IN_ALL) Range
  name ← id_of id
  behind ← needs (is_paper_behind before name) Order
  Ok (record { id = name; demand = demand })

abbrev pub paper_fields : List RulePaper → List ℕ × List ℕ → Result RulePaper LineCode
paper_fields before parts = do
  demand ← number_from 0 MOST_DEMAND parts.1
  paper_with before parts.0 demand

-- the paper of a line, behind these papers
unfoldable pub paper_of : List RulePaper → List ℕ → Result RulePaper LineCode
paper_of before line = do
  parts ← in_form (two_of (fields line))
  paper_fields before parts

-- ---- reviewers

abbrev pub is_reviewer_behind : List RuleReviewer → List ℕ → Bool
is_reviewer_behind before id = behind_last (λ (reviewer : RuleReviewer). is_lt (id_cmp reviewer.id id)) before

-- the least and the greatest load of two fields: both are numbers before either is in its range
abbrev pub loads_of : List ℕ → List ℕ → Result (ℕ × ℕ) LineCode
loads_of least greatest = do
  canonical ← needs (is_canonical least) Number
  most ← number_from 0 MOST_LOAD greatest
  fewest ← number_from 0 most least
  Ok (fewest, most)

-- the institution of a field, where there is one
abbrev pub institution_of : Option (List ℕ) → Result (Option (List ℕ)) LineCode
institution_of None = Ok None
institution_of (Some field) = do
  named ← needs (is_institution field) Id
  Ok (Some field)

-- a reviewer of this id field and institution field, with these loads, behind these reviewers
abbrev pub reviewer_with : List RuleReviewer → List ℕ → Option (List ℕ) → ℕ × ℕ → Result RuleReviewer LineCode
reviewer_with before id institution loads = do
  name ← id_of id
  home ← institution_of institution
  behind ← needs (is_reviewer_behind before name) Order
  Ok (record { id = name; institution = home; least = loads.0; greatest = loads.1 })

abbrev pub reviewer_fields : List RuleReviewer → List ℕ × List ℕ × List ℕ × Option (List ℕ) → Result RuleReviewer LineCode
reviewer_fields before parts = do
  loads ← loads_of parts.1 parts.2
  reviewer_with before parts.0 parts.3 loads

-- the reviewer of a line, behind these reviewers
unfoldable pub reviewer_of : List RuleReviewer → List ℕ → Result RuleReviewer LineCode
reviewer_of before line = do
  parts ← in_form (three_or_four_of (fields line))
  reviewer_fields before parts

-- ---- pairs

-- one pair stands before another
abbrev pub is_before : RulePair → RulePair → Bool
is_before a b = nat_lt a.paper b.paper || (a.paper == b.paper && nat_lt a.reviewer b.reviewer)

abbrev pub is_pair_behind : List RulePair → RulePair → Bool
is_pair_behind before pair = behind_last (λ (other : RulePair). is_before other pair) before

abbrev pub pair_with : List RulePair → RulePair → Result RulePair LineCode
pair_with before pair = do
  behind ← needs (is_pair_behind before pair) Order
  Ok pair

-- a place below a count
abbrev pub place_of : ℕ → List ℕ → Result ℕ LineCode
place_of count field = do
  place ← number_from 0 count field
  below ← needs (nat_lt place count) Range
  Ok place

-- the places of a paper and of a reviewer
abbrev pub places_of : ℕ → ℕ → List ℕ → List ℕ → Result (ℕ × ℕ) LineCode
places_of papers reviewers paper reviewer = do
  p ← place_of papers paper
  r ← place_of reviewers reviewer
  Ok (p, r)

-- a floor of none or all tickets, and a cap from the floor to all tickets
abbrev pub tickets_of : List ℕ → List ℕ → Result (ℕ × ℕ) LineCode
tickets_of floor cap = do
  most ← number_from 0 RULES_TICKETS cap
  least ← number_from 0 most floor
  whole ← needs (least == 0 || least == RULES_TICKETS) Range
  Ok (least, most)

abbrev pub are_numbers : List ℕ × List ℕ × List ℕ × List ℕ × List ℕ → Bool
are_numbers f = is_canonical f.0 && (is_canonical f.1 && (is_canonical_signed f.2 && (is_canonical f.3 && is_canonical f.4)))

-- the pair of five numbers
abbrev pub ranged_of : ℕ → ℕ → List ℕ × List ℕ × List ℕ × List ℕ × List ℕ → Result RulePair LineCode
ranged_of papers reviewers parts = do
  places ← places_of papers reviewers parts.0 parts.1
  score ← integer_from most_score parts.2
  tickets ← tickets_of parts.3 parts.4
  Ok (record { paper = places.0; reviewer = places.1; score = score; floor = tickets.0; cap = tickets.1 })

abbrev pub pair_fields : ℕ → ℕ → List RulePair → List ℕ × List ℕ × List ℕ × List ℕ × List ℕ → Result RulePair LineCode
pair_fields papers reviewers before parts = do
  numbers ← needs (are_numbers parts) Number
  pair ← ranged_of papers reviewers parts
  pair_with before pair

-- the pair of a line, behind these pairs, for so many papers and reviewers
unfoldable pub pair_of : ℕ → ℕ → List RulePair → List ℕ → Result RulePair LineCode
pair_of papers reviewers before line = do
  parts ← in_form (five_of (fields line))
  pair_fields papers reviewers before parts

-- ---- the text

unfoldable pub head_at : Cursor → Result (ℕ × Cursor) TextFault
head_at at = do
  kind ← due (fixed (codes "rules 1")) at
  tickets ← due (fixed (codes "tickets 10000")) kind.1
  due (number_after (codes "limit") 1 MOST_LIMIT) tickets.1

unfoldable pub lists_at : Cursor → Result ((List RulePaper × List RuleReviewer × List RulePair) × Cursor) TextFault
lists_at at = do
  papers ← section_at (codes "papers") 0 MOST_PAPERS paper_of at
  reviewers ← section_at (codes "reviewers") 0 MOST_REVIEWERS reviewer_of papers.1
  pairs ← section_at (codes "pairs") 0 MOST_PAIRS (pair_of (length papers.0) (length reviewers.0)) reviewers.1
  Ok ((papers.0, reviewers.0, pairs.0), pairs.1)

unfoldable pub rules_at : Cursor → Result (RulesValue × Cursor) TextFault
rules_at at = do
  limit ← head_at at
  lists ← lists_at limit.1
  end ← due (fixed (codes "end rules")) lists.1
  Ok (rules_value RULES_TICKETS limit.0 lists.0.0 lists.0.1 lists.0.2, end.1)
