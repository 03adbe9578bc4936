-- The candidate pairs of a venue.
use Rattle.std.specs.Prelude.{ℕ, ◌+◌, Bool, false, ◌&&◌, ◌||◌, not, if◌then◌else◌, List, [], ◌∷◌, ◌++◌, ℤ, pos, negsuc, neg_ℤ}
use Rattle.std.specs.List.{list_any}
use Rattle.std.specs.Option.{option_map_or}
use Rattle.std.specs.Ordering.{int_eq}
use Rattle.std.specs.Str.{bytes_eq}
use Rattle.match_rules.specs.declared.rules.RulePair.{RulePair}
use Rattle.match_rules.specs.declared.rules.TheConstants.{RULES_TICKETS}
use Rattle.roster.specs.declared.rows.PaperRow.{PaperRow}
use Rattle.roster.specs.declared.rows.ReviewerRow.{ReviewerRow}
use Rattle.score_spec.specs.Scores.{has_row, score_of}
use Rattle.venue_rules.specs.Venues.{VenueValue, mark_of, cap_of}

-- the reviewer's institution is among those of the paper's authors
abbrev pub do_share : PaperRow → ReviewerRow → Bool
do_share paper reviewer = option_map_or (λ name. list_any (λ author. bytes_eq author name) paper.authors) reviewer.institution false

-- a mark of 1 locks a pair
abbrev pub is_marked : VenueValue → PaperRow → ReviewerRow → Bool
is_marked venue paper reviewer = int_eq (mark_of venue paper.id reviewer.id) (pos 1)

-- a mark of -1 or a shared institution forbids it
abbrev pub is_forbidden : VenueValue → PaperRow → ReviewerRow → Bool
is_forbidden venue paper reviewer = int_eq (mark_of venue paper.id reviewer.id) (neg_ℤ (pos 1)) || do_share paper reviewer

-- a value, a bid or the mark 1 lists it, or the settings list all
abbrev pub is_listed : VenueValue → PaperRow → ReviewerRow → Bool
is_listed venue paper reviewer = venue.settings.all_pairs || (has_row venue.scores paper.id reviewer.id || is_marked venue paper reviewer)

abbrev pub is_candidate : VenueValue → PaperRow → ReviewerRow → Bool
is_candidate venue paper reviewer = is_listed venue paper reviewer && not (is_forbidden venue paper reviewer)

-- the tickets of a cap, which isn't below 0
abbrev pub tickets_of : ℤ → ℕ
tickets_of (pos cap) = cap
tickets_of (negsuc cap) = 0

-- the pair of a paper and a reviewer at these places: all tickets where it is locked, else up to its cap
abbrev pub pair_of : VenueValue → ℕ → PaperRow → ℕ → ReviewerRow → RulePair
pair_of venue i paper j reviewer = record {
  paper = i;
  reviewer = j;
  score = score_of venue.settings.spec venue.scores paper.id reviewer.id;
  floor = if is_marked venue paper reviewer then RULES_TICKETS else 0;
  cap = if is_marked venue paper reviewer then RULES_TICKETS else tickets_of (cap_of venue paper.id reviewer.id);
}

-- the pairs of a paper with the reviewers from place j on
abbrev pub pairs_of_paper : VenueValue → ℕ → PaperRow → ℕ → List ReviewerRow → List RulePair
pairs_of_paper venue i paper j [] = []
pairs_of_paper venue i paper j (reviewer ∷ reviewers) =
    if is_candidate venue paper reviewer then pair_of venue i paper j reviewer ∷ pairs_of_paper venue i paper (j + 1) reviewers else pairs_of_paper venue i paper (j + 1) reviewers

-- the candidates of the papers from place i on, by paper and then reviewer
abbrev pub pairs_from : VenueValue → ℕ → List PaperRow → List RulePair
pairs_from venue i [] = []
pairs_from venue i (paper ∷ papers) = pairs_of_paper venue i paper 0 venue.reviewers ++ pairs_from venue (i + 1) papers

unfoldable pub candidates : VenueValue → List RulePair
candidates venue = pairs_from venue 0 venue.papers
