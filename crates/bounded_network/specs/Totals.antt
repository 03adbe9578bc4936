-- The sums of shares that rounded bounds are made of.
use Rattle.std.specs.Prelude.{◌≡◌, ℕ, ◌<◌, ◌^◌, List, length, slice_index}
use Rattle.match_rules.specs.Rules.{RulesValue}
use Rattle.match_rules.specs.Groups.{group_count}
use Rattle.match_rules.specs.SharesFit.{paper_shares, group_shares, reviewer_shares}
use Rattle.bounded_network.specs.declared.spans.Amounts.{Amounts}
use Rattle.bounded_network.specs.declared.spans.Amounts.TheVariants.{Tickets, Rounded}
use Rattle.bounded_network.specs.declared.totals.Totals.{Totals}
use Rattle.bounded_network.specs.Compile.{listed}

-- numbers of 32 bits
abbrev pub AreWords : List ℕ → Type 0
AreWords numbers = (e : ℕ) → slice_index numbers e < 2 ^ 32

-- the sums of the papers, groups and reviewers
pub record AreSums (rules : RulesValue) (shares : List ℕ) (totals : Totals) : Type 0 where
  pub words : AreWords shares
  pub papers : totals.papers.items ≡ listed (length rules.papers) (paper_shares rules shares)
  pub of_groups : totals.of_groups.items ≡ listed (group_count rules) (group_shares rules shares)
  pub reviewers : totals.reviewers.items ≡ listed (length rules.reviewers) (reviewer_shares rules shares)

-- none are needed for tickets
abbrev pub AreTotals : RulesValue → Amounts → Totals → Type 0
AreTotals rules Tickets totals = Unit {0}
AreTotals rules (Rounded shares left) totals = AreSums rules shares.now totals
