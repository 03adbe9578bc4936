-- What a table of groups says of the first pair of a group.
use Rattle.std.proofs.Common.{◌≡◌, ℕ, ◌<◌, List, length, get_or, Option, Some, sym, ap, ◌∙◌, arith}
use Rattle.std.proofs.lemmas.List.{get_or_read}
use Rattle.match_rules.specs.declared.rules.RulePair.{RulePair}
use Rattle.match_rules.specs.Rules.{RulesValue, pair_at, no_pair}
use Rattle.match_rules.specs.Groups.{group_count, group_of, group_key, first_member, paper_of_group}
use Rattle.match_rules.specs.GroupTable.{IsGroupTable}
use Rattle.match_rules.proofs.GroupLaws.{group_of_paper, first_member_is}

-- the pair that was read is the first of the group
pub record IsReadFirst (rules : RulesValue) (g : ℕ) (pair : RulePair) : Type 0 where
  pub paper : pair.paper ≡ paper_of_group rules g
  pub reviewer : Some pair.reviewer ≡ first_member rules (group_key rules g)

pub read_first : (rules : RulesValue) (of_pair : List (Option ℕ)) (firsts : List ℕ) (g first : ℕ) (pair : RulePair)
    → IsGroupTable rules of_pair firsts → g < group_count rules → first ≡ get_or firsts g first → pair ≡ get_or rules.pairs first pair → IsReadFirst rules g pair
read_first rules of_pair firsts g first pair table h at_first at_pair =
    let read : first ≡ get_or firsts g 0 = get_or_read firsts g first (omega (arith, table.count)) at_first 0 in
    let is = table.first g h in
    let within : get_or firsts g 0 < length rules.pairs = omega (arith, is.within, table.pairs) in
    let grouped : group_of rules (get_or firsts g 0) ≡ Some g = sym (table.each (get_or firsts g 0) within) ∙ is.has in
    let pair_is : pair ≡ pair_at rules (get_or firsts g 0) = get_or_read rules.pairs first pair (omega (arith, read)) at_pair no_pair ∙ ap (λ e. pair_at rules e) read in
    record {
      paper = ap (λ (p : RulePair). p.paper) pair_is ∙ sym (group_of_paper rules (get_or firsts g 0) g grouped);
      reviewer =
          ap (λ (p : RulePair). Some p.reviewer) pair_is
          ∙ sym (first_member_is rules g (get_or firsts g 0) h within grouped (λ k low has. is.before k low (table.each k (omega (arith, within)) ∙ has)));
    }
