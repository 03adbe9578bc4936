-- The groups of places, counted: the least group over the limit, and what it breaks.
use Rattle.std.proofs.Common.{◌≡◌, ℕ, ◌<◌, ◌≤◌, inl, inr, Bool, true, false, cond, eqb, List, length, get_or, count_by, All, Option, Some, None, sym, ap, ◌∙◌, arith}
use Rattle.std.proofs.lemmas.Bool.{cases_lt, cases_Bool, eqb-true, lt-leb, le-leb}
use Rattle.std.proofs.lemmas.List.Elements.{All-from_get_or}
use Rattle.std.proofs.lemmas.List.Sums.{sum_by-le}
use Rattle.std.specs.Option.{option_map_or}
use Rattle.match_rules.specs.declared.breaks.Break.TheVariants.{Group}
use Rattle.match_rules.specs.Assignments.{member_count}
use Rattle.match_rules.specs.Breaks.{group_break}
use Rattle.match_rules.specs.First.{first_below}
use Rattle.match_rules.specs.Groups.{group_count, group_of, is_in_group}
use Rattle.match_rules.specs.Rules.{RulesValue}
use Rattle.match_rules.specs.Sound.{AreCounts, IsLeastOver}
use Rattle.match_rules.proofs.Firsts.{first_below-all, first_below-found}
use Rattle.match_rules.proofs.Found.{unless-true, unless-false}

none_counted : (test : ℕ → Bool) (places : List ℕ) → ((i : ℕ) → i < length places → test (get_or places i 0) ≡ false) → count_by test places ≡ 0
none_counted test places none =
    let each : All (λ e. cond (test e) 1 0 ≤ 0) places = All-from_get_or (λ e. cond (test e) 1 0 ≤ 0) places 0 (λ k h. rw (none k h) (omega arith)) in
    let in_all = sum_by-le (λ (e : ℕ). cond (test e) 1 0) 0 places each in
    omega (arith, in_all)

group_by_test : (g : ℕ) (group : Option ℕ) → option_map_or (λ place. eqb place g) group false ≡ true → group ≡ Some g
group_by_test g None e = absurd (cc e)
group_by_test g (Some place) e = ap (λ p. Some p) (eqb-true place g e)

-- what a loop over places finds is the least group over the limit
pub least_is : (rules : RulesValue) (places counts : List ℕ) (first : ℕ) → AreCounts counts (group_count rules) (member_count rules places)
    → first ≤ group_count rules → (first < group_count rules → rules.limit < get_or counts first 0)
    → ((i g : ℕ) → i < length places → group_of rules (get_or places i 0) ≡ Some g → rules.limit < get_or counts g 0 → first ≤ g)
    → IsLeastOver rules places first
least_is rules places counts first are within over least =
    let size = are.size in
    record {
      within = within;
      over = λ h. let counted = are.each first (omega arith) in let high = over h in omega (arith, counted, high);
      least = λ h low. elim (cases_lt rules.limit (member_count rules places h)) as (λ _. member_count rules places h ≤ rules.limit) [
        | inl high ↦
            let counted = are.each h (omega arith) in
            let none = none_counted (is_in_group rules h) places
            (λ i below. elim (cases_Bool (is_in_group rules h (get_or places i 0))) as (λ _. is_in_group rules h (get_or places i 0) ≡ false) [
              | inl there ↦
                  let no_higher = least i h below (group_by_test h (group_of rules (get_or places i 0)) there) (omega (arith, counted, high)) in
                  absurd (omega (arith, no_higher, low))
              | inr absent ↦ absent
            ]) in
            absurd (omega (arith, none, high))
        | inr fits ↦ fits
      ];
    }

group_fits : (rules : RulesValue) (k g : ℕ) (places : List ℕ) → member_count rules places g ≤ rules.limit → group_break rules k places g ≡ None
group_fits rules k g places h = unless-true _ _ (le-leb _ _ h)

-- no group is over the limit
pub no_over_break : (rules : RulesValue) (k group : ℕ) (places : List ℕ) → IsLeastOver rules places group → group ≡ group_count rules
    → None ≡ first_below (group_count rules) (group_break rules k places)
no_over_break rules k group places is all =
    sym (first_below-all (group_count rules) (group_break rules k places) (λ g h. group_fits rules k g places (is.least g (omega arith))))

-- the least group over the limit is the first break
pub over_break_is : (rules : RulesValue) (k group count : ℕ) (places : List ℕ) → IsLeastOver rules places group → group < group_count rules → count ≡ member_count rules places group
    → Some (Group k group count) ≡ first_below (group_count rules) (group_break rules k places)
over_break_is rules k group count places is within counted =
    let none = first_below-all group (group_break rules k places) (λ g h. group_fits rules k g places (is.least g h)) in
    let here : group_break rules k places group ≡ Some (Group k group (member_count rules places group)) = unless-false _ _ (lt-leb _ _ (is.over within)) in
    ap (λ n. Some (Group k group n)) counted ∙ sym (first_below-found (group_count rules) group (group_break rules k places) _ within none here)
