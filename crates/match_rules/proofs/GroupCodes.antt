-- The numbers of the pairs, in order, are those of the groups: so the table is that of the groups.
use Rattle.std.proofs.Common.{◌≡◌, ℕ, ◌+◌, ◌*◌, ◌<◌, ◌≤◌, ◌⊎◌, inl, inr, List, [], ◌∷◌, length, get_or, map, Option, Some, None, Ordering, refl, sym, ap, ◌∙◌, subst, arith}
use Rattle.std.specs.declared.cmp.Ordering.TheVariants.{Less, Equal, Greater}
use Rattle.std.specs.Ordering.{nat_cmp, match_ordering, is_eq}
use Rattle.std.specs.List.{AllByRecursion, Contains, position_or_len}
use Rattle.std.specs.List.Sorted.{IsStrictlySortedBy, IsStrictlyIncreasing}
use Rattle.std.proofs.lemmas.Bool.{cases_order}
use Rattle.std.proofs.lemmas.Bool.Decides.{nat_tests}
use Rattle.std.proofs.lemmas.Cmp.{nat_list_cmp_total, tied_itself}
use Rattle.std.proofs.lemmas.List.{get_or-map, length-map}
use Rattle.std.proofs.lemmas.Map.Keys.{Less-from_sorted, below_from_sorted, sorted_from_strictly_increasing}
use Rattle.std.proofs.lemmas.Option.{same_Some}
use Rattle.match_rules.specs.declared.rules.TheConstants.{MOST_REVIEWERS}
use Rattle.match_rules.specs.declared.rules.RulePair.{RulePair}
use Rattle.match_rules.specs.declared.rules.RuleReviewer.{RuleReviewer}
use Rattle.match_rules.specs.Rules.{RulesValue, pair_in, pair_at, reviewer_at, id_cmp, no_pair}
use Rattle.match_rules.specs.Groups.{GroupKey, key_cmp, key_of, groups, group_count, group_of, no_key, group_key}
use Rattle.match_rules.specs.GroupTable.{IsPlaceOf, HasName, IsRank, AreRanks, code_of, IsCodePlace, IsCounted, IsGroupTable}
use Rattle.match_rules.proofs.Ascending.{IsIn, place_of_item, item_at_place, contains_from_in, in_from_contains, in_map, from_map, place_in_sorted, same_ascending}
use Rattle.match_rules.proofs.GroupLaws.{groups_ascend, key_in_groups, pair_of_group, key_parts, group_of_some, group_has_pair, none_group_of}

-- the place of a name
abbrev place_of_name : List (List ℕ) → List ℕ → ℕ
place_of_name names name = position_or_len (λ other. is_eq (id_cmp name other)) names

place_is_name : (names : List (List ℕ)) (name : List ℕ) (place : ℕ) → IsStrictlySortedBy id_cmp names → IsPlaceOf names name place → place_of_name names name ≡ place
place_is_name names name place s (within, at) =
    ap (λ text. place_of_name names text) (sym at) ∙ place_in_sorted nat_list_cmp_total names place [] s within

-- the number of a key
abbrev number_of : List (List ℕ) → GroupKey → ℕ
number_of names key = key.paper * MOST_REVIEWERS + place_of_name names key.institution

lower_place : (names : List (List ℕ)) (a b : List ℕ) (i j : ℕ) → IsStrictlySortedBy id_cmp names → IsPlaceOf names a i → IsPlaceOf names b j → id_cmp a b ≡ Less → i < j
lower_place names a b i j s (i_within, i_at) (j_within, j_at) less =
    elim (cases_order i j) as (λ _. i < j) [
      | inl same ↦
          let one : a ≡ b = sym i_at ∙ ap (λ k. get_or names k []) same ∙ j_at in
          let tie : id_cmp a b ≡ Equal = ap (λ text. id_cmp a text) (sym one) ∙ tied_itself nat_list_cmp_total a in
          absurd (cc (less, tie))
      | inr differs ↦ elim differs as (λ _. i < j) [
        | inl lower ↦ lower
        | inr higher ↦
            let other = Less-from_sorted id_cmp names j i [] s higher i_within in
            let turned : id_cmp b a ≡ Less = ap (λ text. id_cmp text a) (sym j_at) ∙ ap (λ text. id_cmp (get_or names j []) text) (sym i_at) ∙ other in
            let loop : id_cmp a a ≡ Less = nat_list_cmp_total.trans a b a less turned in
            let tie : id_cmp a a ≡ Equal = tied_itself nat_list_cmp_total a in
            absurd (cc (loop, tie))
      ]
    ]

less_cases : (x y : ℕ) (s : Ordering) → match_ordering (nat_cmp x y) Less s Greater ≡ Less → (x < y) ⊎ ((x ≡ y) × (s ≡ Less))
less_cases x y s e = elim (cases_order x y) as (λ _. (x < y) ⊎ ((x ≡ y) × (s ≡ Less))) [
  | inl same ↦
      let tie : nat_cmp x y ≡ Equal = grind (arith, nat_tests) in
      inr (same, rw tie at e)
  | inr differs ↦ elim differs as (λ _. (x < y) ⊎ ((x ≡ y) × (s ≡ Less))) [
    | inl lower ↦ inl lower
    | inr higher ↦
        let above : nat_cmp x y ≡ Greater = grind (arith, nat_tests) in
        let wrong : Greater ≡ Less = rw above at e in
        absurd (cc wrong)
  ]
]

-- the numbers of keys are in the order of the keys
lower_number : (names : List (List ℕ)) (a b : GroupKey) → length names ≤ MOST_REVIEWERS → IsStrictlySortedBy id_cmp names
    → HasName names a.institution → HasName names b.institution → key_cmp a b ≡ Less → number_of names a < number_of names b
lower_number names a b few s (i, i_at) (j, j_at) less =
    rw (place_is_name names a.institution i s i_at, place_is_name names b.institution j s j_at)
    (elim (less_cases a.paper b.paper (id_cmp a.institution b.institution) less) as (λ _. a.paper * MOST_REVIEWERS + i < b.paper * MOST_REVIEWERS + j) [
      | inl lower ↦ omega (arith, i_at.0)
      | inr same ↦ let before = lower_place names a.institution b.institution i j s i_at j_at same.1 in omega (arith, same.0)
    ])

numbers_above : (names : List (List ℕ)) (key : GroupKey) (keys : List GroupKey) → length names ≤ MOST_REVIEWERS → IsStrictlySortedBy id_cmp names
    → HasName names key.institution → ((k : GroupKey) → IsIn k keys → HasName names k.institution)
    → AllByRecursion (λ k. key_cmp key k ≡ Less) keys → AllByRecursion (λ n. nat_cmp (number_of names key) n ≡ Less) (map (number_of names) keys)
numbers_above names key [] few s has named all = tt
numbers_above names key (first ∷ keys) few s has named all =
    let below = lower_number names key first few s has (named first (inl refl)) all.0 in
    (less_from_lt (number_of names key) (number_of names first) below, numbers_above names key keys few s has (λ k h. named k (inr h)) all.1)
  where
    less_from_lt : (x y : ℕ) → x < y → nat_cmp x y ≡ Less
    less_from_lt x y h = grind (arith, nat_tests)

numbers_ascend : (names : List (List ℕ)) (keys : List GroupKey) → length names ≤ MOST_REVIEWERS → IsStrictlySortedBy id_cmp names
    → ((k : GroupKey) → IsIn k keys → HasName names k.institution) → IsStrictlySortedBy key_cmp keys → IsStrictlySortedBy nat_cmp (map (number_of names) keys)
unfolding IsStrictlySortedBy
numbers_ascend names [] few s named up = tt
numbers_ascend names (key ∷ keys) few s named up =
    (numbers_above names key keys few s (named key (inl refl)) (λ k h. named k (inr h)) up.0, numbers_ascend names keys few s (λ k h. named k (inr h)) up.1)

-- ---- the numbers of pairs

rank_some : (names : List (List ℕ)) (name : List ℕ) (rank : Option ℕ) → IsRank names (Some name) rank → (place : ℕ) × (rank ≡ Some place) × IsPlaceOf names name place
rank_some names name None is = absurd is
rank_some names name (Some place) is = (place, refl, is)

rank_none : (names : List (List ℕ)) (rank : Option ℕ) → IsRank names None rank → rank ≡ None
rank_none names None is = refl
rank_none names (Some place) is = absurd is

rank_at : (names : List (List ℕ)) (name other : Option (List ℕ)) (rank : Option ℕ) → name ≡ other → IsRank names name rank → IsRank names other rank
rank_at names name other rank e is = subst (λ n. IsRank names n rank) e is

-- what the ranks of the reviewers say of one pair
abbrev RankOfPair : RulesValue → List (List ℕ) → List (Option ℕ) → ℕ → Type 0
RankOfPair rules names ranks e = IsRank names (reviewer_at rules (pair_at rules e).reviewer).institution (get_or ranks (pair_at rules e).reviewer None)

-- the number of a pair is that of its key, whose institution has a name
pub record IsNumbered (rules : RulesValue) (names : List (List ℕ)) (ranks : List (Option ℕ)) (e : ℕ) (key : GroupKey) : Type 0 where
  pub named : HasName names key.institution
  pub number : code_of ranks (pair_at rules e) ≡ Some (number_of names key)

number_of_key : (rules : RulesValue) (names : List (List ℕ)) (ranks : List (Option ℕ)) (e : ℕ) (key : GroupKey)
    → IsStrictlySortedBy id_cmp names → RankOfPair rules names ranks e → key_of rules e ≡ Some key → IsNumbered rules names ranks e key
number_of_key rules names ranks e key s is k =
    let parts = key_parts rules e key k in
    let found = rank_some names key.institution (get_or ranks (pair_at rules e).reviewer None) (rank_at names _ _ _ parts.institution is) in
    record {
      named = (found.0, found.2);
      number =
          rw (found.1)
          (ap (λ n. Some n) (ap (λ p. p * MOST_REVIEWERS + found.0) (sym parts.paper) ∙ ap (λ k. key.paper * MOST_REVIEWERS + k) (sym (place_is_name names key.institution found.0 s found.2))));
    }

number_of_none : (rules : RulesValue) (names : List (List ℕ)) (ranks : List (Option ℕ)) (e : ℕ)
    → RankOfPair rules names ranks e → (reviewer_at rules (pair_at rules e).reviewer).institution ≡ None → code_of ranks (pair_at rules e) ≡ None
number_of_none rules names ranks e is none =
    rw (rank_none names (get_or ranks (pair_at rules e).reviewer None) (rank_at names _ _ _ none is)) refl

-- a pair has a key, or its reviewer has no institution
key_or_none : (rules : RulesValue) (e : ℕ) → ((key : GroupKey) × (key_of rules e ≡ Some key)) ⊎ ((reviewer_at rules (pair_at rules e).reviewer).institution ≡ None)
key_or_none rules e = by (reviewer_at rules (pair_at rules e).reviewer).institution refl
  where
    by : (name : Option (List ℕ)) → (reviewer_at rules (pair_at rules e).reviewer).institution ≡ name
        → ((key : GroupKey) × (key_of rules e ≡ Some key)) ⊎ ((reviewer_at rules (pair_at rules e).reviewer).institution ≡ None)
    by None is = inr is
    by (Some n) is =
        let key : GroupKey = record { paper = (pair_at rules e).paper; institution = n } in
        let has : key_of rules e ≡ Some key = rw is refl in
        inl (key, has)

-- the numbers of the pairs of rules, and these in order
pub record AreNumbers (rules : RulesValue) (names : List (List ℕ)) (ranks codes : List (Option ℕ)) (numbers : List ℕ) : Type 0 where
  pub ranked : AreRanks names rules.reviewers ranks
  pub known : (e : ℕ) → e < length rules.pairs → (pair_at rules e).reviewer < length rules.reviewers
  pub codes_are : codes ≡ map (code_of ranks) rules.pairs
  pub ascending : IsStrictlyIncreasing numbers
  pub all : (x : ℕ) → Contains codes (Some x) → Contains numbers x
  pub only : (x : ℕ) → Contains numbers x → Contains codes (Some x)

module _ (rules : RulesValue) (names : List (List ℕ)) (ranks codes : List (Option ℕ)) (numbers : List ℕ) (are : AreNumbers rules names ranks codes numbers) where
  rank_of_pair : (e : ℕ) → e < length rules.pairs → RankOfPair rules names ranks e
  rank_of_pair e h = are.ranked.each (pair_at rules e).reviewer (are.known e h)

  code_at : (e : ℕ) → e < length rules.pairs → get_or codes e None ≡ code_of ranks (pair_at rules e)
  code_at e h = ap (λ list. get_or list e None) are.codes_are ∙ get_or-map (code_of ranks) rules.pairs e no_pair None h

  codes_as_long : length codes ≡ length rules.pairs
  codes_as_long = ap (λ (list : List (Option ℕ)). length list) are.codes_are ∙ length-map rules.pairs (code_of ranks)

  numbered : (e : ℕ) (key : GroupKey) → e < length rules.pairs → key_of rules e ≡ Some key → IsNumbered rules names ranks e key
  numbered e key h k = number_of_key rules names ranks e key are.ranked.ascending (rank_of_pair e h) k

  group_named : (key : GroupKey) → IsIn key (groups rules) → HasName names key.institution
  group_named key h =
      let pair = pair_of_group rules key h in
      (numbered pair.0 key pair.1 pair.2).named

  -- each number of a group is there
  has_groups : (z : ℕ) → IsIn z (map (number_of names) (groups rules)) → IsIn z numbers
  has_groups z h =
      let key = from_map (number_of names) z (groups rules) h in
      let pair = pair_of_group rules key.0 key.1 in
      let code : get_or codes pair.0 None ≡ Some z = code_at pair.0 pair.1 ∙ (numbered pair.0 key.0 pair.1 pair.2).number ∙ ap (λ n. Some n) key.2 in
      let within : pair.0 < length codes = omega (arith, pair.1, codes_as_long) in
      in_from_contains z numbers (are.all z (contains_from_in (Some z) codes (subst (λ c. IsIn c codes) code (item_at_place None codes pair.0 within))))

  -- and no other
  is_of_group : (z : ℕ) → IsIn z numbers → IsIn z (map (number_of names) (groups rules))
  is_of_group z h =
      let code = place_of_item (Some z) None codes (in_from_contains (Some z) codes (are.only z (contains_from_in z numbers h))) in
      let e = code.0 in
      let within : e < length rules.pairs = omega (arith, code.1, codes_as_long) in
      let coded : code_of ranks (pair_at rules e) ≡ Some z = sym (code_at e within) ∙ code.2 in
      elim (key_or_none rules e) as (λ _. IsIn z (map (number_of names) (groups rules))) [
        | inl keyed ↦
            let number : number_of names keyed.0 ≡ z = same_Some _ _ (sym (numbered e keyed.0 within keyed.1).number ∙ coded) in
            subst (λ n. IsIn n (map (number_of names) (groups rules))) number (in_map (number_of names) keyed.0 (groups rules) (key_in_groups rules e keyed.0 within keyed.1))
        | inr none ↦
            let nothing : code_of ranks (pair_at rules e) ≡ None = number_of_none rules names ranks e (rank_of_pair e within) none in
            absurd (cc (nothing, coded))
      ]

  -- so the numbers are those of the groups
  pub numbers_are : numbers ≡ map (number_of names) (groups rules)
  numbers_are =
      same_ascending numbers (map (number_of names) (groups rules))
      (sorted_from_strictly_increasing numbers are.ascending)
      (numbers_ascend names (groups rules) are.ranked.few are.ranked.ascending group_named (groups_ascend rules))
      has_groups is_of_group

  number_at : (g : ℕ) → g < group_count rules → get_or numbers g 0 ≡ number_of names (group_key rules g)
  number_at g h = ap (λ list. get_or list g 0) numbers_are ∙ get_or-map (number_of names) (groups rules) g no_key 0 h

  pub count_is : length numbers ≡ group_count rules
  count_is = ap (λ (list : List ℕ). length list) numbers_are ∙ length-map (groups rules) (number_of names)

  -- a number stands at one place
  one_place : (i g : ℕ) → i < length numbers → g < length numbers → get_or numbers i 0 ≡ get_or numbers g 0 → i ≡ g
  one_place i g i_within g_within same =
      let rises = sorted_from_strictly_increasing numbers are.ascending in
      elim (cases_order i g) as (λ _. i ≡ g) [
        | inl e ↦ e
        | inr differs ↦ elim differs as (λ _. i ≡ g) [
          | inl lower ↦ let h = below_from_sorted numbers i g 0 rises lower g_within in absurd (omega arith)
          | inr higher ↦ let h = below_from_sorted numbers g i 0 rises higher i_within in absurd (omega arith)
        ]
      ]

  place_none : (place : Option ℕ) → IsCodePlace numbers None place → place ≡ None
  place_none None is = refl
  place_none (Some g) is = absurd is

  place_some : (code : ℕ) (place : Option ℕ) → IsCodePlace numbers (Some code) place → (i : ℕ) × (place ≡ Some i) × (i < length numbers) × (get_or numbers i 0 ≡ code)
  place_some code None is = absurd is
  place_some code (Some i) (within, at) = (i, refl, within, at)

  -- the place of a pair's number is its group
  pub place_is_group : (e : ℕ) (place : Option ℕ) → e < length rules.pairs → IsCodePlace numbers (get_or codes e None) place → place ≡ group_of rules e
  place_is_group e place h is =
      elim (key_or_none rules e) as (λ _. place ≡ group_of rules e) [
        | inl keyed ↦
            let code : get_or codes e None ≡ Some (number_of names keyed.0) = code_at e h ∙ (numbered e keyed.0 h keyed.1).number in
            let found = place_some (number_of names keyed.0) place (subst (λ c. IsCodePlace numbers c place) code is) in
            let group = group_of_some rules e keyed.0 h keyed.1 in
            let number : get_or numbers group.0 0 ≡ number_of names keyed.0 = number_at group.0 group.1 ∙ ap (number_of names) group.3 in
            let same : found.0 ≡ group.0 = one_place found.0 group.0 found.2 (omega (arith, group.1, count_is)) (found.3 ∙ sym number) in
            found.1 ∙ ap (λ g. Some g) same ∙ sym group.2
        | inr none ↦
            let code : get_or codes e None ≡ None = code_at e h ∙ number_of_none rules names ranks e (rank_of_pair e h) none in
            place_none place (subst (λ c. IsCodePlace numbers c place) code is) ∙ sym (none_group_of rules e none)
      ]

  -- so the table that was counted is that of the groups
  pub counted_is_table : (of_pair : List (Option ℕ)) (firsts : List ℕ) → IsCounted codes numbers of_pair firsts → IsGroupTable rules of_pair firsts
  counted_is_table of_pair firsts counted =
      let each : (e : ℕ) → e < length rules.pairs → get_or of_pair e None ≡ group_of rules e =
      λ e h. place_is_group e (get_or of_pair e None) h (counted.places.each e (omega (arith, codes_as_long))) in
      record {
        pairs = counted.places.as_long ∙ codes_as_long;
        each = each;
        count = counted.count ∙ count_is;
        first = λ g h.
            let pair = group_has_pair rules g h in
            counted.first pair.0 g (omega (arith, pair.1, counted.places.as_long, codes_as_long)) (each pair.0 pair.1 ∙ pair.2);
      }

-- the table of two lists, as it is counted step by step
pub table_is : (rules : RulesValue) (reviewers : List RuleReviewer) (pairs : List RulePair) (ranks lent_ranks codes lent_codes passed_codes : List (Option ℕ)) (numbers lent_numbers : List ℕ)
    → ((names : List (List ℕ)) × AreRanks names reviewers ranks)
    → ((e : ℕ) → e < length pairs → (pair_in pairs e).reviewer < length reviewers)
    → lent_ranks ≡ ranks → codes ≡ map (code_of lent_ranks) pairs → lent_codes ≡ codes → passed_codes ≡ codes → lent_numbers ≡ numbers
    → IsStrictlyIncreasing numbers
    → ((x : ℕ) → Contains lent_codes (Some x) → Contains numbers x)
    → ((x : ℕ) → Contains numbers x → Contains lent_codes (Some x))
    → rules.reviewers ≡ reviewers → rules.pairs ≡ pairs
    → (of_pair : List (Option ℕ)) (firsts : List ℕ) → IsCounted passed_codes lent_numbers of_pair firsts → IsGroupTable rules of_pair firsts
table_is rules reviewers pairs ranks lent_ranks codes lent_codes passed_codes numbers lent_numbers ranked known ranks_same codes_are codes_same passed_same numbers_same ascending all only of_reviewers of_pairs of_pair firsts counted =
    let are : AreNumbers rules ranked.0 ranks codes numbers = record {
      ranked = rw of_reviewers ranked.1;
      known = λ e h. rw (of_reviewers, of_pairs) (known e (rw of_pairs at h));
      codes_are = rw of_pairs (codes_are ∙ ap (λ list. map (code_of list) pairs) ranks_same);
      ascending = ascending;
      all = λ x h. all x (rw codes_same h);
      only = λ x h. rw codes_same at (only x h);
    } in
    counted_is_table rules ranked.0 ranks codes numbers are of_pair firsts
    (subst (λ list. IsCounted list numbers of_pair firsts) passed_same (subst (λ list. IsCounted passed_codes list of_pair firsts) numbers_same counted))
