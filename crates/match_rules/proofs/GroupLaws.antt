-- The laws of groups: they ascend, each is the key of a pair, and each pair that has a key is in the group of its key.
use Rattle.std.proofs.Common.{◌≡◌, ◌↔◌, ℕ, zero, suc, ◌+◌, ◌<◌, ◌≤◌, ◌⊎◌, inl, inr, Bool, true, false, ltb, List, length, get_or, Option, Some, None, Ordering, refl, sym, ap, ◌∙◌, subst, arith}
use Rattle.std.specs.declared.cmp.Ordering.TheVariants.{Less, Equal, Greater}
use Rattle.std.specs.Ordering.{is_eq}
use Rattle.std.specs.List.{position, position_or_len}
use Rattle.std.specs.List.Sorted.{IsStrictlySortedBy}
use Rattle.std.specs.Option.{option_map, option_map_or, IfSome, IsNone}
use Rattle.std.proofs.lemmas.Bool.{cases_lt}
use Rattle.std.proofs.lemmas.Bool.Decides.{nat_tests}
use Rattle.std.proofs.lemmas.Cmp.{tied_itself}
use Rattle.std.proofs.lemmas.List.Quantifiers.{position-Some}
use Rattle.std.proofs.lemmas.Option.{same_Some, option_and_then_some}
use Rattle.match_rules.specs.Rules.{RulesValue, pair_at, reviewer_at}
use Rattle.match_rules.specs.Groups.{GroupKey, key_cmp, same_key, key_of, put_key, put_some, keys_below, groups, group_count, group_of, has_key, member, first_member, no_key, group_key, paper_of_group}
use Rattle.match_rules.proofs.GroupKeys.{key_cmp_total, same_keys, sorted_put, new_in_put, old_in_put, in_put_cases, length_put}
use Rattle.match_rules.proofs.Firsts.{first_below-found, first_below-all}
use Rattle.match_rules.proofs.Ascending.{IsIn, place_of_item, item_at_place, place_in_sorted}

tied_by_test : (r : Ordering) → is_eq r ≡ true → r ≡ Equal
tied_by_test Less t = absurd (cc t)
tied_by_test Equal t = refl
tied_by_test Greater t = absurd (cc t)

-- ---- the keys of the pairs below a place

sorted_put_some : (new : Option GroupKey) (keys : List GroupKey) → IsStrictlySortedBy key_cmp keys → IsStrictlySortedBy key_cmp (put_some new keys)
sorted_put_some None keys s = s
sorted_put_some (Some new) keys s = sorted_put new keys s

sorted_below : (rules : RulesValue) (n : ℕ) → IsStrictlySortedBy key_cmp (keys_below rules n)
unfolding IsStrictlySortedBy
sorted_below rules zero = tt
sorted_below rules (suc n) = sorted_put_some (key_of rules n) (keys_below rules n) (sorted_below rules n)

new_in_put_some : (new : Option GroupKey) (key : GroupKey) (keys : List GroupKey) → new ≡ Some key → IsIn key (put_some new keys)
new_in_put_some None key keys e = absurd (cc e)
new_in_put_some (Some new) key keys e = subst (λ k. IsIn k (put_key new keys)) (same_Some new key e) (new_in_put new keys)

old_in_put_some : (new : Option GroupKey) (old : GroupKey) (keys : List GroupKey) → IsIn old keys → IsIn old (put_some new keys)
old_in_put_some None old keys h = h
old_in_put_some (Some new) old keys h = old_in_put new old keys h

in_put_some_cases : (new : Option GroupKey) (some : GroupKey) (keys : List GroupKey) → IsIn some (put_some new keys) → (new ≡ Some some) ⊎ IsIn some keys
in_put_some_cases None some keys h = inr h
in_put_some_cases (Some new) some keys h =
    elim (in_put_cases new some keys h) as (λ _. (Some new ≡ Some some) ⊎ IsIn some keys) [ inl e ↦ inl (ap (λ k. Some k) e) | inr rest ↦ inr rest ]

-- the key of a pair below the place stands there
key_in_below : (rules : RulesValue) (n e : ℕ) (key : GroupKey) → e < n → key_of rules e ≡ Some key → IsIn key (keys_below rules n)
key_in_below rules zero e key h k = absurd (omega arith)
key_in_below rules (suc n) e key h k =
    elim (cases_lt e n) as (λ _. IsIn key (keys_below rules (suc n))) [
      | inl below ↦ old_in_put_some (key_of rules n) key (keys_below rules n) (key_in_below rules n e key below k)
      | inr last ↦ let same : e ≡ n = omega arith in new_in_put_some (key_of rules n) key (keys_below rules n) (ap (key_of rules) (sym same) ∙ k)
    ]

-- a pair that has this key
abbrev pub HasPairBelow : RulesValue → ℕ → GroupKey → Type 0
HasPairBelow rules n key = (e : ℕ) × (e < n) × (key_of rules e ≡ Some key)

pair_of_below : (rules : RulesValue) (n : ℕ) (key : GroupKey) → IsIn key (keys_below rules n) → HasPairBelow rules n key
pair_of_below rules zero key h = absurd h
pair_of_below rules (suc n) key h =
    elim (in_put_some_cases (key_of rules n) key (keys_below rules n) h) as (λ _. HasPairBelow rules (suc n) key) [
      | inl last ↦ (n, omega arith, last)
      | inr rest ↦ let found = pair_of_below rules n key rest in (found.0, omega (arith, found.1), found.2)
    ]

length_put_some : (new : Option GroupKey) (keys : List GroupKey) → length (put_some new keys) ≤ length keys + 1
length_put_some None keys = omega arith
length_put_some (Some new) keys = length_put new keys

few_below : (rules : RulesValue) (n : ℕ) → length (keys_below rules n) ≤ n
few_below rules zero = omega arith
few_below rules (suc n) = omega (arith, few_below rules n, length_put_some (key_of rules n) (keys_below rules n))

-- ---- all groups

-- the groups ascend strictly
pub groups_ascend : (rules : RulesValue) → IsStrictlySortedBy key_cmp (groups rules)
unfolding groups
groups_ascend rules = sorted_below rules (length rules.pairs)

-- the key of each pair is among them
pub key_in_groups : (rules : RulesValue) (e : ℕ) (key : GroupKey) → e < length rules.pairs → key_of rules e ≡ Some key → IsIn key (groups rules)
unfolding groups
key_in_groups rules e key h k = key_in_below rules (length rules.pairs) e key h k

-- and each of them is the key of a pair
pub pair_of_group : (rules : RulesValue) (key : GroupKey) → IsIn key (groups rules) → HasPairBelow rules (length rules.pairs) key
unfolding groups
pair_of_group rules key h = pair_of_below rules (length rules.pairs) key h

-- there are no more groups than pairs
pub group_count_few : (rules : RulesValue) → group_count rules ≤ length rules.pairs
unfolding groups
group_count_few rules = few_below rules (length rules.pairs)

-- ---- the place of a key among those that ascend

found_at : {X : Type 0} (p : X → Bool) (xs : List X) (g : ℕ) → g < length xs → position_or_len p xs ≡ g → position p xs ≡ Some g
found_at p xs g h e = let yes : ltb g (length xs) ≡ true = grind (arith, nat_tests) in rw e (rw yes refl)

pub place_is : (keys : List GroupKey) (g : ℕ) → IsStrictlySortedBy key_cmp keys → g < length keys → position (same_key (get_or keys g no_key)) keys ≡ Some g
place_is keys g s h = found_at (same_key (get_or keys g no_key)) keys g h (place_in_sorted key_cmp_total keys g no_key s h)

-- ---- the group of a pair

-- a pair's group is a place among the groups, at which its key stands
pub group_of_key : (rules : RulesValue) (e g : ℕ) → group_of rules e ≡ Some g → key_of rules e ≡ Some (group_key rules g)
unfolding group_of
group_of_key rules e g h =
    option_and_then_some (λ key. position (same_key key) (groups rules)) (key_of rules e) g h
    (λ key k found.
    let parts = position-Some (same_key key) (groups rules) g no_key found in
    k ∙ ap (λ x. Some x) (same_by_test key (group_key rules g) parts.1))
  where
    same_by_test : (a b : GroupKey) → same_key a b ≡ true → a ≡ b
    same_by_test a b t = same_keys a b (tied_by_test (key_cmp a b) t)

pub group_of_below : (rules : RulesValue) (e g : ℕ) → group_of rules e ≡ Some g → g < group_count rules
unfolding group_of
group_of_below rules e g h =
    option_and_then_some (λ key. position (same_key key) (groups rules)) (key_of rules e) g h
    (λ key k found. (position-Some (same_key key) (groups rules) g no_key found).0)

-- the pair's key has the pair's paper and its reviewer's institution
pub record IsKeyOf (rules : RulesValue) (e : ℕ) (key : GroupKey) : Type 0 where
  pub paper : key.paper ≡ (pair_at rules e).paper
  pub institution : (reviewer_at rules (pair_at rules e).reviewer).institution ≡ Some key.institution

pub key_parts : (rules : RulesValue) (e : ℕ) (key : GroupKey) → key_of rules e ≡ Some key → IsKeyOf rules e key
key_parts rules e key h = by (reviewer_at rules (pair_at rules e).reviewer).institution refl h
  where
    by : (name : Option (List ℕ)) → (reviewer_at rules (pair_at rules e).reviewer).institution ≡ name
        → option_map (λ (n : List ℕ). let k : GroupKey = record { paper = (pair_at rules e).paper; institution = n } in k) name ≡ Some key → IsKeyOf rules e key
    by None is h = absurd (cc h)
    by (Some n) is h =
        let same : (let k : GroupKey = record { paper = (pair_at rules e).paper; institution = n } in k) ≡ key = same_Some _ _ h in
        record { paper = ap (λ (k : GroupKey). k.paper) (sym same); institution = is ∙ ap (λ (k : GroupKey). Some k.institution) same }

-- a group is of the paper of each of its pairs
pub group_of_paper : (rules : RulesValue) (e g : ℕ) → group_of rules e ≡ Some g → paper_of_group rules g ≡ (pair_at rules e).paper
group_of_paper rules e g h = (key_parts rules e (group_key rules g) (group_of_key rules e g h)).paper

-- the pairs that have the key of a group are in it
pub group_of_is : (rules : RulesValue) (e g : ℕ) → g < group_count rules → key_of rules e ≡ Some (group_key rules g) → group_of rules e ≡ Some g
unfolding group_of
group_of_is rules e g h k = rw k (place_is (groups rules) g (groups_ascend rules) h)

-- each pair with a key is in a group
pub group_of_some : (rules : RulesValue) (e : ℕ) (key : GroupKey) → e < length rules.pairs → key_of rules e ≡ Some key
    → (g : ℕ) × (g < group_count rules) × (group_of rules e ≡ Some g) × (group_key rules g ≡ key)
group_of_some rules e key h k =
    let at = place_of_item key no_key (groups rules) (key_in_groups rules e key h k) in
    (at.0, at.1, group_of_is rules e at.0 at.1 (k ∙ ap (λ x. Some x) (sym at.2)), at.2)

-- no group is without a pair
pub group_has_pair : (rules : RulesValue) (g : ℕ) → g < group_count rules → (e : ℕ) × (e < length rules.pairs) × (group_of rules e ≡ Some g)
group_has_pair rules g h =
    let found = pair_of_group rules (group_key rules g) (item_at_place no_key (groups rules) g h) in
    (found.0, found.1, group_of_is rules found.0 g h found.2)

-- a pair is in no group exactly where its reviewer has no institution
pub none_group_of : (rules : RulesValue) (e : ℕ) → (reviewer_at rules (pair_at rules e).reviewer).institution ≡ None → group_of rules e ≡ None
unfolding group_of
none_group_of rules e h = rw h refl

pub group_of_none : (rules : RulesValue) (e : ℕ) → e < length rules.pairs → group_of rules e ≡ None → (reviewer_at rules (pair_at rules e).reviewer).institution ≡ None
group_of_none rules e h none = by (reviewer_at rules (pair_at rules e).reviewer).institution refl
  where
    by : (name : Option (List ℕ)) → (reviewer_at rules (pair_at rules e).reviewer).institution ≡ name → name ≡ None
    by None is = refl
    by (Some n) is =
        let key : GroupKey = record { paper = (pair_at rules e).paper; institution = n } in
        let has : key_of rules e ≡ Some key = rw is refl in
        let found = group_of_some rules e key h has in
        absurd (cc (none, found.2))

-- ---- what a pair's group says, as clauses

pub is_below : (rules : RulesValue) (e : ℕ) (group : Option ℕ) → group ≡ group_of rules e → IfSome group (λ g. g < group_count rules)
is_below rules e None is = tt
is_below rules e (Some g) is = group_of_below rules e g (sym is)

pub is_of_paper : (rules : RulesValue) (e : ℕ) (group : Option ℕ) → group ≡ group_of rules e → IfSome group (λ g. paper_of_group rules g ≡ (pair_at rules e).paper)
is_of_paper rules e None is = tt
is_of_paper rules e (Some g) is = group_of_paper rules e g (sym is)

-- ---- the first member

not_same : (a b : GroupKey) → ¬ (a ≡ b) → same_key a b ≡ false
not_same a b differs = by (key_cmp a b) refl
  where
    by : (r : Ordering) → key_cmp a b ≡ r → is_eq r ≡ false
    by Less e = refl
    by Equal e = absurd (differs (same_keys a b e))
    by Greater e = refl

has_key-not : (rules : RulesValue) (g e : ℕ) (key : Option GroupKey) → key ≡ key_of rules e → ¬ (key_of rules e ≡ Some (group_key rules g)) → option_map_or (same_key (group_key rules g)) key false ≡ false
has_key-not rules g e None is other = refl
has_key-not rules g e (Some key) is other = not_same (group_key rules g) key (λ same. other (sym is ∙ ap (λ k. Some k) (sym same)))

-- a pair of another group is none of its members
pub member-none : (rules : RulesValue) (g e : ℕ) → g < group_count rules → ¬ (group_of rules e ≡ Some g) → member rules (group_key rules g) e ≡ None
member-none rules g e h other =
    let no : has_key rules (group_key rules g) e ≡ false = has_key-not rules g e (key_of rules e) refl (λ k. other (group_of_is rules e g h k)) in
    rw no refl

-- a pair of the group has a member
pub member-some : (rules : RulesValue) (g e : ℕ) → group_of rules e ≡ Some g → member rules (group_key rules g) e ≡ Some (pair_at rules e).reviewer
member-some rules g e h =
    let yes : has_key rules (group_key rules g) e ≡ true =
    ap (λ key. option_map_or (same_key (group_key rules g)) key false) (group_of_key rules e g h) ∙ ap is_eq (tied_itself key_cmp_total (group_key rules g)) in
    rw yes refl

-- the reviewer of the first pair of a group is its first member
pub first_member_is : (rules : RulesValue) (g e : ℕ) → g < group_count rules → e < length rules.pairs → group_of rules e ≡ Some g
    → ((k : ℕ) → k < e → ¬ (group_of rules k ≡ Some g)) → first_member rules (group_key rules g) ≡ Some (pair_at rules e).reviewer
first_member_is rules g e h within is before =
    first_below-found (length rules.pairs) e (member rules (group_key rules g)) (pair_at rules e).reviewer within
    (first_below-all e (member rules (group_key rules g)) (λ k low. member-none rules g k h (before k low)))
    (member-some rules g e is)

pub is_none_where : (rules : RulesValue) (e : ℕ) (group : Option ℕ) → e < length rules.pairs → group ≡ group_of rules e → IsNone group ↔ ((reviewer_at rules (pair_at rules e).reviewer).institution ≡ None)
is_none_where rules e None h is = (λ none. group_of_none rules e h (sym is), λ nothing. refl)
is_none_where rules e (Some g) h is = (λ none. absurd (cc none), λ nothing. absurd (cc (is, none_group_of rules e nothing)))
