-- The groups of rules: the distinct pairs of a paper and an institution that some candidate of the paper has.
use Rattle.std.specs.Prelude.{ℕ, zero, suc, Bool, false, ◌==◌, if◌then◌else◌, List, [], ◌∷◌, length, slice_index_or, Option, Some, None, position}
use Rattle.std.specs.Option.{option_map, option_map_or, option_and_then}
use Rattle.std.specs.Ordering.{nat_cmp, match_ordering, is_eq}
use Rattle.std.specs.declared.cmp.Ordering.{Ordering}
use Rattle.std.specs.declared.cmp.Ordering.TheVariants.{Less, Greater}
use Rattle.match_rules.specs.First.{first_below}
use Rattle.match_rules.specs.Rules.{RulesValue, pair_at, reviewer_at, id_cmp}

-- a paper, by its place, and an institution
pub record GroupKey : Type 0 where
  pub paper : ℕ
  pub institution : List ℕ

-- by the place of the paper, and then the bytes of the institution
abbrev pub key_cmp : GroupKey → GroupKey → Ordering
key_cmp a b = match_ordering (nat_cmp a.paper b.paper) Less (id_cmp a.institution b.institution) Greater

abbrev pub same_key : GroupKey → GroupKey → Bool
same_key a b = is_eq (key_cmp a b)

-- the key of a pair whose reviewer has an institution
abbrev pub key_of : RulesValue → ℕ → Option GroupKey
key_of rules e = option_map (λ (name : List ℕ). let key : GroupKey = record { paper = (pair_at rules e).paper; institution = name } in key) (reviewer_at rules (pair_at rules e).reviewer).institution

-- an ascending list of keys with one more
abbrev pub put_key : GroupKey → List GroupKey → List GroupKey
put_key new [] = new ∷ []
put_key new (key ∷ keys) = match_ordering (key_cmp new key) (new ∷ (key ∷ keys)) (key ∷ keys) (key ∷ put_key new keys)

abbrev pub put_some : Option GroupKey → List GroupKey → List GroupKey
put_some None keys = keys
put_some (Some new) keys = put_key new keys

-- the keys of the pairs below a place
abbrev pub keys_below : RulesValue → ℕ → List GroupKey
keys_below rules zero = []
keys_below rules (suc n) = put_some (key_of rules n) (keys_below rules n)

-- all groups, ascending
unfoldable pub groups : RulesValue → List GroupKey
groups rules = keys_below rules (length rules.pairs)

abbrev pub group_count : RulesValue → ℕ
group_count rules = length (groups rules)

-- the group of a pair, where its reviewer has an institution
unfoldable pub group_of : RulesValue → ℕ → Option ℕ
group_of rules e = option_and_then (λ key. position (same_key key) (groups rules)) (key_of rules e)

-- whether a pair is in the group
abbrev pub is_in_group : RulesValue → ℕ → ℕ → Bool
is_in_group rules g e = option_map_or (λ place. place == g) (group_of rules e) false

-- whether the pair is of this paper and institution
abbrev pub has_key : RulesValue → GroupKey → ℕ → Bool
has_key rules key e = option_map_or (same_key key) (key_of rules e) false

-- the reviewer of the pair, where it has the key
abbrev pub member : RulesValue → GroupKey → ℕ → Option ℕ
member rules key e = if has_key rules key e then Some (pair_at rules e).reviewer else None

-- the first reviewer of the institution who has a pair with the paper
abbrev pub first_member : RulesValue → GroupKey → Option ℕ
first_member rules key = first_below (length rules.pairs) (member rules key)

abbrev pub no_key : GroupKey
no_key = record { paper = 0; institution = [] }

-- the key of a group, and its paper
abbrev pub group_key : RulesValue → ℕ → GroupKey
group_key rules g = slice_index_or (groups rules) g no_key

abbrev pub paper_of_group : RulesValue → ℕ → ℕ
paper_of_group rules g = (group_key rules g).paper
