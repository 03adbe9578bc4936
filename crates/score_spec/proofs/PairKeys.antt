-- The pairs of a table: which there are, what is added by a put, and that their keys ascend.
use Rattle.std.proofs.Common.{◌≡◌, ◌⊎◌, inl, inr, ℕ, zero, suc, List, [], ◌∷◌, ◌++◌, Some, None, Bool, true, false, true≢false, ◌&&◌, ◌||◌, is_some, unwrap_or, refl, sym, ap, ◌∙◌, arith}
use Rattle.std.specs.Prelude.{if◌then◌else◌}
use Rattle.std.specs.List.{AllByRecursion, Contains}
use Rattle.std.specs.List.Sorted.{IsStrictlySortedBy}
use Rattle.std.specs.Option.{option_map}
use Rattle.std.specs.Ordering.{is_eq}
use Rattle.std.specs.declared.cmp.Ordering.TheVariants.{Less}
use Rattle.std.proofs.lemmas.List.Elements.{Contains-append_left, Contains-append_right, Contains-append_cases}
use Rattle.roster.specs.Table.{id_cmp, AllAbove, Ascend, row_of}
use Rattle.roster.proofs.Tables.{id_itself}
use Rattle.score_spec.specs.declared.union.PairKey.{PairKey}
use Rattle.score_spec.specs.Keys.{pair_key, key_cmp, AscendKeys, AreKeys, paper_keys, keys_of}
use Rattle.score_spec.specs.PairTables.{has_pair, Entry, Entries, entry_id, value_of, PairsValue, put_pair, HaveReviewers, ArePairs}
use Rattle.score_spec.proofs.PairTables.{entry, equal_same, above-none, pair-put, pair-others}

same_is : (a b : List ℕ) → a ≡ b → is_eq (id_cmp a b) ≡ true
same_is a b same = let itself = id_itself b in rw (same, itself) refl

-- Booleans

or_parts : (a b : Bool) → (a || b) ≡ true → (a ≡ true) ⊎ (b ≡ true)
or_parts true b h = inl refl
or_parts false b h = inr h

and_parts : (a b : Bool) → (a && b) ≡ true → (a ≡ true) × (b ≡ true)
and_parts true b h = (refl, h)
and_parts false b h = absurd (true≢false (sym h))

or_right : (a b : Bool) → b ≡ true → (a || b) ≡ true
or_right true b h = refl
or_right false b h = h

reviewer_step : (has same here later whole : Bool) → (has || (same && (here || later))) ≡ whole → ((has || (same && here)) || (same && later)) ≡ whole
reviewer_step true same here later whole h = h
reviewer_step false true true later whole h = h
reviewer_step false true false later whole h = h
reviewer_step false false here later whole h = h

paper_step : (has here later whole : Bool) → (has || (here || later)) ≡ whole → ((has || here) || later) ≡ whole
paper_step true here later whole h = h
paper_step false here later whole h = h

all-append : (P : PairKey → Type 0) (xs ys : List PairKey) → AllByRecursion P xs → AllByRecursion P ys → AllByRecursion P (xs ++ ys)
all-append P [] ys a b = b
all-append P (x ∷ xs) ys a b = (a.0, all-append P xs ys a.1 b)

module _ {V : Type 0} where
  -- which reviewers there are

  pub reviewer-here : (e : Entry V) (es : Entries V) (r : List ℕ) → is_some (value_of (e ∷ es) r) ≡ (is_eq (id_cmp e.id r) || is_some (value_of es r))
  reviewer-here e es r = on (is_eq (id_cmp e.id r))
    where
      on : (b : Bool) → is_some (option_map (λ x. x.value) (if b then Some e else row_of entry_id r es)) ≡ (b || is_some (value_of es r))
      on true = refl
      on false = refl

  -- which pairs there are

  pub pair-here : (e : Entry (Entries V)) (table : PairsValue V) (p r : List ℕ) → Ascend entry_id (e ∷ table)
      → has_pair (e ∷ table) p r ≡ ((is_eq (id_cmp e.id p) && is_some (value_of e.value r)) || has_pair table p r)
  pair-here e table p r up = on (is_eq (id_cmp e.id p)) refl
    where
      on : (b : Bool) → is_eq (id_cmp e.id p) ≡ b
          → is_some (value_of (unwrap_or (option_map (λ x. x.value) (if b then Some e else row_of entry_id p table)) []) r) ≡ ((b && is_some (value_of e.value r)) || has_pair table p r)
      on true h =
          let same = equal_same e.id p h in
          let none : value_of table p ≡ None = above-none p table (rw same at up.0) in
          rw none (plain (is_some (value_of e.value r)))
        where
          plain : (b : Bool) → b ≡ (b || false)
          plain true = refl
          plain false = refl
      on false h = refl

  -- the rest of a table
  pub pairs-rest : (e : Entry (Entries V)) (table : PairsValue V) → ArePairs (e ∷ table) → ArePairs table
  pairs-rest e table pairs = record { ids = pairs.ids.1; papers = pairs.papers.1; reviewers = pairs.reviewers.1 }

  -- what a put adds
  pub has-put : (paper reviewer : List ℕ) (value : V) (table : PairsValue V) (p r : List ℕ)
      → has_pair (put_pair paper reviewer value table) p r ≡ (has_pair table p r || (is_eq (id_cmp paper p) && is_eq (id_cmp reviewer r)))
  has-put paper reviewer value table p r = on (is_eq (id_cmp paper p)) (is_eq (id_cmp reviewer r)) refl refl
    where
      plain : (b : Bool) → b ≡ (b || false)
      plain true = refl
      plain false = refl

      apart : (a b : List ℕ) → is_eq (id_cmp a b) ≡ false → b ≡ a → ⊥
      apart a b h same = true≢false (sym (same_is a b (sym same)) ∙ h)

      on : (s t : Bool) → is_eq (id_cmp paper p) ≡ s → is_eq (id_cmp reviewer r) ≡ t → has_pair (put_pair paper reviewer value table) p r ≡ (has_pair table p r || (s && t))
      on true true g h =
          let same_paper = equal_same paper p g in
          let same_reviewer = equal_same reviewer r h in
          let there : has_pair (put_pair paper reviewer value table) p r ≡ true = rw (← same_paper, ← same_reviewer) (ap is_some (pair-put paper reviewer value table)) in
          there ∙ sym (or_right (has_pair table p r) true refl)
      on true false g h = ap is_some (pair-others paper reviewer value table p r (inr (apart reviewer r h))) ∙ plain (has_pair table p r)
      on false t g h = ap is_some (pair-others paper reviewer value table p r (inl (apart paper p g))) ∙ plain (has_pair table p r)

  -- keys ascend

  within : (p a : List ℕ) (es : Entries V) → AllAbove entry_id a es → AllByRecursion (λ key. key_cmp (pair_key p a) key ≡ Less) (paper_keys p es)
  within p a [] above = tt
  within p a (e ∷ es) above = let itself = id_itself p in (rw itself above.0, within p a es above.1)

  later-keys : (key : PairKey) (q : List ℕ) (es : Entries V) → id_cmp key.paper q ≡ Less → AllByRecursion (λ other. key_cmp key other ≡ Less) (paper_keys q es)
  later-keys key q [] less = tt
  later-keys key q (e ∷ es) less = (rw less refl, later-keys key q es less)

  later : (key : PairKey) (table : PairsValue V) → AllAbove entry_id key.paper table → AllByRecursion (λ other. key_cmp key other ≡ Less) (keys_of table)
  later key [] above = tt
  later key (e ∷ table) above = all-append (λ other. key_cmp key other ≡ Less) (paper_keys e.id e.value) (keys_of table) (later-keys key e.id e.value above.0) (later key table above.1)

  ascend-paper : (p : List ℕ) (es : Entries V) (table : PairsValue V) → Ascend entry_id es → AllAbove entry_id p table → IsStrictlySortedBy key_cmp (keys_of table)
      → IsStrictlySortedBy key_cmp (paper_keys p es ++ keys_of table)
  unfolding IsStrictlySortedBy
  ascend-paper p [] table up above rest = rest
  ascend-paper p (e ∷ es) table up above rest =
      (all-append (λ key. key_cmp (pair_key p e.id) key ≡ Less) (paper_keys p es) (keys_of table) (within p e.id es up.0) (later (pair_key p e.id) table above), ascend-paper p es table up.1 above rest)

  keys_ascend : (table : PairsValue V) → Ascend entry_id table → HaveReviewers table → IsStrictlySortedBy key_cmp (keys_of table)
  unfolding IsStrictlySortedBy
  keys_ascend [] up have = tt
  keys_ascend (e ∷ table) up have = ascend-paper e.id e.value table have.0.ascend up.0 (keys_ascend table up.1 have.1)

  pub ascend-keys : (table : PairsValue V) (keys : List PairKey) → ArePairs table → keys ≡ keys_of table → AscendKeys keys
  ascend-keys table keys pairs is = rw is (keys_ascend table pairs.papers pairs.reviewers)

  -- the keys are the pairs

  in-paper : (p : List ℕ) (es : Entries V) (q r : List ℕ) → Contains (paper_keys p es) (pair_key q r) → (p ≡ q) × (is_some (value_of es r) ≡ true)
  in-paper p [] q r (k, lt, e) = absurd (omega arith)
  in-paper p (e ∷ es) q r (zero, lt, is) =
      (ap (λ key. key.paper) is, let here = same_is e.id r (ap (λ key. key.reviewer) is) in reviewer-here e es r ∙ ap (λ b. b || is_some (value_of es r)) here)
  in-paper p (e ∷ es) q r (suc k, lt, is) =
      let rest = in-paper p es q r (k, omega arith, is) in
      (rest.0, reviewer-here e es r ∙ or_right (is_eq (id_cmp e.id r)) (is_some (value_of es r)) rest.1)

  to-paper : (p : List ℕ) (es : Entries V) (r : List ℕ) → is_some (value_of es r) ≡ true → Contains (paper_keys p es) (pair_key p r)
  to-paper p [] r some = absurd (true≢false (sym some))
  to-paper p (e ∷ es) r some = on (or_parts (is_eq (id_cmp e.id r)) (is_some (value_of es r)) (sym (reviewer-here e es r) ∙ some)) (to-paper p es r)
    where
      on : (is_eq (id_cmp e.id r) ≡ true) ⊎ (is_some (value_of es r) ≡ true) → (is_some (value_of es r) ≡ true → Contains (paper_keys p es) (pair_key p r)) → Contains (paper_keys p (e ∷ es)) (pair_key p r)
      on (inl here) later = (0, omega arith, ap (pair_key p) (equal_same e.id r here))
      on (inr rest) later = let next = later rest in (suc next.0, omega (arith, next.1), next.2)

  in-table : (table : PairsValue V) (p r : List ℕ) → Ascend entry_id table → Contains (keys_of table) (pair_key p r) → has_pair table p r ≡ true
  in-table [] p r up (k, lt, e) = absurd (omega arith)
  in-table (e ∷ table) p r up at = pair-here e table p r up ∙ on (Contains-append_cases (paper_keys e.id e.value) (keys_of table) (pair_key p r) at) (in-table table p r up.1)
    where
      on : Contains (paper_keys e.id e.value) (pair_key p r) ⊎ Contains (keys_of table) (pair_key p r) → (Contains (keys_of table) (pair_key p r) → has_pair table p r ≡ true)
          → ((is_eq (id_cmp e.id p) && is_some (value_of e.value r)) || has_pair table p r) ≡ true
      on (inl here) later = let both = in-paper e.id e.value p r here in let same = same_is e.id p both.0 in let some = both.1 in rw (same, some) refl
      on (inr rest) later = or_right (is_eq (id_cmp e.id p) && is_some (value_of e.value r)) (has_pair table p r) (later rest)

  to-table : (table : PairsValue V) (p r : List ℕ) → Ascend entry_id table → has_pair table p r ≡ true → Contains (keys_of table) (pair_key p r)
  to-table [] p r up has = absurd (true≢false (sym has))
  to-table (e ∷ table) p r up has = on (or_parts (is_eq (id_cmp e.id p) && is_some (value_of e.value r)) (has_pair table p r) (sym (pair-here e table p r up) ∙ has)) (to-table table p r up.1)
    where
      on : ((is_eq (id_cmp e.id p) && is_some (value_of e.value r)) ≡ true) ⊎ (has_pair table p r ≡ true) → (has_pair table p r ≡ true → Contains (keys_of table) (pair_key p r)) → Contains (keys_of (e ∷ table)) (pair_key p r)
      on (inl here) later =
          let both = and_parts (is_eq (id_cmp e.id p)) (is_some (value_of e.value r)) here in
          let same = equal_same e.id p both.0 in
          Contains-append_left (paper_keys e.id e.value) (keys_of table) (pair_key p r) (rw same (to-paper p e.value r both.1))
      on (inr rest) later = Contains-append_right (paper_keys e.id e.value) (keys_of table) (pair_key p r) (later rest)

  pub are-keys : (table : PairsValue V) (keys : List PairKey) (test : List ℕ → List ℕ → Bool) → ArePairs table → keys ≡ keys_of table → ((p r : List ℕ) → has_pair table p r ≡ test p r) → AreKeys test keys
  are-keys table keys test pairs is has = λ p r. (λ at. sym (has p r) ∙ in-table table p r pairs.papers (rw is at at), λ passes. rw is (to-table table p r pairs.papers (has p r ∙ passes)))

-- one more reviewer, and one more paper, of those that are added

module _ {V W : Type 0} where
  pub reviewers-step : (paper id : List ℕ) (value : V) (rest : Entries V) (w : W) (union : PairsValue W) (p r : List ℕ) (whole : Bool)
      → (has_pair union p r || (is_eq (id_cmp paper p) && is_some (value_of (entry id value ∷ rest) r))) ≡ whole
      → (has_pair (put_pair paper id w union) p r || (is_eq (id_cmp paper p) && is_some (value_of rest r))) ≡ whole
  reviewers-step paper id value rest w union p r whole before =
      let same = is_eq (id_cmp paper p) in
      let here : is_some (value_of (entry id value ∷ rest) r) ≡ (is_eq (id_cmp id r) || is_some (value_of rest r)) = reviewer-here (entry id value) rest r in
      ap (λ has. has || (is_eq (id_cmp paper p) && is_some (value_of rest r))) (has-put paper id w union p r)
      ∙ reviewer_step (has_pair union p r) same (is_eq (id_cmp id r)) (is_some (value_of rest r)) whole (ap (λ some. has_pair union p r || (is_eq (id_cmp paper p) && some)) (sym here) ∙ before)

  pub papers-step : (e : Entry (Entries V)) (rest : PairsValue V) (old new : PairsValue W) (p r : List ℕ) (whole : Bool) → Ascend entry_id (e ∷ rest)
      → has_pair new p r ≡ (has_pair old p r || (is_eq (id_cmp e.id p) && is_some (value_of e.value r))) → (has_pair old p r || has_pair (e ∷ rest) p r) ≡ whole → (has_pair new p r || has_pair rest p r) ≡ whole
  papers-step e rest old new p r whole up now before =
      ap (λ has. has || has_pair rest p r) now
      ∙ paper_step (has_pair old p r) (is_eq (id_cmp e.id p) && is_some (value_of e.value r)) (has_pair rest p r) whole (ap (λ has. has_pair old p r || has) (sym (pair-here e rest p r up)) ∙ before)
