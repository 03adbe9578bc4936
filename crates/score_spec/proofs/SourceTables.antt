-- The values of the sources after a put.
use Rattle.std.proofs.Common.{◌≡◌, ◌≢◌, ◌⊎◌, inl, inr, ℕ, ℤ, List, [], Some, Result, Ok, Err, unwrap_or, ap, ◌∙◌}
use Rattle.std.specs.Prelude.{OnOk}
use Rattle.score_spec.specs.PairTables.{Entries, PairsValue, put_value, put_pair, value_of_pair}
use Rattle.score_spec.specs.Scores.{table_in}
use Rattle.score_spec.proofs.PairTables.{same_or_other, value-put, value-others, pair-put, pair-others}

module _ {E : Type 0} (r : Result (Unit {0}) E) (source paper reviewer : List ℕ) (value : ℤ) (old now : Entries (PairsValue ℤ)) where
  pub stands-after : OnOk r (now ≡ put_value source (put_pair paper reviewer value (table_in old source)) old) → OnOk r (value_of_pair (table_in now source) paper reviewer ≡ Some value)
  stands-after put = on r put
    where
      on : (r : Result (Unit {0}) E) → OnOk r (now ≡ put_value source (put_pair paper reviewer value (table_in old source)) old) → OnOk r (value_of_pair (table_in now source) paper reviewer ≡ Some value)
      on (Ok u) put =
          rw put (ap (λ found. value_of_pair (unwrap_or found []) paper reviewer) (value-put source (put_pair paper reviewer value (table_in old source)) old) ∙ pair-put paper reviewer value (table_in old source))
      on (Err e) put = tt

  others_of : (name other another : List ℕ) → (name ≢ source) ⊎ ((other ≢ paper) ⊎ (another ≢ reviewer))
      → value_of_pair (table_in (put_value source (put_pair paper reviewer value (table_in old source)) old) name) other another ≡ value_of_pair (table_in old name) other another
  others_of name other another apart = on (same_or_other name source) apart
    where
      on : (name ≡ source) ⊎ (name ≢ source) → (name ≢ source) ⊎ ((other ≢ paper) ⊎ (another ≢ reviewer))
          → value_of_pair (table_in (put_value source (put_pair paper reviewer value (table_in old source)) old) name) other another ≡ value_of_pair (table_in old name) other another
      on (inr ne) apart = ap (λ found. value_of_pair (unwrap_or found []) other another) (value-others source (put_pair paper reviewer value (table_in old source)) old name ne)
      on (inl same) (inl ne) = absurd (ne same)
      on (inl same) (inr apart) =
          rw same
          (ap (λ found. value_of_pair (unwrap_or found []) other another) (value-put source (put_pair paper reviewer value (table_in old source)) old)
          ∙ pair-others paper reviewer value (table_in old source) other another apart)

  pub others-after : OnOk r (now ≡ put_value source (put_pair paper reviewer value (table_in old source)) old)
      → OnOk r ((name other another : List ℕ) → (name ≢ source) ⊎ ((other ≢ paper) ⊎ (another ≢ reviewer)) → value_of_pair (table_in now name) other another ≡ value_of_pair (table_in old name) other another)
  others-after put = on r put
    where
      on : (r : Result (Unit {0}) E) → OnOk r (now ≡ put_value source (put_pair paper reviewer value (table_in old source)) old)
          → OnOk r ((name other another : List ℕ) → (name ≢ source) ⊎ ((other ≢ paper) ⊎ (another ≢ reviewer)) → value_of_pair (table_in now name) other another ≡ value_of_pair (table_in old name) other another)
      on (Ok u) put = λ name other another apart. rw put (others_of name other another apart)
      on (Err e) put = tt
