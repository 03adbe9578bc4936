-- The first answer of several, in loops and by places.
use Rattle.std.proofs.Common.{◌≡◌, ℕ, zero, suc, ◌+◌, ◌<◌, inl, inr, Option, Some, None, Bool, true, false, refl, arith, add-one, sym, ap, ◌∙◌}
use Rattle.std.proofs.lemmas.Bool.{cases_lt, false≢true}
use Rattle.std.specs.Option.{is_some}
use Rattle.match_rules.specs.First.{first_of_two, first_below}

-- where nothing was there so far, the next answer decides
pub first_below-more : {X : Type 0} (n : ℕ) (f : ℕ → Option X) → first_below n f ≡ None → first_below (n + 1) f ≡ f n
first_below-more n f none = rw add-one (rw none refl)

first_of_two-none : {X : Type 0} (a b : Option X) → first_of_two a b ≡ None → (a ≡ None) × (b ≡ None)
first_of_two-none None b e = (refl, e)
first_of_two-none (Some x) b e = absurd (cc)

first_of_two-both : {X : Type 0} (a b : Option X) → a ≡ None → b ≡ None → first_of_two a b ≡ None
first_of_two-both a b none_a none_b = rw none_a none_b

first_of_two-some : {X : Type 0} (a b : Option X) (x : X) → a ≡ Some x → first_of_two a b ≡ Some x
first_of_two-some a b x e = rw e refl

-- the first answer that is there
pub first_below-found : {X : Type 0} (n i : ℕ) (f : ℕ → Option X) (x : X) → i < n → first_below i f ≡ None → f i ≡ Some x → first_below n f ≡ Some x
first_below-found zero i f x h none found = absurd (omega arith)
first_below-found (suc n) i f x h none found =
    elim (cases_lt i n) [
      | inl lt ↦ first_of_two-some _ _ x (first_below-found n i f x lt none found)
      | inr ge ↦ (let same : i ≡ n = omega arith in let none_n : first_below n f ≡ None = rw same at none in let found_n : f n ≡ Some x = rw same at found in rw none_n found_n)
    ]

-- none is there, by places
pub first_below-all : {X : Type 0} (n : ℕ) (f : ℕ → Option X) → ((i : ℕ) → i < n → f i ≡ None) → first_below n f ≡ None
first_below-all zero f none = refl
first_below-all (suc n) f none =
    first_of_two-both _ _ (first_below-all n f (λ i h. none i (omega arith))) (none n (omega arith))

pub first_below-at : {X : Type 0} (n : ℕ) (f : ℕ → Option X) → first_below n f ≡ None → (i : ℕ) → i < n → f i ≡ None
first_below-at zero f none i h = absurd (omega arith)
first_below-at (suc n) f none i h =
    let parts = first_of_two-none (first_below n f) (f n) none in
    elim (cases_lt i n) [
      | inl lt ↦ first_below-at n f parts.0 i lt
      | inr ge ↦ (let same : i ≡ n = omega arith in rw same parts.1)
    ]

pub both_none : {X : Type 0} (a b : Option X) → first_of_two a b ≡ None → (a ≡ None) × (b ≡ None)
both_none a b e = first_of_two-none a b e

pub none_both : {X : Type 0} (a b : Option X) → a ≡ None → b ≡ None → first_of_two a b ≡ None
none_both a b none_a none_b = first_of_two-both a b none_a none_b

-- the first answer that is there, as an answer
pub first_below-some : {X : Type 0} (n i : ℕ) (f : ℕ → Option X) (answer : Option X) → i < n → first_below i f ≡ None → f i ≡ answer → is_some answer ≡ true → first_below n f ≡ answer
first_below-some n i f None h none found some = absurd (false≢true some)
first_below-some n i f (Some x) h none found some = first_below-found n i f x h none found

-- what a test of an answer says of what the answer stands for
pub none-tested : {X : Type 0} (answer whole : Option X) (test : Bool) → answer ≡ whole → test ≡ is_some answer → test ≡ false → whole ≡ None
none-tested None whole test e is no_answer = sym e
none-tested (Some x) whole test e is no_answer = absurd (false≢true (sym no_answer ∙ is))

-- an answer that is there is the first of two
pub first_of_two-first : {X : Type 0} (a b answer : Option X) → answer ≡ a → is_some answer ≡ true → answer ≡ first_of_two a b
first_of_two-first a b None is some = absurd (false≢true some)
first_of_two-first a b (Some x) is some = rw (← is) refl

pub first_of_two-second : {X : Type 0} (a b answer : Option X) → a ≡ None → answer ≡ b → answer ≡ first_of_two a b
first_of_two-second a b answer none is = rw none is

-- the same answers give the same first
pub first_below-same : {X : Type 0} (n : ℕ) (f g : ℕ → Option X) → ((i : ℕ) → i < n → f i ≡ g i) → first_below n f ≡ first_below n g
first_below-same zero f g same = refl
first_below-same (suc n) f g same =
    let front = first_below-same n f g (λ i h. same i (omega arith)) in
    rw front (ap (first_of_two (first_below n g)) (same n (omega arith)))
