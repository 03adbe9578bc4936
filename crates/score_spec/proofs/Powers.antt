-- Powers of ten, and fractions rounded.
use Rattle.std.proofs.Common.{◌≡◌, ℕ, ◌+◌, ◌*◌, ◌/◌, ◌^◌, ◌<◌, ◌≤◌, Some, None, refl, sym, ap, ◌∙◌, arith, inl, inr}
use Rattle.std.proofs.Math.Nat.{pow-le-pow_right, one-le-pow, mul-div-mul_right, div-eq_of_lt, mul-le-mul_right}
use Rattle.std.proofs.lemmas.Nat.{div_below}
use Rattle.std.proofs.lemmas.Bool.{cases_lt, le-leb, lt-leb}
use Rattle.score_spec.specs.Magnitude.{rounded, magnitude_of}

pub ten-pow-le : (i j : ℕ) → i ≤ j → 10 ^ i ≤ 10 ^ j
ten-pow-le i j h = pow-le-pow_right (omega arith) h

pub ten-pow-pos : (i : ℕ) → 1 ≤ 10 ^ i
ten-pow-pos i = one-le-pow i 10 (omega arith)

pub magnitude-fits : (top bottom : ℕ) → top ≤ 100000 * bottom → magnitude_of top bottom ≡ Some (rounded top bottom)
magnitude-fits top bottom h = rw (le-leb top (100000 * bottom) h) refl

pub magnitude-large : (top bottom : ℕ) → 100000 * bottom < top → magnitude_of top bottom ≡ None
magnitude-large top bottom h = rw (lt-leb top (100000 * bottom) h) refl

-- what is rounded from a fraction of at most 100,000 is at most 100,000
pub rounded-le : (top bottom : ℕ) → 1 ≤ bottom → top ≤ 100000 * bottom → rounded top bottom ≤ 100000
rounded-le top bottom some h =
    let below : (2 * top + bottom) / (2 * bottom) < 100001 = div_below (2 * top + bottom) (2 * bottom) 100001 (omega arith) (omega arith) in
    omega arith

-- a fraction of less than a half is rounded to zero
pub magnitude-zero : (top bottom : ℕ) → 2 * top < bottom → Some 0 ≡ magnitude_of top bottom
magnitude-zero top bottom h =
    let zero_is : (2 * top + bottom) / (2 * bottom) ≡ 0 = div-eq_of_lt (omega arith) in
    sym (magnitude-fits top bottom (omega arith) ∙ ap Some zero_is)

pub magnitude-whole : (top : ℕ) → top ≤ 100000 → Some top ≡ magnitude_of top 1
magnitude-whole top h =
    let same : (2 * top + 1) / (2 * 1) ≡ top = omega arith in
    sym (magnitude-fits top 1 (omega arith) ∙ ap Some same)

-- a common factor plays no part
pub magnitude-cancel : (top bottom k : ℕ) → 1 ≤ k → magnitude_of (top * k) (bottom * k) ≡ magnitude_of top bottom
magnitude-cancel top bottom k some =
    elim (cases_lt (100000 * bottom) top) [ inl h ↦ above h | inr h ↦ within h ]
  where
    within : top ≤ 100000 * bottom → magnitude_of (top * k) (bottom * k) ≡ magnitude_of top bottom
    within h =
        let scaled : top * k ≤ 100000 * bottom * k = mul-le-mul_right k h in
        let fits : top * k ≤ 100000 * (bottom * k) = omega (arith, scaled) in
        let same : (2 * (top * k) + bottom * k) / (2 * (bottom * k)) ≡ (2 * top + bottom) / (2 * bottom) =
        let e : (2 * (top * k) + bottom * k) ≡ (2 * top + bottom) * k = omega arith in
        let f : 2 * (bottom * k) ≡ 2 * bottom * k = omega arith in
        rw (e, f) (mul-div-mul_right (2 * top + bottom) (2 * bottom) some)
        in
        magnitude-fits (top * k) (bottom * k) fits ∙ ap Some same ∙ sym (magnitude-fits top bottom h)

    above : 100000 * bottom < top → magnitude_of (top * k) (bottom * k) ≡ magnitude_of top bottom
    above h =
        let scaled : (100000 * bottom + 1) * k ≤ top * k = mul-le-mul_right k (omega arith) in
        let large : 100000 * (bottom * k) < top * k = omega (arith, scaled) in
        magnitude-large (top * k) (bottom * k) large ∙ sym (magnitude-large top bottom h)
