-- What a read from a list of bytes leaves and gives.
use Rattle.std.proofs.Common.{◌≡◌, ℕ, ◌+◌, ◌-◌, ◌<◌, List, [], ◌∷◌, ◌++◌, length, take, drop, refl, sym, ◌∙◌, ap, arith}
use Rattle.std.specs.Prelude.{Some, Ok, min}
use Rattle.std.proofs.lemmas.List.{take_rest, take-append-drop}
use Rattle.std.proofs.Math.Seq.{take-add, drop-drop}
use Rattle.edge_io.specs.Told.{TakesLeft, Adds}

-- what has room and takes nothing has nothing left to take
none_left : (k n : ℕ) (left : List ℕ) → 0 < k → n ≡ min k (length left) → n ≡ 0 → left ≡ []
none_left k n [] some few stops = refl
none_left k n (x ∷ xs) some few stops = absurd (omega arith)

pub left_after : {E : Type 0} (bytes room left : List ℕ) (at n k : ℕ) → drop at bytes ≡ left → 0 < k
    → n ≡ min k (length (take (length bytes - at) (drop at bytes)))
    → take n room ≡ take n (take (length bytes - at) (drop at bytes))
    → TakesLeft {E = E} (Some left) (Some (drop (at + n) bytes)) (Ok n) room
left_after bytes room left at n k is some count copied =
    let few : n ≡ min k (length left) = count ∙ ap (λ xs. min k (length xs)) (take_rest bytes at ∙ is) in
    let front : take n room ≡ take n left = copied ∙ ap (λ xs. take n xs) (take_rest bytes at ∙ is) in
    let rest : drop (at + n) bytes ≡ drop n left = sym (drop-drop n at bytes) ∙ ap (λ xs. drop n xs) is in
    record {
      untold = λ t. t;
      bytes = λ t. sym (ap (λ xs. xs ++ drop (at + n) bytes) front ∙ ap (λ xs. take n left ++ xs) rest ∙ take-append-drop n left);
      end = λ t stops. none_left k n left some few stops;
      at_end = λ t none. let empty : length left ≡ 0 = ap (λ xs. length xs) none in omega arith;
    }

pub given_after : {E : Type 0} (bytes room given : List ℕ) (at n : ℕ) → take at bytes ≡ given
    → take n room ≡ take n (take (length bytes - at) (drop at bytes))
    → Adds {E = E} (Some given) (Some (take (at + n) bytes)) (Ok n) room
given_after bytes room given at n is copied =
    let front : take n room ≡ take n (drop at bytes) = copied ∙ ap (λ xs. take n xs) (take_rest bytes at) in
    record {
      untold = λ t. t;
      bytes = λ t. take-add at n bytes ∙ ap (λ xs. xs ++ take n (drop at bytes)) is ∙ ap (λ xs. given ++ xs) (sym front);
    }
