-- The front of a file, one byte longer than may be, tells whether the file is longer.
use Rattle.std.proofs.Common.{◌≡◌, ℕ, ◌+◌, ◌<◌, ◌≤◌, List, [], ◌++◌, length, take, arith, sym, ap, ◌∙◌}
use Rattle.std.specs.Prelude.{Option, None, Some, IfSome, min}
use Rattle.std.specs.Option.{option_map}
use Rattle.std.proofs.lemmas.List.{length-take, take_all}

front-length : (n : ℕ) (front all : List ℕ) → front ≡ take n all → length front ≡ min n (length all)
front-length n front all e = ap length e ∙ length-take n all

pub longer_than_front : (n : ℕ) (front all : List ℕ) → front ≡ take (n + 1) all → n < length front → n < length all
longer_than_front n front all e long = omega (arith, front-length (n + 1) front all e)

pub all_of_front : (n : ℕ) (front all : List ℕ) → front ≡ take (n + 1) all → length front ≤ n → all ≡ front
all_of_front n front all e short =
    let few : length all ≤ n + 1 = omega (arith, front-length (n + 1) front all e) in
    sym (e ∙ take_all (n + 1) all few)

-- a reader that is stopped behind so many bytes gives the front of what it has, where that is known
pub front_of_known : (known : Option (List ℕ)) (n limit : ℕ) (old new : List ℕ) → old ≡ [] → limit ≡ n
    → IfSome (option_map (take limit) known) (λ xs. new ≡ old ++ xs) → IfSome known (λ all. new ≡ take n all)
front_of_known None n limit old new none stops gives = gives
front_of_known (Some all) n limit old new none stops gives =
    gives ∙ ap (λ xs. xs ++ take limit all) none ∙ ap (λ k. take k all) stops
