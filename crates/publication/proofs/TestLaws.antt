-- What the tests of places answer is what the definitions compute.
use Rattle.std.proofs.Common.{◌≡◌, ℕ, ◌<◌, Bool, true, false, List, refl, sym}
use Rattle.std.specs.Prelude.{◌↔◌, IsTrue, All, nat_lt}
use Rattle.std.specs.List.{list_all}
use Rattle.match_rules.specs.Pieces.{DoAscend}
use Rattle.publication.specs.AnswerForms.{ascends}
use Rattle.publication.proofs.AscendLaws.{ascends_to, ascends_from}
use Rattle.publication.proofs.FitLaws.{below_all, all_below}

same_test : (a b : Bool) → (a ≡ true → b ≡ true) → (b ≡ true → a ≡ true) → a ≡ b
same_test true b to from = sym (to refl)
same_test false true to from = from refl
same_test false false to from = refl

pub ascends_is : (test : Bool) (places : List ℕ) → IsTrue test ↔ DoAscend places → test ≡ ascends places
ascends_is test places is = same_test test (ascends places) (λ t. ascends_from places (is.0 t)) (λ e. is.1 (ascends_to places e))

pub below_is : (test : Bool) (count : ℕ) (places : List ℕ) → IsTrue test ↔ All (λ place. place < count) places
    → test ≡ list_all (λ place. nat_lt place count) places
below_is test count places is =
    same_test test (list_all (λ place. nat_lt place count) places) (λ t. all_below count places (is.0 t)) (λ e. is.1 (below_all count places e))
