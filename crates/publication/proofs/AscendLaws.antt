-- Places that strictly ascend, by recursion and by places.
use Rattle.std.proofs.Common.{◌≡◌, ℕ, zero, suc, ◌+◌, ◌<◌, true, ltb, List, [], ◌∷◌, get_or, refl, arith}
use Rattle.std.proofs.lemmas.Bool.{and_parts, and_from, ltb-true, lt-ltb}
use Rattle.match_rules.specs.Pieces.{DoAscend}
use Rattle.publication.specs.AnswerForms.{ascends}

pub ascends_to : (xs : List ℕ) → ascends xs ≡ true → DoAscend xs
ascends_to [] e i lt = absurd (omega arith)
ascends_to (a ∷ []) e i lt = absurd (omega arith)
ascends_to (a ∷ b ∷ xs) e zero lt = ltb-true a b (and_parts (ltb a b) (ascends (b ∷ xs)) e).0
ascends_to (a ∷ b ∷ xs) e (suc i) lt =
    let next : suc i + 1 ≡ suc (i + 1) = omega arith in
    rw next (ascends_to (b ∷ xs) (and_parts (ltb a b) (ascends (b ∷ xs)) e).1 i (omega arith))

pub ascends_from : (xs : List ℕ) → DoAscend xs → ascends xs ≡ true
ascends_from [] h = refl
ascends_from (a ∷ []) h = refl
ascends_from (a ∷ b ∷ xs) h = and_from (ltb a b) (ascends (b ∷ xs)) (lt-ltb a b (h 0 (omega arith))) (ascends_from (b ∷ xs) (λ i lt. shifted i (h (suc i) (omega arith))))
  where
    shifted : (i : ℕ) → get_or (a ∷ b ∷ xs) (suc i) 0 < get_or (a ∷ b ∷ xs) (suc i + 1) 0 → get_or (b ∷ xs) i 0 < get_or (b ∷ xs) (i + 1) 0
    shifted i h = let next : suc i + 1 ≡ suc (i + 1) = omega arith in rw next at h
