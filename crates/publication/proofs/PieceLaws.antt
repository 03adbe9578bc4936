-- Pieces as their lines spell them.
use Rattle.std.proofs.Common.{◌≡◌, ℕ, ◌^◌, ◌<◌, ◌≤◌, Bool, true, false, cond, ◌&&◌, List, [], ◌∷◌, None, Some, Result, Ok, Err, refl, sym, arith}
use Rattle.std.specs.Prelude.{map, nat_le, nat_lt}
use Rattle.std.specs.List.{list_all}
use Rattle.std.proofs.lemmas.Bool.{leb-true, ltb-true, and_parts}
use Rattle.std.proofs.lemmas.Bool.Decides.{nat_tests}
use Rattle.std.proofs.lemmas.Int.{clamps}
use Rattle.match_rules.specs.declared.lottery.Piece.{Piece}
use Rattle.match_rules.specs.declared.rules.TheConstants.{MOST_TICKETS}
use Rattle.text_lines.specs.declared.fault.LineCode.{LineCode}
use Rattle.text_lines.specs.declared.fault.LineCode.TheVariants.{Number, Range, Order}
use Rattle.text_lines.specs.Forms.{needs}
use Rattle.text_lines.specs.Reading.{◌>>=◌}
use Rattle.text_lines.specs.Numbers.{is_canonical, value}
use Rattle.publication.specs.AnswerForms.{ascends, stands_behind, in_range, piece_with, piece_from, piece_in}
use Rattle.publication.specs.Scans.{held, numbers_of}

-- a line with a field that is no number
pub piece_no_number : (pairs : ℕ) (before : List Piece) (parts : List (List ℕ)) → numbers_of parts ≡ None → piece_in pairs before parts ≡ Err Number
piece_no_number pairs before [] e = absurd cc
piece_no_number pairs before (w ∷ ps) e = by (list_all is_canonical (w ∷ ps)) e
  where
    by : (b : Bool) → cond b (Some (map (λ part. held (value part)) (w ∷ ps))) None ≡ None → (needs b Number >>= λ _. piece_with pairs before (value w) (map value ps)) ≡ Err Number
    by true e = absurd cc
    by false e = refl

held_small : (v : ℕ) → v ≤ 4294967295 → held v ≡ v
held_small v h = omega (arith, clamps)

below_held : (pairs v : ℕ) → pairs < 2 ^ 32 → nat_lt (held v) pairs ≡ nat_lt v pairs
below_held pairs v small = grind (arith, nat_tests)

weight_held : (v : ℕ) → (nat_le 1 (held v) && nat_le (held v) MOST_TICKETS) ≡ (nat_le 1 v && nat_le v MOST_TICKETS)
weight_held v = grind (arith, nat_tests)

pub all_held : (pairs : ℕ) (ps : List (List ℕ)) → pairs < 2 ^ 32
    → list_all (λ place. nat_lt place pairs) (map (λ part. held (value part)) ps) ≡ list_all (λ place. nat_lt place pairs) (map value ps)
all_held pairs [] small = refl
all_held pairs (p ∷ ps) small = rw (below_held pairs (value p) small, all_held pairs ps small) refl

pub same_places : (pairs : ℕ) (ps : List (List ℕ)) → pairs < 2 ^ 32 → list_all (λ place. nat_lt place pairs) (map value ps) ≡ true
    → map (λ part. held (value part)) ps ≡ map value ps
same_places pairs [] small h = refl
same_places pairs (p ∷ ps) small h =
    let parts = and_parts (nat_lt (value p) pairs) (list_all (λ place. nat_lt place pairs) (map value ps)) h in
    let low = ltb-true (value p) pairs parts.0 in
    rw (held_small (value p) (omega (arith, low)), same_places pairs ps small parts.1) refl

-- numbers that are held in 32 bits make the same piece, or the same refusal
pub piece_held : (pairs : ℕ) (before : List Piece) (w : List ℕ) (ps : List (List ℕ)) → pairs < 2 ^ 32
    → piece_with pairs before (held (value w)) (map (λ part. held (value part)) ps) ≡ piece_with pairs before (value w) (map value ps)
piece_held pairs before w ps small = rw (weight_held (value w), all_held pairs ps small) (by (in_range pairs (value w) (map value ps)) refl)
  where
    rest : ℕ → List ℕ → Result Piece LineCode
    rest weight places = needs (ascends places && stands_behind before places) Order >>= λ _. Ok (record { weight = weight; pairs = places })

    by : (b : Bool) → in_range pairs (value w) (map value ps) ≡ b
        → (needs b Range >>= λ _. rest (held (value w)) (map (λ part. held (value part)) ps)) ≡ (needs b Range >>= λ _. rest (value w) (map value ps))
    by true e =
        let parts = and_parts (nat_le 1 (value w) && nat_le (value w) MOST_TICKETS) (list_all (λ place. nat_lt place pairs) (map value ps)) e in
        let weight = and_parts (nat_le 1 (value w)) (nat_le (value w) MOST_TICKETS) parts.0 in
        let high = leb-true (value w) MOST_TICKETS weight.1 in
        rw (held_small (value w) (omega (arith, high)), same_places pairs ps small parts.1) refl
    by false e = refl

-- a line of numbers
pub piece_numbers : (pairs : ℕ) (before : List Piece) (parts : List (List ℕ)) (xs : List ℕ) → pairs < 2 ^ 32 → numbers_of parts ≡ Some xs
    → piece_in pairs before parts ≡ piece_from pairs before xs
piece_numbers pairs before [] xs small e = let none : [] ≡ xs = cc in rw (← none) refl
piece_numbers pairs before (w ∷ ps) xs small e = by (list_all is_canonical (w ∷ ps)) e
  where
    by : (b : Bool) → cond b (Some (map (λ part. held (value part)) (w ∷ ps))) None ≡ Some xs
        → (needs b Number >>= λ _. piece_with pairs before (value w) (map value ps)) ≡ piece_from pairs before xs
    by true e = let is : map (λ part. held (value part)) (w ∷ ps) ≡ xs = cc in rw (← is) (sym (piece_held pairs before w ps small))
    by false e = absurd cc
