-- The lines of pieces: what is read is spelled so, and what is spelled so is read again.
use Rattle.std.proofs.Common.{◌≡◌, ℕ, ◌+◌, ◌*◌, ◌^◌, ◌<◌, ◌≤◌, true, ◌&&◌, List, [], ◌∷◌, length, Ok, refl, sym, ap, subst, ◌∙◌, arith, lit<}
use Rattle.std.specs.Prelude.{map, decimal, nat_le, nat_lt}
use Rattle.std.specs.List.{list_all}
use Rattle.std.proofs.lemmas.Bool.{leb-true, ltb-true, and_parts}
use Rattle.std.proofs.lemmas.Fmt.{length-decimal-le}
use Rattle.match_rules.specs.declared.lottery.Piece.{Piece}
use Rattle.match_rules.specs.declared.rules.TheConstants.{MOST_TICKETS}
use Rattle.text_lines.specs.declared.fault.LineCode.{LineCode}
use Rattle.text_lines.specs.declared.fault.LineCode.TheVariants.{Number, Range, Order}
use Rattle.text_lines.specs.Fields.{fields, with_spaces}
use Rattle.text_lines.specs.Forms.{needs}
use Rattle.text_lines.specs.Reading.{◌>>=◌}
use Rattle.text_lines.specs.Numbers.{is_canonical, value}
use Rattle.text_lines.proofs.NumberLaws.{number_takes, number_again}
use Rattle.text_lines.proofs.TextLaws.{Spells, ok_is}
use Rattle.text_lines.proofs.FieldLaws.{with_spaces-fields}
use Rattle.text_lines.proofs.WordLaws.{AllWords, fields-with_spaces, words_line, number_word, number_short, length-with_spaces_one, length-with_spaces_more}
use Rattle.publication.specs.AnswerForms.{ascends, stands_behind, in_range, piece_with, piece_in, piece_of, piece_line}
use Rattle.text_lines.proofs.FormLaws.{needs_ok}

-- a piece that may stand behind others
pub record FitsPiece (pairs : ℕ) (before : List Piece) (piece : Piece) : Type 0 where
  pub range : in_range pairs piece.weight piece.pairs ≡ true
  pub ascends : ascends piece.pairs ≡ true
  pub behind : stands_behind before piece.pairs ≡ true

-- canonical numbers are the decimal texts of their values
pub spelled : (pairs : ℕ) (ps : List (List ℕ)) → pairs < 2 ^ 32 → list_all is_canonical ps ≡ true → list_all (λ place. nat_lt place pairs) (map value ps) ≡ true
    → ps ≡ map decimal (map value ps)
spelled pairs [] small c h = refl
spelled pairs (p ∷ ps) small c h =
    let canonical = and_parts (is_canonical p) (list_all is_canonical ps) c in
    let low = and_parts (nat_lt (value p) pairs) (list_all (λ place. nat_lt place pairs) (map value ps)) h in
    let below = ltb-true (value p) pairs low.0 in
    let first : p ≡ decimal (value p) = number_takes p canonical.0 (omega (arith, below)) in
    ap (λ (q : List ℕ). q ∷ ps) first ∙ ap (λ (qs : List (List ℕ)). decimal (value p) ∷ qs) (spelled pairs ps small canonical.1 low.1)

-- places below the number of pairs, in decimal digits
pub record AreSpelled (xs : List ℕ) : Type 0 where
  pub canonical : list_all is_canonical (map decimal xs) ≡ true
  pub values : map value (map decimal xs) ≡ xs
  pub words : AllWords (map decimal xs)

pub are_spelled : (pairs : ℕ) (xs : List ℕ) → pairs < 2 ^ 32 → list_all (λ place. nat_lt place pairs) xs ≡ true → AreSpelled xs
are_spelled pairs [] small h = record { canonical = refl; values = refl; words = tt }
are_spelled pairs (x ∷ xs) small h =
    let low = and_parts (nat_lt x pairs) (list_all (λ place. nat_lt place pairs) xs) h in
    let below = ltb-true x pairs low.0 in
    let again = number_again x (omega (arith, below)) in
    let others = are_spelled pairs xs small low.1 in
    record {
      canonical = rw (again.0, others.canonical) refl;
      values = rw (again.1, others.values) refl;
      words = (number_word x (omega (arith, below)), others.words);
    }

-- a list of ascending places below a number is no longer than it
ascending_few : (x pairs : ℕ) (xs : List ℕ) → ascends (x ∷ xs) ≡ true → list_all (λ place. nat_lt place pairs) (x ∷ xs) ≡ true → x + length (x ∷ xs) ≤ pairs
ascending_few x pairs [] a h =
    let low = and_parts (nat_lt x pairs) true h in
    let below = ltb-true x pairs low.0 in
    omega (arith, below)
ascending_few x pairs (y ∷ ys) a h =
    let low = and_parts (nat_lt x pairs) (list_all (λ place. nat_lt place pairs) (y ∷ ys)) h in
    let next = and_parts (nat_lt x y) (ascends (y ∷ ys)) a in
    let step = ltb-true x y next.0 in
    omega (arith, step, ascending_few y pairs ys next.1 low.1)

pub few_places : (pairs : ℕ) (xs : List ℕ) → ascends xs ≡ true → list_all (λ place. nat_lt place pairs) xs ≡ true → length xs ≤ pairs
few_places pairs [] a h = omega arith
few_places pairs (x ∷ xs) a h = omega (arith, ascending_few x pairs xs a h)

-- a line of numbers of at most six digits
pub short_line : (w : List ℕ) (pairs : ℕ) (xs : List ℕ) → pairs ≤ 1000000 → list_all (λ place. nat_lt place pairs) xs ≡ true
    → length (with_spaces (w ∷ map decimal xs)) ≤ length w + 7 * length xs
short_line w pairs [] few h = omega (arith, length-with_spaces_one w)
short_line w pairs (x ∷ xs) few h =
    let low = and_parts (nat_lt x pairs) (list_all (λ place. nat_lt place pairs) xs) h in
    let below = ltb-true x pairs low.0 in
    let digits : length (decimal x) ≤ 6 = length-decimal-le 6 x (lit< tt) (omega (arith, below)) (omega (arith, below)) in
    omega (arith, length-with_spaces_more w (decimal x) (map decimal xs), short_line (decimal x) pairs xs few low.1, digits)

pub range_parts : (pairs : ℕ) (piece : Piece) → in_range pairs piece.weight piece.pairs ≡ true
    → (1 ≤ piece.weight) × (piece.weight ≤ MOST_TICKETS) × (list_all (λ place. nat_lt place pairs) piece.pairs ≡ true)
range_parts pairs piece h =
    let a = and_parts (nat_le 1 piece.weight && nat_le piece.weight MOST_TICKETS) (list_all (λ place. nat_lt place pairs) piece.pairs) h in
    let b = and_parts (nat_le 1 piece.weight) (nat_le piece.weight MOST_TICKETS) a.0 in
    (leb-true 1 piece.weight b.0, leb-true piece.weight MOST_TICKETS b.1, a.1)

piece_takes : (pairs : ℕ) (before : List Piece) (parts : List (List ℕ)) (piece : Piece) → pairs < 2 ^ 32 → piece_in pairs before parts ≡ Ok piece
    → FitsPiece pairs before piece × (parts ≡ decimal piece.weight ∷ map decimal piece.pairs)
piece_takes pairs before [] piece small e = absurd cc
piece_takes pairs before (w ∷ ps) piece small e =
    let a = needs_ok (list_all is_canonical (w ∷ ps)) Number (piece_with pairs before (value w) (map value ps)) piece e in
    let made : Piece = record { weight = value w; pairs = map value ps } in
    let b = needs_ok (in_range pairs (value w) (map value ps)) Range (needs (ascends (map value ps) && stands_behind before (map value ps)) Order >>= λ _. Ok made) piece a.1 in
    let d = needs_ok (ascends (map value ps) && stands_behind before (map value ps)) Order (Ok made) piece b.1 in
    let is : made ≡ piece = ok_is {E = LineCode} made piece d.1 in
    let order = and_parts (ascends (map value ps)) (stands_behind before (map value ps)) d.0 in
    let fits : FitsPiece pairs before made = record { range = b.0; ascends = order.0; behind = order.1 } in
    let canonical = and_parts (is_canonical w) (list_all is_canonical ps) a.0 in
    let r = range_parts pairs made b.0 in
    let first : w ≡ decimal (value w) = number_takes w canonical.0 (omega (arith, r.1)) in
    let parts_are : (w ∷ ps) ≡ decimal (value w) ∷ map decimal (map value ps) =
    ap (λ (q : List ℕ). q ∷ ps) first ∙ ap (λ (qs : List (List ℕ)). decimal (value w) ∷ qs) (spelled pairs ps small canonical.1 r.2) in
    subst (λ (piece : Piece). FitsPiece pairs before piece × ((w ∷ ps) ≡ decimal piece.weight ∷ map decimal piece.pairs)) is (fits, parts_are)

piece_again : (pairs : ℕ) (before : List Piece) (piece : Piece) → pairs < 2 ^ 32 → FitsPiece pairs before piece
    → piece_in pairs before (decimal piece.weight ∷ map decimal piece.pairs) ≡ Ok piece
piece_again pairs before piece small fits =
    let r = range_parts pairs piece fits.range in
    let weight = number_again piece.weight (omega (arith, r.1)) in
    let places = are_spelled pairs piece.pairs small r.2 in
    rw (weight.0, places.canonical) (rw (weight.1, places.values) (rw (fits.range, fits.ascends, fits.behind) refl))

pub piece_spells : (pairs : ℕ) → pairs ≤ 250000 → Spells {A = Piece} (piece_of pairs) (FitsPiece pairs) piece_line
unfolding piece_of piece_line
piece_spells pairs few = record {
  sound = λ before line piece e.
      let t = piece_takes pairs before (fields line) piece (omega (arith, few)) e in
      (t.0, sym (with_spaces-fields line) ∙ ap with_spaces t.1);
  complete = λ before piece fits.
      let r = range_parts pairs piece fits.range in
      let places = are_spelled pairs piece.pairs (omega (arith, few)) r.2 in
      rw (fields-with_spaces (decimal piece.weight) (map decimal piece.pairs) (number_word piece.weight (omega (arith, r.1)), places.words)) (piece_again pairs before piece (omega (arith, few)) fits);
  lines = λ before piece fits.
      let r = range_parts pairs piece fits.range in
      let places = are_spelled pairs piece.pairs (omega (arith, few)) r.2 in
      words_line (decimal piece.weight ∷ map decimal piece.pairs) (number_word piece.weight (omega (arith, r.1)), places.words)
      (omega (arith, short_line (decimal piece.weight) pairs piece.pairs (omega (arith, few)) r.2, few_places pairs piece.pairs fits.ascends r.2, number_short piece.weight (omega (arith, r.1)), few));
}
