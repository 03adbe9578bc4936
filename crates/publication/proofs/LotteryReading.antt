-- The prices and the pieces of a lottery, section by section.
use Rattle.std.proofs.Common.{◌≡◌, List, Ok, ℤ, refl}
use Rattle.std.specs.Prelude.{codes}
use Rattle.match_rules.specs.declared.lottery.Piece.{Piece}
use Rattle.match_rules.specs.declared.rules.TheConstants.{MOST_TICKETS}
use Rattle.text_lines.specs.declared.fault.ReadError.{ReadError}
use Rattle.text_lines.specs.Forms.{fixed, section_at}
use Rattle.text_lines.specs.Reading.{Cursor, Fails, due}
use Rattle.text_lines.proofs.DueLaws.{bind_fails}
use Rattle.match_rules.specs.declared.sizes.Sizes.{Sizes}
use Rattle.publication.specs.AnswerForms.{piece_of}
use Rattle.publication.specs.AnswerReading.{price_list_at, prices_at, pieces_at}

pub third_prices_fail : (sizes : Sizes) (at a b : Cursor) (first second : List ℤ) (e : ReadError) → price_list_at (codes "paper-prices") sizes.papers at ≡ Ok (first, a) → price_list_at (codes "group-prices") sizes.groups a ≡ Ok (second, b)
    → Fails e (price_list_at (codes "reviewer-prices") sizes.reviewers b) → Fails e (prices_at sizes at)
unfolding prices_at
third_prices_fail sizes at a b first second e p q bad =
    rw (p, q) (bind_fails e (price_list_at (codes "reviewer-prices") sizes.reviewers b) (λ reviewers. Ok (record { papers = first; groups = second; reviewers = reviewers.0 }, reviewers.1)) bad)

pub prices_read : (sizes : Sizes) (at a b c : Cursor) (first second third : List ℤ) → price_list_at (codes "paper-prices") sizes.papers at ≡ Ok (first, a) → price_list_at (codes "group-prices") sizes.groups a ≡ Ok (second, b)
    → price_list_at (codes "reviewer-prices") sizes.reviewers b ≡ Ok (third, c) → prices_at sizes at ≡ Ok (record { papers = first; groups = second; reviewers = third }, c)
unfolding prices_at
prices_read sizes at a b c first second third p q r = rw (p, q, r) refl

pub pieces_end_fails : (sizes : Sizes) (at a : Cursor) (pieces : List Piece) (e : ReadError) → section_at (codes "pieces") 0 MOST_TICKETS (piece_of sizes.pairs) at ≡ Ok (pieces, a) → Fails e (due (fixed (codes "end lottery")) a) → Fails e (pieces_at sizes at)
unfolding pieces_at
pieces_end_fails sizes at a pieces e p bad =
    rw p (bind_fails e (due (fixed (codes "end lottery")) a) (λ end. Ok (pieces, end.1)) bad)

pub pieces_read : (sizes : Sizes) (at a b : Cursor) (pieces : List Piece) (unit : Unit {0}) → section_at (codes "pieces") 0 MOST_TICKETS (piece_of sizes.pairs) at ≡ Ok (pieces, a) → due (fixed (codes "end lottery")) a ≡ Ok (unit, b) → pieces_at sizes at ≡ Ok (pieces, b)
unfolding pieces_at
pieces_read sizes at a b pieces unit p q = rw (p, q) refl
