use Rattle.std.proofs.Common.{◌≡◌, ℕ, Bool, true, false, List, length, get_or, Option, None, Some, refl, sym, ◌∙◌, arith}
use Rattle.std.specs.Prelude.{unwrap_or}
use Rattle.std.specs.List.{position_or_len}
use Rattle.std.proofs.lemmas.List.Sums.{position_or_len_is}
use Rattle.memchr.specs.Find.{IsFirstByte, is_byte}
use Rattle.text_lines.specs.Reading.{is_feed}
use Rattle.desk_keeper.proofs.reading.feed_in.Goals as goal

is_false : (b : Bool) → (b ≡ true → ⊥) → b ≡ false
is_false true h = absurd (h refl)
is_false false h = refl

first_is : (bs : List ℕ) (r : Option ℕ) → IsFirstByte (is_byte 10) bs r → unwrap_or r (length bs) ≡ position_or_len is_feed bs
first_is bs None h = sym (position_or_len_is is_feed bs (length bs) 0 (omega arith) (λ k lt. is_false (is_feed (get_or bs k 0)) (h k (omega arith) lt)) (λ lt. absurd (omega arith)))
first_is bs (Some i) h = sym (position_or_len_is is_feed bs i 0 (omega (arith, h.0.high)) (λ k lt. is_false (is_feed (get_or bs k 0)) (h.0.before k (omega arith) lt)) (λ lt. h.1))

pub returns : goal.returns
returns c = c.unwrap_or.ensures ∙ first_is c.args.row.now c.memchr.result c.memchr.ensures
