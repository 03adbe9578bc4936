-- What stands at the front where no head has ended.
use Rattle.std.proofs.Common.{◌≡◌, ℕ, zero, suc, ◌+◌, ◌<◌, ◌≤◌, Bool, true, false, cond, leb, List, [], ◌∷◌, length, None, refl, sym, ap, subst, ◌∙◌, arith}
use borrow.Author.Tests.{leb-true, le-leb}
use Rattle.http_framing.specs.declared.blanks.TheConstants.{MOST_HEAD_BYTES}
use Rattle.http_framing.specs.declared.fault.FrameFault.TheVariants.{HeadTooLarge, StreamTooLarge, Truncated}
use Rattle.http_framing.specs.Fronts.{Front, HasFront, between, finished, front_at, in_head, partly, refused, wants}
use Rattle.http_framing.specs.Heads.{blank_length, head_end}
use Rattle.http_stream.specs.Intakes.{IsShort}
use Rattle.http_stream.proofs.FrontLaws.{none_front}

pub not_leb : (a b : ℕ) → b < a → leb a b ≡ false
not_leb a b h = by_test (leb a b) refl
  where
    by_test : (t : Bool) → leb a b ≡ t → leb a b ≡ false
    by_test true e = let most = leb-true a b e in absurd (omega arith)
    by_test false e = e

-- the front of bytes that don't reach the end of a head, by two tests
at_short : (room : ℕ) (over : Bool) (bytes : List ℕ) (full : Bool) → leb room (length bytes) ≡ full → leb MOST_HEAD_BYTES (length bytes) ≡ false → 0 < length bytes
    → front_at room over bytes None bytes None ≡ partly full over false
at_short room over [] full f m some = absurd (omega arith)
at_short room over (x ∷ xs) full f m some =
    ap (λ (b : Bool). cond b (refused HeadTooLarge false) (partly (leb room (suc (length xs))) over false)) m
    ∙ ap (λ (b : Bool). partly b over false) f

at_none : (room : ℕ) (over : Bool) (bytes : List ℕ) (full : Bool) → leb room (length bytes) ≡ full → length bytes ≡ 0
    → front_at room over bytes None bytes None ≡ between full over
at_none room over [] full f none = ap (λ (b : Bool). between b over) f
at_none room over (x ∷ xs) full f none = absurd (omega arith)

at_long : (room : ℕ) (over : Bool) (bytes : List ℕ) → leb MOST_HEAD_BYTES (length bytes) ≡ true → 0 < length bytes
    → front_at room over bytes None bytes None ≡ refused HeadTooLarge false
at_long room over [] m some = absurd (omega arith)
at_long room over (x ∷ xs) m some = ap (λ (b : Bool). cond b (refused HeadTooLarge false) (partly (leb room (suc (length xs))) over false)) m

stands : (room : ℕ) (over : Bool) (bytes : List ℕ) (front : Front) → blank_length bytes ≡ 0 → head_end bytes ≡ None
    → front_at room over bytes None bytes None ≡ front → HasFront room over bytes front
stands room over bytes front blank none is = subst (λ (f : Front). HasFront room over bytes f) is (none_front room over bytes blank none)

pub long_front : (room : ℕ) (over : Bool) (bytes : List ℕ) → blank_length bytes ≡ 0 → head_end bytes ≡ None → MOST_HEAD_BYTES ≤ length bytes
    → HasFront room over bytes (refused HeadTooLarge false)
long_front room over bytes blank none long =
    stands room over bytes (refused HeadTooLarge false) blank none (at_long room over bytes (le-leb MOST_HEAD_BYTES (length bytes) long) (omega arith))

by_length : (room : ℕ) (over : Bool) (bytes : List ℕ) (n : ℕ) → length bytes ≡ n → blank_length bytes ≡ 0 → head_end bytes ≡ None → length bytes < MOST_HEAD_BYTES → room ≤ length bytes
    → HasFront room over bytes (refused StreamTooLarge false)
by_length room over bytes zero is blank none few full =
    stands room over bytes (refused StreamTooLarge false) blank none (at_none room over bytes true (le-leb room (length bytes) full) is)
by_length room over bytes (suc n) is blank none few full =
    stands room over bytes (refused StreamTooLarge false) blank none
    (at_short room over bytes true (le-leb room (length bytes) full) (not_leb MOST_HEAD_BYTES (length bytes) few) (omega arith))

pub full_front : (room : ℕ) (over : Bool) (bytes : List ℕ) → blank_length bytes ≡ 0 → head_end bytes ≡ None → length bytes < MOST_HEAD_BYTES → room ≤ length bytes
    → HasFront room over bytes (refused StreamTooLarge false)
full_front room over bytes blank none few full = by_length room over bytes (length bytes) refl blank none few full

-- the bytes are the front of a head, or none, and more may come

pub finished_front : (room : ℕ) (bytes : List ℕ) → blank_length bytes ≡ 0 → IsShort room bytes → length bytes ≡ 0 → HasFront room true bytes finished
finished_front room bytes blank short empty =
    stands room true bytes finished blank short.none (at_none room true bytes false (not_leb room (length bytes) short.more) empty)

pub truncated_front : (room : ℕ) (bytes : List ℕ) → blank_length bytes ≡ 0 → IsShort room bytes → 0 < length bytes
    → HasFront room true bytes (refused Truncated false)
truncated_front room bytes blank short some =
    stands room true bytes (refused Truncated false) blank short.none
    (at_short room true bytes false (not_leb room (length bytes) short.more) (not_leb MOST_HEAD_BYTES (length bytes) short.few) some)

wants_by : (room : ℕ) (bytes : List ℕ) (n : ℕ) → length bytes ≡ n → blank_length bytes ≡ 0 → IsShort room bytes → HasFront room false bytes (wants false)
wants_by room bytes zero is blank short =
    stands room false bytes (wants false) blank short.none (at_none room false bytes false (not_leb room (length bytes) short.more) is)
wants_by room bytes (suc n) is blank short =
    stands room false bytes (wants false) blank short.none
    (at_short room false bytes false (not_leb room (length bytes) short.more) (not_leb MOST_HEAD_BYTES (length bytes) short.few) (omega arith))

pub wants_front : (room : ℕ) (bytes : List ℕ) → blank_length bytes ≡ 0 → IsShort room bytes → HasFront room false bytes (wants false)
wants_front room bytes blank short = wants_by room bytes (length bytes) refl blank short
