-- Members without floats stay so when another one is put.
use Rattle.std.proofs.Common.{◌≡◌, ℕ, ℤ, List, Bool, true, false, ◌||◌, pos, negsuc, Ordering, Less, Equal, Greater, refl}
use Rattle.std.specs.Cmp.Lexicographic.{slice_cmp}
use Rattle.std.specs.Ordering.{match_ordering, nat_cmp}
use Rattle.serde_json.specs.Data.{Data, Members, member, no_members, number, put}
use Rattle.serde_json.specs.Find.{of_integer}
use Rattle.serde_json.specs.Written.{has_float, members_have_float}

neither : (a b : Bool) → a ≡ false → b ≡ false → (a || b) ≡ false
neither a b p q = rw (p, q) refl

left_of : (a b : Bool) → (a || b) ≡ false → a ≡ false
left_of false b h = refl
left_of true b h = h

right_of : (a b : Bool) → (a || b) ≡ false → b ≡ false
right_of false b h = h
right_of true b h = absurd (cc)

put_at : (o : Ordering) (k l : List ℕ) (d e : Data) (ms : Members) → has_float d ≡ false → has_float e ≡ false → members_have_float ms ≡ false → members_have_float (put k d ms) ≡ false
    → members_have_float (match_ordering o (member k d (member l e ms)) (member l d ms) (member l e (put k d ms))) ≡ false
put_at Less k l d e ms new here rest later = neither (has_float d) _ new (neither (has_float e) _ here rest)
put_at Equal k l d e ms new here rest later = neither (has_float d) _ new rest
put_at Greater k l d e ms new here rest later = neither (has_float e) _ here later

pub put_no_float : (k : List ℕ) (d : Data) (ms : Members) → has_float d ≡ false → members_have_float ms ≡ false → members_have_float (put k d ms) ≡ false
put_no_float k d no_members new rest = neither (has_float d) false new refl
put_no_float k d (member l e ms) new rest =
    let here = left_of (has_float e) (members_have_float ms) rest in
    let more = right_of (has_float e) (members_have_float ms) rest in
    put_at (slice_cmp nat_cmp k l) k l d e ms new here more (put_no_float k d ms new more)

pub integer_no_float : (z : ℤ) → has_float (number (of_integer z)) ≡ false
integer_no_float (pos n) = refl
integer_no_float (negsuc n) = refl
