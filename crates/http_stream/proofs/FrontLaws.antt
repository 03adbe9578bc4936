-- What stands at the front of the bytes, by where its head ends.
use Rattle.std.proofs.Common.{◌≡◌, ℕ, suc, ◌+◌, ◌<◌, ◌≤◌, ◌&&◌, Bool, true, false, cond, leb, ltb, List, [], ◌∷◌, ◌++◌, length, take, drop, Option, None, Some, Result, Ok, Err, refl, sym, ap, subst, ◌∙◌, arith}
use Rattle.std.specs.Prelude.{unwrap_or}
use Rattle.std.proofs.lemmas.List.{append-nil, length-append, length-drop, drop-drop, drop-append-le, take-append-le}
use borrow.Author.Tests.{leb-true, leb-false, le-leb}
use Rattle.httparse.specs.Grammar.{RequestHead, print_request}
use Rattle.http_framing.specs.declared.fault.FrameFault.{FrameFault}
use Rattle.http_framing.specs.declared.fault.FrameFault.TheVariants.{BadHead}
use Rattle.http_framing.specs.Fronts.{Front, HasFront, behind_head, front_at, front_of, in_body, partly, refused, request_of, tested, whole}
use Rattle.http_framing.specs.Heads.{HeadValue, IsHeadText, IsRead, blank_length, head_bytes, head_end, skip_blank}
use Rattle.http_framing.specs.HeadTests.{asks_continue, body_length, ends_stream}
use Rattle.http_stream.specs.Intakes.{HeadAt, is_due}
use Rattle.http_stream.proofs.Blanks.{blank_ends}
use Rattle.http_stream.proofs.HeadEnds.{head_end_long, head_end_stays}

some_bytes : (h : RequestHead) → 1 ≤ length (print_request h)
unfolding print_request
some_bytes h = simp length-append (omega arith)

-- no bytes are no head
pub no_head : IsRead [] None
no_head h text =
    let long : 0 ≡ length (print_request h) + 0 = ap length text.reads.1 ∙ length-append (print_request h) [] in
    omega (arith, some_bytes h)

pub skips_none : (bytes : List ℕ) → blank_length bytes ≡ 0 → skip_blank bytes ≡ bytes
skips_none bytes blank = ap (λ n. drop n bytes) blank

-- where no head has ended
pub none_front : (room : ℕ) (over : Bool) (bytes : List ℕ) → blank_length bytes ≡ 0 → head_end bytes ≡ None
    → HasFront room over bytes (front_at room over bytes None bytes None)
none_front room over bytes blank none =
    let skip = skips_none bytes blank in
    let text : head_bytes bytes ≡ [] =
    ap (λ (xs : List ℕ). take (unwrap_or (head_end xs) 0) xs) skip ∙ ap (λ (o : Option ℕ). take (unwrap_or o 0) bytes) none in
    let front : front_of room over bytes None ≡ front_at room over bytes None bytes None =
    ap (λ (xs : List ℕ). front_at room over bytes None xs (head_end xs)) skip ∙ ap (λ (o : Option ℕ). front_at room over bytes None bytes o) none in
    (None, subst (λ (xs : List ℕ). IsRead xs None) (sym text) no_head, sym front)

at_end : (room : ℕ) (over : Bool) (bytes : List ℕ) (read : Option HeadValue) (end : ℕ) → 2 ≤ length bytes
    → front_at room over bytes read bytes (Some end) ≡ behind_head (leb room (length bytes)) over (ltb (blank_length bytes + end) room) read (drop end bytes)
at_end room over [] read end h = absurd (omega arith)
at_end room over (x ∷ xs) read end h = refl

-- where a head has ended
pub ended_front : (room : ℕ) (over : Bool) (bytes : List ℕ) (read : Option HeadValue) (end : ℕ) → blank_length bytes ≡ 0 → head_end bytes ≡ Some end
    → IsRead (take end bytes) read → HasFront room over bytes (behind_head (leb room (length bytes)) over (ltb end room) read (drop end bytes))
ended_front room over bytes read end blank ends is =
    let skip = skips_none bytes blank in
    let text : head_bytes bytes ≡ take end bytes =
    ap (λ (xs : List ℕ). take (unwrap_or (head_end xs) 0) xs) skip ∙ ap (λ (o : Option ℕ). take (unwrap_or o 0) bytes) ends in
    let count : blank_length bytes + end ≡ end = omega arith in
    let front : front_of room over bytes read ≡ behind_head (leb room (length bytes)) over (ltb end room) read (drop end bytes) =
    ap (λ (xs : List ℕ). front_at room over bytes read xs (head_end xs)) skip
    ∙ ap (λ (o : Option ℕ). front_at room over bytes read bytes o) ends
    ∙ at_end room over bytes read end (head_end_long bytes end ends).0
    ∙ ap (λ n. behind_head (leb room (length bytes)) over (ltb n room) read (drop end bytes)) count in
    (read, subst (λ (xs : List ℕ). IsRead xs read) (sym text) is, sym front)

pub bad_front : (room : ℕ) (over : Bool) (bytes : List ℕ) (end : ℕ) → blank_length bytes ≡ 0 → head_end bytes ≡ Some end
    → IsRead (take end bytes) None → HasFront room over bytes (refused BadHead false)
bad_front room over bytes end blank ends is = ended_front room over bytes None end blank ends is

pub fault_front : (room : ℕ) (over : Bool) (bytes : List ℕ) (end : ℕ) (head : HeadValue) (fault : FrameFault) → blank_length bytes ≡ 0
    → head_end bytes ≡ Some end → IsRead (take end bytes) (Some head) → body_length head ≡ Err fault → HasFront room over bytes (refused fault false)
fault_front room over bytes end head fault blank ends is fails =
    let front = ended_front room over bytes (Some head) end blank ends is in
    subst (λ (f : Front). HasFront room over bytes f)
    (ap (λ (r : Result ℕ FrameFault). tested (leb room (length bytes)) over (asks_continue head && ltb end room) head r (drop end bytes)) fails)
    front

-- where the head passes its tests
pub passed_front : (room : ℕ) (over : Bool) (bytes : List ℕ) (end : ℕ) (head : HeadValue) (count : ℕ) → HeadAt bytes end head count
    → HasFront room over bytes (in_body (leb room (length bytes)) over (is_due room end head) head count (drop end bytes))
passed_front room over bytes end head count at =
    let front = ended_front room over bytes (Some head) end at.blank at.ends at.reads in
    subst (λ (f : Front). HasFront room over bytes f)
    (ap (λ (r : Result ℕ FrameFault). tested (leb room (length bytes)) over (is_due room end head) head r (drop end bytes)) at.tests)
    front

pub head_more : (bytes more : List ℕ) (end : ℕ) (head : HeadValue) (count : ℕ) → HeadAt bytes end head count → HeadAt (bytes ++ more) end head count
head_more bytes more end head count at =
    let long = head_end_long bytes end at.ends in
    record {
      blank = blank_ends bytes more (omega (arith, long.0, at.blank)) ∙ at.blank;
      ends = head_end_stays bytes more end at.ends;
      reads = subst (λ (xs : List ℕ). IsRead xs (Some head)) (sym (take-append-le end bytes more long.1)) at.reads;
      tests = at.tests;
    }

-- the body is there: a whole request, whatever comes behind it
pub whole_front : (room : ℕ) (bytes : List ℕ) (end : ℕ) (head : HeadValue) (count : ℕ) → HeadAt bytes end head count → end + count ≤ length bytes
    → (over : Bool) (more : List ℕ)
    → HasFront room over (bytes ++ more) (whole (request_of head (take count (drop end bytes))) (is_due room end head) (ends_stream head) (drop (end + count) bytes ++ more))
whole_front room bytes end head count at fits over more =
    let long = head_end_long bytes end at.ends in
    let behind : drop end (bytes ++ more) ≡ drop end bytes ++ more = drop-append-le end bytes more long.1 in
    let there : count ≤ length (drop end bytes) = omega (arith, length-drop end bytes) in
    let body : take count (drop end bytes ++ more) ≡ take count (drop end bytes) = take-append-le count (drop end bytes) more there in
    let rest : drop count (drop end bytes ++ more) ≡ drop (end + count) bytes ++ more =
    drop-append-le count (drop end bytes) more there ∙ ap (λ (xs : List ℕ). xs ++ more) (drop-drop count end bytes) in
    let full = leb room (length (bytes ++ more)) in
    let due = is_due room end head in
    let enough : leb count (length (drop end bytes ++ more)) ≡ true =
    le-leb count (length (drop end bytes ++ more)) (omega (arith, length-append (drop end bytes) more)) in
    let front = passed_front room over (bytes ++ more) end head count (head_more bytes more end head count at) in
    let is : in_body full over due head count (drop end (bytes ++ more)) ≡ whole (request_of head (take count (drop end bytes))) due (ends_stream head) (drop (end + count) bytes ++ more) =
    ap (λ (xs : List ℕ). in_body full over due head count xs) behind
    ∙ ap (λ (b : Bool). cond b (whole (request_of head (take count (drop end bytes ++ more))) due (ends_stream head) (drop count (drop end bytes ++ more))) (partly full over due)) enough
    ∙ ap (λ (xs : List ℕ). whole (request_of head xs) due (ends_stream head) (drop count (drop end bytes ++ more))) body
    ∙ ap (λ (xs : List ℕ). whole (request_of head (take count (drop end bytes))) due (ends_stream head) xs) rest in
    subst (λ (f : Front). HasFront room over (bytes ++ more) f) is front

-- the body is there in part
pub partly_front : (room : ℕ) (over : Bool) (bytes : List ℕ) (end : ℕ) (head : HeadValue) (count : ℕ) → HeadAt bytes end head count → length bytes < end + count
    → HasFront room over bytes (partly (leb room (length bytes)) over (is_due room end head))
partly_front room over bytes end head count at short =
    let long = head_end_long bytes end at.ends in
    let full = leb room (length bytes) in
    let due = is_due room end head in
    let few : length (drop end bytes) < count = omega (arith, length-drop end bytes) in
    let lacks : leb count (length (drop end bytes)) ≡ false = by_test (leb count (length (drop end bytes))) refl few in
    let is : in_body full over due head count (drop end bytes) ≡ partly full over due =
    ap (λ (b : Bool). cond b (whole (request_of head (take count (drop end bytes))) due (ends_stream head) (drop count (drop end bytes))) (partly full over due)) lacks in
    subst (λ (f : Front). HasFront room over bytes f) is (passed_front room over bytes end head count at)
  where
    by_test : (b : Bool) → leb count (length (drop end bytes)) ≡ b → length (drop end bytes) < count → leb count (length (drop end bytes)) ≡ false
    by_test true e few = let most = leb-true count (length (drop end bytes)) e in absurd (omega arith)
    by_test false e few = e
