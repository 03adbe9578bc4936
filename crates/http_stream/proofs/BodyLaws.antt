-- What stands at the front while a body is read, and where it is there.
use Rattle.std.proofs.Common.{◌≡◌, ℕ, ◌+◌, ◌-◌, ◌<◌, ◌≤◌, Bool, true, false, leb, List, [], ◌++◌, length, take, drop, Option, None, Some, refl, sym, ap, subst, ◌∙◌, arith}
use Rattle.std.proofs.lemmas.List.{append-nil, length-append, length-drop}
use Rattle.edge_io.specs.Told.{told}
use Rattle.http_messages.specs.Requests.{RequestValue}
use Rattle.http_framing.specs.declared.fault.FrameFault.TheVariants.{StreamTooLarge, Truncated}
use Rattle.http_framing.specs.Fronts.{Front, HasFront, continues, finished, partly, refused, request_of, wants, whole}
use Rattle.http_framing.specs.Heads.{HeadValue}
use Rattle.http_framing.specs.HeadTests.{ends_stream}
use Rattle.http_framing.proofs.FrontLaws.{request_takes}
use Rattle.http_stream.specs.declared.stop.Stop.{Stop}
use Rattle.http_stream.specs.declared.stop.Stop.TheVariants.{Finished, Memory, ReadFault, Refused}
use Rattle.http_stream.specs.Intakes.{HeadAt, IsHeaded, IsUnread, Stops, StopsHere, Taken, is_due}
use Rattle.http_stream.proofs.FrontLaws.{head_more, partly_front, whole_front}
use Rattle.http_stream.proofs.ReadingLaws.{unread_stops}
use Rattle.http_stream.proofs.ShortLaws.{not_leb}
use borrow.Author.Tests.{le-leb}

pub headed_more : (room now : ℕ) (bytes came new : List ℕ) (head : HeadValue) (end count : ℕ) (due : Bool) → IsHeaded room bytes head end count due → now ≡ room
    → new ≡ bytes ++ came → IsHeaded now new head end count due
headed_more room now bytes came new head end count due (at, is, within) same grown =
    subst (λ (r : ℕ). IsHeaded r new head end count due) (sym same)
    (subst (λ (xs : List ℕ). IsHeaded room xs head end count due) (sym grown)
    (head_more bytes came end head count at, is, omega (arith, length-append bytes came)))

-- part of the body is there
part_front : (room : ℕ) (over : Bool) (bytes : List ℕ) (head : HeadValue) (end count : ℕ) (due full : Bool) → IsHeaded room bytes head end count due
    → length bytes < end + count → leb room (length bytes) ≡ full → HasFront room over bytes (partly full over due)
part_front room over bytes head end count due full (at, is, within) short test =
    subst (λ (f : Bool). HasFront room over bytes (partly f over due)) test
    (subst (λ (d : Bool). HasFront room over bytes (partly (leb room (length bytes)) over d)) (sym is) (partly_front room over bytes end head count at short))

pub full_stops : (left : Option (List ℕ)) (room : ℕ) (bytes : List ℕ) (head : HeadValue) (end count : ℕ) (due : Bool) → IsHeaded room bytes head end count due
    → length bytes < end + count → room ≤ length bytes → StopsHere room bytes left (Refused StreamTooLarge) due
full_stops left room bytes head end count due headed short full =
    (false, λ e. absurd (cc), part_front room false bytes head end count due true headed short (le-leb room (length bytes) full))

pub over_stops : (left : Option (List ℕ)) (room now : ℕ) (bytes new came : List ℕ) (head : HeadValue) (end count : ℕ) (due : Bool) → IsHeaded room bytes head end count due
    → length bytes < end + count → length bytes < room → now ≡ room → new ≡ bytes ++ came → came ≡ [] → told left ≡ [] → StopsHere now new left (Refused Truncated) due
over_stops left room now bytes new came head end count due headed short more same grown none over =
    let bytes_same : new ≡ bytes = grown ∙ ap (λ (xs : List ℕ). bytes ++ xs) none ∙ append-nil bytes in (
      true,
      λ e. over,
      subst (λ (r : ℕ). Stops r true new (Refused Truncated) due) (sym same)
          (subst (λ (xs : List ℕ). Stops room true xs (Refused Truncated) due) (sym bytes_same)
          (part_front room true bytes head end count due false headed short (not_leb room (length bytes) more))),
    )

pub body_unread : (left : Option (List ℕ)) (room now : ℕ) (bytes new came : List ℕ) (head : HeadValue) (end count : ℕ) (due : Bool) (stop : Stop) → IsHeaded room bytes head end count due
    → length bytes < end + count → length bytes < room → now ≡ room → new ≡ bytes ++ came → came ≡ [] → IsUnread stop → StopsHere now new left stop due
body_unread left room now bytes new came head end count due stop headed short more same grown none unread =
    let bytes_same : new ≡ bytes = grown ∙ ap (λ (xs : List ℕ). bytes ++ xs) none ∙ append-nil bytes in (
      false,
      λ e. absurd (cc),
      subst (λ (r : ℕ). Stops r false new stop due) (sym same)
          (subst (λ (xs : List ℕ). Stops room false xs stop due) (sym bytes_same)
          (unread_stops room bytes stop due unread (part_front room false bytes head end count due false headed short (not_leb room (length bytes) more)))),
    )

-- the request is whole
headed_front : (room : ℕ) (bytes : List ℕ) (head : HeadValue) (end count : ℕ) (due : Bool) → IsHeaded room bytes head end count due → end + count ≤ length bytes
    → HasFront room false bytes (whole (request_of head (take count (drop end bytes))) due (ends_stream head) (drop (end + count) bytes))
headed_front room bytes head end count due (at, is, within) there =
    subst (λ (d : Bool). HasFront room false bytes (whole (request_of head (take count (drop end bytes))) d (ends_stream head) (drop (end + count) bytes))) (sym is)
    (subst (λ (rest : List ℕ). HasFront room false bytes (whole (request_of head (take count (drop end bytes))) (is_due room end head) (ends_stream head) rest)) (append-nil (drop (end + count) bytes))
    (subst (λ (xs : List ℕ). HasFront room false xs (whole (request_of head (take count (drop end bytes))) (is_due room end head) (ends_stream head) (drop (end + count) bytes ++ []))) (append-nil bytes)
    (whole_front room bytes end head count at there false [])))

pub takes : (room left : ℕ) (bytes rest body : List ℕ) (head : HeadValue) (end count : ℕ) (request : RequestValue) (due closes : Bool) → IsHeaded room bytes head end count due
    → end + count ≤ length bytes → body ≡ take count (drop end bytes) → request ≡ request_of head body → closes ≡ ends_stream head → rest ≡ drop (end + count) bytes
    → room ≡ (end + count) + left → Taken room bytes request due closes left rest
takes room left bytes rest body head end count request due closes headed there is_body is_request is_closes is_rest counted =
    let front = headed_front room bytes head end count due headed there in
    let asked : request ≡ request_of head (take count (drop end bytes)) = is_request ∙ ap (λ (xs : List ℕ). request_of head xs) is_body in
    let f : whole (request_of head (take count (drop end bytes))) due (ends_stream head) (drop (end + count) bytes) ≡ whole request due closes rest =
    ap (λ (q : RequestValue). whole q due (ends_stream head) (drop (end + count) bytes)) (sym asked)
    ∙ ap (λ (c : Bool). whole request due c (drop (end + count) bytes)) (sym is_closes)
    ∙ ap (λ (xs : List ℕ). whole request due closes xs) (sym is_rest) in
    let there_now : HasFront room false bytes (whole request due closes rest) = subst (λ (x : Front). HasFront room false bytes x) f front in
    let used = request_takes room false bytes request due closes rest there_now in
    let long : length rest ≡ length bytes - (end + count) = ap length is_rest ∙ length-drop (end + count) bytes in
    record {
      front = there_now;
      counted = omega (arith, long, counted, there);
      less = omega (arith, used.1, used.2, ap length used.3, length-drop used.0 bytes);
    }

-- a request that is there may want memory
pub memory_stops : (left : Option (List ℕ)) (room : ℕ) (bytes : List ℕ) (head : HeadValue) (end count : ℕ) (due : Bool) (stop : Stop) → IsHeaded room bytes head end count due
    → end + count ≤ length bytes → stop ≡ Memory → StopsHere room bytes left stop due
memory_stops left room bytes head end count due stop headed there is =
    subst (λ (s : Stop). StopsHere room bytes left s due) (sym is)
    (false, λ e. absurd (cc), λ d. (whole (request_of head (take count (drop end bytes))) due (ends_stream head) (drop (end + count) bytes), headed_front room bytes head end count due headed there, d))
