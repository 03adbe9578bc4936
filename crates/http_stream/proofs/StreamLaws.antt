-- How the parts of a stream make what was written for it.
use Rattle.std.proofs.Common.{◌≡◌, ℕ, ◌+◌, ◌-◌, ◌<◌, ◌≤◌, Bool, true, false, cond, leb, List, [], ◌∷◌, ◌++◌, length, take, drop, Option, None, Some, Result, Ok, Err, inl, inr, append_assoc, refl, sym, ap, subst, ◌∙◌, arith}
use Rattle.std.specs.Prelude.{IsSome, ◌⊎◌}
use Rattle.std.proofs.lemmas.List.{append-nil, length-append}
use Rattle.edge_io.specs.Told.{AddsAll, told}
use Rattle.http_messages.specs.Replies.{ReplyValue, continue_text, reply_text}
use Rattle.http_messages.specs.Requests.{RequestValue}
use Rattle.http_framing.specs.Faults.{fault_text}
use Rattle.http_framing.specs.Fronts.{Front, HasFront, continues, finished, in_body, partly, refused, request_of, wants, whole}
use Rattle.http_framing.specs.Heads.{HeadValue}
use Rattle.http_framing.specs.HeadTests.{ends_stream}
use Rattle.http_framing.proofs.FrontLaws.{request_stays}
use Rattle.http_stream.specs.declared.ending.StreamEnd.{StreamEnd}
use Rattle.http_stream.specs.declared.ending.StreamEnd.TheVariants as ends
use Rattle.http_stream.specs.declared.handler.HandleFault.{HandleFault}
use Rattle.http_stream.specs.declared.handler.HandleFault.TheVariants as faults
use Rattle.http_stream.specs.declared.stop.Stop.{Stop}
use Rattle.http_stream.specs.declared.stop.Stop.TheVariants.{Finished, Memory, ReadFault, Refused}
use Rattle.http_stream.specs.Exchanges.{Exchange, IsFrontOf, Trail, continued, memory_text}
use Rattle.http_stream.specs.Streams.{Answered, Ends, Replied, Wrote, own_text}
use Rattle.http_stream.specs.Intakes.{Added, Closes, IsHeaded, Responds, Sent, Shed, Stops, StopsHere, Taken, Writes, is_due}
use Rattle.http_stream.proofs.FrontLaws.{passed_front}
use Rattle.http_stream.proofs.ShedLaws.{shed_front, shed_length, shed_more}

-- what a writer sent, told or not
pub adds_out : {T E : Type 0} (old new : Option (List ℕ)) (result : Result T E) (text : List ℕ) → AddsAll old new result text
    → (out : List ℕ) × Added old new out × Sent result text out
adds_out old new (Ok v) text adds = (text, record { untold = adds.untold; added = adds.bytes }, refl)
adds_out old None (Err e) text adds = ([], record { untold = adds.untold; added = λ t. absurd (cc) }, (text, refl))
adds_out old (Some bytes) (Err e) text adds =
    let grown = adds.bytes refl in
    (grown.0, record { untold = adds.untold; added = λ t. grown.3 }, (grown.1, grown.2))

-- a front of a text behind what asks for a body is a front of more
pub front_on : (due : Bool) (out tail : List ℕ) → IsFrontOf out (continued due []) → IsFrontOf out (continued due tail)
front_on true out tail (rest, is) =
    (rest ++ tail, ap (λ (xs : List ℕ). xs ++ tail) (sym (append-nil continue_text) ∙ is) ∙ append_assoc out rest tail)
front_on false [] tail (rest, is) = (tail, refl)
front_on false (x ∷ xs) tail (rest, is) = absurd (cc)

own_front : (front : Front) (due : Bool) (out : List ℕ) → continues front ≡ due → IsFrontOf out (continued due []) → IsFrontOf out (own_text front)
own_front (wants d) due out is h = subst (λ (b : Bool). IsFrontOf out (continued b [])) (sym is) h
own_front finished due out is h = subst (λ (b : Bool). IsFrontOf out (continued b [])) (sym is) h
own_front (refused fault d) due out is h = front_on d out (fault_text fault) (subst (λ (b : Bool). IsFrontOf out (continued b [])) (sym is) h)
own_front (whole q d c rest) due out is h = subst (λ (b : Bool). IsFrontOf out (continued b [])) (sym is) h

continues_in_body : (there full over due : Bool) (front : Front) → continues front ≡ due → continues (cond there front (partly full over due)) ≡ due
continues_in_body true full over due front h = h
continues_in_body false true over due front h = refl
continues_in_body false false true due front h = refl
continues_in_body false false false due front h = refl

-- the sink fails where the body is asked for
pub ask_fails : (room left : ℕ) (bytes rest out : List ℕ) (head : HeadValue) (end count : ℕ) (due : Bool) → Shed room bytes left rest → IsHeaded left rest head end count due
    → IsFrontOf out (continued due []) → Ends room false bytes ends.WriteFault out
ask_fails room left bytes rest out head end count due shed (at, is, within) h =
    let d = is_due left end head in
    let behind = drop end rest in
    let front = in_body (leb left (length rest)) false d head count behind in
    let same : continues front ≡ d =
    continues_in_body (leb count (length behind)) (leb left (length rest)) false d (whole (request_of head (take count behind)) d (ends_stream head) (drop count behind)) refl in
    (front, shed_front room bytes left rest false front shed (passed_front left false rest end head count at), own_front front due out (same ∙ sym is) h)

pub stops_shed : (room left : ℕ) (bytes rest : List ℕ) (over : Bool) (stop : Stop) (due : Bool) → Shed room bytes left rest → Stops left over rest stop due
    → Stops room over bytes stop due
stops_shed room left bytes rest over Finished due shed (front, undue) = (shed_front room bytes left rest over finished shed front, undue)
stops_shed room left bytes rest over (Refused fault) due shed front = shed_front room bytes left rest over (refused fault due) shed front
stops_shed room left bytes rest over ReadFault due shed front = shed_front room bytes left rest over (wants due) shed front
stops_shed room left bytes rest over Memory due shed front =
    λ d. let f = front d in (f.0, shed_front room bytes left rest over f.0 shed f.1, f.2)

pub taken_shed : (room left : ℕ) (bytes rest : List ℕ) (q : RequestValue) (due closes : Bool) (last : ℕ) (behind : List ℕ) → Shed room bytes left rest
    → Taken left rest q due closes last behind → Taken room bytes q due closes last behind
taken_shed room left bytes rest q due closes last behind shed taken = record {
  front = shed_front room bytes left rest false (whole q due closes behind) shed taken.front;
  counted = omega (arith, taken.counted, shed.counted, shed_length room bytes left rest shed);
  less = omega (arith, taken.less, shed_length room bytes left rest shed);
}

-- how a stream ends that no further request is asked of
pub closes_end : (room : ℕ) (over : Bool) (bytes : List ℕ) (stop : Stop) (due : Bool) (end : StreamEnd) (out : List ℕ) → Stops room over bytes stop due
    → Closes stop end out → Ends room over bytes end (continued due out)
closes_end room over bytes Finished due end out (front, undue) (is, none) =
    subst (λ (e : StreamEnd). Ends room over bytes e (continued due out)) (sym is)
    (front, ap (λ (d : Bool). continued d out) undue ∙ none)
closes_end room over bytes ReadFault due end out front (is, none) =
    subst (λ (e : StreamEnd). Ends room over bytes e (continued due out)) (sym is) (due, front, ap (λ (xs : List ℕ). continued due xs) none)
closes_end room over bytes (Refused fault) due end out front (inl (is, text)) =
    subst (λ (e : StreamEnd). Ends room over bytes e (continued due out)) (sym is)
    (fault, due, front, ap (λ (xs : List ℕ). continued due xs) text)
closes_end room over bytes (Refused fault) due end out front (inr (is, (rest, text))) =
    subst (λ (e : StreamEnd). Ends room over bytes e (continued due out)) (sym is)
    (refused fault due, front, front_behind due out rest (fault_text fault) text)
  where
    front_behind : (d : Bool) (xs ys zs : List ℕ) → zs ≡ xs ++ ys → IsFrontOf (continued d xs) (continued d zs)
    front_behind true xs ys zs e = (ys, ap (λ (t : List ℕ). continue_text ++ t) e ∙ sym (append_assoc continue_text xs ys))
    front_behind false xs ys zs e = (ys, e)
closes_end room over bytes Memory due end out front (is, part) =
    subst (λ (e : StreamEnd). Ends room over bytes e (continued due out)) (sym is) (out, part, by_due due front)
  where
    by_due : (d : Bool) → Stops room over bytes Memory d
        → (continued d out ≡ out) ⊎ ((f : Front) × HasFront room over bytes f × (continues f ≡ true) × (continued d out ≡ continued true out))
    by_due false h = inl refl
    by_due true h = let f = h refl in inr (f.0, f.1, f.2, refl)

writes_end : (closes : Bool) (text out : List ℕ) (end : StreamEnd) (Later : List ℕ → Type 0) → Writes closes text (Some end) out → Replied closes text [] end out Later
writes_end true text out end Later (inl (c, is, all)) = inl ([], all ∙ sym (append-nil text), (refl, is, refl))
writes_end false text out end Later (inl (c, is, all)) = absurd (cc)
writes_end closes text out end Later (inr (is, part)) = inr (refl, is, part)

writes_on : (closes : Bool) (text out : List ℕ) (more : List Exchange) (end : StreamEnd) (behind : List ℕ) (Later : List ℕ → Type 0) → Writes closes text None out → Later behind
    → Replied closes text more end (out ++ behind) Later
writes_on true text out more end behind Later (c, all) later = absurd (cc)
writes_on false text out more end behind Later (c, all) later = inl (behind, ap (λ (xs : List ℕ). xs ++ behind) all, later)

responds_end : (closes : Bool) (answer : Result ReplyValue HandleFault) (out : List ℕ) (end : StreamEnd) (Later : List ℕ → Type 0) → Responds closes answer (Some end) out
    → Answered closes answer [] end out Later
responds_end closes (Ok reply) out end Later h = writes_end closes (reply_text reply closes) out end Later h
responds_end closes (Err faults.Memory) out end Later h = writes_end closes (memory_text closes) out end Later h
responds_end closes (Err faults.Spent) out end Later (is, none) = (refl, (cc), none)

responds_on : (closes : Bool) (answer : Result ReplyValue HandleFault) (out : List ℕ) (more : List Exchange) (end : StreamEnd) (behind : List ℕ) (Later : List ℕ → Type 0)
    → Responds closes answer None out → Later behind → Answered closes answer more end (out ++ behind) Later
responds_on closes (Ok reply) out more end behind Later h later = writes_on closes (reply_text reply closes) out more end behind Later h later
responds_on closes (Err faults.Memory) out more end behind Later h later = writes_on closes (memory_text closes) out more end behind Later h later
responds_on closes (Err faults.Spent) out more end behind Later (is, none) later = absurd (cc)

-- a request with which the stream ends
pub wrote_last : (room left : ℕ) (bytes rest text : List ℕ) (exchange : Exchange) (due closes : Bool) (end : StreamEnd) → Taken room bytes exchange.request due closes left rest
    → Responds closes exchange.answer (Some end) text → Wrote room false bytes (exchange ∷ []) end (continued due text)
wrote_last room left bytes rest text exchange due closes end taken answer = (
  due,
  closes,
  rest,
  text,
  taken.front,
  refl,
  responds_end closes exchange.answer text end (λ behind. Ends (room - (length bytes - length rest)) false rest end behind) answer,
)

-- what is written for what comes, with what was written before
pub record Goes (start : ℕ) (came : List ℕ) (trail : List Exchange) (out : List ℕ) (room : ℕ) (bytes : List ℕ) : Type 0 where
  pub leads : (over : Bool) (later : List ℕ) (more : List Exchange) (end : StreamEnd) (behind : List ℕ) → Wrote room over (bytes ++ later) more end behind
      → Wrote start over (came ++ later) (trail ++ more) end (out ++ behind)

pub goes_none : (start : ℕ) → Goes start [] [] [] start []
goes_none start = record { leads = λ over later more end behind w. w }

pub goes_on : (start : ℕ) (first : List ℕ) (before : List Exchange) (written : List ℕ) (room : ℕ) (bytes came : List ℕ) (exchange : Exchange) (due : Bool) (left : ℕ) (rest text : List ℕ)
    → Goes start first before written room bytes → Taken room (bytes ++ came) exchange.request due false left rest → Responds false exchange.answer None text
    → Goes start (first ++ came) (before ++ (exchange ∷ [])) (written ++ continued due text) left rest
goes_on start first before written room bytes came exchange due left rest text goes taken answer = record {
  leads = λ over later more end behind w.
      let front = request_stays room false over (bytes ++ came) later exchange.request due false rest taken.front in
      let count : left ≡ room - (length ((bytes ++ came) ++ later) - length (rest ++ later)) =
      omega (arith, taken.counted, taken.less, length-append (bytes ++ came) later, length-append rest later) in
      let w_left : Wrote (room - (length ((bytes ++ came) ++ later) - length (rest ++ later))) over (rest ++ later) more end behind =
      subst (λ (r : ℕ). Wrote r over (rest ++ later) more end behind) count w in
      let here : Wrote room over ((bytes ++ came) ++ later) (exchange ∷ more) end (continued due text ++ behind) = (
        due,
        false,
        rest ++ later,
        text ++ behind,
        front,
        continued_on due text behind,
        responds_on false exchange.answer text more end behind (λ b. Wrote (room - (length ((bytes ++ came) ++ later) - length (rest ++ later))) over (rest ++ later) more end b) answer w_left,
      ) in
      let there = goes.leads over (came ++ later) (exchange ∷ more) end (continued due text ++ behind)
      (subst (λ (xs : List ℕ). Wrote room over xs (exchange ∷ more) end (continued due text ++ behind)) (append_assoc bytes came later) here) in
      subst (λ (xs : List ℕ). Wrote start over ((first ++ came) ++ later) ((before ++ (exchange ∷ [])) ++ more) end xs) (sym (append_assoc written (continued due text) behind))
      (subst (λ (es : List Exchange). Wrote start over ((first ++ came) ++ later) es end (written ++ (continued due text ++ behind))) (sym (append_assoc before (exchange ∷ []) more))
      (subst (λ (xs : List ℕ). Wrote start over xs (before ++ (exchange ∷ more)) end (written ++ (continued due text ++ behind))) (sym (append_assoc first came later)) there));
}
  where
    continued_on : (d : Bool) (xs ys : List ℕ) → continued d xs ++ ys ≡ continued d (xs ++ ys)
    continued_on true xs ys = append_assoc continue_text xs ys
    continued_on false xs ys = refl

pub trail_then : {State : Type 0} (does : State → RequestValue → Result ReplyValue HandleFault → State → Type 0) (start : State) (first : List Exchange) (mid : State) (second : List Exchange) (end : State)
    → Trail does start first mid → Trail does mid second end → Trail does start (first ++ second) end
trail_then {State = State} does start [] mid second end a b = subst (λ (s : State). Trail does s second end) a b
trail_then {State = State} does start (exchange ∷ first) mid second end (next, step, rest) b = (next, step, trail_then does next first mid second end rest b)

pub sent_continue : {T E : Type 0} (result : Result T E) (out : List ℕ) → Sent result continue_text out → Sent result (continued true []) out
sent_continue (Ok v) out sent = sent ∙ sym (append-nil continue_text)
sent_continue (Err e) out (rest, is) = (rest, append-nil continue_text ∙ is)
