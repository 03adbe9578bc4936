-- How one turn of the loop fits together.
use Rattle.std.proofs.Common.{◌≡◌, ℕ, ◌+◌, ◌<◌, ◌≤◌, Bool, true, false, List, [], ◌∷◌, ◌++◌, length, Option, None, Some, Result, Ok, Err, inl, inr, append_assoc, refl, sym, ap, subst, ◌∙◌, arith}
use Rattle.std.proofs.lemmas.List.{append-nil}
use Rattle.edge_io.specs.Counts.{HasCause, Rose}
use Rattle.edge_io.specs.Told.{told}
use Rattle.http_messages.specs.Replies.{ReplyValue, continue_text}
use Rattle.http_messages.specs.Requests.{RequestValue}
use Rattle.http_framing.specs.Fronts.{finished, refused, wants}
use Rattle.http_framing.specs.Heads.{HeadValue}
use Rattle.http_stream.specs.declared.ending.StreamEnd.{StreamEnd}
use Rattle.http_stream.specs.declared.ending.StreamEnd.TheVariants as ends
use Rattle.http_stream.specs.declared.handler.HandleFault.{HandleFault}
use Rattle.http_stream.specs.declared.handler.HandleFault.TheVariants as faults
use Rattle.http_stream.specs.declared.stop.Stop.{Stop}
use Rattle.http_stream.specs.declared.taking.Asked.{Asked}
use Rattle.http_stream.specs.Turns.{AsksNext, EndCaused, TurnCaused, Turned}
use Rattle.http_stream.specs.declared.stop.Stop.TheVariants.{Memory}
use Rattle.http_stream.specs.Exchanges.{Exchange, IsFrontOf, Trail, continued}
use Rattle.http_stream.specs.Streams.{Ends, Wrote}
use Rattle.http_stream.specs.Intakes.{Added, Closes, EndsBehind, IsHeaded, Responds, Sent, Shed, Stops, StopsHere, Taken, Writes}
use Rattle.http_stream.proofs.ReadingLaws.{added_none, added_then, rose_before, shed_nil}
use Rattle.http_stream.proofs.ShedLaws.{shed_front, shed_more, shed_none}
use Rattle.http_stream.proofs.StreamLaws.{ask_fails, closes_end, goes_none, goes_on, stops_shed, taken_shed, trail_then, wrote_last, Goes}

-- the stream ended so, and nothing is left where that is said
abbrev pub EndedHere : ℕ → List ℕ → Option (List ℕ) → StreamEnd → List ℕ → Type 0
EndedHere room bytes left end out = (over : Bool) × (over ≡ true → told left ≡ []) × Ends room over bytes end out

pub head_ends : (left : Option (List ℕ)) (room mid : ℕ) (bytes rest : List ℕ) (stop : Stop) (end : StreamEnd) (out : List ℕ) → Shed room bytes mid rest → StopsHere mid rest left stop false
    → Closes stop end out → EndedHere room bytes left end out
head_ends left room mid bytes rest stop end out shed (over, none, stops) closes =
    (over, none, closes_end room over bytes stop false end out (stops_shed room mid bytes rest over stop false shed stops) closes)

continued_nil : (due : Bool) (xs : List ℕ) → continued due [] ++ xs ≡ continued due xs
continued_nil true xs = ap (λ (t : List ℕ). t ++ xs) (append-nil continue_text)
continued_nil false xs = refl

-- the sink fails where the body is asked for
pub asks_end : (left : Option (List ℕ)) (room : ℕ) (bytes out : List ℕ) (head : HeadValue) (end count : ℕ) (due : Bool) → IsHeaded room bytes head end count due
    → IsFrontOf out (continued due []) → EndedHere room (bytes ++ []) left ends.WriteFault out
asks_end left room bytes out head end count due headed part =
    (false, λ e. absurd (cc), ask_fails room room (bytes ++ []) bytes out head end count due (shed_nil room bytes room bytes (shed_none room bytes)) headed part)

pub takes_on : (room mid : ℕ) (bytes first rest second : List ℕ) (q : RequestValue) (due closes : Bool) (last : ℕ) (behind : List ℕ) → Shed room (bytes ++ first) mid rest
    → Taken mid (rest ++ second) q due closes last behind → Taken room (bytes ++ (first ++ second)) q due closes last behind
takes_on room mid bytes first rest second q due closes last behind shed taken =
    subst (λ (xs : List ℕ). Taken room xs q due closes last behind) (append_assoc bytes first second)
    (taken_shed room mid ((bytes ++ first) ++ second) (rest ++ second) q due closes last behind (shed_more room (bytes ++ first) mid rest second shed) taken)

-- what a writer sent, and how the stream ends behind it
pub writes_then : {T E : Type 0} (written : Result T E) (closes : Bool) (text out : List ℕ) (end : Option StreamEnd) → Sent written text out → EndsBehind written closes end
    → Writes closes text end out
writes_then (Ok v) true text out None sent is = absurd (cc)
writes_then (Ok v) false text out None sent is = (refl, sent)
writes_then (Err e) closes text out None sent is = absurd (cc)
writes_then (Ok v) true text out (Some end) sent is = inl (refl, (cc), sent)
writes_then (Ok v) false text out (Some end) sent is = absurd (cc)
writes_then (Err e) closes text out (Some end) sent is = inr ((cc), sent)

pub taken_less : (room last : ℕ) (bytes rest : List ℕ) (q : RequestValue) (due closes : Bool) → Taken room bytes q due closes last rest → last < room
taken_less room last bytes rest q due closes taken = omega (arith, taken.counted, taken.less)

-- a stream without memory from the start
pub memory_ends : (room : ℕ) (end : StreamEnd) (out : List ℕ) → Closes Memory end out → Wrote room false [] [] end out
memory_ends room end out closes = closes_end room false [] Memory false end out (λ e. absurd (cc)) closes

pub reply_fault : {T E : Type 0} (before now : ℕ) (written : Result T E) (closes : Bool) (end : Option StreamEnd) → HasCause before now written → EndsBehind written closes end
    → end ≡ Some ends.WriteFault → Rose before now
reply_fault before now (Ok v) true end cause is e = absurd (cc)
reply_fault before now (Ok v) false end cause is e = absurd (cc)
reply_fault before now (Err f) closes end cause is e = cause.failed

pub reply_read : {T E : Type 0} (written : Result T E) (closes : Bool) (end : Option StreamEnd) → EndsBehind written closes end → end ≡ Some ends.ReadFault → ⊥
reply_read (Ok v) true end is e = absurd (cc)
reply_read (Ok v) false end is e = absurd (cc)
reply_read (Err f) closes end is e = absurd (cc)

pub ends_shed : (room left : ℕ) (bytes rest : List ℕ) (over : Bool) (end : StreamEnd) (out : List ℕ) → Shed room bytes left rest → Ends left over rest end out
    → Ends room over bytes end out
ends_shed room left bytes rest over ends.Done out shed (front, none) = (shed_front room bytes left rest over finished shed front, none)
ends_shed room left bytes rest over ends.Refused out shed (fault, due, front, is) = (fault, due, shed_front room bytes left rest over (refused fault due) shed front, is)
ends_shed room left bytes rest over ends.ReadFault out shed (due, front, is) = (due, shed_front room bytes left rest over (wants due) shed front, is)
ends_shed room left bytes rest over ends.WriteFault out shed (front, stands, part) = (front, shed_front room bytes left rest over front shed stands, part)
ends_shed room left bytes rest over ends.Memory out shed (part, is, inl all) = (part, is, inl all)
ends_shed room left bytes rest over ends.Memory out shed (part, is, inr (front, stands, due, all)) =
    (part, is, inr (front, shed_front room bytes left rest over front shed stands, due, all))
ends_shed room left bytes rest over ends.Spent out shed never = absurd never

pub asks_shed : (left : Option (List ℕ)) (room mid : ℕ) (bytes first rest second : List ℕ) (last : ℕ) (behind : List ℕ) (result : Result Asked StreamEnd) (out : List ℕ)
    → Shed room (bytes ++ first) mid rest → AsksNext mid (rest ++ second) left last behind result out → AsksNext room (bytes ++ (first ++ second)) left last behind result out
asks_shed left room mid bytes first rest second last behind (Ok asked) out shed (due, taken, is) =
    (due, takes_on room mid bytes first rest second asked.request due asked.closes last behind shed taken, is)
asks_shed left room mid bytes first rest second last behind (Err end) out shed (over, none, ended) = (
  over,
  none,
  subst (λ (xs : List ℕ). Ends room over xs end out) (append_assoc bytes first second)
      (ends_shed room mid ((bytes ++ first) ++ second) (rest ++ second) over end out (shed_more room (bytes ++ first) mid rest second shed) ended),
)

pub next_ends : (left : Option (List ℕ)) (room : ℕ) (bytes : List ℕ) (stop : Stop) (due : Bool) (end : StreamEnd) (out : List ℕ) → StopsHere room bytes left stop due
    → Closes stop end out → EndedHere room bytes left end (continued due [] ++ out)
next_ends left room bytes stop due end out (over, none, stops) closes =
    (over, none, subst (λ (t : List ℕ). Ends room over bytes end t) (sym (continued_nil due out)) (closes_end room over bytes stop due end out stops closes))

pub caused_end : (before now : ℕ) (end fault : StreamEnd) {T : Type 0} → before ≤ now → (end ≡ fault → Rose before now) → EndCaused {T = T} before now (Err end) fault
caused_end before now end fault later rose = record { later = later; failed = λ e. rose (cc) }

pub caused_on : {T : Type 0} (before mid now : ℕ) (result : Result T StreamEnd) (fault : StreamEnd) → before ≤ mid → EndCaused mid now result fault → EndCaused before now result fault
caused_on before mid now result fault later cause = record {
  later = omega (arith, later, cause.later);
  failed = λ e. rose_before before mid now later (cause.failed e);
}

pub turn_less : (left : Option (List ℕ)) (room : ℕ) (bytes : List ℕ) (last : ℕ) (rest : List ℕ) (asked : Asked) (out : List ℕ) → AsksNext room bytes left last rest (Ok asked) out → last < room
turn_less left room bytes last rest asked out (due, taken, is) = taken_less room last bytes rest asked.request due asked.closes taken

pub turn_read : (before now : ℕ) (result : Option StreamEnd) → before ≤ now → (result ≡ Some ends.ReadFault → ⊥) → TurnCaused before now result ends.ReadFault
turn_read before now result later never = record { later = later; failed = λ e. absurd (never e) }

pub turn_caused : (before mid now : ℕ) (result : Option StreamEnd) (fault : StreamEnd) → before ≤ mid → mid ≤ now → (result ≡ Some fault → Rose mid now) → TurnCaused before now result fault
turn_caused before mid now result fault first later rose = record { later = omega arith; failed = λ e. rose_before before mid now first (rose e) }

pub turn_ended : (before now : ℕ) (end fault : StreamEnd) {T : Type 0} → EndCaused {T = T} before now (Err end) fault → TurnCaused before now (Some end) fault
turn_ended before now end fault cause = record { later = cause.later; failed = λ e. let is : end ≡ fault = cc in cause.failed (ap Err is) }

goes_closes : (closes : Bool) (answer : Result ReplyValue HandleFault) (text : List ℕ) → Responds closes answer None text → closes ≡ false
goes_closes closes (Ok reply) text h = h.0
goes_closes closes (Err faults.Memory) text h = h.0
goes_closes closes (Err faults.Spent) text h = let unspent : None ≡ Some ends.Spent = h.0 in absurd (cc)

-- a request was asked and answered
pub turns : {State : Type 0} (does : State → RequestValue → Result ReplyValue HandleFault → State → Type 0) (old new : State) (room : ℕ) (bytes : List ℕ) (left : Option (List ℕ)) (last : ℕ) (rest : List ℕ)
    (asked : Asked) (answer : Result ReplyValue HandleFault) (before text : List ℕ) (result : Option StreamEnd) → AsksNext room bytes left last rest (Ok asked) before
    → does old asked.request answer new → Responds asked.closes answer result text → Turned does old new room bytes left last rest result (before ++ text)
turns does old new room bytes left last rest asked answer before text None (due, taken, is) step responds =
    let closes : asked.closes ≡ false = goes_closes asked.closes answer text responds in (
      record { request = asked.request; answer = answer },
      due,
      text,
      step,
      subst (λ (b : Bool). Taken room bytes asked.request due b last rest) closes taken,
      subst (λ (b : Bool). Responds b answer None text) closes responds,
      ap (λ (xs : List ℕ). xs ++ text) is ∙ continued_nil due text,
    )
turns does old new room bytes left last rest asked answer before text (Some end) (due, taken, is) step responds =
    let exchange : Exchange = record { request = asked.request; answer = answer } in (
      exchange ∷ [],
      (new, step, refl),
      false,
      λ e. absurd (cc),
      subst (λ (t : List ℕ). Wrote room false bytes (exchange ∷ []) end t) (sym (ap (λ (xs : List ℕ). xs ++ text) is ∙ continued_nil due text))
          (wrote_last room last bytes rest text exchange due asked.closes end taken responds),
    )

-- what the turns so far did
abbrev pub Served : {State : Type 0} → (State → RequestValue → Result ReplyValue HandleFault → State → Type 0) → State → State → Option (List ℕ) → Option (List ℕ)
    → Option (List ℕ) → Option (List ℕ) → ℕ → ℕ → List ℕ → Type 0
Served does start now given given_now taken taken_now most room bytes =
    (trail : List Exchange) × (came : List ℕ) × (out : List ℕ) × Trail does start trail now × Added given given_now came × Added taken taken_now out × Goes most came trail out room bytes

pub served_none : {State : Type 0} (does : State → RequestValue → Result ReplyValue HandleFault → State → Type 0) (start : State) (given taken : Option (List ℕ)) (most room : ℕ) (bytes : List ℕ)
    → room ≡ most → bytes ≡ [] → Served does start start given given taken taken most room bytes
served_none does start given taken most room bytes is none = (
  [],
  [],
  [],
  refl,
  added_none,
  added_none,
  subst (λ (r : ℕ). Goes most [] [] [] r bytes) (sym is) (subst (λ (xs : List ℕ). Goes most [] [] [] most xs) (sym none) (goes_none most)),
)

pub served_on : {State : Type 0} (does : State → RequestValue → Result ReplyValue HandleFault → State → Type 0) (start now next : State) (given given_now given_next taken taken_now taken_next left : Option (List ℕ))
    (most room : ℕ) (bytes came out : List ℕ) (last : ℕ) (rest : List ℕ) → Served does start now given given_now taken taken_now most room bytes
    → Added given_now given_next came → Added taken_now taken_next out → Turned does now next room (bytes ++ came) left last rest None out
    → Served does start next given given_next taken taken_next most last rest
served_on does start now next given given_now given_next taken taken_now taken_next left most room bytes came out last rest
    (trail, first, written, asked, gave, took, goes) more_given more_taken (exchange, due, text, step, request, responds, is) = (
      trail ++ (exchange ∷ []),
      first ++ came,
      written ++ out,
      trail_then does start trail now (exchange ∷ []) next asked (next, step, refl),
      added_then given given_now given_next first came gave more_given,
      added_then taken taken_now taken_next written out took more_taken,
      subst (λ (t : List ℕ). Goes most (first ++ came) (trail ++ (exchange ∷ [])) (written ++ t) last rest) (sym is)
          (goes_on most first trail written room bytes came exchange due last rest text goes request responds),
    )

-- what the stream did, where it ends with a turn
pub served_end : {State : Type 0} (does : State → RequestValue → Result ReplyValue HandleFault → State → Type 0) (start now next : State) (given given_now given_next taken taken_now taken_next left : Option (List ℕ))
    (most room : ℕ) (bytes came out : List ℕ) (last : ℕ) (rest : List ℕ) (end : StreamEnd) → Served does start now given given_now taken taken_now most room bytes
    → Added given_now given_next came → Added taken_now taken_next out → Turned does now next room (bytes ++ came) left last rest (Some end) out
    → (trail : List Exchange) × Trail does start trail next × (all : List ℕ) × (text : List ℕ) × (over : Bool) × Added given given_next all × Added taken taken_next text
    × (over ≡ true → told left ≡ []) × Wrote most over all trail end text
served_end does start now next given given_now given_next taken taken_now taken_next left most room bytes came out last rest end
    (trail, first, written, asked, gave, took, goes) more_given more_taken (others, steps, over, none, wrote) = (
      trail ++ others,
      trail_then does start trail now others next asked steps,
      first ++ came,
      written ++ out,
      over,
      added_then given given_now given_next first came gave more_given,
      added_then taken taken_now taken_next written out took more_taken,
      none,
      goes.leads over came others end out wrote,
    )
