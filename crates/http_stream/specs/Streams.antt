-- What is written for the bytes of a stream.
use Rattle.std.specs.Prelude.{◌≡◌, ℕ, ◌-◌, Bool, true, false, List, [], ◌∷◌, ◌++◌, length, Result, Ok, Err, ◌⊎◌}
use Rattle.http_messages.specs.Replies.{ReplyValue, reply_text}
use Rattle.http_framing.specs.declared.fault.FrameFault.{FrameFault}
use Rattle.http_framing.specs.Faults.{fault_text}
use Rattle.http_framing.specs.Fronts.{Front, HasFront, continues, finished, refused, wants, whole}
use Rattle.http_stream.specs.declared.handler.HandleFault.{HandleFault}
use Rattle.http_stream.specs.declared.handler.HandleFault.TheVariants as faults
use Rattle.http_stream.specs.declared.ending.StreamEnd.{StreamEnd}
use Rattle.http_stream.specs.declared.ending.StreamEnd.TheVariants.{Done, Memory, ReadFault, Refused, Spent, WriteFault}
use Rattle.http_stream.specs.Exchanges.{Exchange, IsFrontOf, continued, memory_text}

-- what is written where no request is asked: a reply that ends the stream, behind what asks for a body where that is due
abbrev pub own_text : Front → List ℕ
own_text (wants due) = continued due []
own_text finished = []
own_text (refused fault due) = continued due (fault_text fault)
own_text (whole request due closes rest) = continued due []

-- how a stream ends behind the requests that were asked, and what is written then
abbrev pub Ends : ℕ → Bool → List ℕ → StreamEnd → List ℕ → Type 0
-- the input ended between requests
Ends room over bytes Done out = HasFront room over bytes finished × (out ≡ [])
-- the reply that ends the stream was written
Ends room over bytes Refused out = (fault : FrameFault) × (due : Bool) × HasFront room over bytes (refused fault due) × (out ≡ own_text (refused fault due))
-- more was wanted
Ends room over bytes ReadFault out = (due : Bool) × HasFront room over bytes (wants due) × (out ≡ own_text (wants due))
-- a front of what is due was written
Ends room over bytes WriteFault out = (front : Front) × HasFront room over bytes front × IsFrontOf out (own_text front)
-- a front of the reply for want of memory was written, behind what asks for a body only where that is due
Ends room over bytes Memory out =
    (part : List ℕ) × IsFrontOf part (memory_text true)
    × ((out ≡ part) ⊎ ((front : Front) × HasFront room over bytes front × (continues front ≡ true) × (out ≡ continued true part)))
-- only a request that was asked ends a stream so
Ends room over bytes Spent out = ⊥

-- behind a reply: a request that closes ends the stream, else `Later` says what is written for what stands behind it
abbrev pub Follows : Bool → List Exchange → StreamEnd → List ℕ → (List ℕ → Type 0) → Type 0
Follows true more end out Later = (more ≡ []) × (end ≡ Done) × (out ≡ [])
Follows false more end out Later = Later out

-- a reply was written and what follows it, or a front of the reply, where the sink failed
abbrev pub Replied : Bool → List ℕ → List Exchange → StreamEnd → List ℕ → (List ℕ → Type 0) → Type 0
Replied closes text more end out Later =
    ((behind : List ℕ) × (out ≡ text ++ behind) × Follows closes more end behind Later)
    ⊎ ((more ≡ []) × (end ≡ WriteFault) × IsFrontOf out text)

-- what is written for an answer and behind it
abbrev pub Answered : Bool → Result ReplyValue HandleFault → List Exchange → StreamEnd → List ℕ → (List ℕ → Type 0) → Type 0
Answered closes (Ok reply) more end out Later = Replied closes (reply_text reply closes) more end out Later
Answered closes (Err faults.Memory) more end out Later = Replied closes (memory_text closes) more end out Later
Answered closes (Err faults.Spent) more end out Later = (more ≡ []) × (end ≡ Spent) × (out ≡ [])

-- what was written for the requests that were asked, in their order, and then at the end: `room` is how many bytes the stream may take,
-- `over` says that no more come behind these
abbrev pub Wrote : ℕ → Bool → List ℕ → List Exchange → StreamEnd → List ℕ → Type 0
Wrote room over bytes [] end out = Ends room over bytes end out
Wrote room over bytes (exchange ∷ more) end out =
    (due : Bool) × (closes : Bool) × (rest : List ℕ) × (text : List ℕ)
    × HasFront room over bytes (whole exchange.request due closes rest)
    × (out ≡ continued due text)
    × Answered closes exchange.answer more end text (λ behind. Wrote (room - (length bytes - length rest)) over rest more end behind)
