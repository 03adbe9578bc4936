-- What is asked of a handler, and what is written for its answers.
use Rattle.std.specs.Prelude.{◌≡◌, ℕ, Bool, List, [], ◌∷◌, ◌++◌, Result, Ok, Err, if◌then◌else◌, codes}
use Rattle.http_messages.specs.Replies.{ReplyValue, continue_text, refusal, reply_text}
use Rattle.http_messages.specs.Requests.{RequestValue}
use Rattle.http_stream.specs.declared.handler.HandleFault.{HandleFault}

-- a request and the handler's answer to it
pub record Exchange : Type 0 where
  pub request : RequestValue
  pub answer : Result ReplyValue HandleFault

-- what was asked of a handler, in order, and by which calls it came from one state to another
abbrev pub Trail : {State : Type 0} → (State → RequestValue → Result ReplyValue HandleFault → State → Type 0) → State → List Exchange → State → Type 0
Trail does start [] end = end ≡ start
Trail {State = State} does start (exchange ∷ more) end = (next : State) × does start exchange.request exchange.answer next × Trail does next more end

-- the reply for want of memory
abbrev pub memory_text : Bool → List ℕ
memory_text closes = reply_text (refusal 507 (codes "memory")) closes

-- what is written for a request, behind what asks for its body where that is due
abbrev pub continued : Bool → List ℕ → List ℕ
continued due text = (if due then continue_text else []) ++ text

-- the bytes are a front of the text
abbrev pub IsFrontOf : List ℕ → List ℕ → Type 0
IsFrontOf bytes text = (rest : List ℕ) × (text ≡ bytes ++ rest)
