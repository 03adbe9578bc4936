-- What one turn of a stream's loop does.
use Rattle.std.specs.Prelude.{◌≡◌, ℕ, ◌≤◌, Bool, true, false, List, [], Option, None, Some, Result, Ok, Err}
use Rattle.edge_io.specs.Counts.{Rose}
use Rattle.edge_io.specs.Told.{told}
use Rattle.http_messages.specs.Replies.{ReplyValue}
use Rattle.http_messages.specs.Requests.{RequestValue}
use Rattle.http_stream.specs.declared.ending.StreamEnd.{StreamEnd}
use Rattle.http_stream.specs.declared.handler.HandleFault.{HandleFault}
use Rattle.http_stream.specs.declared.taking.Asked.{Asked}
use Rattle.http_stream.specs.Exchanges.{Exchange, Trail, continued}
use Rattle.http_stream.specs.Intakes.{Responds, Taken}
use Rattle.http_stream.specs.Streams.{Ends, Wrote}

-- a request was taken, behind what asks for its body where that is due, or the stream ended
abbrev pub AsksNext : ℕ → List ℕ → Option (List ℕ) → ℕ → List ℕ → Result Asked StreamEnd → List ℕ → Type 0
AsksNext room bytes left last rest (Ok asked) out = (due : Bool) × Taken room bytes asked.request due asked.closes last rest × (out ≡ continued due [])
AsksNext room bytes left last rest (Err end) out = (over : Bool) × (over ≡ true → told left ≡ []) × Ends room over bytes end out

-- one request was asked and answered and the stream goes on, or it ended
abbrev pub Turned : {State : Type 0} → (State → RequestValue → Result ReplyValue HandleFault → State → Type 0) → State → State → ℕ → List ℕ → Option (List ℕ) → ℕ → List ℕ
    → Option StreamEnd → List ℕ → Type 0
Turned does old new room bytes left last rest None out =
    (exchange : Exchange) × (due : Bool) × (text : List ℕ) × does old exchange.request exchange.answer new
    × Taken room bytes exchange.request due false last rest × Responds false exchange.answer None text × (out ≡ continued due text)
Turned does old new room bytes left last rest (Some end) out =
    (trail : List Exchange) × Trail does old trail new × (over : Bool) × (over ≡ true → told left ≡ []) × Wrote room over bytes trail end out

-- the count never falls, and it rose where the stream ended by this fault
pub record EndCaused {T : Type 0} (before now : ℕ) (result : Result T StreamEnd) (fault : StreamEnd) : Type 0 where
  pub later : before ≤ now
  pub failed : result ≡ Err fault → Rose before now

pub record TurnCaused (before now : ℕ) (result : Option StreamEnd) (fault : StreamEnd) : Type 0 where
  pub later : before ≤ now
  pub failed : result ≡ Some fault → Rose before now
