-- What the worked examples compare with.
use Rattle.std.specs.Prelude.{ℕ, List, None}
use Rattle.http_messages.specs.Replies.{ReplyValue}
use Rattle.http_messages.specs.declared.replies.MediaType.TheVariants.{Json}

-- the reply of this status with this text of JSON
abbrev pub json : ℕ → List ℕ → ReplyValue
json status text = record { status = status; media_type = Json; allow = None; body = text }
