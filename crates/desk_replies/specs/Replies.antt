-- The reply to a request.
use Rattle.std.specs.Prelude.{Result, Ok, Err}
use Rattle.http_messages.specs.Replies.{ReplyValue}
use Rattle.desk_history.specs.declared.refusals.Refusal.{Refusal}
use Rattle.desk_history.specs.declared.replies.Answered.{Answered}
use Rattle.desk_replies.specs.Accepted.{reply_of_answer}
use Rattle.desk_replies.specs.Refusals.{reply_of_refusal}

abbrev pub reply_of : Result Answered Refusal → ReplyValue
reply_of (Ok answered) = reply_of_answer answered
reply_of (Err refusal) = reply_of_refusal refusal
