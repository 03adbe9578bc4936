-- The replies that end a stream.
use Rattle.std.specs.Prelude.{ℕ, true, List, codes}
use Rattle.http_messages.specs.Replies.{refusal, reply_text}
use Rattle.http_framing.specs.declared.fault.FrameFault.{FrameFault}
use Rattle.http_framing.specs.declared.fault.FrameFault.TheVariants.{BadHead, BodyTooLarge, HeadTooLarge, Host, Length, NoLength, StreamTooLarge, TransferEncoding, Truncated, Version}

-- the status code
abbrev pub status_of : FrameFault → ℕ
status_of BadHead = 400
status_of HeadTooLarge = 413
status_of Truncated = 400
status_of Version = 400
status_of Host = 400
status_of TransferEncoding = 501
status_of Length = 400
status_of NoLength = 411
status_of BodyTooLarge = 413
status_of StreamTooLarge = 413

-- the word of the refusal
unfoldable pub word_of : FrameFault → List ℕ
word_of BadHead = codes "bad-head"
word_of HeadTooLarge = codes "too-large"
word_of Truncated = codes "truncated"
word_of Version = codes "version"
word_of Host = codes "host"
word_of TransferEncoding = codes "transfer-encoding"
word_of Length = codes "length"
word_of NoLength = codes "no-length"
word_of BodyTooLarge = codes "too-large"
word_of StreamTooLarge = codes "too-large"

-- the reply, behind which the stream ends
abbrev pub fault_text : FrameFault → List ℕ
fault_text fault = reply_text (refusal (status_of fault) (word_of fault)) true
