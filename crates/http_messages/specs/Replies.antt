-- A reply, and its text.
use Rattle.std.specs.Prelude.{ℕ, Bool, List, [], ◌++◌, Option, None, Some, if◌then◌else◌, ◌==◌, codes, decimal, length}
use Rattle.http_messages.specs.declared.replies.MediaType.{MediaType}
use Rattle.http_messages.specs.declared.replies.MediaType.TheVariants.{Json, PlainText}
use Rattle.http_messages.specs.declared.replies.Method.{Method}
use Rattle.http_messages.specs.declared.replies.Method.TheVariants.{Get, Post}

-- a reply: its status code, the type of its body, the method that the target has where the request's isn't it, its body
pub record ReplyValue : Type 0 where
  pub status : ℕ
  pub media_type : MediaType
  pub allow : Option Method
  pub body : List ℕ

-- the reason that is written behind a status code
unfoldable pub reason_of : ℕ → List ℕ
reason_of status =
    if status == 200 then codes "OK" else (
    if status == 400 then codes "Bad Request" else (
    if status == 403 then codes "Forbidden" else (
    if status == 404 then codes "Not Found" else (
    if status == 405 then codes "Method Not Allowed" else (
    if status == 409 then codes "Conflict" else (
    if status == 411 then codes "Length Required" else (
    if status == 413 then codes "Content Too Large" else (
    if status == 422 then codes "Unprocessable Content" else (
    if status == 501 then codes "Not Implemented" else (
    if status == 503 then codes "Service Unavailable" else (
    if status == 507 then codes "Insufficient Storage" else [])))))))))))

unfoldable pub media_text : MediaType → List ℕ
media_text Json = codes "application/json"
media_text PlainText = codes "text/plain; charset=utf-8"

-- the field that names the method which the target has
unfoldable pub allow_line : Option Method → List ℕ
allow_line None = []
allow_line (Some Get) = codes "Allow: GET\r\n"
allow_line (Some Post) = codes "Allow: POST\r\n"

-- the field that says that the stream ends behind this reply
unfoldable pub close_line : Bool → List ℕ
close_line closes = if closes then codes "Connection: close\r\n" else []

-- the first line, and the line of the type
unfoldable pub status_lines : ℕ → MediaType → List ℕ
status_lines status media_type =
    (((((codes "HTTP/1.1 " ++ decimal status) ++ codes " ") ++ reason_of status) ++ codes "\r\nContent-Type: ") ++ media_text media_type) ++ codes "\r\n"

-- the head of a reply whose body has this many bytes, and the empty line behind it
unfoldable pub head_text : ReplyValue → Bool → ℕ → List ℕ
head_text reply closes count =
    (((((status_lines reply.status reply.media_type ++ codes "Content-Length: ") ++ decimal count) ++ codes "\r\n") ++ allow_line reply.allow) ++ close_line closes) ++ codes "\r\n"

-- the text of a reply, behind which the stream ends or goes on
abbrev pub reply_text : ReplyValue → Bool → List ℕ
reply_text reply closes = head_text reply closes (length reply.body) ++ reply.body

-- the body of a refusal that has a word alone
unfoldable pub refused_body : List ℕ → List ℕ
refused_body word = (codes "{\"refused\":\"" ++ word) ++ codes "\"}"

-- a refusal that has a word alone
abbrev pub refusal : ℕ → List ℕ → ReplyValue
refusal status word = record { status = status; media_type = Json; allow = None; body = refused_body word }

-- what asks for the body of a request
unfoldable pub continue_text : List ℕ
continue_text = codes "HTTP/1.1 100 Continue\r\n\r\n"
