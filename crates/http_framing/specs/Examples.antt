-- Heads for worked examples.
use Rattle.std.specs.Prelude.{ℕ, List, [], ◌∷◌, ◌++◌, codes}
use Rattle.http_messages.specs.Fields.{FieldValue}
use Rattle.http_messages.specs.Requests.{RequestValue}
use Rattle.http_framing.specs.Heads.{HeadValue}

-- the one field of each of these heads
abbrev pub host : FieldValue
host = record { name = codes "Host"; value = codes "d" }

-- `GET /a HTTP/1.1` with the host `d`
abbrev pub a_get : HeadValue
a_get = record { method = codes "GET"; target = codes "/a"; minor = 1; fields = host ∷ [] }

-- the head with one field more
abbrev pub with_field : List ℕ → List ℕ → HeadValue → HeadValue
with_field name value head = record head { fields = head.fields ++ record { name = name; value = value } ∷ [] }

-- `POST /a HTTP/1.1` with the host `d` and a length
abbrev pub a_post : List ℕ → HeadValue
a_post value = with_field (codes "Content-Length") value (record a_get { method = codes "POST" })

-- the request of the first
abbrev pub look : RequestValue
look = record { method = codes "GET"; target = codes "/a"; fields = host ∷ []; body = [] }

-- the request of the second with the body `abc`
abbrev pub put : RequestValue
put = record { method = codes "POST"; target = codes "/a"; fields = (a_post (codes "003")).fields; body = codes "abc" }
