-- The ticket that a text draws.
use Rattle.std.specs.Prelude.{ℕ, ◌%◌, List, take}
use Rattle.std.specs.Int.{from_be_bytes, w64}
use Rattle.sha2.specs.Sha256.{sha256}

-- the first eight bytes of the SHA-256 digest of the text, as a big-endian number, modulo the number of tickets
abbrev pub ticket_of : List ℕ → ℕ → ℕ
ticket_of text tickets = from_be_bytes w64 (take 8 (sha256 text)) % tickets
