-- The piece on which a ticket falls.
use Rattle.std.specs.Prelude.{ℕ, ◌+◌, ◌-◌, nat_lt, List, [], ◌∷◌, Option, None, Some, if◌then◌else◌}
use Rattle.std.specs.Option.{option_map}
use Rattle.match_rules.specs.declared.lottery.Piece.{Piece}

-- the place of the piece of a ticket: the pieces take the tickets from 0 on, one piece behind the other, each as many as
-- its weight
abbrev pub piece_of : List Piece → ℕ → Option ℕ
piece_of [] ticket = None
piece_of (piece ∷ pieces) ticket = if nat_lt ticket piece.weight then Some 0 else option_map (λ place. place + 1) (piece_of pieces (ticket - piece.weight))
