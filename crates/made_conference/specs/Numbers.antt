-- The pseudo-random numbers of a seed.
use Rattle.std.specs.Prelude.{ℕ, zero, suc, ◌+◌, ◌*◌, ◌/◌, ◌%◌}

-- the state that a draw leaves
unfoldable pub next_state : ℕ → ℕ
next_state state = (state * 1664525 + 1013904223) % 4294967296

-- the state after so many draws; before the first it is the seed
unfoldable pub state_after : ℕ → ℕ → ℕ
state_after seed zero = seed
state_after seed (suc draws) = next_state (state_after seed draws)

-- the number that a draw gives, from the state that it leaves
abbrev pub number_of : ℕ → ℕ
number_of state = state / 65536

-- what the draw of this number gives; the first has the number 0
abbrev pub drawn : ℕ → ℕ → ℕ
drawn seed draw = number_of (state_after seed (draw + 1))
