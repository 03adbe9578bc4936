-- Loads of reviewers.
use Rattle.std.specs.Prelude.{ℕ, nat_le, ◌&&◌, if◌then◌else◌, Option, Some, None}
use Rattle.roster.specs.declared.load.TheConstants.{MOST_LOAD}

-- at least this many papers, and at most that many
pub record LoadValue : Type 0 where
  pub least : ℕ
  pub greatest : ℕ

-- the load, where the least isn't above the greatest nor that above the most that a load may be
abbrev pub load_from : ℕ → ℕ → Option LoadValue
load_from least greatest = if nat_le least greatest && nat_le greatest MOST_LOAD then Some (record { least = least; greatest = greatest }) else None
