-- What becomes of a map when a place of it is lent.
use Rattle.std.specs.Prelude.{◌≡◌, ℕ, List, Option, OnSome}
use Rattle.std.specs.Borrow.{LendsSo, MutBor, Fml}
use denote.RattleType.{RattleType}
use Rattle.score_spec.specs.PairTables.{Entries, put_value}
use Rattle.score_spec.specs.contracts.by_id.ById.{the_row}

-- the map ends with the last value behind the place put for the id, and as it was where there is no place
abbrev pub PutsThrough : (V : RattleType) → MutBor (Entries V.Denot) → List ℕ → Option (MutBor V.Denot) → Fml
PutsThrough V map id place = LendsSo (the_row V) V map place (λ now value. OnSome place (now ≡ put_value id value map.now)) (λ now. now ≡ map.now)
