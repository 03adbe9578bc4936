use Rattle.std.proofs.Common.{refl}
use Rattle.toml.proofs.OnLiterals.{toml_on_literals}
use Rattle.score_spec.specs.Reading.{read_as}
use Rattle.bid_import.proofs.Worked.{of-ascii}
use Rattle.bid_import.proofs.examples.worked_settings.Goals as goal

pub returns-clause-empty : goal.returns-clause-empty
unfolding toml_on_literals read_as
returns-clause-empty c = of-ascii _ _ refl refl

pub returns-clause-limit : goal.returns-clause-limit
unfolding toml_on_literals read_as
returns-clause-limit c = of-ascii _ _ refl refl

pub returns-clause-unknown : goal.returns-clause-unknown
unfolding toml_on_literals read_as
returns-clause-unknown c = of-ascii _ _ refl refl

pub returns-clause-broken : goal.returns-clause-broken
unfolding toml_on_literals read_as
returns-clause-broken c = of-ascii _ _ refl refl

pub returns-clause-twice : goal.returns-clause-twice
unfolding toml_on_literals read_as
returns-clause-twice c = of-ascii _ _ refl refl

pub returns-clause-first : goal.returns-clause-first
unfolding toml_on_literals read_as
returns-clause-first c = of-ascii _ _ refl refl

pub returns-clause-before : goal.returns-clause-before
unfolding toml_on_literals read_as
returns-clause-before c = of-ascii _ _ refl refl

pub returns-clause-table : goal.returns-clause-table
unfolding toml_on_literals read_as
returns-clause-table c = of-ascii _ _ refl refl

pub returns-clause-rounded : goal.returns-clause-rounded
unfolding toml_on_literals read_as
returns-clause-rounded c = of-ascii _ _ refl refl

pub returns-clause-above : goal.returns-clause-above
unfolding toml_on_literals read_as
returns-clause-above c = of-ascii _ _ refl refl

pub returns-clause-number : goal.returns-clause-number
unfolding toml_on_literals read_as
returns-clause-number c = of-ascii _ _ refl refl

pub returns-clause-pairs : goal.returns-clause-pairs
unfolding toml_on_literals read_as
returns-clause-pairs c = of-ascii _ _ refl refl

pub returns-clause-other_pairs : goal.returns-clause-other_pairs
unfolding toml_on_literals read_as
returns-clause-other_pairs c = of-ascii _ _ refl refl

pub returns-clause-demand : goal.returns-clause-demand
unfolding toml_on_literals read_as
returns-clause-demand c = of-ascii _ _ refl refl
