use Rattle.std.proofs.Common.{refl}
use Rattle.toml.proofs.OnLiterals.{toml_on_literals}
use Rattle.score_spec.specs.Reading.{read_as}
use Rattle.bid_import.proofs.Worked.{of-ascii}
use Rattle.bid_import.proofs.examples.worked_loads.Goals as goal

pub returns-clause-default_greatest : goal.returns-clause-default_greatest
unfolding toml_on_literals read_as
returns-clause-default_greatest c = of-ascii _ _ refl refl

pub returns-clause-default_least : goal.returns-clause-default_least
unfolding toml_on_literals read_as
returns-clause-default_least c = of-ascii _ _ refl refl

pub returns-clause-given : goal.returns-clause-given
unfolding toml_on_literals read_as
returns-clause-given c = of-ascii _ _ refl refl

pub returns-clause-smaller : goal.returns-clause-smaller
unfolding toml_on_literals read_as
returns-clause-smaller c = of-ascii _ _ refl refl

pub returns-clause-too_great : goal.returns-clause-too_great
unfolding toml_on_literals read_as
returns-clause-too_great c = of-ascii _ _ refl refl

pub returns-clause-least : goal.returns-clause-least
unfolding toml_on_literals read_as
returns-clause-least c = of-ascii _ _ refl refl
