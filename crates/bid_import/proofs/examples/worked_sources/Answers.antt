use Rattle.std.proofs.Common.{refl}
use Rattle.toml.proofs.OnLiterals.{toml_on_literals}
use Rattle.score_spec.specs.Reading.{read_as}
use Rattle.bid_import.proofs.Worked.{of-ascii}
use Rattle.bid_import.proofs.examples.worked_sources.Goals as goal

pub returns-clause-none : goal.returns-clause-none
unfolding toml_on_literals read_as
returns-clause-none c = of-ascii _ _ refl refl

pub returns-clause-one : goal.returns-clause-one
unfolding toml_on_literals read_as
returns-clause-one c = of-ascii _ _ refl refl

pub returns-clause-two : goal.returns-clause-two
unfolding toml_on_literals read_as
returns-clause-two c = of-ascii _ _ refl refl

pub returns-clause-same_names : goal.returns-clause-same_names
unfolding toml_on_literals read_as
returns-clause-same_names c = of-ascii _ _ refl refl

pub returns-clause-no_kind : goal.returns-clause-no_kind
unfolding toml_on_literals read_as
returns-clause-no_kind c = of-ascii _ _ refl refl

pub returns-clause-capital : goal.returns-clause-capital
unfolding toml_on_literals read_as
returns-clause-capital c = of-ascii _ _ refl refl

pub returns-clause-too_great : goal.returns-clause-too_great
unfolding toml_on_literals read_as
returns-clause-too_great c = of-ascii _ _ refl refl

pub returns-clause-words : goal.returns-clause-words
unfolding toml_on_literals read_as
returns-clause-words c = of-ascii _ _ refl refl

pub returns-clause-empty_word : goal.returns-clause-empty_word
unfolding toml_on_literals read_as
returns-clause-empty_word c = of-ascii _ _ refl refl

pub returns-clause-no_value : goal.returns-clause-no_value
unfolding toml_on_literals read_as
returns-clause-no_value c = of-ascii _ _ refl refl
