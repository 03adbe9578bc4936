-- Rules that have a network.
use Rattle.match_rules.specs.Rules.{RulesValue}

-- rules whose shares are the circulations of a network: today all of them
abbrev pub Plain : RulesValue → Type 0
Plain rules = Unit {0}
