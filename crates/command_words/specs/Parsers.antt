-- The parser of words.
use Rattle.std.specs.Prelude.{true, Some, codes}
use Rattle.clap.specs.Words.{App, new_app, new_rule, with_rule}
use Rattle.clap.specs.Simple.{on_top}
use Rattle.clap.specs.declared.builder.action.ArgAction.TheVariants.{Append}

-- one argument that takes each word, without a program's name and without a flag that shows help
abbrev pub words_app : App
words_app = on_top (λ shape. record shape { no_binary_name = true; disable_help_flag = true }) (with_rule (new_app (codes "matcher")) (record (new_rule (codes "word")) { action = Some Append }))
