-- Whether two commands are the same.
use Rattle.std.specs.Prelude.{◌==◌, ◌&&◌, Bool, true, false, bytes_eq}
use Rattle.match_rules.specs.declared.answer.Mode.{Mode}
use Rattle.match_rules.specs.declared.answer.Mode.TheVariants.{Whole, Fair}
use Rattle.desk_keeper.specs.declared.words.Command.{Command}
use Rattle.desk_keeper.specs.declared.words.Command.TheVariants.{Edit, Submit, Publish, Draw}
use Rattle.desk_keeper.specs.declared.words.EditWords.{EditWords}
use Rattle.desk_keeper.specs.declared.words.HowWords.{HowWords}
use Rattle.desk_keeper.specs.declared.words.HowWords.TheVariants.{Merge, Replace}
use Rattle.desk_keeper.specs.declared.words.TableWords.{TableWords}
use Rattle.desk_keeper.specs.declared.words.TableWords.TheVariants.{Settings, Papers, Reviewers, Values, Bids, Marks, Caps}

abbrev pub is_same_mode : Mode → Mode → Bool
is_same_mode Whole Whole = true
is_same_mode Fair Fair = true
is_same_mode a b = false

abbrev pub is_same_how : HowWords → HowWords → Bool
is_same_how Merge Merge = true
is_same_how Replace Replace = true
is_same_how a b = false

abbrev pub is_same_table : TableWords → TableWords → Bool
is_same_table Settings Settings = true
is_same_table Papers Papers = true
is_same_table Reviewers Reviewers = true
is_same_table (Values source) (Values other) = bytes_eq source other
is_same_table Bids Bids = true
is_same_table Marks Marks = true
is_same_table Caps Caps = true
is_same_table a b = false

abbrev pub is_same_edit : EditWords → EditWords → Bool
is_same_edit a b = (is_same_table a.table b.table && is_same_how a.how b.how) && bytes_eq a.body b.body

-- they are the same in all that they say
abbrev pub is_same_command : Command → Command → Bool
is_same_command (Edit base edit) (Edit other edited) = base == other && is_same_edit edit edited
is_same_command (Submit base mode) (Submit other asked) = base == other && is_same_mode mode asked
is_same_command (Publish job) (Publish other) = job == other
is_same_command (Draw publication text) (Draw other said) = publication == other && bytes_eq text said
is_same_command a b = false
