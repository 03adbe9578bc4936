-- The rows that accepted commands are kept as.
use Rattle.std.specs.Prelude.{◌≡◌, ℕ, ◌<◌, ◌^◌, Bool, true, false, List, [], ◌∷◌, ◌++◌, length, codes, decimal, ⊤}
use Rattle.match_rules.specs.declared.answer.Mode.{Mode}
use Rattle.match_rules.specs.declared.answer.Mode.TheVariants.{Whole, Fair}
use Rattle.text_lines.specs.Fields.{with_spaces}
use Rattle.text_lines.specs.Texts.{line_of}
use Rattle.desk_keeper.specs.declared.words.TableWords.{TableWords}
use Rattle.desk_keeper.specs.declared.words.TableWords.TheVariants.{Settings, Papers, Reviewers, Values, Bids, Marks, Caps}
use Rattle.desk_keeper.specs.declared.words.HowWords.{HowWords}
use Rattle.desk_keeper.specs.declared.words.HowWords.TheVariants.{Merge, Replace}
use Rattle.desk_keeper.specs.declared.words.Command.{Command}
use Rattle.desk_keeper.specs.declared.words.Command.TheVariants.{Edit, Submit, Publish, Draw}
use Rattle.desk_keeper.specs.declared.words.Named.{Named}
use Rattle.desk_keeper.specs.Names.{is_chair_name, is_source_name}

abbrev pub table_word : TableWords → List ℕ
table_word Settings = codes "settings"
table_word Papers = codes "papers"
table_word Reviewers = codes "reviewers"
table_word (Values source) = codes "values-" ++ source
table_word Bids = codes "bids"
table_word Marks = codes "marks"
table_word Caps = codes "caps"

abbrev pub how_word : HowWords → List ℕ
how_word Merge = codes "merge"
how_word Replace = codes "replace"

abbrev pub mode_word : Mode → List ℕ
mode_word Whole = codes "whole"
mode_word Fair = codes "fair"

abbrev pub command_word : Command → List ℕ
command_word (Edit base edit) = codes "edit"
command_word (Submit base mode) = codes "submit"
command_word (Publish job) = codes "publish"
command_word (Draw publication text) = codes "draw"

-- the bytes behind the head line: the body of an edit, the text of a publish's lottery or of a draw
abbrev pub body_of : Command → List ℕ → List ℕ
body_of (Edit base edit) lottery = edit.body
body_of (Submit base mode) lottery = []
body_of (Publish job) lottery = lottery
body_of (Draw publication text) lottery = text

-- what the head line says of the command: its numbers and words, and the length of its body where it may have one
abbrev pub own_fields : Command → List ℕ → List (List ℕ)
own_fields (Edit base edit) lottery = decimal base ∷ table_word edit.table ∷ how_word edit.how ∷ decimal (length edit.body) ∷ []
own_fields (Submit base mode) lottery = decimal base ∷ mode_word mode ∷ []
own_fields (Publish job) lottery = decimal job ∷ decimal (length lottery) ∷ []
own_fields (Draw publication text) lottery = decimal publication ∷ decimal (length text) ∷ []

-- the head line: the command, its caller and number, and its own fields, with one space between two
unfoldable pub head_of : Named → List ℕ → List ℕ
head_of named lottery = with_spaces (command_word named.command ∷ named.caller ∷ decimal named.number ∷ own_fields named.command lottery)

-- the row: the head line with its line feed, and the body
unfoldable pub row_of : Named → List ℕ → List ℕ
row_of named lottery = line_of (head_of named lottery) ++ body_of named.command lottery

-- settings are replaced alone, and values are those of a source
abbrev pub are_edit_words : TableWords → HowWords → Bool
are_edit_words Settings Merge = false
are_edit_words Settings Replace = true
are_edit_words Papers how = true
are_edit_words Reviewers how = true
are_edit_words (Values source) how = is_source_name source
are_edit_words Bids how = true
are_edit_words Marks how = true
are_edit_words Caps how = true

-- a publish alone has a lottery
abbrev pub MayHave : Command → List ℕ → Type 0
MayHave (Edit base edit) lottery = (are_edit_words edit.table edit.how ≡ true) × (lottery ≡ [])
MayHave (Submit base mode) lottery = lottery ≡ []
MayHave (Publish job) lottery = ⊤
MayHave (Draw publication text) lottery = lottery ≡ []

-- a command that a row may keep
pub record MayKeep (named : Named) (lottery : List ℕ) : Type 0 where
  pub caller : is_chair_name named.caller ≡ true
  pub command : MayHave named.command lottery

-- the numbers have 64 bits
abbrev pub IsSmall : Command → Type 0
IsSmall (Edit base edit) = base < 2 ^ 64
IsSmall (Submit base mode) = base < 2 ^ 64
IsSmall (Publish job) = job < 2 ^ 64
IsSmall (Draw publication text) = publication < 2 ^ 64

-- the bytes are the row of a command, and of a lottery where it is a publish
pub record IsRow (row : List ℕ) (named : Named) (lottery : List ℕ) : Type 0 where
  pub kept : MayKeep named lottery
  pub number : named.number < 2 ^ 64
  pub small : IsSmall named.command
  pub text : row ≡ row_of named lottery
