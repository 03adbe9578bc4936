-- What bytes are read as, step by step: nothing where they are no row.
use Rattle.std.specs.Prelude.{◌≡◌, ℕ, Bool, ◌==◌, nat_eq, nat_le, nat_lt, List, [], ◌∷◌, length, drop, codes, Option, None, Some, Result, Ok, Err, if◌then◌else◌, ⊤}
use Rattle.std.specs.List.{position_or_len, before_first, after_first, starts_with}
use Rattle.std.specs.Str.{bytes_eq, is_utf8}
use Rattle.match_rules.specs.declared.answer.Mode.{Mode}
use Rattle.match_rules.specs.declared.answer.Mode.TheVariants.{Whole, Fair}
use Rattle.text_lines.specs.declared.number.TheConstants.{MOST_AMOUNT}
use Rattle.text_lines.specs.Fields.{fields, two_of, four_of}
use Rattle.text_lines.specs.Numbers.{is_canonical, value}
use Rattle.text_lines.specs.Reading.{is_feed}
use Rattle.desk_keeper.specs.declared.words.TableWords.{TableWords}
use Rattle.desk_keeper.specs.declared.words.TableWords.TheVariants.{Settings, Papers, Reviewers, Values, Bids, Marks, Caps}
use Rattle.desk_keeper.specs.declared.words.HowWords.{HowWords}
use Rattle.desk_keeper.specs.declared.words.HowWords.TheVariants.{Merge, Replace}
use Rattle.desk_keeper.specs.declared.words.Command.{Command}
use Rattle.desk_keeper.specs.declared.words.Command.TheVariants.{Edit, Submit, Publish, Draw}
use Rattle.desk_keeper.specs.declared.words.Kept.{Kept}
use Rattle.desk_keeper.specs.declared.words.RowFault.{RowFault}
use Rattle.desk_keeper.specs.declared.words.RowFault.TheVariants.{BadRow, Memory}
use Rattle.desk_keeper.specs.Names.{is_chair_name}
use Rattle.desk_keeper.specs.Rows.{are_edit_words}

infixl 10 ◌>>=◌
abbrev pub ◌>>=◌ : {A B : Type 0} → Option A → (A → Option B) → Option B
None >>= f = None
(Some x) >>= f = f x

-- what was read, or that it is no row; or memory was wanting
abbrev pub Decodes : {A : Type 0} → Result A RowFault → Option A → Type 0
Decodes (Ok x) read = read ≡ Some x
Decodes (Err BadRow) read = read ≡ None
Decodes (Err Memory) read = ⊤

abbrev pub needs : Bool → Option (Unit {0})
needs test = if test then Some tt else None

-- ---- the fields of a head line

abbrev pub number_in : List ℕ → Option ℕ
number_in field = do
  canonical ← needs (is_canonical field)
  small ← needs (nat_le (value field) MOST_AMOUNT)
  Some (value field)

abbrev pub how_in : List ℕ → Option HowWords
how_in field = if bytes_eq field (codes "merge") then Some Merge else (if bytes_eq field (codes "replace") then Some Replace else None)

abbrev pub mode_in : List ℕ → Option Mode
mode_in field = if bytes_eq field (codes "whole") then Some Whole else (if bytes_eq field (codes "fair") then Some Fair else None)

-- the table of values of a source
abbrev pub values_in : List ℕ → Option TableWords
values_in field = if starts_with nat_eq field (codes "values-") then Some (Values (drop 7 field)) else None

abbrev pub table_in : List ℕ → Option TableWords
table_in field =
    if bytes_eq field (codes "settings") then Some Settings
    else (if bytes_eq field (codes "papers") then Some Papers
    else (if bytes_eq field (codes "reviewers") then Some Reviewers
    else (if bytes_eq field (codes "bids") then Some Bids
    else (if bytes_eq field (codes "marks") then Some Marks
    else (if bytes_eq field (codes "caps") then Some Caps
    else values_in field)))))

-- the field spells the length of the body
abbrev pub has_length : List ℕ → List ℕ → Option (Unit {0})
has_length field body = do
  count ← number_in field
  needs (count == length body)

-- ---- the commands, by their own fields and the body

unfoldable pub edit_in : List (List ℕ) → List ℕ → Option Command
edit_in parts body = do
  four ← four_of parts
  base ← number_in four.0
  table ← table_in four.1
  how ← how_in four.2
  words ← needs (are_edit_words table how)
  whole ← has_length four.3 body
  Some (Edit base (record { table = table; how = how; body = body }))

unfoldable pub submit_in : List (List ℕ) → List ℕ → Option Command
submit_in parts body = do
  two ← two_of parts
  base ← number_in two.0
  mode ← mode_in two.1
  empty ← needs (length body == 0)
  Some (Submit base mode)

unfoldable pub publish_in : List (List ℕ) → List ℕ → Option Command
publish_in parts body = do
  two ← two_of parts
  job ← number_in two.0
  whole ← has_length two.1 body
  Some (Publish job)

unfoldable pub draw_in : List (List ℕ) → List ℕ → Option Command
draw_in parts body = do
  two ← two_of parts
  publication ← number_in two.0
  whole ← has_length two.1 body
  Some (Draw publication body)

abbrev pub command_in : List ℕ → List (List ℕ) → List ℕ → Option Command
command_in word parts body =
    if bytes_eq word (codes "edit") then edit_in parts body
    else (if bytes_eq word (codes "submit") then submit_in parts body
    else (if bytes_eq word (codes "publish") then publish_in parts body
    else (if bytes_eq word (codes "draw") then draw_in parts body
    else None)))

-- ---- the head line

pub record HeadFields : Type 0 where
  pub word : List ℕ
  pub caller : List ℕ
  pub number : ℕ
  pub own : List (List ℕ)

-- what the first three fields and the others say
abbrev pub head_from : List ℕ → List ℕ → List ℕ → List (List ℕ) → Option HeadFields
head_from word caller number own = do
  named ← needs (is_chair_name caller)
  n ← number_in number
  Some (record { word = word; caller = caller; number = n; own = own })

-- there have to be others
abbrev pub head_in : List (List ℕ) → Option HeadFields
head_in [] = None
head_in (a ∷ []) = None
head_in (a ∷ b ∷ []) = None
head_in (a ∷ b ∷ c ∷ []) = None
head_in (a ∷ b ∷ c ∷ d ∷ parts) = head_from a b c (d ∷ parts)

-- ---- the row

-- the head line without its line feed, and the bytes behind it
abbrev pub line_in : List ℕ → Option (List ℕ × List ℕ)
line_in row = if nat_lt (position_or_len is_feed row) (length row) then Some (before_first is_feed row, after_first is_feed row) else None

abbrev pub lottery_in : Command → List ℕ → List ℕ
lottery_in (Edit base edit) body = []
lottery_in (Submit base mode) body = []
lottery_in (Publish job) body = body
lottery_in (Draw publication text) body = []

unfoldable pub kept_in : List ℕ → Option Kept
kept_in row = do
  parts ← line_in row
  text ← needs (is_utf8 parts.0)
  head ← head_in (fields parts.0)
  command ← command_in head.word head.own parts.1
  Some (record { named = record { caller = head.caller; number = head.number; command = command }; lottery = lottery_in command parts.1 })
