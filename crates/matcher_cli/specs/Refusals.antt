-- The lines that say what is wrong with a folder.
use Rattle.std.specs.Prelude.{ℕ, List, [], ◌++◌, codes}
use Rattle.bid_import.specs.declared.fault.Code.{Code}
use Rattle.bid_import.specs.declared.fault.Code.TheVariants as code
use Rattle.bid_import.specs.declared.fault.Key.{Key}
use Rattle.bid_import.specs.declared.fault.Key.TheVariants as key
use Rattle.venue_rules.specs.declared.fault.LimitFault.{LimitFault}
use Rattle.venue_rules.specs.declared.fault.LimitFault.TheVariants as limit
use Rattle.editions.specs.declared.fault.LoadFault.{LoadFault}
use Rattle.editions.specs.declared.fault.LoadFault.TheVariants as load
use Rattle.text_lines.specs.Labels.{labelled}
use Rattle.matcher_cli.specs.Lines.{one_number}

-- the word of a key of the settings
abbrev pub key_word : Key → List ℕ
key_word key.Unknown = codes "unknown"
key_word key.Limit = codes "limit"
key_word key.Cap = codes "cap"
key_word key.Pairs = codes "pairs"
key_word key.Demand = codes "demand"
key_word key.Least = codes "least"
key_word key.Greatest = codes "greatest"
key_word key.Source = codes "source"
key_word key.Bids = codes "bids"

-- the word of a code, with the key behind it where a setting is at fault
unfoldable pub code_words : Code → List ℕ
code_words code.TooMany = codes "too-many"
code_words code.NotUtf8 = codes "not-utf8"
code_words code.WrongWidth = codes "wrong-width"
code_words code.BadId = codes "bad-id"
code_words code.BadDemand = codes "bad-demand"
code_words code.BadLoad = codes "bad-load"
code_words code.BadNumber = codes "bad-number"
code_words code.OutOfRange = codes "out-of-range"
code_words code.UnknownWord = codes "unknown-word"
code_words code.BadMark = codes "bad-mark"
code_words code.BadCap = codes "bad-cap"
code_words code.NotToml = codes "not-toml"
code_words (code.BadSetting name) = codes "bad-setting " ++ key_word name
code_words code.UnknownSource = codes "unknown-source"
code_words code.Missing = codes "missing"
code_words code.TooLong = codes "too-long"

-- what stands behind the name of a file: the row and the code
unfoldable pub row_and_code : ℕ → Code → List ℕ
row_and_code row fault = ((labelled (codes " ") row ++ codes " ") ++ code_words fault) ++ codes "\n"

-- the line of a row of a file
unfoldable pub row_line : List ℕ → ℕ → Code → List ℕ
row_line file row fault = codes "refused " ++ (file ++ row_and_code row fault)

-- the line of a pair that is locked, and forbidden too
unfoldable pub lock_line : List ℕ → List ℕ → List ℕ
lock_line paper reviewer = (((codes "refused rules lock-forbidden " ++ paper) ++ codes " ") ++ reviewer) ++ codes "\n"

-- the line of a limit that the rules pass
abbrev pub limit_line : LimitFault → List ℕ
limit_line (limit.TooMuchDemand sum) = one_number (codes "refused rules too-much-demand ") sum
limit_line (limit.LockForbidden paper reviewer) = lock_line paper reviewer
limit_line (limit.TooManyPairs count) = one_number (codes "refused rules too-many-pairs ") count

-- the line of what is wrong with a folder; want of memory and a folder that failed have none
abbrev pub refusal_text : LoadFault → List ℕ
refusal_text load.Memory = []
refusal_text load.Folder = []
refusal_text (load.Bad file row fault) = row_line file row fault
refusal_text (load.Limit fault) = limit_line fault
