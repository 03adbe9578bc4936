-- The words for what is wrong with a table.
use Rattle.std.specs.Prelude.{ℕ, List, codes}
use Rattle.bid_import.specs.declared.fault.Code.{Code}
use Rattle.bid_import.specs.declared.fault.Code.TheVariants as code
use Rattle.bid_import.specs.declared.fault.Key.{Key}
use Rattle.bid_import.specs.declared.fault.Key.TheVariants as key

-- the word of a key of the settings
unfoldable pub key_word : Key → List ℕ
key_word key.Unknown = codes "unknown"
key_word key.Limit = codes "limit"
key_word key.Cap = codes "cap"
key_word key.Pairs = codes "pairs"
key_word key.Demand = codes "demand"
key_word key.Least = codes "least"
key_word key.Greatest = codes "greatest"
key_word key.Source = codes "source"
key_word key.Bids = codes "bids"

-- the word of a code
unfoldable pub code_word : Code → List ℕ
code_word code.TooMany = codes "too-many"
code_word code.NotUtf8 = codes "not-utf8"
code_word code.WrongWidth = codes "wrong-width"
code_word code.BadId = codes "bad-id"
code_word code.BadDemand = codes "bad-demand"
code_word code.BadLoad = codes "bad-load"
code_word code.BadNumber = codes "bad-number"
code_word code.OutOfRange = codes "out-of-range"
code_word code.UnknownWord = codes "unknown-word"
code_word code.BadMark = codes "bad-mark"
code_word code.BadCap = codes "bad-cap"
code_word code.NotToml = codes "not-toml"
code_word (code.BadSetting name) = codes "bad-setting"
code_word code.UnknownSource = codes "unknown-source"
code_word code.Missing = codes "missing"
code_word code.TooLong = codes "too-long"
