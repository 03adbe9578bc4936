-- Files of settings in ASCII, computed.
use Rattle.std.proofs.Common.{◌≡◌, ℕ, List, true, Result}
use Rattle.std.specs.Prelude.{nat_lt}
use Rattle.std.specs.List.{list_all}
use Rattle.toml.specs.Parse.{parse_document}
use Rattle.bid_import.specs.declared.fault.Code.{Code}
use Rattle.bid_import.proofs.ColumnTexts.{ascii_is_text}
use Rattle.bid_import.specs.Settings.{SettingsValue, settings_of_document, settings_of_file}

pub of-ascii : (bytes : List ℕ) (said : Result SettingsValue Code) → list_all (λ b. nat_lt b 128) bytes ≡ true → settings_of_document (parse_document bytes) ≡ said → settings_of_file bytes ≡ said
unfolding settings_of_file
of-ascii bytes said plain reads = let text = ascii_is_text bytes plain in rw text reads
