-- What a file of settings says: the settings, or the first key at fault.
use Rattle.std.specs.Prelude.{◌≡◌, ℕ, Bool, true, false, not, ◌==◌, ◌&&◌, ◌||◌, nat_le, if◌then◌else◌, ℤ, pos, negsuc, neg_ℤ, int_le, ◌≤ℤ◌, ◌≤◌, List, [], ◌∷◌, length, map, codes, Option, Some, None, option_map, option_and_then, ok_or, Result, Ok, Err, ⊤}
use Rattle.std.specs.Option.{option_map_or}
use Rattle.std.specs.Result.{result_ok}
use Rattle.std.specs.List.{list_all, list_any}
use Rattle.std.specs.Str.{is_utf8, bytes_eq}
use Rattle.std.specs.Char.{is_ascii_lowercase, is_ascii_digit}
use Rattle.toml.specs.Data.{Data, Items, no_items, item, Members, no_members, member, get_member, as_str, as_integer, as_array, as_table}
use Rattle.toml.specs.Parse.{parse_document}
use Rattle.roster.specs.Loads.{LoadValue, load_from}
use Rattle.roster.specs.declared.load.TheConstants.{MOST_LOAD}
use Rattle.roster.specs.Table.{Ascend}
use Rattle.score_spec.specs.Reading.{only_if, read_as}
use Rattle.score_spec.specs.Sources.{SourceValue}
use Rattle.score_spec.specs.declared.spec.Kind.{Kind}
use Rattle.score_spec.specs.declared.spec.Kind.TheVariants.{Values, Bids}
use Rattle.score_spec.specs.declared.spec.BidWord.{BidWord}
use Rattle.score_spec.specs.declared.spec.Spec.{Spec}
use Rattle.bid_import.specs.declared.fault.Code.{Code}
use Rattle.bid_import.specs.declared.fault.Code.TheVariants.{NotToml, BadSetting}
use Rattle.bid_import.specs.declared.fault.Key.{Key}
use Rattle.bid_import.specs.declared.fault.Key.TheVariants as key
use Rattle.bid_import.specs.declared.fault.ImportFault.{ImportFault}
use Rattle.bid_import.specs.declared.fault.ImportFault.TheVariants.{Memory, Bad}
use Rattle.bid_import.specs.declared.settings.TheConstants.{MOST_LIMIT}
use Rattle.bid_import.specs.Results.{◌>>=◌}

-- the settings of a venue; values and caps are in ten-thousandths
pub record SettingsValue : Type 0 where
  pub limit : ℕ
  pub cap : ℤ
  pub all_pairs : Bool
  pub demand : ℕ
  pub load : LoadValue
  pub spec : Spec

-- no name stands twice
abbrev pub are_distinct : List (List ℕ) → Bool
are_distinct [] = true
are_distinct (name ∷ names) = not (list_any (λ other. bytes_eq other name) names) && are_distinct names

abbrev pub HasDistinctNames : List SourceValue → Type 0
HasDistinctNames sources = are_distinct (map (λ (s : SourceValue). s.name) sources) ≡ true

abbrev pub AscendInBytes : List BidWord → Type 0
AscendInBytes words = Ascend (λ (w : BidWord). w.word) words

-- the bounds of settings
pub record IsSettings (s : SettingsValue) : Type 0 where
  pub some_limit : 1 ≤ s.limit
  pub limit : s.limit ≤ MOST_LIMIT
  pub some_cap : pos 0 ≤ℤ s.cap
  pub cap : s.cap ≤ℤ pos 10000
  pub demand : s.demand ≤ 100
  pub sources : length s.spec.sources ≤ 8
  pub names : HasDistinctNames s.spec.sources
  pub words : AscendInBytes s.spec.words

-- what a document says of them

abbrev pub listed : Items → List Data
listed no_items = []
listed (item d ds) = d ∷ listed ds

abbrev pub entries : Members → List (List ℕ × Data)
entries no_members = []
entries (member k d ms) = (k, d) ∷ entries ms

-- what each reads as, where each reads as something
abbrev pub each : {A B : Type 0} → (A → Option B) → List A → Option (List B)
each read [] = Some []
each read (x ∷ xs) = option_and_then (λ y. option_map (λ ys. y ∷ ys) (each read xs)) (read x)

-- the number, where it is from low to high
abbrev pub number_in : ℕ → ℕ → ℤ → Option ℕ
number_in low high (pos n) = only_if (nat_le low n && nat_le n high) n
number_in low high (negsuc n) = None

abbrev pub number_from : ℕ → ℕ → Data → Option ℕ
number_from low high d = option_and_then (number_in low high) (as_integer d)

-- a value text's value in ten-thousandths, where that is from -10 to 10
abbrev pub text_value : Data → Option ℤ
text_value d = option_and_then (λ text. result_ok (read_as text)) (as_str d)

-- what stands at the key reads so, or nothing stands there and the default holds; else the key is at fault
abbrev pub setting : {A : Type 0} → Key → A → (Data → Option A) → Option Data → Result A Key
setting at_fault default read None = Ok default
setting at_fault default read (Some d) = ok_or (read d) at_fault

abbrev pub limit_setting : Members → Result ℕ Key
limit_setting m = setting key.Limit MOST_LIMIT (number_from 1 MOST_LIMIT) (get_member (codes "limit") m)

abbrev pub cap_in : ℤ → Option ℤ
cap_in value = only_if (int_le (pos 0) value && int_le value (pos 10000)) value

abbrev pub cap_setting : Members → Result ℤ Key
cap_setting m = setting key.Cap (pos 10000) (λ d. option_and_then cap_in (text_value d)) (get_member (codes "cap") m)

-- whether all pairs are candidates
abbrev pub pairs_word : List ℕ → Option Bool
pairs_word text = if bytes_eq text (codes "all") then Some true else only_if (bytes_eq text (codes "listed")) false

abbrev pub pairs_setting : Members → Result Bool Key
pairs_setting m = setting key.Pairs false (λ d. option_and_then pairs_word (as_str d)) (get_member (codes "pairs") m)

abbrev pub demand_setting : Members → Result ℕ Key
demand_setting m = setting key.Demand 3 (number_from 0 100) (get_member (codes "demand") m)

abbrev pub least_setting : Members → Result ℕ Key
least_setting m = setting key.Least 0 (number_from 0 MOST_LOAD) (get_member (codes "least") m)

-- the load from this least on: the greatest, as given or 6, makes a load with it
abbrev pub load_with : ℕ → Option Data → Result LoadValue Key
load_with least None = ok_or (load_from least 6) key.Greatest
load_with least (Some d) = ok_or (option_and_then (load_from least) (number_from 0 MOST_LOAD d)) key.Greatest

abbrev pub load_above : Members → ℕ → Result LoadValue Key
load_above m least = load_with least (get_member (codes "greatest") m)

-- 1 to 32 characters of a to z, 0 to 9, _ and -
abbrev pub is_name_byte : ℕ → Bool
is_name_byte b = (is_ascii_lowercase b || is_ascii_digit b) || (b == 95 || b == 45)

abbrev pub is_source_name : List ℕ → Bool
is_source_name text = (nat_le 1 (length text) && nat_le (length text) 32) && list_all is_name_byte text

abbrev pub name_from : Data → Option (List ℕ)
name_from d = option_and_then (λ text. only_if (is_source_name text) text) (as_str d)

abbrev pub kind_word : List ℕ → Option Kind
kind_word text = if bytes_eq text (codes "values") then Some Values else only_if (bytes_eq text (codes "bids")) Bids

abbrev pub kind_from : Data → Option Kind
kind_from d = option_and_then kind_word (as_str d)

abbrev pub weight_in : ℤ → Option ℤ
weight_in weight = only_if (int_le (neg_ℤ (pos 10000)) weight && int_le weight (pos 10000)) weight

abbrev pub weight_from : Data → Option ℤ
weight_from d = option_and_then weight_in (as_integer d)

-- what stands there reads so, or nothing does and the default holds
abbrev pub optional : {A : Type 0} → A → (Data → Option A) → Option Data → Option A
optional default read None = Some default
optional default read (Some d) = read d

-- a source: its name and its kind, its weight or 100, its default or 0
abbrev pub source_from : Members → Option SourceValue
source_from m =
    option_and_then (λ name. option_and_then (λ kind. option_and_then (λ weight. option_map (λ default. record { name = name; kind = kind; weight = weight; default = default })
    (optional (pos 0) text_value (get_member (codes "default") m)))
    (optional (pos 100) weight_from (get_member (codes "weight") m)))
    (option_and_then kind_from (get_member (codes "kind") m)))
    (option_and_then name_from (get_member (codes "name") m))

-- at most eight sources with distinct names
abbrev pub may_be_sources : List SourceValue → Bool
may_be_sources sources = nat_le (length sources) 8 && are_distinct (map (λ (s : SourceValue). s.name) sources)

abbrev pub sources_in : List Data → Option (List SourceValue)
sources_in tables = option_and_then (λ sources. only_if (may_be_sources sources) sources) (each (λ table. option_and_then source_from (as_table table)) tables)

abbrev pub sources_from : Data → Option (List SourceValue)
sources_from d = option_and_then (λ items. sources_in (listed items)) (as_array d)

-- one source of values named affinity, of weight 100 and default 0
abbrev pub affinity : SourceValue
affinity = record { name = codes "affinity"; kind = Values; weight = pos 100; default = pos 0 }

abbrev pub sources_setting : Members → Result (List SourceValue) Key
sources_setting m = setting key.Source (affinity ∷ []) sources_from (get_member (codes "source") m)

-- a word of 1 to 64 bytes with its value
abbrev pub word_from : List ℕ × Data → Option BidWord
word_from entry =
    if nat_le 1 (length entry.0) && nat_le (length entry.0) 64
    then option_map (λ value. record { word = entry.0; value = value }) (text_value entry.1)
    else None

-- at most 32 words, in the order of the table's keys, which is that of their bytes
abbrev pub words_from : Data → Option (List BidWord)
words_from d = option_and_then (λ m. if nat_le (length (entries m)) 32 then each word_from (entries m) else None) (as_table d)

abbrev pub bid_word : List ℕ → ℤ → BidWord
bid_word word value = record { word = word; value = value }

abbrev pub default_words : List BidWord
default_words =
    bid_word (codes "High") (pos 5000)
    ∷ bid_word (codes "Low") (neg_ℤ (pos 5000))
    ∷ bid_word (codes "Neutral") (pos 0)
    ∷ bid_word (codes "Very High") (pos 10000)
    ∷ bid_word (codes "Very Low") (neg_ℤ (pos 10000))
    ∷ []

abbrev pub words_setting : Members → Result (List BidWord) Key
words_setting m = setting key.Bids default_words words_from (get_member (codes "bids") m)

-- the keys that settings may have, and those that a source may have
abbrev pub setting_keys : List (List ℕ)
setting_keys = codes "limit" ∷ codes "cap" ∷ codes "pairs" ∷ codes "demand" ∷ codes "least" ∷ codes "greatest" ∷ codes "source" ∷ codes "bids" ∷ []

abbrev pub source_keys : List (List ℕ)
source_keys = codes "name" ∷ codes "kind" ∷ codes "weight" ∷ codes "default" ∷ []

abbrev pub knows : List (List ℕ) → Members → Bool
knows keys m = list_all (λ entry. list_any (λ known. bytes_eq known entry.0) keys) (entries m)

-- no table of the array has an unknown key
abbrev pub knows_sources : Data → Bool
knows_sources d = option_map_or (λ items. list_all (λ table. option_map_or (knows source_keys) (as_table table) true) (listed items)) (as_array d) true

-- no key is unknown, also inside a source
abbrev pub knows_all : Members → Bool
knows_all m = knows setting_keys m && option_map_or knows_sources (get_member (codes "source") m) true

-- the numbers, and then the sources and the words
abbrev pub load_setting : Members → Result LoadValue Key
load_setting m = least_setting m >>= load_above m

abbrev pub spec_setting : Members → Result Spec Key
spec_setting m = do
  sources ← sources_setting m
  words ← words_setting m
  Ok (record { sources = sources; words = words })

abbrev pub known_settings : Members → Result SettingsValue Key
known_settings m = do
  limit ← limit_setting m
  cap ← cap_setting m
  all_pairs ← pairs_setting m
  demand ← demand_setting m
  load ← load_setting m
  spec ← spec_setting m
  Ok (record { limit = limit; cap = cap; all_pairs = all_pairs; demand = demand; load = load; spec = spec })

-- the settings of a document, or its first key at fault
abbrev pub settings_of : Members → Result SettingsValue Key
settings_of m = if knows_all m then known_settings m else Err key.Unknown

abbrev pub setting_code : Result SettingsValue Key → Result SettingsValue Code
setting_code (Ok settings) = Ok settings
setting_code (Err at_fault) = Err (BadSetting at_fault)

abbrev pub settings_of_document : Option Members → Result SettingsValue Code
settings_of_document None = Err NotToml
settings_of_document (Some m) = setting_code (settings_of m)

-- the document that the bytes of a text are
abbrev pub document_of : List ℕ → Option Members
document_of bytes = if is_utf8 bytes then parse_document bytes else None

-- what the bytes of a file of settings read as
unfoldable pub settings_of_file : List ℕ → Result SettingsValue Code
settings_of_file bytes = settings_of_document (document_of bytes)

-- the settings of a venue that has no file of them
abbrev pub default_settings : SettingsValue
default_settings =
    record {
      limit = MOST_LIMIT;
      cap = pos 10000;
      all_pairs = false;
      demand = 3;
      load = record { least = 0; greatest = 6 };
      spec = record { sources = affinity ∷ []; words = default_words };
    }

-- the answer has the settings of the file, or its fault; or memory was wanting
abbrev pub ImportsSettings : Result SettingsValue ImportFault → Result SettingsValue Code → Type 0
ImportsSettings (Ok settings) said = said ≡ Ok settings
ImportsSettings (Err Memory) said = ⊤
ImportsSettings (Err (Bad row code)) said = (row ≡ 0) × (said ≡ Err code)
