-- The sources of a document and their names.
use Rattle.std.proofs.Common.{◌≡◌, ℕ, ◌<◌, ◌≤◌, Bool, true, false, List, [], ◌∷◌, ◌+◌, ◌-◌, length, map, take, drop, get_or, Option, Some, None, refl, sym, ap, ◌∙◌, arith}
use Rattle.std.specs.Prelude.{option_and_then, ◌&&◌, not, nat_le}
use Rattle.std.specs.Option.{option_map_or}
use Rattle.std.specs.List.{list_all, list_any}
use Rattle.std.specs.Str.{bytes_eq}
use Rattle.std.proofs.lemmas.Bool.{le-leb, lt-leb}
use Rattle.std.proofs.lemmas.List.{length-map, length-drop, take_all, drop_more}
use Rattle.toml.specs.Data.{Data, as_array, as_table}
use Rattle.toml.specs.View.{view, items_view}
use Rattle.toml.specs.declared.value.Value.{Value}
use Rattle.score_spec.specs.Sources.{SourceValue}
use Rattle.bid_import.specs.Settings.{each, knows, source_keys, knows_sources, source_from, sources_in, sources_from, are_distinct, may_be_sources}
use Rattle.score_spec.specs.Reading.{only_if}
use Rattle.bid_import.proofs.Documents.{listed-view, each-length}

abbrev pub read_source : Data → Option SourceValue
read_source d = option_and_then source_from (as_table d)

abbrev pub names : List SourceValue → List (List ℕ)
names sources = map (λ (s : SourceValue). s.name) sources

pub known-tables : (d : Data) (vs : List Value) → Some (items_view vs) ≡ as_array d → list_all (λ table. option_map_or (knows source_keys) (as_table table) true) (map view vs) ≡ knows_sources d
known-tables d vs h = rw (← h, listed-view vs) refl

pub sources-listed : (d : Data) (vs : List Value) → Some (items_view vs) ≡ as_array d → sources_in (map view vs) ≡ sources_from d
sources-listed d vs h = rw (← h, listed-view vs) refl

-- the tables from a place on
pub tables-from : (vs : List Value) (i : ℕ) (v : Value) → i < length vs → v ≡ get_or vs i v → map view (drop i vs) ≡ view v ∷ map view (drop (i + 1) vs)
tables-from vs i v lt at = ap (map view) (drop_more vs i v lt ∙ ap (λ w. w ∷ drop (i + 1) vs) (sym at))

pub any-named : (name : List ℕ) (sources : List SourceValue) → list_any (λ (s : SourceValue). bytes_eq s.name name) sources ≡ list_any (λ other. bytes_eq other name) (names sources)
any-named name [] = refl
any-named name (s ∷ sources) = let rest = any-named name sources in rw rest refl

pub distinct-step : (s : SourceValue) (rest : List SourceValue) (known : Bool) → list_any (λ (t : SourceValue). bytes_eq t.name s.name) rest ≡ known → are_distinct (names (s ∷ rest)) ≡ (not known && are_distinct (names rest))
distinct-step s rest known h = ap (λ t. not t && are_distinct (names rest)) (sym (any-named s.name rest) ∙ h)

-- the sources from a place on are distinct where its name isn't among those behind and these are
pub distinct-at : (xs : List SourceValue) (i : ℕ) (s : SourceValue) (known : Bool) → i < length xs → s ≡ get_or xs i s
    → list_any (λ (t : SourceValue). bytes_eq t.name s.name) (take (length xs - (i + 1)) (drop (i + 1) xs)) ≡ known
    → are_distinct (names (drop i xs)) ≡ (not known && are_distinct (names (drop (i + 1) xs)))
distinct-at xs i s known lt at h =
    let rest = drop (i + 1) xs in
    let all : take (length xs - (i + 1)) rest ≡ rest = take_all (length xs - (i + 1)) rest (omega (arith, length-drop (i + 1) xs)) in
    let parts : drop i xs ≡ s ∷ rest = drop_more xs i s lt ∙ ap (λ v. v ∷ rest) (sym at) in
    ap (λ zs. are_distinct (names zs)) parts ∙ distinct-step s rest known (rw all at h)

many : (o : Option (List SourceValue)) (n : ℕ) → ((sources : List SourceValue) → o ≡ Some sources → length sources ≡ n) → 8 < n → option_and_then (λ sources. only_if (may_be_sources sources) sources) o ≡ None
many None n size more = refl
many (Some sources) n size more = let far = lt-leb (length sources) 8 (omega (arith, size sources refl)) in rw far refl

-- more than eight tables
pub too_many : (vs : List Value) → 8 < length vs → sources_in (map view vs) ≡ None
too_many vs more = many (each read_source (map view vs)) (length vs) (λ sources h. each-length read_source (map view vs) sources h ∙ length-map vs view) more

-- names that aren't distinct
pub twice-named : (vs : List Value) (sources : List SourceValue) → each read_source (map view vs) ≡ Some sources → are_distinct (names sources) ≡ false → sources_in (map view vs) ≡ None
twice-named vs sources h twice = rw (h, twice) (never (nat_le (length sources) 8) sources)
  where
    never : (b : Bool) (sources : List SourceValue) → only_if (b && false) sources ≡ None
    never true sources = refl
    never false sources = refl

pub all-good : (vs : List Value) (sources : List SourceValue) → each read_source (map view vs) ≡ Some sources → are_distinct (names sources) ≡ true → length sources ≤ 8 → sources_in (map view vs) ≡ Some sources
all-good vs sources h distinct few = let close = le-leb (length sources) 8 few in rw (h, close, distinct) refl

pub sources-length : (vs : List Value) (sources : List SourceValue) → each read_source (map view vs) ≡ Some sources → length sources ≡ length vs
sources-length vs sources h = each-length read_source (map view vs) sources h ∙ length-map vs view
