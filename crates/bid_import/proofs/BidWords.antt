-- The words of a document, in the order of its keys.
use Rattle.std.proofs.Common.{◌≡◌, ℕ, ◌<◌, ◌≤◌, List, [], ◌∷◌, length, Option, Some, None, string_bytes, refl, sym, ap, inl, inr, subst, arith, Less}
use Rattle.std.specs.Prelude.{option_map, nat_le, ◌&&◌}
use Rattle.std.specs.List.{AllByRecursion}
use Rattle.std.specs.List.Sorted.{IsStrictlySortedBy}
use Rattle.std.specs.Map.{keys_of}
use Rattle.std.specs.String.{string_cmp}
use Rattle.std.proofs.lemmas.Bool.{cases_Bool, le-leb, lt-leb}
use Rattle.std.proofs.lemmas.Option.{same_Some}
use Rattle.toml.specs.Data.{Data, as_table}
use Rattle.toml.specs.View.{view, members_view}
use Rattle.toml.proofs.Views.{Entry}
use Rattle.roster.specs.Table.{Ascend, AllAbove}
use Rattle.score_spec.specs.declared.spec.BidWord.{BidWord}
use Rattle.bid_import.specs.Settings.{text_value, entries, each, word_from, words_from}
use Rattle.bid_import.proofs.Documents.{each-parts, entries-length}

abbrev pub word : BidWord → List ℕ
word w = w.word

-- a word is its key
pub word-key : (key : List ℕ) (d : Data) (w : BidWord) → word_from (key, d) ≡ Some w → key ≡ w.word
word-key key d w h =
    elim (cases_Bool (nat_le 1 (length key) && nat_le (length key) 64)) [
      | inl e ↦ good (text_value d) (rw e at h)
      | inr e ↦ bad (rw e at h)
    ]
  where
    good : (o : Option _) → option_map (λ value. record { word = key; value = value }) o ≡ Some w → key ≡ w.word
    good None e = absurd (cc)
    good (Some v) e = ap word (same_Some _ _ e)

    bad : None ≡ Some w → key ≡ w.word
    bad e = absurd (cc)

all-above : (first : Entry) (es : List Entry) (ws : List BidWord) → AllByRecursion (λ k. string_cmp first.0 k ≡ Less) (keys_of es) → each word_from (entries (members_view es)) ≡ Some ws → AllAbove word (string_bytes first.0) ws
all-above first [] ws h e = subst (AllAbove word (string_bytes first.0)) (same_Some _ _ e) tt
all-above first (x ∷ es) ws h e =
    let (w, more, read, rest, all) = each-parts word_from (string_bytes x.0, view x.1) (entries (members_view es)) ws e in
    let key = word-key (string_bytes x.0) (view x.1) w read in
    subst (AllAbove word (string_bytes first.0)) (sym all) (rw key at h.0, all-above first es more h.1 rest)

-- keys that ascend make words that do
pub ascends : (es : List Entry) (ws : List BidWord) → IsStrictlySortedBy string_cmp (keys_of es) → each word_from (entries (members_view es)) ≡ Some ws → Ascend word ws
unfolding IsStrictlySortedBy
ascends [] ws h e = subst (Ascend word) (same_Some _ _ e) tt
ascends (x ∷ es) ws h e =
    let (w, more, read, rest, all) = each-parts word_from (string_bytes x.0, view x.1) (entries (members_view es)) ws e in
    let key = word-key (string_bytes x.0) (view x.1) w read in
    subst (Ascend word) (sym all) (subst (λ (k : List ℕ). AllAbove word k more) key (all-above x es more h.0 rest), ascends es more h.1 rest)

pub too_many : (d : Data) (es : List Entry) → Some (members_view es) ≡ as_table d → 32 < length es → words_from d ≡ None
too_many d es h more = let far = lt-leb (length (entries (members_view es))) 32 (omega (arith, entries-length es)) in rw (← h, far) refl

pub few : (d : Data) (es : List Entry) → Some (members_view es) ≡ as_table d → length es ≤ 32 → words_from d ≡ each word_from (entries (members_view es))
few d es h close = let near = le-leb (length (entries (members_view es))) 32 (omega (arith, entries-length es)) in rw (← h, near) refl
