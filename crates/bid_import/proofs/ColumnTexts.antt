-- The names of columns are text, and files have few records.
use Rattle.std.specs.Prelude.{◌≡◌, ℕ, zero, suc, ◌≤◌, Bool, true, false, ◌&&◌, nat_lt, List, [], ◌∷◌, codes}
use Rattle.std.proofs.Common.{refl, arith}
use Rattle.std.proofs.lemmas.Bool.{ltb-true}
use Rattle.std.specs.List.{list_all}
use Rattle.std.specs.Str.{is_utf8, IsAscii}
use Rattle.std.proofs.lemmas.Str.{is_utf8-from_IsUtf8, IsUtf8-from_ascii}
use Rattle.score_spec.specs.declared.pairs.TheConstants.{MOST_PAIR_ROWS}
use Rattle.bid_import.specs.declared.file_kind.FileKind.{FileKind}
use Rattle.bid_import.specs.declared.file_kind.FileKind.TheVariants.{Papers, Reviewers, Values, Bids, Marks, Caps}
use Rattle.bid_import.specs.Kinds.{columns_of, most_records, paper_columns, reviewer_columns, value_columns, bid_columns, mark_columns, cap_columns}

-- ASCII is text, and so are the names of columns

and-first : (a b : Bool) → a && b ≡ true → (a ≡ true) × (b ≡ true)
and-first true b h = (refl, h)
and-first false b h = absurd (cc)

ascii : (bs : List ℕ) → list_all (λ b. nat_lt b 128) bs ≡ true → IsAscii bs
ascii [] h i = omega arith
ascii (b ∷ bs) h zero = ltb-true b 128 (and-first (nat_lt b 128) (list_all (λ b. nat_lt b 128) bs) h).0
ascii (b ∷ bs) h (suc i) = ascii bs (and-first (nat_lt b 128) (list_all (λ b. nat_lt b 128) bs) h).1 i

pub ascii_is_text : (bs : List ℕ) → list_all (λ b. nat_lt b 128) bs ≡ true → is_utf8 bs ≡ true
ascii_is_text bs h = is_utf8-from_IsUtf8 bs (IsUtf8-from_ascii bs (ascii bs h))

paper_columns-text : list_all is_utf8 paper_columns ≡ true
paper_columns-text =
    let t0 = ascii_is_text (codes "paper") refl in
    let t1 = ascii_is_text (codes "demand") refl in
    let t2 = ascii_is_text (codes "institutions") refl in
    rw (t0, t1, t2) refl

reviewer_columns-text : list_all is_utf8 reviewer_columns ≡ true
reviewer_columns-text =
    let t0 = ascii_is_text (codes "reviewer") refl in
    let t1 = ascii_is_text (codes "institution") refl in
    let t2 = ascii_is_text (codes "least") refl in
    let t3 = ascii_is_text (codes "greatest") refl in
    rw (t0, t1, t2, t3) refl

value_columns-text : list_all is_utf8 value_columns ≡ true
value_columns-text =
    let t0 = ascii_is_text (codes "paper") refl in
    let t1 = ascii_is_text (codes "reviewer") refl in
    let t2 = ascii_is_text (codes "value") refl in
    rw (t0, t1, t2) refl

bid_columns-text : list_all is_utf8 bid_columns ≡ true
bid_columns-text =
    let t0 = ascii_is_text (codes "paper") refl in
    let t1 = ascii_is_text (codes "reviewer") refl in
    let t2 = ascii_is_text (codes "bid") refl in
    rw (t0, t1, t2) refl

mark_columns-text : list_all is_utf8 mark_columns ≡ true
mark_columns-text =
    let t0 = ascii_is_text (codes "paper") refl in
    let t1 = ascii_is_text (codes "reviewer") refl in
    let t2 = ascii_is_text (codes "mark") refl in
    rw (t0, t1, t2) refl

cap_columns-text : list_all is_utf8 cap_columns ≡ true
cap_columns-text =
    let t0 = ascii_is_text (codes "paper") refl in
    let t1 = ascii_is_text (codes "reviewer") refl in
    let t2 = ascii_is_text (codes "cap") refl in
    rw (t0, t1, t2) refl

pub columns_of-text : (file : FileKind) → list_all is_utf8 (columns_of file) ≡ true
columns_of-text Papers = paper_columns-text
columns_of-text Reviewers = reviewer_columns-text
columns_of-text Values = value_columns-text
columns_of-text Bids = bid_columns-text
columns_of-text Marks = mark_columns-text
columns_of-text Caps = cap_columns-text

pub most_records-few : (file : FileKind) → most_records file ≤ MOST_PAIR_ROWS
most_records-few Papers = omega arith
most_records-few Reviewers = omega arith
most_records-few Values = omega arith
most_records-few Bids = omega arith
most_records-few Marks = omega arith
most_records-few Caps = omega arith
