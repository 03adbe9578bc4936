-- Fields of a head line are read as they are spelled, and spelled as they are read.
use Rattle.std.proofs.Common.{◌≡◌, ℕ, ◌^◌, ◌<◌, ◌≤◌, Bool, true, false, not, cond, eqb, leb, ltb, List, [], ◌∷◌, ◌++◌, length, take, drop, Option, None, Some, refl, sym, ap, ◌∙◌, arith}
use Rattle.std.specs.Prelude.{nat_eq, nat_le, ◌&&◌, codes, decimal}
use Rattle.std.specs.List.{list_all, starts_with}
use Rattle.std.specs.Str.{bytes_eq}
use Rattle.std.proofs.lemmas.Bool.{and_parts, leb-true, le-leb, lt-ltb, ltb-true, eqb-true, eq-eqb, ne_eqb}
use Rattle.std.proofs.lemmas.Option.{same_Some, none-some}
use Rattle.std.proofs.lemmas.Bool.Decides.{nat_tests}
use Rattle.std.proofs.lemmas.List.{take-append-drop}
use Rattle.match_rules.specs.declared.answer.Mode.{Mode}
use Rattle.match_rules.specs.declared.answer.Mode.TheVariants.{Whole, Fair}
use Rattle.text_lines.specs.declared.number.TheConstants.{MOST_AMOUNT}
use Rattle.text_lines.specs.Numbers.{is_canonical, value}
use Rattle.text_lines.proofs.FormLaws.{same_words}
use Rattle.text_lines.proofs.NumberLaws.{number_takes, number_again}
use Rattle.text_lines.proofs.WordLaws.{IsWord, ascii_word}
use Rattle.desk_keeper.specs.declared.words.TableWords.{TableWords}
use Rattle.desk_keeper.specs.declared.words.TableWords.TheVariants.{Settings, Papers, Reviewers, Values, Bids, Marks, Caps}
use Rattle.desk_keeper.specs.declared.words.HowWords.{HowWords}
use Rattle.desk_keeper.specs.declared.words.HowWords.TheVariants.{Merge, Replace}
use Rattle.desk_keeper.specs.Names.{is_chair_byte, is_chair_name, is_source_byte, is_source_name}
use Rattle.desk_keeper.specs.Rows.{table_word, how_word, mode_word}
use Rattle.desk_keeper.specs.Reading.{◌>>=◌, needs, number_in, how_in, mode_in, values_in, table_in, has_length}

-- the value of a step that gave one
pub bind_some : {A B : Type 0} (o : Option A) (f : A → Option B) (y : B) → (o >>= f) ≡ Some y → (x : A) × (o ≡ Some x) × (f x ≡ Some y)
bind_some None f y e = absurd cc
bind_some (Some x) f y e = (x, refl, e)

-- a test that passed
pub needs_some : {B : Type 0} (test : Bool) (r : Option B) (y : B) → (needs test >>= λ _. r) ≡ Some y → (test ≡ true) × (r ≡ Some y)
needs_some true r y e = (refl, e)
needs_some false r y e = absurd cc

-- a field that is this word, or that the others read
by_word : {A : Type 0} (spell : A → List ℕ) (field word : List ℕ) (first : A) (others : Option A) (x : A) → word ≡ spell first → cond (bytes_eq field word) (Some first) others ≡ Some x
    → (others ≡ Some x → field ≡ spell x) → field ≡ spell x
by_word {A} spell field word first others x named e rest = by_test (bytes_eq field word) refl e
  where
    by_test : (test : Bool) → bytes_eq field word ≡ test → cond test (Some first) others ≡ Some x → field ≡ spell x
    by_test true same is = same_words field word same ∙ named ∙ ap spell (same_Some first x is)
    by_test false other is = rest is

-- ---- numbers

pub number_spells : (field : List ℕ) (n : ℕ) → number_in field ≡ Some n → (field ≡ decimal n) × (n < 2 ^ 64)
number_spells field n e =
    let a = needs_some (is_canonical field) (needs (nat_le (value field) MOST_AMOUNT) >>= λ _. Some (value field)) n e in
    let b = needs_some (nat_le (value field) MOST_AMOUNT) (Some (value field)) n a.1 in
    let high : value field ≤ MOST_AMOUNT = leb-true (value field) MOST_AMOUNT b.0 in
    let is : value field ≡ n = cc (b.1) in
    (number_takes field a.0 (omega (arith, high)) ∙ ap decimal is, omega (arith, high, is))

pub number_read : (n : ℕ) → n < 2 ^ 64 → number_in (decimal n) ≡ Some n
number_read n small =
    let again = number_again n small in
    rw (again.0, again.1, le-leb n MOST_AMOUNT (omega arith)) refl

pub length_spells : (field body : List ℕ) → has_length field body ≡ Some tt → field ≡ decimal (length body)
length_spells field body e =
    let a = bind_some (number_in field) (λ count. needs (eqb count (length body))) tt e in
    (number_spells field a.0 a.1).0 ∙ ap decimal (eqb-true a.0 (length body) (needs_is (eqb a.0 (length body)) a.2))
  where
    needs_is : (test : Bool) → needs test ≡ Some tt → test ≡ true
    needs_is true e = refl
    needs_is false e = absurd cc

pub length_read : (body : List ℕ) → length body < 2 ^ 64 → has_length (decimal (length body)) body ≡ Some tt
length_read body small = rw (number_read (length body) small) (rw (eqb-self (length body)) refl)
  where
    eqb-self : (n : ℕ) → eqb n n ≡ true
    eqb-self n = eq-eqb n n refl

-- ---- words

pub how_spells : (field : List ℕ) (how : HowWords) → how_in field ≡ Some how → field ≡ how_word how
how_spells field how e =
    by_word how_word field (codes "merge") Merge (cond (bytes_eq field (codes "replace")) (Some Replace) None) how refl e
    (λ e. by_word how_word field (codes "replace") Replace None how refl e (λ e. absurd (none-some how e)))

pub how_read : (how : HowWords) → how_in (how_word how) ≡ Some how
how_read Merge = refl
how_read Replace = refl

pub mode_spells : (field : List ℕ) (mode : Mode) → mode_in field ≡ Some mode → field ≡ mode_word mode
mode_spells field mode e =
    by_word mode_word field (codes "whole") Whole (cond (bytes_eq field (codes "fair")) (Some Fair) None) mode refl e
    (λ e. by_word mode_word field (codes "fair") Fair None mode refl e (λ e. absurd (none-some mode e)))

pub mode_read : (mode : Mode) → mode_in (mode_word mode) ≡ Some mode
mode_read Whole = refl
mode_read Fair = refl

prefix_is : (field : List ℕ) → starts_with nat_eq field (codes "values-") ≡ true → field ≡ codes "values-" ++ drop 7 field
prefix_is field e = sym (take-append-drop 7 field) ∙ ap (λ (front : List ℕ). front ++ drop 7 field) (sym (same_words (codes "values-") (take 7 field) e))

values_spells : (field : List ℕ) (table : TableWords) → values_in field ≡ Some table → field ≡ table_word table
values_spells field table e = by_test (starts_with nat_eq field (codes "values-")) refl e
  where
    by_test : (test : Bool) → starts_with nat_eq field (codes "values-") ≡ test → cond test (Some (Values (drop 7 field))) None ≡ Some table → field ≡ table_word table
    by_test true starts is = prefix_is field starts ∙ ap table_word (same_Some (Values (drop 7 field)) table is)
    by_test false other is = absurd (none-some table is)

pub table_spells : (field : List ℕ) (table : TableWords) → table_in field ≡ Some table → field ≡ table_word table
table_spells field table e =
    by_word table_word field (codes "settings") Settings _ table refl e
    (λ e. by_word table_word field (codes "papers") Papers _ table refl e
    (λ e. by_word table_word field (codes "reviewers") Reviewers _ table refl e
    (λ e. by_word table_word field (codes "bids") Bids _ table refl e
    (λ e. by_word table_word field (codes "marks") Marks _ table refl e
    (λ e. by_word table_word field (codes "caps") Caps _ table refl e
    (λ e. values_spells field table e))))))

pub table_read : (table : TableWords) → table_in (table_word table) ≡ Some table
table_read Settings = refl
table_read Papers = refl
table_read Reviewers = refl
table_read (Values source) = refl
table_read Bids = refl
table_read Marks = refl
table_read Caps = refl

-- ---- fields as words of a line

-- what every name and word of a head line is made of
abbrev pub is_plain : ℕ → Bool
is_plain b = ltb 32 b && ltb b 127

pub all_weaker : (p q : ℕ → Bool) → ((b : ℕ) → p b ≡ true → q b ≡ true) → (w : List ℕ) → list_all p w ≡ true → list_all q w ≡ true
all_weaker p q h [] all = refl
all_weaker p q h (b ∷ w) all =
    let parts = and_parts (p b) (list_all p w) all in
    rw (h b parts.0, all_weaker p q h w parts.1) refl

pub plain_word : (w : List ℕ) → list_all is_plain w ≡ true → IsWord w
plain_word w plain =
    ascii_word w
    (all_weaker is_plain (λ b. ltb b 128) (λ b h. lt-ltb b 128 (let p = and_parts (ltb 32 b) (ltb b 127) h in omega (arith, ltb-true b 127 p.1))) w plain)
    (all_weaker is_plain (λ b. not (eqb b 32)) (λ b h. let p = and_parts (ltb 32 b) (ltb b 127) h in let low : 32 < b = ltb-true 32 b p.0 in rw (ne_eqb b 32 (omega arith)) refl) w plain)
    (all_weaker is_plain (λ b. not (eqb b 10)) (λ b h. let p = and_parts (ltb 32 b) (ltb b 127) h in let low : 32 < b = ltb-true 32 b p.0 in rw (ne_eqb b 10 (omega arith)) refl) w plain)

chair_plain : (b : ℕ) → is_chair_byte b ≡ true → is_plain b ≡ true
chair_plain b h = grind (arith, nat_tests)

source_plain : (b : ℕ) → is_source_byte b ≡ true → is_plain b ≡ true
source_plain b h = grind (arith, nat_tests)

pub chair_word : (name : List ℕ) → is_chair_name name ≡ true → IsWord name
unfolding is_chair_name
chair_word name is =
    let parts = and_parts (leb 1 (length name) && leb (length name) 128) (list_all is_chair_byte name) is in
    plain_word name (all_weaker is_chair_byte is_plain chair_plain name parts.1)

pub source_word : (name : List ℕ) → is_source_name name ≡ true → IsWord (codes "values-" ++ name)
unfolding is_source_name
source_word name is =
    let parts = and_parts (leb 1 (length name) && leb (length name) 32) (list_all is_source_byte name) is in
    plain_word (codes "values-" ++ name) (all_weaker is_source_byte is_plain source_plain name parts.1)
