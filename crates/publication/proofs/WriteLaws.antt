-- Lines that are written one by one, and lines as their fields.
use Rattle.std.proofs.Common.{◌≡◌, ℕ, ◌+◌, ◌<◌, ◌≤◌, Bool, true, ◌&&◌, leb, List, [], ◌∷◌, ◌++◌, length, get_or, take, drop, refl, sym, ap, ◌∙◌, append_assoc, add-one}
use Rattle.std.proofs.lemmas.Bool.{and_parts, leb-true}
use Rattle.std.proofs.lemmas.List.{take_more, take_all, take-append-drop, append-nil}
use Rattle.std.proofs.Math.Seq.{drop-cons}
use Rattle.std.specs.List.{list_all}
use Rattle.std.specs.Option.{option_map_or}
use Rattle.std.specs.Prelude.{Option, Some, None, Result, Ok, Err, IsErr, option_to_list}
use Rattle.std.specs.Str.{chars, is_utf8}
use Rattle.edge_io.specs.Told.{AddsAll}
use Rattle.edge_io.proofs.Adding.{adds_none, adds_front, adds_then}
use Rattle.match_rules.specs.Id.{is_id, is_id_char, is_institution, is_institution_char, is_name}
use Rattle.text_lines.specs.Fields.{with_spaces}
use Rattle.text_lines.specs.Texts.{line_of, lines_of}

-- ---- lines one by one

-- all lines so far were written
abbrev pub Wrote : Option (List ℕ) → Option (List ℕ) → List ℕ → Type 0
Wrote old new text = AddsAll {T = ℕ} {E = ℕ} old new (Ok 0) text

lines_of-append : {A : Type 0} (spell : A → List ℕ) (xs ys : List A) → lines_of spell (xs ++ ys) ≡ lines_of spell xs ++ lines_of spell ys
unfolding lines_of
lines_of-append spell [] ys = refl
lines_of-append spell (x ∷ xs) ys =
    ap (λ (bs : List ℕ). line_of (spell x) ++ bs) (lines_of-append spell xs ys) ∙ sym (append_assoc (line_of (spell x)) (lines_of spell xs) (lines_of spell ys))

lines_of-one : {A : Type 0} (spell : A → List ℕ) (x : A) → lines_of spell (x ∷ []) ≡ line_of (spell x)
unfolding lines_of
lines_of-one spell x = append-nil (line_of (spell x))

lines_of-first : {A : Type 0} (spell : A → List ℕ) (x : A) (xs : List A) → lines_of spell (x ∷ xs) ≡ line_of (spell x) ++ lines_of spell xs
unfolding lines_of
lines_of-first spell x xs = refl

lines_of-none : {A : Type 0} (spell : A → List ℕ) → lines_of spell [] ≡ []
unfolding lines_of
lines_of-none spell = refl

pub wrote_none : {A : Type 0} (spell : A → List ℕ) (xs : List A) (o : Option (List ℕ)) → Wrote o o (lines_of spell (take 0 xs))
wrote_none spell xs o = rw (lines_of-none spell) adds_none

pub wrote_more : {A S E : Type 0} (spell : A → List ℕ) (xs : List A) (i : ℕ) (x d : A) (old mid new : Option (List ℕ)) (v : S) → i < length xs → x ≡ get_or xs i d
    → Wrote old mid (lines_of spell (take i xs)) → AddsAll {E = E} mid new (Ok v) (line_of (spell x)) → Wrote old new (lines_of spell (take (i + 1) xs))
wrote_more spell xs i x d old mid new v below is front adds =
    let next : lines_of spell (take (i + 1) xs) ≡ lines_of spell (take i xs) ++ line_of (spell x) =
    ap (lines_of spell) (take_more xs i d below) ∙ lines_of-append spell (take i xs) (get_or xs i d ∷ [])
    ∙ ap (λ y. lines_of spell (take i xs) ++ lines_of spell (y ∷ [])) (sym is)
    ∙ ap (λ bs. lines_of spell (take i xs) ++ bs) (lines_of-one spell x) in
    let last : Wrote mid new (line_of (spell x)) = record { untold = adds.untold; bytes = adds.bytes } in
    rw next (adds_then front last)

pub wrote_front : {A S T E F : Type 0} (spell : A → List ℕ) (xs : List A) (i : ℕ) (x d : A) (old mid new : Option (List ℕ)) (e : E) (r : Result T F)
    → i < length xs → x ≡ get_or xs i d → Wrote old mid (lines_of spell (take i xs)) → AddsAll {T = S} mid new (Err e) (line_of (spell x)) → IsErr r
    → AddsAll old new r (lines_of spell xs)
wrote_front spell xs i x d old mid new e r below is front adds failed =
    let others : drop i xs ≡ x ∷ drop (i + 1) xs =
    let at : drop i xs ≡ get_or xs i d ∷ drop (i + 1) xs = rw add-one (drop-cons xs i d below) in
    at ∙ ap (λ y. y ∷ drop (i + 1) xs) (sym is) in
    let whole : lines_of spell xs ≡ lines_of spell (take i xs) ++ (line_of (spell x) ++ lines_of spell (drop (i + 1) xs)) =
    ap (lines_of spell) (sym (take-append-drop i xs)) ∙ lines_of-append spell (take i xs) (drop i xs)
    ∙ ap (λ ys. lines_of spell (take i xs) ++ lines_of spell ys) others
    ∙ ap (λ bs. lines_of spell (take i xs) ++ bs) (lines_of-first spell x (drop (i + 1) xs)) in
    rw whole (adds_then front (adds_front (lines_of spell (drop (i + 1) xs)) adds failed))

pub wrote_all : {A T E : Type 0} (spell : A → List ℕ) (xs : List A) (i : ℕ) (old new : Option (List ℕ)) (v : T) → length xs ≤ i
    → Wrote old new (lines_of spell (take i xs)) → AddsAll {E = E} old new (Ok v) (lines_of spell xs)
wrote_all spell xs i old new v end front =
    let whole : take i xs ≡ xs = take_all i xs end in
    let all : Wrote old new (lines_of spell xs) = rw whole at front in
    record { untold = all.untold; bytes = all.bytes }

-- ---- the length of an id

name_short : (test : ℕ → Bool) (id : List ℕ) → is_name test id ≡ true → length id ≤ 128
name_short test id e =
    let a = and_parts (leb 1 (length id) && leb (length id) 128) (is_utf8 id && list_all test (chars id)) e in
    let b = and_parts (leb 1 (length id)) (leb (length id) 128) a.0 in
    leb-true (length id) 128 b.1

pub id_is_short : (id : List ℕ) → is_id id ≡ true → length id ≤ 128
unfolding is_id
id_is_short id e = name_short is_id_char id e

pub institution_is_short : (name : List ℕ) → is_institution name ≡ true → length name ≤ 128
unfolding is_institution
institution_is_short name e = name_short is_institution_char name e

-- ---- lines as their fields

pub two_fields : (a b : List ℕ) → a ++ (32 ∷ b) ≡ with_spaces (a ∷ b ∷ [])
unfolding with_spaces
two_fields a b = refl

pub fields_and_last : (a b c : List ℕ) (last : Option (List ℕ))
    → ((a ++ (32 ∷ b)) ++ (32 ∷ c)) ++ option_map_or (λ (name : List ℕ). 32 ∷ name) last [] ≡ with_spaces (a ∷ b ∷ c ∷ option_to_list last)
unfolding with_spaces
fields_and_last a b c None = append-nil ((a ++ (32 ∷ b)) ++ (32 ∷ c)) ∙ append_assoc a (32 ∷ b) (32 ∷ c)
fields_and_last a b c (Some name) = append_assoc (a ++ (32 ∷ b)) (32 ∷ c) (32 ∷ name) ∙ append_assoc a (32 ∷ b) (32 ∷ (c ++ (32 ∷ name)))

pub five_fields : (a b c d e : List ℕ)
    → (((a ++ (32 ∷ b)) ++ (32 ∷ c)) ++ (32 ∷ d)) ++ (32 ∷ e) ≡ with_spaces (a ∷ b ∷ c ∷ d ∷ e ∷ [])
unfolding with_spaces
five_fields a b c d e = simp append_assoc
