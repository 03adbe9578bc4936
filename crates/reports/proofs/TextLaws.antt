-- Texts written one behind the other, and lines as their fields.
use Rattle.std.proofs.Common.{Bool, true, ◌&&◌, leb, ◌≡◌, ℕ, zero, suc, ◌+◌, ◌<◌, ◌≤◌, List, [], ◌∷◌, ◌++◌, length, get_or, refl, sym, ap, ◌∙◌, append_assoc, arith, inl, inr}
use Rattle.std.proofs.lemmas.Bool.{cases_lt, and_parts, leb-true}
use Rattle.std.proofs.lemmas.List.{append-nil}
use Rattle.std.proofs.lemmas.Result.{MatchResult-from_err}
use Rattle.std.specs.List.{list_all}
use Rattle.std.specs.Prelude.{Option, Result, Ok, Err, IsErr}
use Rattle.std.specs.Str.{chars, is_utf8}
use Rattle.match_rules.specs.Id.{is_id, is_id_char, is_institution, is_institution_char, is_name}
use Rattle.edge_io.specs.Told.{told, AddsAll, GrowsByFront}
use Rattle.edge_io.proofs.Adding.{adds_none, adds_then, adds_front}
use Rattle.text_lines.specs.Texts.{line_of, lines_of}
use Rattle.reports.specs.Lists.{texts_below, with_commas}

-- one text more, as at a step of a loop
pub texts_below_next : (n : ℕ) (f : ℕ → List ℕ) → texts_below (n + 1) f ≡ texts_below n f ++ f n
texts_below_next n f = let e : n + 1 ≡ suc n = omega arith in rw e refl

-- equal texts
pub texts_below-same : (n : ℕ) (f g : ℕ → List ℕ) → ((k : ℕ) → k < n → f k ≡ g k) → texts_below n f ≡ texts_below n g
texts_below-same zero f g same = refl
texts_below-same (suc n) f g same =
    let first : texts_below n f ≡ texts_below n g = texts_below-same n f g (λ k h. same k (omega arith)) in
    let last : f n ≡ g n = same n (omega arith) in
    ap (λ xs. xs ++ f n) first ∙ ap (λ xs. texts_below n g ++ xs) last

-- what stands behind the text of a place
texts_rest : (n e : ℕ) (f : ℕ → List ℕ) → e < n → (rest : List ℕ) × (texts_below n f ≡ texts_below e f ++ (f e ++ rest))
texts_rest zero e f h = absurd (omega arith)
texts_rest (suc n) e f h = elim (cases_lt e n) as (λ _. (rest : List ℕ) × (texts_below (suc n) f ≡ texts_below e f ++ (f e ++ rest))) [
  | inl below ↦
      let r = texts_rest n e f below in
      (r.0 ++ f n, ap (λ xs. xs ++ f n) r.1 ∙ append_assoc (texts_below e f) (f e ++ r.0) (f n) ∙ ap (λ xs. texts_below e f ++ xs) (append_assoc (f e) r.0 (f n)))
  | inr above ↦
      let same : n ≡ e = omega arith in
      ([], ap (λ k. texts_below k f ++ f k) same ∙ ap (λ xs. texts_below e f ++ xs) (sym (append-nil (f e))))
]

-- all texts so far were written
abbrev pub Wrote : Option (List ℕ) → Option (List ℕ) → List ℕ → Type 0
Wrote old new text = AddsAll {T = ℕ} {E = ℕ} old new (Ok 0) text

pub texts_none : (f : ℕ → List ℕ) (o : Option (List ℕ)) → Wrote o o (texts_below 0 f)
texts_none f o = adds_none

pub texts_more : {S E : Type 0} (f : ℕ → List ℕ) (e : ℕ) (o m n : Option (List ℕ)) (v : S)
    → Wrote o m (texts_below e f) → AddsAll {E = E} m n (Ok v) (f e) → Wrote o n (texts_below (e + 1) f)
texts_more f e o m n v front adds =
    let last : Wrote m n (f e) = record { untold = adds.untold; bytes = adds.bytes } in
    rw (texts_below_next e f) (adds_then front last)

pub texts_fail : {S T E F : Type 0} (f : ℕ → List ℕ) (count e : ℕ) (o m n : Option (List ℕ)) (x : E) (r : Result T F)
    → e < count → Wrote o m (texts_below e f) → AddsAll {T = S} m n (Err x) (f e) → IsErr r → AddsAll o n r (texts_below count f)
texts_fail f count e o m n x r below front adds failed =
    let rest = texts_rest count e f below in
    rw rest.1 (adds_then front (adds_front rest.0 adds failed))

pub texts_all : {T E : Type 0} (f : ℕ → List ℕ) (count e : ℕ) (o n : Option (List ℕ)) (v : T) → count ≡ e
    → Wrote o n (texts_below e f) → AddsAll {E = E} o n (Ok v) (texts_below count f)
texts_all f count e o n v end front =
    let all : Wrote o n (texts_below count f) = rw end front in
    record { untold = all.untold; bytes = all.bytes }

-- a fault before anything was written
pub adds_stopped : {T E : Type 0} {o : Option (List ℕ)} {r : Result T E} (text : List ℕ) → IsErr r → AddsAll o o r text
adds_stopped {o = o} {r = r} text failed = record {
  untold = λ t. t;
  bytes = λ t. MatchResult-from_err r (λ _. told o ≡ told o ++ text) (λ _. GrowsByFront (told o) (told o) text) failed
      (λ _. ([], text, refl, sym (append-nil (told o))));
}

-- what was written is written under another error
pub adds_ended : {S T E F : Type 0} {o n : Option (List ℕ)} {p : List ℕ} {v : S} {u : T} → AddsAll {E = F} o n (Ok v) p → AddsAll {E = E} o n (Ok u) p
adds_ended first = record { untold = first.untold; bytes = first.bytes }

-- the lines of items are the texts of their places
lines_at : {A : Type 0} (spell : A → List ℕ) (xs : List A) (d : A) (x : A) → texts_below (length (x ∷ xs)) (λ i. line_of (spell (get_or (x ∷ xs) i d))) ≡ line_of (spell x) ++ texts_below (length xs) (λ i. line_of (spell (get_or xs i d)))
lines_at spell xs d x = shifted (length xs)
  where
    shifted : (n : ℕ) → texts_below (suc n) (λ i. line_of (spell (get_or (x ∷ xs) i d))) ≡ line_of (spell x) ++ texts_below n (λ i. line_of (spell (get_or xs i d)))
    shifted zero = sym (append-nil (line_of (spell x)))
    shifted (suc n) =
        ap (λ ys. ys ++ line_of (spell (get_or xs n d))) (shifted n)
        ∙ append_assoc (line_of (spell x)) (texts_below n (λ i. line_of (spell (get_or xs i d)))) (line_of (spell (get_or xs n d)))

pub lines_below : {A : Type 0} (spell : A → List ℕ) (xs : List A) (d : A) → lines_of spell xs ≡ texts_below (length xs) (λ i. line_of (spell (get_or xs i d)))
unfolding lines_of
lines_below spell [] d = refl
lines_below spell (x ∷ xs) d = ap (λ ys. line_of (spell x) ++ ys) (lines_below spell xs d) ∙ sym (lines_at spell xs d x)

-- ---- lines as their fields

pub two_fields : (a b : List ℕ) → a ++ (44 ∷ b) ≡ with_commas (a ∷ b ∷ [])
unfolding with_commas
two_fields a b = refl

pub three_fields : (a b c : List ℕ) → (a ++ (44 ∷ b)) ++ (44 ∷ c) ≡ with_commas (a ∷ b ∷ c ∷ [])
unfolding with_commas
three_fields a b c = simp append_assoc

pub four_fields : (a b c d : List ℕ) → ((a ++ (44 ∷ b)) ++ (44 ∷ c)) ++ (44 ∷ d) ≡ with_commas (a ∷ b ∷ c ∷ d ∷ [])
unfolding with_commas
four_fields a b c d = simp append_assoc

-- ---- the length of an id

name_short : (test : ℕ → Bool) (id : List ℕ) → is_name test id ≡ true → length id ≤ 128
name_short test id e =
    let a = and_parts (leb 1 (length id) && leb (length id) 128) (is_utf8 id && list_all test (chars id)) e in
    let b = and_parts (leb 1 (length id)) (leb (length id) 128) a.0 in
    leb-true (length id) 128 b.1

pub id_is_short : (id : List ℕ) → is_id id ≡ true → length id ≤ 128
unfolding is_id
id_is_short id e = name_short is_id_char id e

pub institution_is_short : (name : List ℕ) → is_institution name ≡ true → length name ≤ 128
unfolding is_institution
institution_is_short name e = name_short is_institution_char name e
