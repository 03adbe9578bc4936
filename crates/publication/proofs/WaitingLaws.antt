-- Texts that wait, put one behind the other.
use Rattle.std.proofs.Common.{◌≡◌, ℕ, ◌+◌, ◌<◌, ◌≤◌, List, [], ◌∷◌, ◌++◌, length, get_or, take, drop, refl, sym, ap, ◌∙◌, append_assoc, add-one}
use Rattle.std.proofs.lemmas.Grind.{flat_map-append}
use Rattle.std.proofs.lemmas.List.{take_more, take_all, take-append-drop, append-nil}
use Rattle.std.proofs.lemmas.Result.{MatchResult-from_err}
use Rattle.std.proofs.Math.Seq.{drop-cons}
use Rattle.std.specs.List.{flat_map}
use Rattle.std.specs.Prelude.{Option, Result, Ok, Err, IsErr, map, decimal}
use Rattle.edge_io.specs.Told.{told, AddsAll, GrowsByFront}
use Rattle.text_lines.specs.Fields.{with_spaces}
use Rattle.text_lines.specs.Texts.{line_of, lines_of}
use Rattle.publication.specs.Waiting.{Leaves, Puts, next_field}

pub puts_none : {T E : Type 0} {o : Option (List ℕ)} {w : List ℕ} {v : T} → Puts {E = E} o w o w (Ok v) []
puts_none {o = o} {w = w} = record { untold = λ t. t; bytes = λ t. ([], append-nil w, sym (append-nil (told o))) }

leaves_then : (old mid new w c l p q : List ℕ) → Leaves old mid (w ++ p) c → Leaves mid new (c ++ q) l → Leaves old new (w ++ (p ++ q)) l
leaves_then old mid new w c l p q (f, cut, grown) (g, more, longer) = (
  f ++ g,
  sym (append_assoc w p q) ∙ ap (λ xs. xs ++ q) cut ∙ append_assoc f c q ∙ ap (λ xs. f ++ xs) more ∙ sym (append_assoc f g l),
  longer ∙ ap (λ xs. xs ++ g) grown ∙ append_assoc old f g,
)

-- after the second text
pub puts_then : {S T E F : Type 0} {o m n : Option (List ℕ)} {w c l p q : List ℕ} {v : S} {r : Result T E}
    → Puts {E = F} o w m c (Ok v) p → Puts m c n l r q → Puts o w n l r (p ++ q)
puts_then {o = o} {m = m} {n = n} {w = w} {c = c} {l = l} {p = p} {q = q} {r = Ok x} first second = record {
  untold = λ t. first.untold (second.untold t);
  bytes = λ t. leaves_then (told o) (told m) (told n) w c l p q (first.bytes (second.untold t)) (second.bytes t);
}
puts_then {o = o} {m = m} {n = n} {w = w} {c = c} {p = p} {q = q} {r = Err e} first second = record {
  untold = λ t. first.untold (second.untold t);
  bytes = λ t.
      let (f, rest, cut, grown) = second.bytes t in
      let all = leaves_then (told o) (told m) (told n) w c rest p q (first.bytes (second.untold t)) (f, cut, grown) in
      (all.0, rest, all.1, all.2);
}

-- where the first text fails
pub puts_front : {S T E F : Type 0} {o n : Option (List ℕ)} {w l k p : List ℕ} {e : F} {r : Result T E} (q : List ℕ)
    → Puts {T = S} o w n l (Err e) p → IsErr r → Puts o w n k r (p ++ q)
puts_front {o = o} {n = n} {w = w} {k = k} {p = p} {r = r} q first failed = record {
  untold = first.untold;
  bytes = λ t. MatchResult-from_err r (λ _. Leaves (told o) (told n) (w ++ (p ++ q)) k) (λ _. GrowsByFront (told o) (told n) (w ++ (p ++ q))) failed (λ _.
      let (f, rest, cut, grown) = first.bytes t in
      (f, rest ++ q, sym (append_assoc w p q) ∙ ap (λ xs. xs ++ q) cut ∙ append_assoc f rest q, grown));
}

-- where the first text fails, and two more were to follow
pub puts_first : {S T E F : Type 0} {o n : Option (List ℕ)} {w l k p : List ℕ} {e : F} {r : Result T E} (q s : List ℕ)
    → Puts {T = S} o w n l (Err e) p → IsErr r → Puts o w n k r (p ++ q ++ s)
puts_first {p = p} q s first failed = rw (append_assoc p q s) (puts_front (q ++ s) first failed)

-- where the second text fails, and more was to follow
pub puts_part : {S T E F G : Type 0} {o m n : Option (List ℕ)} {w c l k p : List ℕ} {v : S} {e : F} {r : Result T E} (q rest : List ℕ)
    → Puts {E = G} o w m c (Ok v) p → Puts {T = T} m c n l (Err e) q → IsErr r → Puts o w n k r (p ++ (q ++ rest))
puts_part {T = T} {k = k} q rest first second failed = puts_then {l = k} first (puts_front rest second failed)

-- behind what waits
pub puts_behind : {S T E F : Type 0} {o n : Option (List ℕ)} {w c l : List ℕ} {v : S} {u : T} (t : List ℕ)
    → Puts {E = E} o w n c (Ok v) [] → l ≡ c ++ t → Puts {E = F} o w n l (Ok u) t
puts_behind {o = o} {n = n} {w = w} {c = c} {l = l} t first is =
    rw is (puts_then {q = t} first (record { untold = λ s. s; bytes = λ s. ([], refl, sym (append-nil (told n))) }))

-- two texts behind what waits
pub puts_both : {S T E F : Type 0} {o n : Option (List ℕ)} {w c l : List ℕ} {v : S} {u : T} (a b : List ℕ)
    → Puts {E = E} o w n c (Ok v) [] → l ≡ c ++ a ++ b → Puts {E = F} o w n l (Ok u) (a ++ b)
puts_both {c = c} a b first is = puts_behind (a ++ b) first (is ∙ append_assoc c a b)

-- all that waits is sent
pub puts_sent : {S T E F : Type 0} {o n : Option (List ℕ)} {w l : List ℕ} {v : S} {u : T}
    → AddsAll {E = E} o n (Ok v) w → l ≡ [] → Puts {E = F} o w n l (Ok u) []
puts_sent {w = w} adds none = rw none (record { untold = adds.untold; bytes = λ t. (w, refl, adds.bytes t) })

pub puts_unsent : {S T E F : Type 0} {o n : Option (List ℕ)} {w l : List ℕ} {e : F} {r : Result T E}
    → AddsAll {T = S} o n (Err e) w → IsErr r → Puts o w n l r []
puts_unsent {o = o} {n = n} {w = w} {l = l} {r = r} adds failed = record {
  untold = adds.untold;
  bytes = λ t. MatchResult-from_err r (λ _. Leaves (told o) (told n) (w ++ []) l) (λ _. GrowsByFront (told o) (told n) (w ++ [])) failed
      (λ _. rw (append-nil w) (adds.bytes t));
}

-- what waits at the end is written
pub wrote_waiting : {S T E F : Type 0} {o m n : Option (List ℕ)} {c p : List ℕ} {v : S} {r : Result T E}
    → Puts {E = F} o [] m c (Ok v) p → AddsAll m n r c → AddsAll o n r p
wrote_waiting {o = o} {c = c} {r = Ok x} first last = record {
  untold = λ t. first.untold (last.untold t);
  bytes = λ t.
      let (f, cut, grown) = first.bytes (last.untold t) in
      last.bytes t ∙ ap (λ xs. xs ++ c) grown ∙ append_assoc (told o) f c ∙ ap (λ xs. told o ++ xs) (sym cut);
}
wrote_waiting {o = o} {c = c} {r = Err e} first last = record {
  untold = λ t. first.untold (last.untold t);
  bytes = λ t.
      let (f, cut, grown) = first.bytes (last.untold t) in
      let (g, rest, more, longer) = last.bytes t in
      (f ++ g, rest, cut ∙ ap (λ xs. f ++ xs) more ∙ sym (append_assoc f g rest), longer ∙ ap (λ xs. xs ++ g) grown ∙ append_assoc (told o) f g);
}

pub wrote_part : {S T E F : Type 0} {o n : Option (List ℕ)} {l p : List ℕ} {e : F} {r : Result T E}
    → Puts {T = S} o [] n l (Err e) p → IsErr r → AddsAll o n r p
wrote_part {o = o} {n = n} {p = p} {r = r} first failed = record {
  untold = first.untold;
  bytes = λ t. MatchResult-from_err r (λ _. told n ≡ told o ++ p) (λ _. GrowsByFront (told o) (told n) p) failed (λ _. first.bytes t);
}

-- ---- texts one by one

-- all texts so far were put
abbrev pub Put : Option (List ℕ) → List ℕ → Option (List ℕ) → List ℕ → List ℕ → Type 0
Put o w n l text = Puts {T = ℕ} {E = ℕ} o w n l (Ok 0) text

pub put_more : {A S E : Type 0} (f : A → List ℕ) (xs : List A) (i : ℕ) (x d : A) (o m n : Option (List ℕ)) (w c l : List ℕ) (v : S) → i < length xs → x ≡ get_or xs i d
    → Put o w m c (flat_map f (take i xs)) → Puts {E = E} m c n l (Ok v) (f x) → Put o w n l (flat_map f (take (i + 1) xs))
put_more f xs i x d o m n w c l v below is front puts =
    let next : flat_map f (take (i + 1) xs) ≡ flat_map f (take i xs) ++ f x =
    ap (flat_map f) (take_more xs i d below) ∙ flat_map-append f (take i xs) (get_or xs i d ∷ [])
    ∙ ap (λ y. flat_map f (take i xs) ++ flat_map f (y ∷ [])) (sym is)
    ∙ ap (λ bs. flat_map f (take i xs) ++ bs) (append-nil (f x)) in
    let last : Put m c n l (f x) = record { untold = puts.untold; bytes = puts.bytes } in
    rw next (puts_then front last)

pub put_fails : {A S T E F : Type 0} (f : A → List ℕ) (xs : List A) (i : ℕ) (x d : A) (o m n : Option (List ℕ)) (w c l k : List ℕ) (e : E) (r : Result T F)
    → i < length xs → x ≡ get_or xs i d → Put o w m c (flat_map f (take i xs)) → Puts {T = S} m c n l (Err e) (f x) → IsErr r
    → Puts o w n k r (flat_map f xs)
put_fails f xs i x d o m n w c l k e r below is front puts failed =
    let others : drop i xs ≡ x ∷ drop (i + 1) xs =
    let at : drop i xs ≡ get_or xs i d ∷ drop (i + 1) xs = rw add-one (drop-cons xs i d below) in
    at ∙ ap (λ y. y ∷ drop (i + 1) xs) (sym is) in
    let whole : flat_map f xs ≡ flat_map f (take i xs) ++ (f x ++ flat_map f (drop (i + 1) xs)) =
    ap (flat_map f) (sym (take-append-drop i xs)) ∙ flat_map-append f (take i xs) (drop i xs)
    ∙ ap (λ ys. flat_map f (take i xs) ++ flat_map f ys) others in
    rw whole (puts_then front (puts_front (flat_map f (drop (i + 1) xs)) puts failed))

pub put_all : {A T E : Type 0} (f : A → List ℕ) (xs : List A) (i : ℕ) (o n : Option (List ℕ)) (w l : List ℕ) (v : T) → length xs ≤ i
    → Put o w n l (flat_map f (take i xs)) → Puts {E = E} o w n l (Ok v) (flat_map f xs)
put_all f xs i o n w l v end front =
    let whole : take i xs ≡ xs = take_all i xs end in
    let all : Put o w n l (flat_map f xs) = rw whole at front in
    record { untold = all.untold; bytes = all.bytes }

-- ---- lines and fields

abbrev pub text_line : {A : Type 0} → (A → List ℕ) → A → List ℕ
text_line spell x = line_of (spell x)

pub lines_are : {A : Type 0} (spell : A → List ℕ) (xs : List A) → lines_of spell xs ≡ flat_map (text_line spell) xs
unfolding lines_of
lines_are spell [] = refl
lines_are spell (x ∷ xs) = ap (λ (bs : List ℕ). line_of (spell x) ++ bs) (lines_are spell xs)

pub fields_are : (word : List ℕ) (numbers : List ℕ) → with_spaces (word ∷ map decimal numbers) ≡ word ++ flat_map next_field numbers
unfolding with_spaces
fields_are word [] = sym (append-nil word)
fields_are word (n ∷ ns) = ap (λ (bs : List ℕ). word ++ (32 ∷ bs)) (fields_are (decimal n) ns)
