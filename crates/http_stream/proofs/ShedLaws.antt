-- The front stays where blank bytes before it are dropped and no longer counted.
use Rattle.std.proofs.Common.{◌≡◌, ℕ, ◌+◌, ◌<◌, ◌≤◌, Bool, true, false, leb, ltb, List, [], ◌∷◌, ◌++◌, length, take, drop, Option, None, Some, refl, sym, ap, subst, ◌∙◌, arith}
use Rattle.std.specs.Prelude.{unwrap_or}
use Rattle.std.proofs.lemmas.List.{length-append, length-drop, drop-drop, drop-append-le}
use borrow.Author.Tests.{leb-true, leb-false, le-leb, ltb-true, lt-ltb}
use Rattle.http_framing.specs.Fronts.{Front, HasFront, behind_head, between, front_at, front_of, in_head}
use Rattle.http_framing.specs.Heads.{HeadValue, IsRead, blank_length, head_bytes, head_end, skip_blank}
use Rattle.http_stream.specs.Intakes.{Shed}
use Rattle.http_stream.proofs.Blanks.{blank_drop, blank_grows, blank_within}

leb_same : (a b c d : ℕ) → (a ≤ b → c ≤ d) → (c ≤ d → a ≤ b) → leb a b ≡ leb c d
leb_same a b c d f g = by_test (leb a b) (leb c d) refl refl
  where
    by_test : (p q : Bool) → leb a b ≡ p → leb c d ≡ q → leb a b ≡ leb c d
    by_test true q e h = e ∙ sym (le-leb c d (f (leb-true a b e)))
    by_test false true e h = le-leb a b (g (leb-true c d h)) ∙ sym h
    by_test false false e h = e ∙ sym h

ltb_same : (a b c d : ℕ) → (a < b → c < d) → (c < d → a < b) → ltb a b ≡ ltb c d
ltb_same a b c d f g = by_test (ltb a b) (ltb c d) refl refl
  where
    by_test : (p q : Bool) → ltb a b ≡ p → ltb c d ≡ q → ltb a b ≡ ltb c d
    by_test true q e h = e ∙ sym (lt-ltb c d (f (ltb-true a b e)))
    by_test false true e h = lt-ltb a b (g (ltb-true c d h)) ∙ sym h
    by_test false false e h = e ∙ sym h

-- what the front is made of, with a room, a length and a count of blank bytes that are less by the same number
front_less : (room left k : ℕ) (over : Bool) (bytes rest : List ℕ) (read : Option HeadValue) (behind : List ℕ) (end : Option ℕ)
    → room ≡ k + left → length bytes ≡ k + length rest → blank_length bytes ≡ k + blank_length rest
    → front_at left over rest read behind end ≡ front_at room over bytes read behind end
front_less room left k over bytes rest read [] end r l b =
    let full : leb left (length rest) ≡ leb room (length bytes) =
    leb_same left (length rest) room (length bytes) (λ h. omega arith) (λ h. omega arith) in
    ap (λ f. between f over) full
front_less room left k over bytes rest read (x ∷ xs) None r l b =
    let full : leb left (length rest) ≡ leb room (length bytes) =
    leb_same left (length rest) room (length bytes) (λ h. omega arith) (λ h. omega arith) in
    ap (λ f. in_head f over (length (x ∷ xs))) full
front_less room left k over bytes rest read (x ∷ xs) (Some end) r l b =
    let full : leb left (length rest) ≡ leb room (length bytes) =
    leb_same left (length rest) room (length bytes) (λ h. omega arith) (λ h. omega arith) in
    let more : ltb (blank_length rest + end) left ≡ ltb (blank_length bytes + end) room =
    ltb_same (blank_length rest + end) left (blank_length bytes + end) room (λ h. omega arith) (λ h. omega arith) in
    ap (λ f. behind_head f over (ltb (blank_length rest + end) left) read (drop end (x ∷ xs))) full
    ∙ ap (λ m. behind_head (leb room (length bytes)) over m read (drop end (x ∷ xs))) more

pub shed_length : (room : ℕ) (bytes : List ℕ) (left : ℕ) (rest : List ℕ) → (s : Shed room bytes left rest) → length bytes ≡ s.count + length rest
shed_length room bytes left rest s =
    omega (arith, s.blank, blank_within bytes, ap length s.behind, length-drop s.count bytes)

pub shed_front : (room : ℕ) (bytes : List ℕ) (left : ℕ) (rest : List ℕ) (over : Bool) (front : Front) → Shed room bytes left rest
    → HasFront left over rest front → HasFront room over bytes front
shed_front room bytes left rest over front s (read, is, same) =
    let blank : blank_length bytes ≡ s.count + blank_length rest =
    blank_drop s.count bytes s.blank ∙ ap (λ (xs : List ℕ). s.count + blank_length xs) (sym s.behind) in
    let skip : skip_blank rest ≡ skip_blank bytes =
    ap (λ (xs : List ℕ). drop (blank_length rest) xs) s.behind ∙ drop-drop (blank_length rest) s.count bytes ∙ ap (λ n. drop n bytes) (sym blank) in
    let text : head_bytes rest ≡ head_bytes bytes = ap (λ (xs : List ℕ). take (unwrap_or (head_end xs) 0) xs) skip in
    let there : front_of left over rest read ≡ front_of room over bytes read =
    ap (λ (xs : List ℕ). front_at left over rest read xs (head_end xs)) skip
    ∙ front_less room left s.count over bytes rest read (skip_blank bytes) (head_end (skip_blank bytes)) s.counted (shed_length room bytes left rest s) blank in
    (read, subst (λ (xs : List ℕ). IsRead xs read) text is, same ∙ there)

pub shed_none : (room : ℕ) (bytes : List ℕ) → Shed room bytes room bytes
shed_none room bytes = record { count = 0; blank = omega arith; behind = refl; counted = omega arith }

pub shed_more : (room : ℕ) (bytes : List ℕ) (left : ℕ) (rest more : List ℕ) → Shed room bytes left rest → Shed room (bytes ++ more) left (rest ++ more)
shed_more room bytes left rest more s = record {
  count = s.count;
  blank = omega (arith, s.blank, blank_grows bytes more);
  behind = ap (λ (xs : List ℕ). xs ++ more) s.behind ∙ sym (drop-append-le s.count bytes more (omega (arith, s.blank, blank_within bytes)));
  counted = s.counted;
}

pub shed_then : (room : ℕ) (bytes : List ℕ) (left : ℕ) (rest : List ℕ) (last : ℕ) (end : List ℕ) → Shed room bytes left rest → Shed left rest last end
    → Shed room bytes last end
shed_then room bytes left rest last end s t =
    let blank : blank_length bytes ≡ s.count + blank_length rest =
    blank_drop s.count bytes s.blank ∙ ap (λ (xs : List ℕ). s.count + blank_length xs) (sym s.behind) in
    record {
      count = s.count + t.count;
      blank = omega (arith, t.blank);
      behind = t.behind ∙ ap (λ (xs : List ℕ). drop t.count xs) s.behind ∙ drop-drop t.count s.count bytes;
      counted = omega (arith, s.counted, t.counted);
    }
