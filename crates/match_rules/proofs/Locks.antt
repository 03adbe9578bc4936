-- The first locked pair that a piece lacks, by a walk over the locked places.
use Rattle.std.proofs.Common.{◌≡◌, ℕ, zero, suc, ◌+◌, ◌<◌, Bool, true, false, eqb, not, ◌&&◌, cond, List, [], ◌∷◌, ◌++◌, length, take, get_or, drop, Option, Some, None, refl, sym, ap, ◌∙◌}
use Rattle.std.proofs.lemmas.List.{take_more, take-append-drop, drop_more}
use Rattle.match_rules.specs.declared.breaks.Break.{Break}
use Rattle.match_rules.specs.declared.breaks.Break.TheVariants.{Lock}
use Rattle.match_rules.specs.Rules.{RulesValue, is_locked, locked_below, locked_places}
use Rattle.match_rules.specs.Assignments.{holds}
use Rattle.match_rules.specs.Breaks.{unless, lock_break}
use Rattle.match_rules.specs.First.{first_of_two, first_below}

-- the first answer over a list
abbrev pub first_in : {X : Type 0} → List ℕ → (ℕ → Option X) → Option X
first_in [] f = None
first_in (e ∷ places) f = first_of_two (f e) (first_in places f)

-- the break of a place that isn't there
abbrev pub lack : ℕ → List ℕ → ℕ → Option Break
lack k places e = unless (not (eqb (holds places e) 0)) (Lock k e)

two-none : {X : Type 0} (a : Option X) → first_of_two a None ≡ a
two-none None = refl
two-none (Some x) = refl

two_assoc : {X : Type 0} (a b c : Option X) → first_of_two a (first_of_two b c) ≡ first_of_two (first_of_two a b) c
two_assoc None b c = refl
two_assoc (Some x) b c = refl

first_in-append : {X : Type 0} (xs ys : List ℕ) (f : ℕ → Option X) → first_in (xs ++ ys) f ≡ first_of_two (first_in xs f) (first_in ys f)
first_in-append [] ys f = refl
first_in-append (e ∷ xs) ys f = rw (first_in-append xs ys f) (two_assoc (f e) (first_in xs f) (first_in ys f))

locks-step : (locked : Bool) (so_far : Option Break) (xs : List ℕ) (k n : ℕ) (places : List ℕ) → so_far ≡ first_in xs (lack k places)
    → first_of_two so_far (unless (not (locked && eqb (holds places n) 0)) (Lock k n)) ≡ first_in (cond locked (xs ++ (n ∷ [])) xs) (lack k places)
locks-step true so_far xs k n places e =
    rw e (sym (first_in-append xs (n ∷ []) (lack k places) ∙ ap (first_of_two (first_in xs (lack k places))) (two-none (lack k places n))))
locks-step false so_far xs k n places e = rw e (two-none (first_in xs (lack k places)))

-- the locked places alone can break the clause
locks-below : (rules : RulesValue) (k : ℕ) (places : List ℕ) (n : ℕ) → first_below n (lock_break rules k places) ≡ first_in (locked_below rules n) (lack k places)
locks-below rules k places zero = refl
locks-below rules k places (suc n) =
    locks-step (is_locked rules n) (first_below n (lock_break rules k places)) (locked_below rules n) k n places (locks-below rules k places n)

pub locks-in : (rules : RulesValue) (k : ℕ) (places : List ℕ) → first_below (length rules.pairs) (lock_break rules k places) ≡ first_in (locked_places rules) (lack k places)
unfolding locked_places
locks-in rules k places = locks-below rules k places (length rules.pairs)

two : {X : Type 0} (a b : Option X) → a ≡ None → b ≡ None → first_of_two a (first_of_two b None) ≡ None
two a b none_a none_b = rw none_a (rw none_b refl)

-- one place more
pub first_in-more : {X : Type 0} (xs : List ℕ) (i : ℕ) (f : ℕ → Option X) → i < length xs → first_in (take i xs) f ≡ None → f (get_or xs i 0) ≡ None → first_in (take (i + 1) xs) f ≡ None
first_in-more xs i f h none here =
    rw (take_more xs i 0 h) (first_in-append (take i xs) (get_or xs i 0 ∷ []) f ∙ two (first_in (take i xs) f) (f (get_or xs i 0)) none here)

first_found : {X : Type 0} (a b c : Option X) (x : X) → a ≡ None → b ≡ Some x → first_of_two a (first_of_two b c) ≡ Some x
first_found a b c x none here = rw none (rw here refl)

-- the first that is there
pub first_in-found : {X : Type 0} (xs : List ℕ) (i : ℕ) (f : ℕ → Option X) (x : X) → i < length xs → first_in (take i xs) f ≡ None → f (get_or xs i 0) ≡ Some x → first_in xs f ≡ Some x
first_in-found xs i f x h none here =
    let split : xs ≡ take i xs ++ (get_or xs i 0 ∷ drop (i + 1) xs) = sym (take-append-drop i xs) ∙ ap (λ ys. take i xs ++ ys) (drop_more xs i 0 h) in
    ap (λ ys. first_in ys f) split ∙ first_in-append (take i xs) (get_or xs i 0 ∷ drop (i + 1) xs) f
    ∙ first_found (first_in (take i xs) f) (f (get_or xs i 0)) (first_in (drop (i + 1) xs) f) x none here

pub lack-some : (k e : ℕ) (places : List ℕ) (there : Bool) → there ≡ not (eqb (holds places e) 0) → there ≡ false → lack k places e ≡ Some (Lock k e)
lack-some k e places there is no_place = rw (sym is ∙ no_place) refl

pub lack-none : (k e : ℕ) (places : List ℕ) (there : Bool) → there ≡ not (eqb (holds places e) 0) → there ≡ true → lack k places e ≡ None
lack-none k e places there is place = rw (sym is ∙ place) refl
