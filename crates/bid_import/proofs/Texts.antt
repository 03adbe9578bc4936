-- Records of text.
use Rattle.std.proofs.Common.{◌≡◌, ◌≢◌, ℕ, zero, suc, ◌<◌, length, Some, None, arith, List, [], ◌∷◌, Bool, true, false, refl, sym, ap, ◌∙◌}
use Rattle.std.specs.Prelude.{◌&&◌}
use Rattle.std.specs.List.{list_all}
use Rattle.std.specs.Str.{is_utf8, bytes_eq}
use Rattle.std.proofs.lemmas.Str.{IsUtf8-from_is_utf8, is_utf8-from_IsUtf8}
use Rattle.std.proofs.lemmas.Option.{same_Some}
use Rattle.csv.specs.Records.{AllText, field_at}
use Rattle.bid_import.specs.Fields.{three_of, four_of}
use Rattle.bid_import.specs.Files.{is_header}

pub all-text : (fields : List (List ℕ)) → AllText fields → list_all is_utf8 fields ≡ true
unfolding AllText
all-text [] h = refl
all-text (f ∷ fs) h = let first = is_utf8-from_IsUtf8 f h.0 in let rest = all-text fs h.1 in rw (first, rest) refl

and-parts : (a b : Bool) → a && b ≡ true → (a ≡ true) × (b ≡ true)
and-parts true b h = (refl, h)
and-parts false b h = absurd (cc)

pub texts-all : (fields : List (List ℕ)) → list_all is_utf8 fields ≡ true → AllText fields
unfolding AllText
texts-all [] h = tt
texts-all (f ∷ fs) h = let two = and-parts (is_utf8 f) (list_all is_utf8 fs) h in (IsUtf8-from_is_utf8 f two.0, texts-all fs two.1)

-- fields by their places

pub field-there : (fs : List (List ℕ)) (i : ℕ) → i < length fs → field_at fs i ≡ None → ⊥
unfolding field_at
field-there [] i lt h = omega arith
field-there (f ∷ fs) zero lt h = absurd (cc)
field-there (f ∷ fs) (suc i) lt h = field-there fs i (omega arith) h

pub three-none : (fs : List (List ℕ)) → length fs ≢ 3 → None ≡ three_of fs
three-none [] h = refl
three-none (a ∷ []) h = refl
three-none (a ∷ b ∷ []) h = refl
three-none (a ∷ b ∷ c ∷ []) h = absurd (h refl)
three-none (a ∷ b ∷ c ∷ d ∷ more) h = refl

pub three-some : (fs : List (List ℕ)) (x y z : List ℕ) → length fs ≡ 3 → field_at fs 0 ≡ Some x → field_at fs 1 ≡ Some y → field_at fs 2 ≡ Some z → Some (x, y, z) ≡ three_of fs
unfolding field_at
three-some [] x y z n p q r = absurd (omega arith)
three-some (a ∷ []) x y z n p q r = absurd (omega arith)
three-some (a ∷ b ∷ []) x y z n p q r = absurd (omega arith)
three-some (a ∷ b ∷ c ∷ []) x y z n p q r = let p' : a ≡ x = cc in let q' : b ≡ y = cc in let r' : c ≡ z = cc in rw (p', q', r') refl
three-some (a ∷ b ∷ c ∷ d ∷ more) x y z n p q r = absurd (omega arith)

pub four-none : (fs : List (List ℕ)) → length fs ≢ 4 → None ≡ four_of fs
four-none [] h = refl
four-none (a ∷ []) h = refl
four-none (a ∷ b ∷ []) h = refl
four-none (a ∷ b ∷ c ∷ []) h = refl
four-none (a ∷ b ∷ c ∷ d ∷ []) h = absurd (h refl)
four-none (a ∷ b ∷ c ∷ d ∷ e ∷ more) h = refl

pub four-some : (fs : List (List ℕ)) (x y z w : List ℕ) → length fs ≡ 4 → field_at fs 0 ≡ Some x → field_at fs 1 ≡ Some y → field_at fs 2 ≡ Some z → field_at fs 3 ≡ Some w → Some (x, y, z, w) ≡ four_of fs
unfolding field_at
four-some [] x y z w n p q r s = absurd (omega arith)
four-some (a ∷ []) x y z w n p q r s = absurd (omega arith)
four-some (a ∷ b ∷ []) x y z w n p q r s = absurd (omega arith)
four-some (a ∷ b ∷ c ∷ []) x y z w n p q r s = absurd (omega arith)
four-some (a ∷ b ∷ c ∷ d ∷ []) x y z w n p q r s = let p' : a ≡ x = cc in let q' : b ≡ y = cc in let r' : c ≡ z = cc in let s' : d ≡ w = cc in rw (p', q', r', s') refl
four-some (a ∷ b ∷ c ∷ d ∷ e ∷ more) x y z w n p q r s = absurd (omega arith)

-- the names of columns

abbrev Three : Type 0
Three = List ℕ × List ℕ × List ℕ

abbrev Four : Type 0
Four = List ℕ × List ℕ × List ℕ × List ℕ

and-none : (b : Bool) → (b && false) ≡ false
and-none true = refl
and-none false = refl

and-all : (b : Bool) → (b && true) ≡ b
and-all true = refl
and-all false = refl

and-assoc : (a b c : Bool) → (a && (b && c)) ≡ ((a && b) && c)
and-assoc true b c = refl
and-assoc false b c = refl

pub header-three : (a b c : List ℕ) (fs : List (List ℕ)) (x y z : List ℕ) → Some (x, y, z) ≡ three_of fs → (bytes_eq a x && (bytes_eq b y && bytes_eq c z)) ≡ is_header (a ∷ b ∷ c ∷ []) fs
header-three a b c [] x y z h = absurd (cc)
header-three a b c (p ∷ []) x y z h = absurd (cc)
header-three a b c (p ∷ q ∷ []) x y z h = absurd (cc)
header-three a b c (p ∷ q ∷ r ∷ []) x y z h =
    let same = same_Some (x, y, z) (p, q, r) h in
    let p' : x ≡ p = ap (λ (t : Three). t.0) same in let q' : y ≡ q = ap (λ (t : Three). t.1) same in let r' : z ≡ r = ap (λ (t : Three). t.2) same in
    rw (p', q', r') (ap (λ t. bytes_eq a p && (bytes_eq b q && t)) (sym (and-all (bytes_eq c r))))
header-three a b c (p ∷ q ∷ r ∷ s ∷ more) x y z h = absurd (cc)

pub no_header-three : (a b c : List ℕ) (fs : List (List ℕ)) → None ≡ three_of fs → false ≡ is_header (a ∷ b ∷ c ∷ []) fs
no_header-three a b c [] h = refl
no_header-three a b c (p ∷ []) h = sym (and-none (bytes_eq a p))
no_header-three a b c (p ∷ q ∷ []) h = sym (ap (λ t. bytes_eq a p && t) (and-none (bytes_eq b q)) ∙ and-none (bytes_eq a p))
no_header-three a b c (p ∷ q ∷ r ∷ []) h = absurd (cc)
no_header-three a b c (p ∷ q ∷ r ∷ s ∷ more) h =
    sym (ap (λ t. bytes_eq a p && (bytes_eq b q && t)) (and-none (bytes_eq c r)) ∙ ap (λ t. bytes_eq a p && t) (and-none (bytes_eq b q)) ∙ and-none (bytes_eq a p))

pub header-four : (a b c d : List ℕ) (fs : List (List ℕ)) (x y z w : List ℕ) → Some (x, y, z, w) ≡ four_of fs → ((bytes_eq a x && (bytes_eq b y && bytes_eq c z)) && bytes_eq d w) ≡ is_header (a ∷ b ∷ c ∷ d ∷ []) fs
header-four a b c d [] x y z w h = absurd (cc)
header-four a b c d (p ∷ []) x y z w h = absurd (cc)
header-four a b c d (p ∷ q ∷ []) x y z w h = absurd (cc)
header-four a b c d (p ∷ q ∷ r ∷ []) x y z w h = absurd (cc)
header-four a b c d (p ∷ q ∷ r ∷ s ∷ []) x y z w h =
    let same = same_Some (x, y, z, w) (p, q, r, s) h in
    let p' : x ≡ p = ap (λ (t : Four). t.0) same in let q' : y ≡ q = ap (λ (t : Four). t.1) same in let r' : z ≡ r = ap (λ (t : Four). t.2) same in let s' : w ≡ s = ap (λ (t : Four). t.3) same in
    let left : ((bytes_eq a p && (bytes_eq b q && bytes_eq c r)) && bytes_eq d s) ≡ (bytes_eq a p && (bytes_eq b q && (bytes_eq c r && bytes_eq d s))) =
    sym (and-assoc (bytes_eq a p) (bytes_eq b q && bytes_eq c r) (bytes_eq d s)) ∙ ap (λ t. bytes_eq a p && t) (sym (and-assoc (bytes_eq b q) (bytes_eq c r) (bytes_eq d s)))
    in
    rw (p', q', r', s') (left ∙ ap (λ t. bytes_eq a p && (bytes_eq b q && (bytes_eq c r && t))) (sym (and-all (bytes_eq d s))))
header-four a b c d (p ∷ q ∷ r ∷ s ∷ e ∷ more) x y z w h = absurd (cc)

pub no_header-four : (a b c d : List ℕ) (fs : List (List ℕ)) → None ≡ four_of fs → false ≡ is_header (a ∷ b ∷ c ∷ d ∷ []) fs
no_header-four a b c d [] h = refl
no_header-four a b c d (p ∷ fs) h = shorter (bytes_eq a p) (no_header-three' fs h)
  where
    shorter : (first : Bool) → is_header (b ∷ c ∷ d ∷ []) fs ≡ false → false ≡ (first && is_header (b ∷ c ∷ d ∷ []) fs)
    shorter first e = sym (ap (λ t. first && t) e ∙ and-none first)

    no_header-three' : (fs : List (List ℕ)) → None ≡ four_of (p ∷ fs) → is_header (b ∷ c ∷ d ∷ []) fs ≡ false
    no_header-three' [] h = refl
    no_header-three' (q ∷ []) h = sym (no_header-three b c d (q ∷ []) refl)
    no_header-three' (q ∷ r ∷ []) h = sym (no_header-three b c d (q ∷ r ∷ []) refl)
    no_header-three' (q ∷ r ∷ s ∷ []) h = absurd (cc)
    no_header-three' (q ∷ r ∷ s ∷ e ∷ more) h = sym (no_header-three b c d (q ∷ r ∷ s ∷ e ∷ more) refl)
