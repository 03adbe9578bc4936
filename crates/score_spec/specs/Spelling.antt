-- Value texts: how a value is spelled, and which number each spelling is.
use Rattle.std.specs.Prelude.{◌≡◌, ℕ, ◌+◌, ◌*◌, ◌^◌, ◌<◌, ◌≤◌, ◌⊎◌, ℤ, pos, neg_ℤ, List, [], ◌∷◌, ◌++◌, length, take, Option, Some, None, Result, Ok, Err, IfSome}
use Rattle.std.specs.Str.Parse.{AllDigits, digits_value}
use Rattle.score_spec.specs.declared.scan.Sign.{Sign}
use Rattle.score_spec.specs.declared.scan.Sign.TheVariants.{Absent, Plus, Minus}
use Rattle.score_spec.specs.declared.numbers.NumberFault.{NumberFault}
use Rattle.score_spec.specs.declared.numbers.NumberFault.TheVariants.{BadNumber, OutOfRange}
use Rattle.score_spec.specs.Magnitude.{rounded}

-- `e` or `E`, a sign that may be absent, and digits
pub record Exponent : Type 0 where
  pub letter : ℕ
  pub sign : Sign
  pub digits : List ℕ

-- a sign that may be absent, digits, the digits behind a point where there is one, and an exponent where there is one
pub record Spelling : Type 0 where
  pub sign : Sign
  pub whole : List ℕ
  pub point : Option (List ℕ)
  pub exponent : Option Exponent

abbrev pub sign_text : Sign → List ℕ
sign_text Absent = []
sign_text Plus = 43 ∷ []
sign_text Minus = 45 ∷ []

abbrev pub point_text : Option (List ℕ) → List ℕ
point_text None = []
point_text (Some digits) = 46 ∷ digits

abbrev pub exponent_text : Option Exponent → List ℕ
exponent_text None = []
exponent_text (Some e) = e.letter ∷ (sign_text e.sign ++ e.digits)

-- the text of a spelling
abbrev pub text_of : Spelling → List ℕ
text_of s = sign_text s.sign ++ (s.whole ++ (point_text s.point ++ exponent_text s.exponent))

-- the digits behind the point
abbrev pub fraction_of : Option (List ℕ) → List ℕ
fraction_of None = []
fraction_of (Some digits) = digits

abbrev pub mantissa_of : List ℕ → Option (List ℕ) → List ℕ
mantissa_of whole None = whole
mantissa_of whole (Some digits) = whole ++ digits

-- the digits before and behind the point
abbrev pub mantissa : Spelling → List ℕ
mantissa s = mantissa_of s.whole s.point

-- `e` or `E` with one to three digits
pub record IsExponent (e : Exponent) : Type 0 where
  pub letter : (e.letter ≡ 101) ⊎ (e.letter ≡ 69)
  pub digits : AllDigits 10 e.digits
  pub some : 1 ≤ length e.digits
  pub few : length e.digits ≤ 3

-- a mantissa of 1 to 36 digits, and an exponent, if any, of 1 to 3 digits
pub record IsSpelling (s : Spelling) : Type 0 where
  pub digits : AllDigits 10 (mantissa s)
  pub some : 1 ≤ length (mantissa s)
  pub few : length (mantissa s) ≤ 36
  pub exponent : IfSome s.exponent IsExponent

-- the text is one that a value may have
abbrev pub IsValueText : List ℕ → Type 0
IsValueText text = (s : Spelling) × (IsSpelling s × (text ≡ text_of s))

-- some value text begins so
abbrev pub BeginsValueText : List ℕ → Type 0
BeginsValueText front = (rest : List ℕ) × IsValueText (front ++ rest)

-- by which power of ten an exponent multiplies
abbrev pub raised_by : Sign → ℕ → ℕ
raised_by Absent n = n
raised_by Plus n = n
raised_by Minus n = 0

-- by which power of ten it divides
abbrev pub lowered_by : Sign → ℕ → ℕ
lowered_by Absent n = 0
lowered_by Plus n = 0
lowered_by Minus n = n

abbrev pub raised : Option Exponent → ℕ
raised None = 0
raised (Some e) = raised_by e.sign (digits_value 10 e.digits)

abbrev pub lowered : Option Exponent → ℕ
lowered None = 0
lowered (Some e) = lowered_by e.sign (digits_value 10 e.digits)

-- The exact magnitude in ten-thousandths is top / bottom.
abbrev pub top : Spelling → ℕ
top s = digits_value 10 (mantissa s) * 10 ^ (4 + raised s.exponent)

abbrev pub bottom : Spelling → ℕ
bottom s = 10 ^ (length (fraction_of s.point) + lowered s.exponent)

-- the exact value is from -10 to 10
abbrev pub IsInRange : Spelling → Type 0
IsInRange s = top s ≤ 100000 * bottom s

abbrev pub signed : Sign → ℕ → ℤ
signed Absent n = pos n
signed Plus n = pos n
signed Minus n = neg_ℤ (pos n)

-- the value in ten-thousandths, rounded, where halves go away from zero
abbrev pub rounded_value : Spelling → ℤ
rounded_value s = signed s.sign (rounded (top s) (bottom s))

-- the text is no value text, and place is the length of its longest prefix with which some value text begins
pub record IsBadPlace (text : List ℕ) (place : ℕ) : Type 0 where
  pub refused : ¬ IsValueText text
  pub within : place ≤ length text
  pub begins : BeginsValueText (take place text)
  pub longest : (n : ℕ) → place < n → n ≤ length text → ¬ BeginsValueText (take n text)

-- what the grammar says of the answer to a text
abbrev pub MeetsGrammar : List ℕ → Result ℤ NumberFault → Type 0
MeetsGrammar text (Ok value) = (s : Spelling) × (IsSpelling s × (text ≡ text_of s) × IsInRange s × (value ≡ rounded_value s))
MeetsGrammar text (Err OutOfRange) = (s : Spelling) × (IsSpelling s × (text ≡ text_of s) × (¬ IsInRange s))
MeetsGrammar text (Err (BadNumber place)) = IsBadPlace text place
