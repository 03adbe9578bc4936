-- What is known of words that are taken as the chairs of a session.
use Rattle.std.proofs.Common.{◌≡◌, ◌≢◌, ℕ, Bool, true, false, not, ◌&&◌, List, [], ◌∷◌, Option, None, Some, Result, Ok, Err, refl, length, drop, nat_le}
use Rattle.std.specs.Prelude.{codes, if◌then◌else◌, option_map}
use Rattle.std.specs.List.{AllByRecursion, IsDistinct, list_all, list_any}
use Rattle.std.specs.Str.{bytes_eq}
use Rattle.std.proofs.lemmas.Bool.{and_parts, leb-true, or_parts}
use Rattle.std.proofs.lemmas.List.Sums.{AllPass-from_list_all}
use Rattle.std.proofs.lemmas.Map.Keys.{IsDistinct-cons}
use Rattle.std.proofs.lemmas.Map.Made.{AllPairs-from_IsDistinct}
use Rattle.std.proofs.lemmas.Slice.Eq.{bytes_eq-Decides}
use Rattle.desk_keeper.specs.Names.{is_chair_name}
use Rattle.match_rules.specs.declared.answer.Mode.{Mode}
use Rattle.reports.specs.declared.kinds.Report.{Report as Kind}
use Rattle.text_lines.specs.declared.fault.LineCode.{LineCode}
use Rattle.text_lines.specs.Forms.{number_from}
use Rattle.command_words.specs.Chairs.{AreChairs, are_distinct, may_be_chairs}
use Rattle.command_words.specs.Commands.{command_of, command_of_few, command_of_plain, command_of_three, command_of_two, command_of_word, make_of, mode_of_word, report_of_ticket, report_of_word, session_of}
use Rattle.command_words.specs.Hyphens.{are_plain}
use Rattle.command_words.specs.declared.words.TheConstants.{MOST_SEED, MOST_SIZE}
use Rattle.command_words.specs.declared.chairs.TheConstants.{MOST_CHAIRS}
use Rattle.command_words.specs.declared.words.Command.{Command}
use Rattle.command_words.specs.declared.words.Command.TheVariants.{Check, Rules, Solve, Report, Session}

-- ---- names that are distinct

not_true : (b : Bool) → not b ≡ true → b ≡ false
not_true true e = absurd cc
not_true false e = refl

none_equal : (name : List ℕ) (names : List (List ℕ)) → list_any (bytes_eq name) names ≡ false → AllByRecursion (λ other. bytes_eq name other ≡ false) names
none_equal name [] e = tt
none_equal name (other ∷ names) e =
    let parts = or_parts (bytes_eq name other) (list_any (bytes_eq name) names) e in
    (parts.0, none_equal name names parts.1)

distinct : (names : List (List ℕ)) → are_distinct names ≡ true → IsDistinct bytes_eq names
unfolding IsDistinct
distinct [] e = tt
distinct (name ∷ names) e =
    let parts = and_parts (not (list_any (bytes_eq name) names)) (are_distinct names) e in
    IsDistinct-cons bytes_eq name names (none_equal name names (not_true (list_any (bytes_eq name) names) parts.0)) (distinct names parts.1)

are_chairs : (names : List (List ℕ)) → may_be_chairs names ≡ true → AreChairs names
are_chairs names e =
    let parts = and_parts (nat_le 1 (length names) && nat_le (length names) MOST_CHAIRS) (list_all is_chair_name names && are_distinct names) e in
    let sizes = and_parts (nat_le 1 (length names)) (nat_le (length names) MOST_CHAIRS) parts.0 in
    let rest = and_parts (list_all is_chair_name names) (are_distinct names) parts.1 in
    record {
      least = leb-true 1 (length names) sizes.0;
      most = leb-true (length names) MOST_CHAIRS sizes.1;
      named = AllPass-from_list_all is_chair_name names rest.0;
      apart = AllPairs-from_IsDistinct bytes_eq-Decides names (distinct names rest.1);
    }

-- ---- no other words ask for a session

neither : (test : Bool) (x y : Option Command) → x ≢ Some Session → y ≢ Some Session → (if test then x else y) ≢ Some Session
neither true x y first other = first
neither false x y first other = other

abbrev nothing : Option Command
nothing = None

nothing_else : nothing ≢ Some Session
nothing_else e = absurd cc

no_solving : (mode : Option Mode) → option_map Solve mode ≢ Some Session
no_solving None e = absurd cc
no_solving (Some mode) e = absurd cc

no_report : (what : Option Kind) → option_map Report what ≢ Some Session
no_report None e = absurd cc
no_report (Some what) e = absurd cc

no_making : (seed size : Result ℕ LineCode) → make_of seed size ≢ Some Session
no_making (Ok seed) (Ok size) e = absurd cc
no_making (Ok seed) (Err code) e = absurd cc
no_making (Err code) size e = absurd cc

no_word : (word : List ℕ) → command_of_word word ≢ Some Session
no_word word =
    neither (bytes_eq word (codes "check")) (Some Check) (if bytes_eq word (codes "rules") then Some Rules else None) (λ e. absurd cc)
    (neither (bytes_eq word (codes "rules")) (Some Rules) None (λ e. absurd cc) nothing_else)

no_two : (word other : List ℕ) → command_of_two word other ≢ Some Session
no_two word other =
    neither (bytes_eq word (codes "solve")) (option_map Solve (mode_of_word other)) (if bytes_eq word (codes "report") then option_map Report (report_of_word other) else None)
    (no_solving (mode_of_word other))
    (neither (bytes_eq word (codes "report")) (option_map Report (report_of_word other)) None (no_report (report_of_word other)) nothing_else)

no_three : (word other third : List ℕ) → command_of_three word other third ≢ Some Session
no_three word other third =
    neither (bytes_eq word (codes "make")) (make_of (number_from 0 MOST_SEED other) (number_from 1 MOST_SIZE third)) (if bytes_eq word (codes "report") then option_map Report (report_of_ticket other third) else None)
    (no_making (number_from 0 MOST_SEED other) (number_from 1 MOST_SIZE third))
    (neither (bytes_eq word (codes "report")) (option_map Report (report_of_ticket other third)) None (no_report (report_of_ticket other third)) nothing_else)

no_few : (word : List ℕ) (others : List (List ℕ)) → command_of_few word others ≢ Some Session
no_few word [] = no_word word
no_few word (other ∷ []) = no_two word other
no_few word (other ∷ third ∷ []) = no_three word other third
no_few word (other ∷ third ∷ fourth ∷ more) = nothing_else

chairs_named : (test : Bool) (chairs : List (List ℕ)) (y : Option Command) → y ≢ Some Session → (if test then session_of chairs else y) ≡ Some Session → may_be_chairs chairs ≡ true
chairs_named false chairs y other e = absurd (other e)
chairs_named true chairs y other e = taken (may_be_chairs chairs) e
  where
    taken : (test : Bool) → (if test then Some Session else None) ≡ Some Session → test ≡ true
    taken true is = refl
    taken false is = absurd (nothing_else is)

plain_has_chairs : (words : List (List ℕ)) → command_of_plain words ≡ Some Session → AreChairs (drop 1 words)
plain_has_chairs [] e = absurd (nothing_else e)
plain_has_chairs (word ∷ others) e =
    are_chairs others (chairs_named (bytes_eq word (codes "session")) others (command_of_few word others) (no_few word others) e)

-- the words behind the first are the chairs of the session that is asked for
pub session_has_chairs : (words : List (List ℕ)) → command_of words ≡ Some Session → AreChairs (drop 1 words)
session_has_chairs words e = plain_has_chairs words (asked (are_plain words) e)
  where
    asked : (test : Bool) → (if test then command_of_plain words else None) ≡ Some Session → command_of_plain words ≡ Some Session
    asked true is = is
    asked false is = absurd (nothing_else is)
