-- Rules and an answer are read as they are spelled.
use Rattle.std.proofs.Common.{◌≡◌, ℕ, ◌≤◌, List, All, [], ◌++◌, length, Option, Result, Ok, refl, sym, ap, subst, ◌∙◌, append_assoc, arith}
use Rattle.std.proofs.lemmas.List.{append-nil, nil_from_length}
use Rattle.std.proofs.lemmas.Bool.{eqb-true}
use Rattle.match_rules.specs.declared.answer.Answer.{Answer}
use Rattle.match_rules.specs.declared.answer.Answer.TheVariants.{Lottery, Infeasible}
use Rattle.match_rules.specs.declared.answer.Level.{Level}
use Rattle.match_rules.specs.declared.answer.Level.TheVariants.{Unasked, Free, At}
use Rattle.match_rules.specs.Answers.{AnswerMatches, LevelMatches, SharesMatch}
use Rattle.match_rules.specs.Rules.{RulesValue, AreRules}
use Rattle.match_rules.proofs.GroupLaws.{group_count_few}
use Rattle.text_lines.specs.declared.fault.TextFault.{TextFault}
use Rattle.text_lines.specs.declared.fault.TextFault.TheVariants.{Trailing}
use Rattle.edge_io.specs.Told.{told}
use Rattle.text_lines.specs.Reading.{◌>>=◌, Cursor, LinesValue, cursor, due, end_at, following}
use Rattle.text_lines.specs.Texts.{line_of}
use Rattle.text_lines.proofs.ItemsLaws.{end_ok}
use Rattle.text_lines.proofs.TextLaws.{bind_ok, ok_is, guard_ok, item_takes, item_again}
use Rattle.publication.specs.declared.answer_forms.AnswerKind.{AnswerKind}
use Rattle.publication.specs.declared.answer_forms.AnswerKind.TheVariants as kinds
use Rattle.match_rules.specs.declared.sizes.Sizes.{Sizes}
use Rattle.publication.specs.AnswerForms.{kind_of}
use Rattle.publication.specs.AnswerReading.{answer_at, answer_behind, certificate_at, lottery_at}
use Rattle.match_rules.specs.Sound.{sizes_of}
use Rattle.publication.specs.Certificates.{AreSharesFor, IsAnswerFor, IsCertificate, IsSpelled, LevelFits, SuitsItsMode, answer_text, certificate_text}
use Rattle.publication.specs.InfeasibleReading.{infeasible_at}
use Rattle.publication.specs.RulesReading.{rules_at}
use Rattle.publication.specs.RulesText.{rules_text}
use Rattle.publication.specs.WholeTexts.{answer_whole_at, rules_whole_at}
use Rattle.publication.proofs.CutLaws.{kind_line, kind_spells}
use Rattle.publication.proofs.CutParts.{AreSmall}
use Rattle.publication.proofs.InfeasibleLaws.{infeasible_takes, infeasible_again}
use Rattle.publication.proofs.LotteryLaws.{lottery_takes, lottery_again}
use Rattle.publication.proofs.RulesLaws.{rules_takes, rules_again}

sizes_small : (rules : RulesValue) → AreRules rules → AreSmall (sizes_of rules)
sizes_small rules are = record {
  papers = omega (arith, are.papers.few);
  of_groups = omega (arith, group_count_few rules, are.pairs.few);
  reviewers = omega (arith, are.reviewers.few);
  pairs = are.pairs.few;
}

-- ---- an answer with lists of the sizes of the rules matches them

shares_from : (rules : RulesValue) (shares : List ℕ) → AreRules rules → AreSharesFor (sizes_of rules) shares → SharesMatch rules shares
shares_from rules shares kept are = subst (λ (tickets : ℕ). (length shares ≡ length rules.pairs) × All (λ share. share ≤ tickets) shares) (sym kept.tickets) are

shares_for : (rules : RulesValue) (shares : List ℕ) → AreRules rules → SharesMatch rules shares → AreSharesFor (sizes_of rules) shares
shares_for rules shares kept matching = subst (λ (tickets : ℕ). (length shares ≡ length rules.pairs) × All (λ share. share ≤ tickets) shares) kept.tickets matching

level_from : (rules : RulesValue) (level : Level) → LevelFits (sizes_of rules) level → LevelMatches rules level
level_from rules Unasked fits = tt
level_from rules Free fits = tt
level_from rules (At score cut) fits = (fits.0, record { papers = fits.1.of_papers; of_groups = fits.1.of_groups; reviewers = fits.1.of_reviewers })

level_for : (rules : RulesValue) (level : Level) → LevelMatches rules level → LevelFits (sizes_of rules) level
level_for rules Unasked matching = tt
level_for rules Free matching = tt
level_for rules (At score cut) matching =
    (matching.0, record { of_papers = matching.1.papers; of_groups = matching.1.of_groups; of_reviewers = matching.1.reviewers })

matches_from : (rules : RulesValue) (answer : Answer) → AreRules rules → IsAnswerFor (sizes_of rules) answer → AnswerMatches rules answer
matches_from rules (Lottery winning) kept are = record {
  level = level_from rules winning.level are.level;
  in_all = are.total;
  prices = record { papers = are.prices.papers; of_groups = are.prices.of_groups; reviewers = are.prices.reviewers };
  shares = shares_from rules winning.shares kept are.shares;
  pieces = are.pieces.1;
}
matches_from rules (Infeasible blocked) kept are = record { papers = are.marked.of_papers; of_groups = are.marked.of_groups; reviewers = are.marked.of_reviewers }

spelled_from : (sizes : Sizes) (answer : Answer) → IsAnswerFor sizes answer → IsSpelled answer
spelled_from sizes (Lottery winning) are = are.pieces.0
spelled_from sizes (Infeasible blocked) are = (are.need, are.room)

pub certificate_from : (rules : RulesValue) (answer : Answer) → AreRules rules → SuitsItsMode answer → IsAnswerFor (sizes_of rules) answer → IsCertificate rules answer
certificate_from rules answer kept suits are = record {
  rules_kept = kept;
  suits = suits;
  matching = matches_from rules answer kept are;
  spelled = spelled_from (sizes_of rules) answer are;
}

answer_for : (rules : RulesValue) (answer : Answer) → AreRules rules → AnswerMatches rules answer → IsSpelled answer → IsAnswerFor (sizes_of rules) answer
answer_for rules (Lottery winning) kept matching spelled = record {
  level = level_for rules winning.level matching.level;
  total = matching.in_all;
  prices = record { papers = matching.prices.papers; of_groups = matching.prices.of_groups; reviewers = matching.prices.reviewers };
  shares = shares_for rules winning.shares kept matching.shares;
  pieces = (spelled, matching.pieces);
}
answer_for rules (Infeasible blocked) kept matching spelled = record {
  marked = record { of_papers = matching.papers; of_groups = matching.of_groups; of_reviewers = matching.reviewers };
  need = spelled.0;
  room = spelled.1;
}

-- ---- the answer

behind_takes : (sizes : Sizes) (kind : AnswerKind) (at rest : Cursor) (answer : Answer) → AreSmall sizes → answer_behind sizes kind at ≡ Ok (answer, rest)
    → SuitsItsMode answer × IsAnswerFor sizes answer × (line_of (kind_line kind) ++ at.bytes ≡ answer_text answer ++ rest.bytes)
unfolding answer_text
behind_takes sizes kinds.Lottery at rest answer small e =
    let a = bind_ok (lottery_at sizes at) (λ winning. Ok (Lottery winning.0, winning.1)) (answer, rest) e in
    let t = lottery_takes sizes at a.0.1 a.0.0 small a.1 in
    let same = ok_is {E = TextFault} (Lottery a.0.0, a.0.1) (answer, rest) a.2 in
    subst (λ (x : Answer × Cursor). SuitsItsMode x.0 × IsAnswerFor sizes x.0 × (line_of (kind_line kinds.Lottery) ++ at.bytes ≡ answer_text x.0 ++ x.1.bytes)) same (t.0, t.1, t.2)
behind_takes sizes kinds.Infeasible at rest answer small e =
    let a = bind_ok (infeasible_at sizes at) (λ blocked. Ok (Infeasible blocked.0, blocked.1)) (answer, rest) e in
    let t = infeasible_takes sizes at a.0.1 a.0.0 small a.1 in
    let same = ok_is {E = TextFault} (Infeasible a.0.0, a.0.1) (answer, rest) a.2 in
    subst (λ (x : Answer × Cursor). SuitsItsMode x.0 × IsAnswerFor sizes x.0 × (line_of (kind_line kinds.Infeasible) ++ at.bytes ≡ answer_text x.0 ++ x.1.bytes)) same (tt, t.0, t.1)

answer_takes : (sizes : Sizes) (at rest : Cursor) (answer : Answer) → AreSmall sizes → answer_at sizes at ≡ Ok (answer, rest)
    → SuitsItsMode answer × IsAnswerFor sizes answer × (at.bytes ≡ answer_text answer ++ rest.bytes)
unfolding answer_at
answer_takes sizes at rest answer small e =
    let a = bind_ok (due kind_of at) (λ kind. answer_behind sizes kind.0 kind.1) (answer, rest) e in
    let kind = item_takes _ _ _ kind_spells [] at a.0.1 a.0.0 a.1 in
    let t = behind_takes sizes a.0.0 a.0.1 rest answer small a.2 in
    (t.0, t.1, kind.1 ∙ t.2)

answer_again : (sizes : Sizes) (number : ℕ) (answer : Answer) (rest : List ℕ) → AreSmall sizes → SuitsItsMode answer → IsAnswerFor sizes answer
    → (m : ℕ) × (answer_at sizes (record { number = number; bytes = answer_text answer ++ rest }) ≡ Ok (answer, record { number = m; bytes = rest }))
unfolding answer_at answer_text
answer_again sizes number (Lottery winning) rest small suits are =
    let t = lottery_again sizes winning rest small suits are in
    let kind = item_again _ _ _ kind_spells [] number t.0 kinds.Lottery tt in
    let read = t.2 (following number) in
    (read.0, rw (t.1, kind, read.1) refl)
answer_again sizes number (Infeasible blocked) rest small suits are =
    let t = infeasible_again sizes blocked rest small are in
    let kind = item_again _ _ _ kind_spells [] number t.0 kinds.Infeasible tt in
    let read = t.2 (following number) in
    (read.0, rw (t.1, kind, read.1) refl)

-- ---- all of it

end_takes : (at : Cursor) (unit : Unit {0}) → end_at at ≡ Ok unit → at.bytes ≡ []
unfolding end_at
end_takes at unit e = nil_from_length at.bytes (eqb-true (length at.bytes) 0 (guard_ok _ Trailing (Ok tt) unit e).0)

certificate_takes : (at : Cursor) (rules : RulesValue) (answer : Answer) → certificate_at at ≡ Ok (rules, answer) → IsCertificate rules answer × (at.bytes ≡ certificate_text rules answer)
unfolding certificate_at certificate_text
certificate_takes at rules answer e =
    let a = bind_ok (rules_at at) (λ r. answer_at (sizes_of r.0) r.1 >>= λ w. end_at w.1 >>= λ end. Ok (r.0, w.0)) (rules, answer) e in
    let b = bind_ok (answer_at (sizes_of a.0.0) a.0.1) (λ w. end_at w.1 >>= λ end. Ok (a.0.0, w.0)) (rules, answer) a.2 in
    let c = bind_ok (end_at b.0.1) (λ end. Ok (a.0.0, b.0.0)) (rules, answer) b.2 in
    let first = rules_takes at a.0.1 a.0.0 a.1 in
    let second = answer_takes (sizes_of a.0.0) a.0.1 b.0.1 b.0.0 (sizes_small a.0.0 first.0) b.1 in
    let none = end_takes b.0.1 c.0 c.1 in
    let text : at.bytes ≡ rules_text a.0.0 ++ answer_text b.0.0 = first.1 ∙ ap (λ (t : List ℕ). rules_text a.0.0 ++ t) (second.2 ∙ ap (λ (t : List ℕ). answer_text b.0.0 ++ t) none ∙ append-nil (answer_text b.0.0)) in
    let same = ok_is {E = TextFault} (a.0.0, b.0.0) (rules, answer) c.2 in
    subst (λ (x : RulesValue × Answer). IsCertificate x.0 x.1 × (at.bytes ≡ rules_text x.0 ++ answer_text x.1)) same (certificate_from a.0.0 b.0.0 first.0 second.0 second.1, text)

pub certificate_again : (number : ℕ) (rules : RulesValue) (answer : Answer) → IsCertificate rules answer → certificate_at (record { number = number; bytes = certificate_text rules answer }) ≡ Ok (rules, answer)
unfolding certificate_at certificate_text
certificate_again number rules answer is =
    let first = rules_again rules number (answer_text answer) is.rules_kept in
    let second = answer_again (sizes_of rules) first.0 answer [] (sizes_small rules is.rules_kept) is.suits (answer_for rules answer is.rules_kept is.matching is.spelled) in
    let here : answer_at (sizes_of rules) (record { number = first.0; bytes = answer_text answer }) ≡ Ok (answer, record { number = second.0; bytes = [] }) = rw append-nil at second.1 in
    rw (first.1, here, end_ok (record { number = second.0; bytes = [] }) refl) refl

-- a certificate is the text of its rules with that of its answer behind it
pub both_texts : (rules : RulesValue) (answer : Answer) → rules_text rules ++ answer_text answer ≡ certificate_text rules answer
unfolding certificate_text
both_texts rules answer = refl

-- ---- no text is a front of another one

-- a text that is read whole leaves nothing
nothing_left : {A : Type 0} (at : Cursor) (x y : A) → (end_at at >>= λ end. Ok x) ≡ Ok y → at.bytes ≡ []
nothing_left at x y e = let a = bind_ok (end_at at) (λ end. Ok x) y e in end_takes at a.0 a.1

pub certificates_apart : (rules others : RulesValue) (answer other : Answer) (more : List ℕ) → IsCertificate rules answer → IsCertificate others other → certificate_text rules answer ≡ certificate_text others other ++ more → more ≡ []
unfolding certificate_at certificate_text
certificates_apart rules others answer other more is too same =
    let first = rules_again others 1 (answer_text other ++ more) too.rules_kept in
    let second = answer_again (sizes_of others) first.0 other more (sizes_small others too.rules_kept) too.suits (answer_for others other too.rules_kept too.matching too.spelled) in
    let text : rules_text rules ++ answer_text answer ≡ rules_text others ++ (answer_text other ++ more) = same ∙ append_assoc (rules_text others) (answer_text other) more in
    let whole = rw text at (certificate_again 1 rules answer is) in
    let rest : Cursor = record { number = second.0; bytes = more } in
    nothing_left rest (others, other) (rules, answer) (rw (first.1, second.1) at whole)

pub rules_apart : (rules others : RulesValue) (more : List ℕ) → AreRules rules → AreRules others → rules_text rules ≡ rules_text others ++ more → more ≡ []
rules_apart rules others more is too same =
    let first = rules_again others 1 more too in
    let whole = rules_again rules 1 [] is in
    let here : rules_at (record { number = 1; bytes = rules_text rules }) ≡ Ok (rules, record { number = whole.0; bytes = [] }) = rw append-nil at whole.1 in
    let there : rules_at (record { number = 1; bytes = rules_text rules }) ≡ Ok (others, record { number = first.0; bytes = more }) = rw same first.1 in
    let one = ok_is {E = TextFault} (others, record { number = first.0; bytes = more }) (rules, record { number = whole.0; bytes = [] }) (sym there ∙ here) in
    ap (λ (p : RulesValue × Cursor). p.1.bytes) one

pub answers_apart : (rules : RulesValue) (answer other : Answer) (more : List ℕ) → IsCertificate rules answer → IsCertificate rules other → answer_text answer ≡ answer_text other ++ more → more ≡ []
answers_apart rules answer other more is too same =
    let small = sizes_small rules is.rules_kept in
    let first = answer_again (sizes_of rules) 1 other more small too.suits (answer_for rules other too.rules_kept too.matching too.spelled) in
    let whole = answer_again (sizes_of rules) 1 answer [] small is.suits (answer_for rules answer is.rules_kept is.matching is.spelled) in
    let here : answer_at (sizes_of rules) (record { number = 1; bytes = answer_text answer }) ≡ Ok (answer, record { number = whole.0; bytes = [] }) = rw append-nil at whole.1 in
    let there : answer_at (sizes_of rules) (record { number = 1; bytes = answer_text answer }) ≡ Ok (other, record { number = first.0; bytes = more }) = rw same first.1 in
    let one = ok_is {E = TextFault} (other, record { number = first.0; bytes = more }) (answer, record { number = whole.0; bytes = [] }) (sym there ∙ here) in
    ap (λ (p : Answer × Cursor). p.1.bytes) one

-- ---- rules alone, and an answer alone

pub rules_whole_takes : (at : Cursor) (rules : RulesValue) → rules_whole_at at ≡ Ok rules → at.bytes ≡ rules_text rules
unfolding rules_whole_at
rules_whole_takes at rules e =
    let a = bind_ok (rules_at at) (λ r. end_at r.1 >>= λ end. Ok r.0) rules e in
    let c = bind_ok (end_at a.0.1) (λ end. Ok a.0.0) rules a.2 in
    let first = rules_takes at a.0.1 a.0.0 a.1 in
    let same = ok_is {E = TextFault} a.0.0 rules c.2 in
    first.1 ∙ rw (end_takes a.0.1 c.0 c.1, same) (append-nil (rules_text rules))

pub rules_whole_again : (number : ℕ) (rules : RulesValue) → AreRules rules → rules_whole_at (record { number = number; bytes = rules_text rules }) ≡ Ok rules
unfolding rules_whole_at
rules_whole_again number rules are =
    let first = rules_again rules number [] are in
    let here : rules_at (record { number = number; bytes = rules_text rules }) ≡ Ok (rules, record { number = first.0; bytes = [] }) = rw append-nil at first.1 in
    rw (here, end_ok (record { number = first.0; bytes = [] }) refl) refl

pub answer_whole_takes : (rules : RulesValue) (at : Cursor) (answer : Answer) → AreRules rules → answer_whole_at (sizes_of rules) at ≡ Ok answer → at.bytes ≡ answer_text answer
unfolding answer_whole_at
answer_whole_takes rules at answer kept e =
    let a = bind_ok (answer_at (sizes_of rules) at) (λ w. end_at w.1 >>= λ end. Ok w.0) answer e in
    let c = bind_ok (end_at a.0.1) (λ end. Ok a.0.0) answer a.2 in
    let first = answer_takes (sizes_of rules) at a.0.1 a.0.0 (sizes_small rules kept) a.1 in
    let same = ok_is {E = TextFault} a.0.0 answer c.2 in
    first.2 ∙ rw (end_takes a.0.1 c.0 c.1, same) (append-nil (answer_text answer))

pub answer_whole_again : (rules : RulesValue) (number : ℕ) (answer : Answer) → IsCertificate rules answer → answer_whole_at (sizes_of rules) (record { number = number; bytes = answer_text answer }) ≡ Ok answer
unfolding answer_whole_at
answer_whole_again rules number answer is =
    let first = answer_again (sizes_of rules) number answer [] (sizes_small rules is.rules_kept) is.suits (answer_for rules answer is.rules_kept is.matching is.spelled) in
    let here : answer_at (sizes_of rules) (record { number = number; bytes = answer_text answer }) ≡ Ok (answer, record { number = first.0; bytes = [] }) = rw append-nil at first.1 in
    rw (here, end_ok (record { number = first.0; bytes = [] }) refl) refl

-- ---- from the first byte of a source on

pub text_of_read : (lines : LinesValue) (left : Option (List ℕ)) (rules : RulesValue) (answer : Answer) → lines.unread ≡ [] → certificate_at (cursor lines left) ≡ Ok (rules, answer) → told left ≡ certificate_text rules answer
text_of_read lines left rules answer none read =
    ap (λ (t : List ℕ). t ++ told left) (sym none) ∙ (certificate_takes (cursor lines left) rules answer read).1

pub read_of_text : (lines : LinesValue) (left : Option (List ℕ)) (rules : RulesValue) (answer : Answer) → lines.unread ≡ [] → IsCertificate rules answer → told left ≡ certificate_text rules answer → certificate_at (cursor lines left) ≡ Ok (rules, answer)
read_of_text lines left rules answer none is text =
    let place : lines.unread ++ told left ≡ certificate_text rules answer = ap (λ (t : List ℕ). t ++ told left) none ∙ text in
    rw place (certificate_again lines.number rules answer is)

-- the one thing that is read, and what else has this text
pub same_read : {A : Type 0} (read : Result A TextFault) (x y : A) → read ≡ Ok x → read ≡ Ok y → x ≡ y
same_read read x y p q = ok_is {E = TextFault} x y (sym p ∙ q)

-- where a reader stands at the first byte
pub first_bytes : (lines : LinesValue) (left : Option (List ℕ)) → lines.unread ≡ [] → (cursor lines left).bytes ≡ told left
first_bytes lines left none = ap (λ (t : List ℕ). t ++ told left) none

pub rules_of_text : (lines : LinesValue) (left : Option (List ℕ)) (rules : RulesValue) → lines.unread ≡ [] → AreRules rules → told left ≡ rules_text rules → rules_whole_at (cursor lines left) ≡ Ok rules
rules_of_text lines left rules none are text =
    let place : lines.unread ++ told left ≡ rules_text rules = first_bytes lines left none ∙ text in
    rw place (rules_whole_again lines.number rules are)

pub answer_of_text : (rules : RulesValue) (lines : LinesValue) (left : Option (List ℕ)) (answer : Answer) → lines.unread ≡ [] → IsCertificate rules answer → told left ≡ answer_text answer → answer_whole_at (sizes_of rules) (cursor lines left) ≡ Ok answer
answer_of_text rules lines left answer none is text =
    let place : lines.unread ++ told left ≡ answer_text answer = first_bytes lines left none ∙ text in
    rw place (answer_whole_again rules lines.number answer is)
