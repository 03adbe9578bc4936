-- A made conference: what is answered, and what is written.
use Rattle.std.specs.Prelude.{ℕ, ℤ, List, ◌++◌, length, Option, Ok, Err, codes}
use Rattle.made_conference.specs.Tables.{made_files}
use Rattle.match_rules.specs.declared.answer.Answer.{Answer}
use Rattle.match_rules.specs.declared.answer.Answer.TheVariants.{Lottery, Infeasible}
use Rattle.match_rules.specs.declared.answer.Blocked.{Blocked}
use Rattle.match_rules.specs.declared.answer.Mode.TheVariants.{Whole}
use Rattle.match_rules.specs.declared.answer.Winning.{Winning}
use Rattle.match_rules.specs.Rules.{RulesValue, demand_total}
use Rattle.editions.specs.declared.fault.LoadFault.{LoadFault}
use Rattle.solve_line.specs.Verdicts.{IsVerdict}
use Rattle.text_lines.specs.Labels.{labelled, labelled_signed}
use Rattle.matcher_cli.specs.declared.status.Status.{Status}
use Rattle.matcher_cli.specs.declared.status.Status.TheVariants as status
use Rattle.matcher_cli.specs.FolderRules.{Answered, rules_in}
use Rattle.matcher_cli.specs.Lines.{valid_line}
use Rattle.matcher_cli.specs.Refusals.{refusal_text}
use Rattle.matcher_cli.specs.Solving.{IsNoSolution, IsSolution}
use Rattle.matcher_cli.specs.Verdicts.{FrontWritten, Written}

-- the rules of the files of a seed and a size, or what is wrong with these files
abbrev pub made_rules : ℕ → ℕ → Answered
made_rules seed size = rules_in (made_files seed size)

-- how many papers, reviewers and pairs rules have, and how many reviewers the papers need
unfoldable pub counts_text : RulesValue → List ℕ
counts_text rules =
    ((labelled (codes " papers ") (length rules.papers) ++ labelled (codes " reviewers ") (length rules.reviewers)) ++ labelled (codes " pairs ") (length rules.pairs))
    ++ labelled (codes " demand ") (demand_total rules.papers)

-- the line of a made conference, with the total of a lottery
unfoldable pub made_line : ℕ → ℕ → RulesValue → ℤ → List ℕ
made_line seed size rules total =
    (((labelled (codes "made seed ") seed ++ labelled (codes " size ") size) ++ counts_text rules) ++ labelled_signed (codes " total ") total) ++ codes "\n"

-- the line that is due for what the rules of a made conference came to
abbrev pub line_due : ℕ → ℕ → RulesValue → Answer → List ℕ
line_due seed size rules (Lottery winning) = made_line seed size rules winning.total
line_due seed size rules (Infeasible blocked) = valid_line (Infeasible blocked)

-- what is answered and written for the rules of a made conference, by the status; old and new are what the sink has taken
abbrev pub MakesRules : Status → ℕ → ℕ → RulesValue → List ℕ → Option (List ℕ) → Type 0
MakesRules status.Done seed size rules old new = (winning : Winning) × IsSolution rules Whole winning × Written old new (made_line seed size rules winning.total)
MakesRules status.Broken seed size rules old new = ⊥
MakesRules status.Infeasible seed size rules old new = (blocked : Blocked) × IsNoSolution rules Whole blocked × Written old new (valid_line (Infeasible blocked))
MakesRules status.Usage seed size rules old new = ⊥
MakesRules status.KeeperFault seed size rules old new = ⊥
MakesRules status.Damaged seed size rules old new = ⊥
MakesRules status.ReadFault seed size rules old new = ⊥
MakesRules status.WriteFault seed size rules old new = (answer : Answer) × IsVerdict rules Whole answer × FrontWritten old new (line_due seed size rules answer)
MakesRules status.Refused seed size rules old new = ⊥
MakesRules status.Memory seed size rules old new = Unit {0}

-- what is answered and written for files that make no rules, by the status
abbrev pub RefusesRules : Status → LoadFault → List ℕ → Option (List ℕ) → Type 0
RefusesRules status.Done fault old new = ⊥
RefusesRules status.Broken fault old new = ⊥
RefusesRules status.Infeasible fault old new = ⊥
RefusesRules status.Usage fault old new = ⊥
RefusesRules status.KeeperFault fault old new = ⊥
RefusesRules status.Damaged fault old new = ⊥
RefusesRules status.ReadFault fault old new = ⊥
RefusesRules status.WriteFault fault old new = FrontWritten old new (refusal_text fault)
RefusesRules status.Refused fault old new = Written old new (refusal_text fault)
RefusesRules status.Memory fault old new = Unit {0}

-- what is answered and written for a made conference, by its rules or what is wrong with its files
abbrev pub Makes : Status → ℕ → ℕ → Answered → List ℕ → Option (List ℕ) → Type 0
Makes result seed size (Ok rules) old new = MakesRules result seed size rules old new
Makes result seed size (Err fault) old new = RefusesRules result fault old new
