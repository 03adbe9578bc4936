-- A small conference and what its chair `ann` asks, over which the definitions are computed.
use Rattle.std.specs.Prelude.{ℕ, List, [], ◌∷◌, ◌++◌, codes, None, Result, pos}
use Rattle.match_rules.specs.Rules.{RulesValue, rules_value}
use Rattle.match_rules.specs.declared.answer.Answer.TheVariants.{Lottery}
use Rattle.match_rules.specs.declared.answer.Level.TheVariants.{Unasked}
use Rattle.match_rules.specs.declared.answer.Mode.TheVariants.{Whole}
use Rattle.match_rules.specs.declared.rules.RulePair.{RulePair}
use Rattle.match_rules.specs.declared.rules.RulePaper.{RulePaper}
use Rattle.match_rules.specs.declared.rules.RuleReviewer.{RuleReviewer}
use Rattle.match_rules.specs.declared.rules.TheConstants.{RULES_TICKETS}
use Rattle.publication.specs.declared.certificate.Certificate.{Certificate}
use Rattle.desk_keeper.specs.declared.words.Command.{Command}
use Rattle.desk_keeper.specs.declared.words.Command.TheVariants.{Edit, Submit, Publish}
use Rattle.desk_keeper.specs.declared.words.HowWords.TheVariants.{Merge, Replace}
use Rattle.desk_keeper.specs.declared.words.TableWords.{TableWords}
use Rattle.desk_keeper.specs.declared.words.TableWords.TheVariants.{Papers, Reviewers, Values, Caps}
use Rattle.desk_history.specs.declared.refusals.Refusal.{Refusal}
use Rattle.desk_history.specs.declared.replies.Answered.{Answered as Reply}
use Rattle.desk_history.specs.declared.requests.Request.{Request}
use Rattle.desk_history.specs.declared.requests.Request.TheVariants as request
use Rattle.desk_history.specs.declared.requests.Request.TheVariants.{Do, Take, Finish}
use Rattle.desk_history.specs.declared.requests.Look.{Look}
use Rattle.desk_history.specs.declared.requests.Work.TheVariants.{Answered}
use Rattle.desk_keeper.specs.declared.words.EditWords.{EditWords}
use Rattle.desk_history.specs.declared.entries.Done.TheVariants.{Edited, Submitted}
use Rattle.desk_history.specs.declared.entries.Entry.TheVariants.{Accepted}
use Rattle.desk_history.specs.Histories.{History}
use Rattle.desk_history.specs.Steps.{step, with_entry}

-- the history behind requests, one after the other, of a desk with the one chair `ann`
abbrev pub behind : History → List Request → History
behind H [] = H
behind H (request ∷ rest) = behind (with_entry (step (codes "ann" ∷ []) H request).entry H) rest

-- the reply to one more request
abbrev pub reply : History → Request → Result Reply Refusal
reply H request = (step (codes "ann" ∷ []) H request).reply

abbrev pub asks : ℕ → Command → Request
asks number command = Do (record { caller = codes "ann"; number = number; command = command })

abbrev pub replaces : ℕ → TableWords → List ℕ → Command
replaces base table body = Edit base (record { table = table; how = Replace; body = body })

-- four edits: two papers, two reviewers, the values of their pairs, and a cap of 0.7 for each
abbrev pub four_edits : List Request
four_edits =
    asks 1 (replaces 0 Papers (codes "p1,1,\np2,1,\n"))
    ∷ asks 2 (replaces 1 Reviewers (codes "r1,,0,1\nr2,,0,1\n"))
    ∷ asks 3 (replaces 2 (Values (codes "affinity")) (codes "p1,r1,1\np1,r2,0\np2,r1,0.8\np2,r2,0.5\n"))
    ∷ asks 4 (replaces 3 Caps (codes "p1,r1,0.7\np1,r2,0.7\np2,r1,0.7\np2,r2,0.7\n"))
    ∷ []

-- the four edits, a job for their rules, and its take by the first bench
abbrev pub job_taken : List Request
job_taken = four_edits ++ asks 5 (Submit 4 Whole) ∷ Take 0 ∷ []

-- a further edit, of one cap
abbrev pub fifth_edit : Command
fifth_edit = Edit 4 (record { table = Caps; how = Merge; body = codes "p1,r1,0.6\n" })

abbrev pub rule_paper : List ℕ → RulePaper
rule_paper id = record { id = id; demand = 1 }

abbrev pub rule_reviewer : List ℕ → RuleReviewer
rule_reviewer id = record { id = id; institution = None; least = 0; greatest = 1 }

abbrev pub rule_pair : ℕ → ℕ → ℕ → RulePair
rule_pair paper reviewer score = record { paper = paper; reviewer = reviewer; score = pos score; floor = 0; cap = 7000 }

abbrev pub fourth_rules : RulesValue
fourth_rules = rules_value RULES_TICKETS 1500
    (rule_paper (codes "p1") ∷ rule_paper (codes "p2") ∷ [])
    (rule_reviewer (codes "r1") ∷ rule_reviewer (codes "r2") ∷ [])
    (rule_pair 0 0 1000000 ∷ rule_pair 0 1 0 ∷ rule_pair 1 0 800000 ∷ rule_pair 1 1 500000 ∷ [])

-- the rules of the fourth edition, and a best lottery for them
abbrev pub fourth_certificate : Certificate
fourth_certificate = record {
  rules = fourth_rules;
  answer = Lottery (record {
    mode = Whole;
    level = Unasked;
    total = pos 12900000000;
    prices = record { papers = pos 0 ∷ pos 500000 ∷ []; groups = []; reviewers = pos 300000 ∷ pos 0 ∷ [] };
    shares = 7000 ∷ 3000 ∷ 3000 ∷ 7000 ∷ [];
    lottery = record { weight = 7000; pairs = 0 ∷ 3 ∷ [] } ∷ record { weight = 3000; pairs = 1 ∷ 2 ∷ [] } ∷ [];
  });
}

-- the first bench hands the lottery in
abbrev pub finish : Request
finish = Finish 0 1 (Answered fourth_certificate)

-- the job, with its lottery, and its publication
abbrev pub lottery_published : List Request
lottery_published = job_taken ++ finish ∷ asks 6 (Publish 1) ∷ []

abbrev pub looks : Look → Request
looks what = request.Look (codes "ann") what

-- an edit and two jobs for the edition that it makes
abbrev pub two_jobs : EditWords → History
two_jobs edit = Accepted (codes "ann") 3 (Submit 1 Whole) (Submitted 2) None ∷ Accepted (codes "ann") 2 (Submit 1 Whole) (Submitted 1) None ∷ Accepted (codes "ann") 1 (Edit 0 edit) (Edited 1) None ∷ []
