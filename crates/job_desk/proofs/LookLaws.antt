-- The places of the pairs that a ticket draws are places of the rules.
use Rattle.std.proofs.Common.{◌≡◌, ◌<◌, ◌∙◌, ℕ, List, All, Option, None, Some, Result, length, ap, refl, subst, sym}
use Rattle.match_rules.specs.Answers.{AnswerMatches}
use Rattle.match_rules.specs.Drawing.{piece_of}
use Rattle.match_rules.specs.Rules.{RulesValue}
use Rattle.match_rules.specs.declared.answer.Answer.{Answer}
use Rattle.match_rules.specs.declared.answer.Answer.TheVariants.{Lottery, Infeasible}
use Rattle.match_rules.specs.declared.lottery.Piece.{Piece}
use Rattle.publication.specs.declared.certificate.Certificate.{Certificate}
use Rattle.desk_history.specs.declared.jobs.Job.{Job}
use Rattle.desk_history.specs.declared.jobs.Publication.{Publication}
use Rattle.desk_history.specs.declared.refusals.Refusal.{Refusal}
use Rattle.desk_history.specs.declared.replies.Answered.{Answered}
use Rattle.desk_history.specs.Histories.{History, job_of, nth_of, publications}
use Rattle.desk_history.specs.Looks.{drawn_piece, job_look, piece_at, rules_at}
use Rattle.desk_history.specs.Opened.{IsLegal}
use Rattle.desk_history.specs.Rows.{evidence_of}
use Rattle.desk_laws.specs.Evidence.{IsBacked}
use Rattle.job_desk.specs.Looking.{IsTold}
use Rattle.desk_laws.proofs.EvidenceLaws.{all_get, all_nth, none_some, or_else}
use Rattle.desk_laws.proofs.PublishedLaws.{legal_published}

piece_passes : (P : Piece → Type 0) (lottery : List Piece) (place : Option ℕ) (piece : Piece) → All P lottery → piece_at lottery place ≡ Some piece → P piece
piece_passes P lottery None piece all found = none_some piece found
piece_passes P lottery (Some place) piece all found = all_get P lottery place piece all found

pub drawn_within : (rules : RulesValue) (reply : Answer) (ticket : ℕ) (piece : Piece) → AnswerMatches rules reply → drawn_piece reply ticket ≡ Some piece → All (λ e. e < length rules.pairs) piece.pairs
drawn_within rules (Lottery winning) ticket piece matches found =
    piece_passes (λ (it : Piece). All (λ e. e < length rules.pairs) it.pairs) winning.lottery (piece_of winning.lottery ticket) piece matches.pieces found
drawn_within rules (Infeasible blocked) ticket piece matches found = none_some piece found

-- what a publication shows matches its rules
pub backed_matches : (chairs : List (List ℕ)) (H : History) (number : ℕ) (publication : Publication) (shown : Certificate) → IsLegal chairs H → nth_of (publications H) number ≡ Some publication
    → evidence_of H (job_of H publication.job) ≡ Some shown → AnswerMatches shown.rules shown.answer
backed_matches chairs H number publication shown legal found there =
    let backed : IsBacked H publication = all_nth (IsBacked H) (publications H) number publication (legal_published chairs H legal) found in
    let same : shown ≡ record { rules = rules_at H backed.job.edition; answer = Lottery backed.winning } = ap (or_else shown) (sym there ∙ ap (evidence_of H) backed.there ∙ backed.shown) in
    subst (λ (c : Certificate). AnswerMatches c.rules c.answer) (sym same) backed.certified.fitting

-- a job as a chair sees it
pub job_told : (number : ℕ) (job : Option Job) (answer : Result Answered Refusal) → answer ≡ (job_look number job).reply → IsTold (job_look number job) answer
job_told number None answer is = subst (IsTold (job_look number None)) (sym is) refl
job_told number (Some job) answer is = subst (IsTold (job_look number (Some job))) (sym is) refl
