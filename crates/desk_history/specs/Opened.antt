-- The history that rows are, and histories that come about step by step.
use Rattle.std.specs.Prelude.{◌≡◌, ℕ, List, [], ◌∷◌, ◌⊎◌, take, slice_get, Option, Some, None, ⊤}
use Rattle.match_rules.specs.Answers.{Certified}
use Rattle.match_rules.specs.Pieces.{ArePieces}
use Rattle.match_rules.specs.declared.answer.Answer.TheVariants.{Lottery}
use Rattle.match_rules.specs.declared.answer.Winning.{Winning}
use Rattle.publication.specs.Certificates.{answer_text}
use Rattle.publication.specs.declared.certificate.Certificate.{Certificate}
use Rattle.desk_keeper.specs.Rows.{IsRow}
use Rattle.desk_keeper.specs.declared.words.Command.{Command}
use Rattle.desk_keeper.specs.declared.words.Command.TheVariants.{Edit, Submit, Publish, Draw}
use Rattle.desk_keeper.specs.declared.words.Named.{Named}
use Rattle.desk_history.specs.declared.entries.Entry.{Entry}
use Rattle.desk_history.specs.declared.jobs.Job.{Job}
use Rattle.desk_history.specs.declared.requests.Request.{Request}
use Rattle.desk_history.specs.Histories.{History, job_of, kept}
use Rattle.desk_history.specs.Looks.{rules_at}
use Rattle.desk_history.specs.Refusals.{refusal_of}
use Rattle.desk_history.specs.Steps.{IsTyped, MayAsk, accepted, step}

-- the text is that of a lottery of the job's mode that is certified for the rules of the job's edition; its pieces are such
-- as a text may have
pub record IsLotteryOf (H : History) (number : ℕ) (kept_text : List ℕ) (found : Option Certificate) : Type 0 where
  pub job : Job
  pub winning : Winning
  pub there : job_of H number ≡ Some job
  pub certified : Certified (rules_at H job.edition) job.mode winning
  pub spelled : ArePieces winning.lottery
  pub text : kept_text ≡ answer_text (Lottery winning)
  pub read : found ≡ Some (record { rules = rules_at H job.edition; answer = Lottery winning })

-- what is read with a command from the text of its row
abbrev pub IsReadWith : History → Command → List ℕ → Option Certificate → Type 0
IsReadWith H (Publish job) text read = IsLotteryOf H job text read
IsReadWith H (Edit base edit) text read = read ≡ None
IsReadWith H (Submit base mode) text read = read ≡ None
IsReadWith H (Draw publication drawn) text read = read ≡ None

-- a row is that of a command which is accepted behind a history as a new one, whoever its caller is
pub record Replays (H : History) (row : List ℕ) (next : History) : Type 0 where
  pub its : Named
  pub text : List ℕ
  pub read : Option Certificate
  pub is_row : IsRow row its text
  pub is_new : kept H its.caller its.number ≡ None
  pub is_read : IsReadWith H its.command text read
  pub is_right : refusal_of H its read ≡ None
  pub becomes : next ≡ accepted H its read ∷ H

-- the rows, one after the other, lead from one history to another
abbrev pub Replay : History → List (List ℕ) → History → Type 0
Replay H [] end = end ≡ H
Replay H (row ∷ rows) end = (next : History) × Replays H row next × Replay next rows end

-- the history of these rows
abbrev pub Opens : List (List ℕ) → History → Type 0
Opens rows H = Replay [] rows H

-- the rows before this place are right, and the row there isn't
pub record IsDamaged (rows : List (List ℕ)) (place : ℕ) : Type 0 where
  pub before : History
  pub row : List ℕ
  pub opens : Opens (take place rows) before
  pub there : slice_get rows place ≡ Some row
  pub damaged : (next : History) → ¬ (Replays before row next)

-- an entry that some request makes behind a history
pub record Makes (chairs : List (List ℕ)) (H : History) (made : Entry) : Type 0 where
  pub request : Request
  pub typed : IsTyped request
  pub may : MayAsk H request
  pub entry : (step chairs H request).entry ≡ Some made

-- a history that was opened from rows, and entries behind it that requests made
abbrev pub IsLegal : List (List ℕ) → History → Type 0
IsLegal chairs [] = ⊤
IsLegal chairs (entry ∷ H) = ((rows : List (List ℕ)) × Opens rows (entry ∷ H)) ⊎ (IsLegal chairs H × Makes chairs H entry)
