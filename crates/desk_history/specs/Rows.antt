-- The rows of the accepted commands of a history.
use Rattle.std.specs.Prelude.{ℕ, ◌+◌, List, [], ◌∷◌, ◌++◌, length, Option, Some, None}
use Rattle.publication.specs.Certificates.{answer_text}
use Rattle.publication.specs.declared.certificate.Certificate.{Certificate}
use Rattle.desk_keeper.specs.Rows.{row_of}
use Rattle.desk_keeper.specs.declared.words.Command.{Command}
use Rattle.desk_keeper.specs.declared.words.Command.TheVariants.{Edit, Submit, Publish, Draw}
use Rattle.desk_keeper.specs.declared.words.Named.{Named}
use Rattle.desk_history.specs.declared.entries.Entry.TheVariants.{Accepted}
use Rattle.desk_history.specs.declared.jobs.Job.{Job}
use Rattle.desk_history.specs.Histories.{History, evidence, job_of}

abbrev pub named : List ℕ → ℕ → Command → Named
named caller number command = record { caller = caller; number = number; command = command }

-- the text of the answer, and none where there is none
abbrev pub text_of : Option Certificate → List ℕ
text_of None = []
text_of (Some shown) = answer_text shown.answer

abbrev pub evidence_of : History → Option Job → Option Certificate
evidence_of H None = None
evidence_of H (Some job) = evidence H job

-- what a publish publishes: what was read with it from its row, else the evidence of its job
abbrev pub publishes : History → ℕ → Option Certificate → Option Certificate
publishes H job None = evidence_of H (job_of H job)
publishes H job (Some read) = Some read

-- the text of the lottery of a publish; other commands have none
abbrev pub lottery_of : History → Command → Option Certificate → List ℕ
lottery_of H (Publish job) read = text_of (publishes H job read)
lottery_of H (Edit base edit) read = []
lottery_of H (Submit base mode) read = []
lottery_of H (Draw publication text) read = []

-- the row that a command gets behind a history
abbrev pub row_behind : History → Named → Option Certificate → List ℕ
row_behind H its read = row_of its (lottery_of H its.command read)

-- the rows of the accepted commands, in their order
abbrev pub rows : History → List (List ℕ)
rows [] = []
rows (Accepted caller number command reply read ∷ H) = rows H ++ row_behind H (named caller number command) read ∷ []
rows (entry ∷ H) = rows H

-- the bytes of these rows
abbrev pub bytes : History → ℕ
bytes [] = 0
bytes (Accepted caller number command reply read ∷ H) = bytes H + length (row_behind H (named caller number command) read)
bytes (entry ∷ H) = bytes H
