-- The replies to requests that the desk accepts.
use Rattle.std.specs.Prelude.{ℕ, List, ◌++◌, None, codes, ⊤}
use Rattle.match_rules.specs.declared.answer.Mode.{Mode}
use Rattle.publication.specs.Certificates.{certificate_text}
use Rattle.publication.specs.RulesText.{rules_text}
use Rattle.text_lines.specs.Texts.{line_of, lines_of}
use Rattle.serde_json.specs.Data.{Members, no_members}
use Rattle.http_messages.specs.Replies.{ReplyValue}
use Rattle.http_messages.specs.declared.replies.MediaType.TheVariants.{Json, PlainText}
use Rattle.desk_keeper.specs.Rows.{mode_word}
use Rattle.desk_history.specs.declared.jobs.Outcome.{Outcome}
use Rattle.desk_history.specs.declared.replies.Answered.{Answered}
use Rattle.desk_history.specs.declared.replies.Answered.TheVariants as answered
use Rattle.desk_history.specs.declared.replies.PairIds.{PairIds}
use Rattle.desk_history.specs.Steps.{IsRight}
use Rattle.desk_replies.specs.Objects.{object_text, with_number, with_text}
use Rattle.desk_replies.specs.Outcomes.{with_outcome, with_worth}

-- a reply of this status whose body is an object
abbrev pub object_reply : ℕ → Members → ReplyValue
object_reply status members = record { status = status; media_type = Json; allow = None; body = object_text members }

-- an accepted request's reply whose body is a text
abbrev pub text_reply : List ℕ → ReplyValue
text_reply text = record { status = 200; media_type = PlainText; allow = None; body = text }

-- an object of one number
abbrev pub number_members : List ℕ → ℕ → Members
number_members key amount = with_number key amount no_members

abbrev pub drawn_members : ℕ → ℕ → Members
drawn_members publication ticket = with_number (codes "publication") publication (with_number (codes "ticket") ticket no_members)

-- a job that a bench takes
abbrev pub taken_members : ℕ → ℕ → Members
taken_members edition job = with_number (codes "edition") edition (with_number (codes "job") job no_members)

-- what a look at a job shows
abbrev pub job_members : ℕ → ℕ → Mode → Outcome → Members
job_members job edition mode outcome =
    with_number (codes "edition") edition (with_number (codes "job") job (with_text (codes "mode") (mode_word mode) (with_outcome outcome (with_worth outcome no_members))))

-- what a finish shows
abbrev pub finished_members : ℕ → Outcome → Members
finished_members job outcome = with_number (codes "job") job (with_outcome outcome no_members)

-- the line of a pair: its ids with a comma between them
unfoldable pub pair_line : PairIds → List ℕ
pair_line pair = pair.paper ++ (codes "," ++ pair.reviewer)

-- a header, and a line for each pair
unfoldable pub pairs_text : List PairIds → List ℕ
pairs_text pairs = line_of (codes "paper,reviewer") ++ lines_of pair_line pairs

abbrev pub reply_of_answer : Answered → ReplyValue
reply_of_answer (answered.Edited edition) = object_reply 200 (number_members (codes "edition") edition)
reply_of_answer (answered.Submitted job) = object_reply 200 (number_members (codes "job") job)
reply_of_answer (answered.Published publication) = object_reply 200 (number_members (codes "publication") publication)
reply_of_answer (answered.Drawn publication ticket) = object_reply 200 (drawn_members publication ticket)
reply_of_answer (answered.Edition edition) = object_reply 200 (number_members (codes "edition") edition)
reply_of_answer (answered.Rules rules) = text_reply (rules_text rules)
reply_of_answer (answered.Job job edition mode outcome) = object_reply 200 (job_members job edition mode outcome)
reply_of_answer (answered.Certificate certificate) = text_reply (certificate_text certificate.rules certificate.answer)
reply_of_answer (answered.Pairs pairs) = text_reply (pairs_text pairs)
reply_of_answer (answered.Taken snapshot) = object_reply 200 (taken_members snapshot.edition snapshot.job)
reply_of_answer (answered.Finished job outcome) = object_reply 200 (finished_members job outcome)
reply_of_answer (answered.Released job) = object_reply 200 (number_members (codes "job") job)

-- rules are shown with an answer that is right for them in some mode
abbrev pub ShowsRight : Answered → Type 0
ShowsRight (answered.Certificate certificate) = (mode : Mode) × IsRight certificate.rules mode certificate.answer
ShowsRight other = ⊤
