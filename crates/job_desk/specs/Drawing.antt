-- What a publication has drawn.
use Rattle.std.specs.Prelude.{ℕ, Option, Some, None}
use Rattle.match_rules.specs.Rules.{RulesValue}
use Rattle.match_rules.specs.declared.lottery.Piece.{Piece}
use Rattle.publication.specs.declared.certificate.Certificate.{Certificate}
use Rattle.desk_history.specs.declared.entries.Entry.{Entry}
use Rattle.desk_history.specs.declared.jobs.Publication.{Publication}
use Rattle.desk_history.specs.Histories.{History, brought_by, job_of}
use Rattle.desk_history.specs.Looks.{drawn_piece}
use Rattle.desk_history.specs.Rows.{evidence_of}
use Rattle.job_desk.specs.declared.drawing.Drawn.{Drawn}

-- the rules, the piece that was drawn and its ticket
pub record DrawnValue : Type 0 where
  pub rules : RulesValue
  pub piece : Piece
  pub ticket : ℕ

abbrev pub value_of : Drawn → DrawnValue
value_of drawn = record { rules = drawn.rules.now; piece = drawn.piece.now; ticket = drawn.ticket }

abbrev pub drawn_with : Certificate → ℕ → Option Piece → Option DrawnValue
drawn_with shown ticket None = None
drawn_with shown ticket (Some piece) = Some (record { rules = shown.rules; piece = piece; ticket = ticket })

-- what a ticket draws of a lottery
abbrev pub drawn_from : Option Certificate → ℕ → Option DrawnValue
drawn_from None ticket = None
drawn_from (Some shown) ticket = drawn_with shown ticket (drawn_piece shown.answer ticket)

abbrev pub drawn_at : History → ℕ → Option ℕ → Option DrawnValue
drawn_at H job None = None
drawn_at H job (Some ticket) = drawn_from (evidence_of H (job_of H job)) ticket

-- what the ticket of a publication has drawn; nothing before its draw
abbrev pub drawn_of : History → Option Publication → Option DrawnValue
drawn_of H None = None
drawn_of H (Some publication) = drawn_at H publication.job publication.ticket

-- what an entry brought, where there is one
abbrev pub brought_from : Option Entry → Option Certificate
brought_from None = None
brought_from (Some entry) = brought_by entry
