-- A history and the one that comes back from its rows have the same commands, editions and publications, and jobs that are alike.
use Rattle.std.proofs.Common.{◌≡◌, ◌∙◌, ℕ, ◌+◌, ◌≤◌, cond, List, [], ◌∷◌, ◌++◌, length, Option, None, Some, refl, arith, ap, sym}
use Rattle.std.specs.Prelude.{◌==◌, ◌&&◌, bytes_eq, nat_lt}
use Rattle.match_rules.specs.declared.rules.TheConstants.{RULES_TICKETS}
use Rattle.publication.specs.Draws.{ticket_of}
use Rattle.publication.specs.declared.certificate.Certificate.{Certificate}
use Rattle.venue_rules.specs.Venues.{VenueValue}
use Rattle.venue_rules.specs.VenueRules.{rules_of}
use Rattle.desk_keeper.specs.declared.words.Command.{Command}
use Rattle.desk_keeper.specs.declared.words.Command.TheVariants.{Edit, Submit, Publish, Draw}
use Rattle.desk_history.specs.declared.entries.Done.TheVariants as done
use Rattle.desk_history.specs.declared.entries.Entry.TheVariants.{Accepted, Took, Ended, Released}
use Rattle.desk_history.specs.declared.jobs.Job.{Job}
use Rattle.desk_history.specs.declared.jobs.Publication.{Publication}
use Rattle.desk_history.specs.declared.jobs.Outcome.TheVariants.{Waiting}
use Rattle.desk_history.specs.Outcomes.{Edits, Releases, Takes}
use Rattle.desk_history.specs.Histories.{Earlier, History, changed, commands, drawn, edition, edits, ended, held, jobs, kept, made_or, new_job, present, publications, published, put, with_nth}
use Rattle.desk_history.specs.Looks.{rules_at, rules_or_none}
use Rattle.desk_history.specs.Rows.{publishes}
use Rattle.desk_history.specs.Steps.{done_of}
use Rattle.desk_laws.specs.Reopened.{reopened}
use Rattle.desk_laws.proofs.EvidenceLaws.{none_some}
use Rattle.desk_laws.proofs.Pairs.{Pairs, left_with_held, left_with_nth, pairs_append, pairs_length, pairs_map, pairs_with_nth}
use Rattle.desk_laws.proofs.PublishedLaws.{IsTimely, timely}

-- Commands

pub same_commands : (H : History) → commands (reopened H) ≡ commands H
same_commands [] = refl
same_commands (Accepted caller number command reply read ∷ H) = ap (λ n. n + 1) (same_commands H)
same_commands (Took bench job ∷ H) = same_commands H
same_commands (Ended bench done ∷ H) = same_commands H
same_commands (Released bench ∷ H) = same_commands H

pub same_kept : (H : History) (caller : List ℕ) (number : ℕ) → kept (reopened H) caller number ≡ kept H caller number
same_kept [] caller number = refl
same_kept (Accepted by its command reply read ∷ H) caller number =
    ap (λ (n : ℕ). cond (bytes_eq by caller && its == number) (Some (record { place = n; command = command; reply = reply })) (kept (reopened H) caller number)) (same_commands H)
    ∙ ap (λ (o : Option Earlier). cond (bytes_eq by caller && its == number) (Some (record { place = commands H; command = command; reply = reply })) o) (same_kept H caller number)
same_kept (Took bench job ∷ H) caller number = same_kept H caller number
same_kept (Ended bench done ∷ H) caller number = same_kept H caller number
same_kept (Released bench ∷ H) caller number = same_kept H caller number

-- Editions

pub same_edits : (H : History) → edits (reopened H) ≡ edits H
same_edits [] = refl
same_edits (Accepted caller number (Edit base edit) reply read ∷ H) = ap (λ n. n + 1) (same_edits H)
same_edits (Accepted caller number (Submit base mode) reply read ∷ H) = same_edits H
same_edits (Accepted caller number (Publish job) reply read ∷ H) = same_edits H
same_edits (Accepted caller number (Draw publication text) reply read ∷ H) = same_edits H
same_edits (Took bench job ∷ H) = same_edits H
same_edits (Ended bench done ∷ H) = same_edits H
same_edits (Released bench ∷ H) = same_edits H

pub same_present : (H : History) → present (reopened H) ≡ present H
same_present [] = refl
same_present (Accepted caller number (Edit base edit) reply read ∷ H) = ap (λ (v : VenueValue). made_or v (put v edit)) (same_present H)
same_present (Accepted caller number (Submit base mode) reply read ∷ H) = same_present H
same_present (Accepted caller number (Publish job) reply read ∷ H) = same_present H
same_present (Accepted caller number (Draw publication text) reply read ∷ H) = same_present H
same_present (Took bench job ∷ H) = same_present H
same_present (Ended bench done ∷ H) = same_present H
same_present (Released bench ∷ H) = same_present H

pub same_edition : (H : History) (n : ℕ) → edition (reopened H) n ≡ edition H n
same_edition [] n = refl
same_edition (Accepted caller number (Edit base edit) reply read ∷ H) n =
    ap (λ (m : ℕ). cond (nat_lt m n) (made_or (present (reopened H)) (put (present (reopened H)) edit)) (edition (reopened H) n)) (same_edits H)
    ∙ ap (λ (v : VenueValue). cond (nat_lt (edits H) n) (made_or v (put v edit)) (edition (reopened H) n)) (same_present H)
    ∙ ap (λ (v : VenueValue). cond (nat_lt (edits H) n) (made_or (present H) (put (present H) edit)) v) (same_edition H n)
same_edition (Accepted caller number (Submit base mode) reply read ∷ H) n = same_edition H n
same_edition (Accepted caller number (Publish job) reply read ∷ H) n = same_edition H n
same_edition (Accepted caller number (Draw publication text) reply read ∷ H) n = same_edition H n
same_edition (Took bench job ∷ H) n = same_edition H n
same_edition (Ended bench done ∷ H) n = same_edition H n
same_edition (Released bench ∷ H) n = same_edition H n

pub same_rules : (H : History) (n : ℕ) → rules_at (reopened H) n ≡ rules_at H n
same_rules H n = ap (λ (v : VenueValue). rules_or_none (rules_of v)) (same_edition H n)

-- Publications

pub same_publications : (H : History) → publications (reopened H) ≡ publications H
same_publications [] = refl
same_publications (Accepted caller number (Edit base edit) reply read ∷ H) = same_publications H
same_publications (Accepted caller number (Submit base mode) reply read ∷ H) = same_publications H
same_publications (Accepted caller number (Publish job) reply read ∷ H) = ap (λ (ps : List Publication). ps ++ record { job = job; ticket = None } ∷ []) (same_publications H)
same_publications (Accepted caller number (Draw publication text) reply read ∷ H) = ap (λ (ps : List Publication). with_nth ps publication (drawn (ticket_of text RULES_TICKETS))) (same_publications H)
same_publications (Took bench job ∷ H) = same_publications H
same_publications (Ended bench done ∷ H) = same_publications H
same_publications (Released bench ∷ H) = same_publications H

-- Jobs

-- a job and the one that comes back: of the same edition, mode and publication; one that may still be published comes back waiting
pub record IsSameJob (now : ℕ) (job back : Job) : Type 0 where
  pub edition : back.edition ≡ job.edition
  pub mode : back.mode ≡ job.mode
  pub publication : back.publication ≡ job.publication
  pub waits : job.publication ≡ None → now ≤ job.edition → back.outcome ≡ Waiting

edited_alike : (now later after : ℕ) (a b : Job) → IsTimely now a → IsSameJob now a b → IsSameJob (now + 1) (changed (Edits later) a) (changed (Edits after) b)
edited_alike now later after a b is same =
    let within : a.edition ≤ now = is.0 in
    record { edition = same.edition; mode = same.mode; publication = same.publication; waits = λ none le. absurd (let late : now + 1 ≤ a.edition = le in omega (arith, within, late)) }

published_alike : (now : ℕ) (read more : Option Certificate) (place other number new : ℕ) (a b : Job) → new ≡ number → IsSameJob now a b → IsSameJob now (published read place number a) (published more other new b)
published_alike now None None place other number new a b e same = record { edition = same.edition; mode = same.mode; publication = ap Some e; waits = λ none le. none_some number (sym none) }
published_alike now None (Some more) place other number new a b e same = record { edition = same.edition; mode = same.mode; publication = ap Some e; waits = λ none le. none_some number (sym none) }
published_alike now (Some read) None place other number new a b e same = record { edition = same.edition; mode = same.mode; publication = ap Some e; waits = λ none le. none_some number (sym none) }
published_alike now (Some read) (Some more) place other number new a b e same = record { edition = same.edition; mode = same.mode; publication = ap Some e; waits = λ none le. none_some number (sym none) }

pub same_jobs : (H : History) → Pairs (IsSameJob (edits H)) (jobs H) (jobs (reopened H))
same_jobs [] = tt
same_jobs (Accepted caller number (Edit base edit) reply read ∷ H) =
    pairs_map (IsTimely (edits H)) (IsSameJob (edits H)) (IsSameJob (edits H + 1)) (changed (Edits (edits H + 1))) (changed (Edits (edits (reopened H) + 1)))
    (λ x y is same. edited_alike (edits H) (edits H + 1) (edits (reopened H) + 1) x y is same) (jobs H) (jobs (reopened H)) (timely H) (same_jobs H)
same_jobs (Accepted caller number (Submit base mode) reply read ∷ H) =
    pairs_append (IsSameJob (edits H)) (jobs H) (jobs (reopened H)) (new_job (edits H) mode) (new_job (edits (reopened H)) mode) (same_jobs H)
    (record { edition = same_edits H; mode = refl; publication = refl; waits = λ none le. refl })
same_jobs (Accepted caller number (Publish job) reply read ∷ H) =
    pairs_with_nth (IsSameJob (edits H)) (published read (length H) (length (publications H) + 1)) (published (publishes H job read) (length (reopened H)) (length (publications (reopened H)) + 1))
    (jobs H) (jobs (reopened H)) job
    (λ x y found same. published_alike (edits H) read (publishes H job read) (length H) (length (reopened H)) (length (publications H) + 1) (length (publications (reopened H)) + 1) x y
    (ap (λ (ps : List Publication). length ps + 1) (same_publications H)) same)
    (same_jobs H)
same_jobs (Accepted caller number (Draw publication text) reply read ∷ H) = same_jobs H
same_jobs (Took bench job ∷ H) =
    left_with_nth (IsSameJob (edits H)) (changed Takes) (jobs H) (jobs (reopened H)) job
    (λ x y same. record { edition = same.edition; mode = same.mode; publication = same.publication; waits = same.waits }) (same_jobs H)
same_jobs (Ended bench done ∷ H) =
    left_with_held (IsSameJob (edits H)) (ended done (length H)) (jobs H) (jobs (reopened H)) (held H bench)
    (λ x y same. record { edition = same.edition; mode = same.mode; publication = same.publication; waits = same.waits }) (same_jobs H)
same_jobs (Released bench ∷ H) =
    left_with_held (IsSameJob (edits H)) (changed Releases) (jobs H) (jobs (reopened H)) (held H bench)
    (λ x y same. record { edition = same.edition; mode = same.mode; publication = same.publication; waits = same.waits }) (same_jobs H)

-- a command has the same reply
pub same_done : (H : History) (command : Command) → done_of (reopened H) command ≡ done_of H command
same_done H (Edit base edit) = ap (λ n. done.Edited (n + 1)) (same_edits H)
same_done H (Submit base mode) = ap (λ n. done.Submitted (n + 1)) (pairs_length (IsSameJob (edits H)) (jobs H) (jobs (reopened H)) (same_jobs H))
same_done H (Publish job) = ap (λ (ps : List Publication). done.Published (length ps + 1)) (same_publications H)
same_done H (Draw publication text) = refl
