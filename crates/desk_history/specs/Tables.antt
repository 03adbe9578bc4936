-- The tables of a desk: what follows from its history, kept at hand.
use Rattle.std.specs.Prelude.{◌≡◌, ℕ, ◌<◌, length, slice_index_or, None, Ok}
use Rattle.venue_rules.specs.VenueRules.{rules_of}
use Rattle.desk_history.specs.declared.refusals.TheConstants.{BENCHES}
use Rattle.desk_history.specs.declared.tables.Tables.{Tables}
use Rattle.desk_history.specs.Histories.{History, commands, edits, held, jobs, present, publications}
use Rattle.desk_history.specs.Rows.{bytes}

-- the tables are those of the history
pub record AreTables (H : History) (tables : Tables) : Type 0 where
  pub venue : tables.venue ≡ present H
  pub rules : rules_of (present H) ≡ Ok tables.rules
  pub edits : tables.edits ≡ edits H
  pub commands : tables.commands ≡ commands H
  pub bytes : tables.bytes ≡ bytes H
  pub jobs : tables.jobs.items ≡ jobs H
  pub publications : tables.publications.items ≡ publications H
  pub bench_count : length tables.benches ≡ BENCHES
  pub benches : (bench : ℕ) → bench < BENCHES → slice_index_or tables.benches bench None ≡ held H bench
