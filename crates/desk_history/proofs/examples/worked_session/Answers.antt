-- The definitions compute where their parts are unfolded.
use Rattle.std.proofs.Common.{refl}
use Rattle.std.specs.Fmt.{digits}
use Rattle.std.specs.Str.{chars, is_utf8}
use Rattle.csv.specs.Machine.{next_record}
use Rattle.csv.specs.Reading.{strip_bom, records_from}
use Rattle.match_rules.specs.Id.{is_id, is_institution}
use Rattle.score_spec.specs.Reading.{read_as}
use Rattle.score_spec.specs.Scores.{score_of}
use Rattle.bid_import.specs.Files.{rows_of_file, first_row_of}
use Rattle.venue_rules.specs.Candidates.{candidates}
use Rattle.venue_rules.specs.VenueRules.{rules_of}
use Rattle.editions.specs.Edits.{venue_after}
use Rattle.text_lines.specs.Fields.{with_spaces}
use Rattle.text_lines.specs.Texts.{line_of}
use Rattle.desk_keeper.specs.Names.{is_source_name}
use Rattle.desk_keeper.specs.Rows.{row_of, head_of}
use Rattle.desk_history.proofs.examples.worked_session.Goals as goal

pub returns-clause-first : goal.returns-clause-first
unfolding venue_after rows_of_file first_row_of strip_bom records_from next_record is_id is_institution read_as rules_of candidates score_of is_source_name is_utf8 chars lib.Utf8.encode row_of head_of with_spaces line_of digits
returns-clause-first c = refl

pub returns-clause-edits : goal.returns-clause-edits
unfolding venue_after rows_of_file first_row_of strip_bom records_from next_record is_id is_institution read_as rules_of candidates score_of is_source_name is_utf8 chars lib.Utf8.encode row_of head_of with_spaces line_of digits
returns-clause-edits c = refl

pub returns-clause-submitted : goal.returns-clause-submitted
unfolding venue_after rows_of_file first_row_of strip_bom records_from next_record is_id is_institution read_as rules_of candidates score_of is_source_name is_utf8 chars lib.Utf8.encode row_of head_of with_spaces line_of digits
returns-clause-submitted c = refl

pub returns-clause-fifth : goal.returns-clause-fifth
unfolding venue_after rows_of_file first_row_of strip_bom records_from next_record is_id is_institution read_as rules_of candidates score_of is_source_name is_utf8 chars lib.Utf8.encode row_of head_of with_spaces line_of digits
returns-clause-fifth c = refl

pub returns-clause-full : goal.returns-clause-full
unfolding venue_after rows_of_file first_row_of strip_bom records_from next_record is_id is_institution read_as rules_of candidates score_of is_source_name is_utf8 chars lib.Utf8.encode row_of head_of with_spaces line_of digits
returns-clause-full c = refl

pub returns-clause-idle : goal.returns-clause-idle
unfolding venue_after rows_of_file first_row_of strip_bom records_from next_record is_id is_institution read_as rules_of candidates score_of is_source_name is_utf8 chars lib.Utf8.encode row_of head_of with_spaces line_of digits
returns-clause-idle c = refl

pub returns-clause-stale : goal.returns-clause-stale
unfolding venue_after rows_of_file first_row_of strip_bom records_from next_record is_id is_institution read_as rules_of candidates score_of is_source_name is_utf8 chars lib.Utf8.encode row_of head_of with_spaces line_of digits
returns-clause-stale c = refl

pub returns-clause-late : goal.returns-clause-late
unfolding venue_after rows_of_file first_row_of strip_bom records_from next_record is_id is_institution read_as rules_of candidates score_of is_source_name is_utf8 chars lib.Utf8.encode row_of head_of with_spaces line_of digits
returns-clause-late c = refl
