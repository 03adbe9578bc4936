-- The definitions compute where their parts are unfolded.
use Rattle.std.proofs.Common.{refl}
use Rattle.std.specs.Fmt.{digits}
use Rattle.std.specs.Str.{chars, is_utf8}
use Rattle.csv.specs.Machine.{next_record}
use Rattle.csv.specs.Reading.{strip_bom, records_from}
use Rattle.match_rules.specs.Id.{is_id, is_institution}
use Rattle.score_spec.specs.Reading.{read_as}
use Rattle.score_spec.specs.Scores.{score_of}
use Rattle.bid_import.specs.Files.{rows_of_file, first_row_of}
use Rattle.venue_rules.specs.Candidates.{candidates}
use Rattle.venue_rules.specs.VenueRules.{rules_of}
use Rattle.editions.specs.Edits.{venue_after}
use Rattle.text_lines.specs.Fields.{with_spaces}
use Rattle.text_lines.specs.Texts.{line_of, lines_of}
use Rattle.desk_keeper.specs.Names.{is_source_name}
use Rattle.desk_keeper.specs.Rows.{row_of, head_of}
use Rattle.text_lines.specs.Forms.{section_text, count_line}
use Rattle.text_lines.specs.Labels.{labelled, labelled_signed}
use Rattle.publication.specs.AnswerForms.{total_line, piece_line}
use Rattle.publication.specs.AnswerText.{answer_head_text, price_list_text, prices_text, worth_text, level_text, dealt_text, pieces_text, lottery_text}
use Rattle.publication.specs.AskedForms.{mode_line, threshold_line}
use Rattle.publication.specs.Certificates.{answer_text}
use Rattle.sha2.specs.Sha256.{sha256, digest_bytes, hash_after, compress, rounds, schedule, first_words}
use Rattle.desk_history.proofs.examples.worked_draw.Goals as goal

pub returns-clause-rules : goal.returns-clause-rules
unfolding venue_after rows_of_file first_row_of strip_bom records_from next_record is_id is_institution read_as rules_of candidates score_of is_source_name is_utf8 chars lib.Utf8.encode row_of head_of with_spaces line_of digits answer_text lottery_text answer_head_text price_list_text prices_text worth_text level_text dealt_text mode_line threshold_line pieces_text total_line piece_line section_text count_line labelled labelled_signed lines_of sha256 digest_bytes hash_after compress rounds schedule first_words
returns-clause-rules c = refl

pub returns-clause-certified : goal.returns-clause-certified
unfolding venue_after rows_of_file first_row_of strip_bom records_from next_record is_id is_institution read_as rules_of candidates score_of is_source_name is_utf8 chars lib.Utf8.encode row_of head_of with_spaces line_of digits answer_text lottery_text answer_head_text price_list_text prices_text worth_text level_text dealt_text mode_line threshold_line pieces_text total_line piece_line section_text count_line labelled labelled_signed lines_of sha256 digest_bytes hash_after compress rounds schedule first_words
returns-clause-certified c = refl

pub returns-clause-published : goal.returns-clause-published
unfolding venue_after rows_of_file first_row_of strip_bom records_from next_record is_id is_institution read_as rules_of candidates score_of is_source_name is_utf8 chars lib.Utf8.encode row_of head_of with_spaces line_of digits answer_text lottery_text answer_head_text price_list_text prices_text worth_text level_text dealt_text mode_line threshold_line pieces_text total_line piece_line section_text count_line labelled labelled_signed lines_of sha256 digest_bytes hash_after compress rounds schedule first_words
returns-clause-published c = refl

pub returns-clause-repeated : goal.returns-clause-repeated
unfolding venue_after rows_of_file first_row_of strip_bom records_from next_record is_id is_institution read_as rules_of candidates score_of is_source_name is_utf8 chars lib.Utf8.encode row_of head_of with_spaces line_of digits answer_text lottery_text answer_head_text price_list_text prices_text worth_text level_text dealt_text mode_line threshold_line pieces_text total_line piece_line section_text count_line labelled labelled_signed lines_of sha256 digest_bytes hash_after compress rounds schedule first_words
returns-clause-repeated c = refl

pub returns-clause-commands : goal.returns-clause-commands
unfolding venue_after rows_of_file first_row_of strip_bom records_from next_record is_id is_institution read_as rules_of candidates score_of is_source_name is_utf8 chars lib.Utf8.encode row_of head_of with_spaces line_of digits answer_text lottery_text answer_head_text price_list_text prices_text worth_text level_text dealt_text mode_line threshold_line pieces_text total_line piece_line section_text count_line labelled labelled_signed lines_of sha256 digest_bytes hash_after compress rounds schedule first_words
returns-clause-commands c = refl

pub returns-clause-reused : goal.returns-clause-reused
unfolding venue_after rows_of_file first_row_of strip_bom records_from next_record is_id is_institution read_as rules_of candidates score_of is_source_name is_utf8 chars lib.Utf8.encode row_of head_of with_spaces line_of digits answer_text lottery_text answer_head_text price_list_text prices_text worth_text level_text dealt_text mode_line threshold_line pieces_text total_line piece_line section_text count_line labelled labelled_signed lines_of sha256 digest_bytes hash_after compress rounds schedule first_words
returns-clause-reused c = refl

pub returns-clause-drawn : goal.returns-clause-drawn
unfolding venue_after rows_of_file first_row_of strip_bom records_from next_record is_id is_institution read_as rules_of candidates score_of is_source_name is_utf8 chars lib.Utf8.encode row_of head_of with_spaces line_of digits answer_text lottery_text answer_head_text price_list_text prices_text worth_text level_text dealt_text mode_line threshold_line pieces_text total_line piece_line section_text count_line labelled labelled_signed lines_of sha256 digest_bytes hash_after compress rounds schedule first_words
returns-clause-drawn c = refl

pub returns-clause-again : goal.returns-clause-again
unfolding venue_after rows_of_file first_row_of strip_bom records_from next_record is_id is_institution read_as rules_of candidates score_of is_source_name is_utf8 chars lib.Utf8.encode row_of head_of with_spaces line_of digits answer_text lottery_text answer_head_text price_list_text prices_text worth_text level_text dealt_text mode_line threshold_line pieces_text total_line piece_line section_text count_line labelled labelled_signed lines_of sha256 digest_bytes hash_after compress rounds schedule first_words
returns-clause-again c = refl

pub returns-clause-ticket : goal.returns-clause-ticket
unfolding venue_after rows_of_file first_row_of strip_bom records_from next_record is_id is_institution read_as rules_of candidates score_of is_source_name is_utf8 chars lib.Utf8.encode row_of head_of with_spaces line_of digits answer_text lottery_text answer_head_text price_list_text prices_text worth_text level_text dealt_text mode_line threshold_line pieces_text total_line piece_line section_text count_line labelled labelled_signed lines_of sha256 digest_bytes hash_after compress rounds schedule first_words
returns-clause-ticket c = refl

pub returns-clause-unknown : goal.returns-clause-unknown
unfolding venue_after rows_of_file first_row_of strip_bom records_from next_record is_id is_institution read_as rules_of candidates score_of is_source_name is_utf8 chars lib.Utf8.encode row_of head_of with_spaces line_of digits answer_text lottery_text answer_head_text price_list_text prices_text worth_text level_text dealt_text mode_line threshold_line pieces_text total_line piece_line section_text count_line labelled labelled_signed lines_of sha256 digest_bytes hash_after compress rounds schedule first_words
returns-clause-unknown c = refl
