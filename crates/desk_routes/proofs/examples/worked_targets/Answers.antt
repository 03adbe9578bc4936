-- What is asked computes where its parts are unfolded.
use lib.Utf8.{encode}
use Rattle.std.proofs.Common.{refl}
use Rattle.std.specs.Str.{chars, is_utf8}
use Rattle.desk_keeper.specs.Names.{is_chair_name, is_source_name}
use Rattle.desk_routes.specs.Asking.{asked_of}
use Rattle.desk_routes.specs.Examples.{asked_with, get, post}
use Rattle.desk_routes.specs.Targets.{place_of, parts_of, one_part, job_place, worker_place, two_parts, edit_place, answer_place, three_parts, four_parts}
use Rattle.desk_routes.proofs.examples.worked_targets.Goals as goal

pub returns-clause-mode_got : goal.returns-clause-mode_got
unfolding asked_with get post asked_of place_of parts_of is_utf8 chars encode is_chair_name is_source_name one_part job_place worker_place two_parts edit_place answer_place three_parts four_parts
returns-clause-mode_got c = refl

pub returns-clause-number_posted : goal.returns-clause-number_posted
unfolding asked_with get post asked_of place_of parts_of is_utf8 chars encode is_chair_name is_source_name one_part job_place worker_place two_parts edit_place answer_place three_parts four_parts
returns-clause-number_posted c = refl

pub returns-clause-head : goal.returns-clause-head
unfolding asked_with get post asked_of place_of parts_of is_utf8 chars encode is_chair_name is_source_name one_part job_place worker_place two_parts edit_place answer_place three_parts four_parts
returns-clause-head c = refl

pub returns-clause-options : goal.returns-clause-options
unfolding asked_with get post asked_of place_of parts_of is_utf8 chars encode is_chair_name is_source_name one_part job_place worker_place two_parts edit_place answer_place three_parts four_parts
returns-clause-options c = refl

pub returns-clause-lower_case : goal.returns-clause-lower_case
unfolding asked_with get post asked_of place_of parts_of is_utf8 chars encode is_chair_name is_source_name one_part job_place worker_place two_parts edit_place answer_place three_parts four_parts
returns-clause-lower_case c = refl

pub returns-clause-capital : goal.returns-clause-capital
unfolding asked_with get post asked_of place_of parts_of is_utf8 chars encode is_chair_name is_source_name one_part job_place worker_place two_parts edit_place answer_place three_parts four_parts
returns-clause-capital c = refl

pub returns-clause-leading_zero : goal.returns-clause-leading_zero
unfolding asked_with get post asked_of place_of parts_of is_utf8 chars encode is_chair_name is_source_name one_part job_place worker_place two_parts edit_place answer_place three_parts four_parts
returns-clause-leading_zero c = refl

pub returns-clause-greatest : goal.returns-clause-greatest
unfolding asked_with get post asked_of place_of parts_of is_utf8 chars encode is_chair_name is_source_name one_part job_place worker_place two_parts edit_place answer_place three_parts four_parts
returns-clause-greatest c = refl

pub returns-clause-too_great : goal.returns-clause-too_great
unfolding asked_with get post asked_of place_of parts_of is_utf8 chars encode is_chair_name is_source_name one_part job_place worker_place two_parts edit_place answer_place three_parts four_parts
returns-clause-too_great c = refl

pub returns-clause-settings_merged : goal.returns-clause-settings_merged
unfolding asked_with get post asked_of place_of parts_of is_utf8 chars encode is_chair_name is_source_name one_part job_place worker_place two_parts edit_place answer_place three_parts four_parts
returns-clause-settings_merged c = refl

pub returns-clause-source : goal.returns-clause-source
unfolding asked_with get post asked_of place_of parts_of is_utf8 chars encode is_chair_name is_source_name one_part job_place worker_place two_parts edit_place answer_place three_parts four_parts
returns-clause-source c = refl

pub returns-clause-trailing_stroke : goal.returns-clause-trailing_stroke
unfolding asked_with get post asked_of place_of parts_of is_utf8 chars encode is_chair_name is_source_name one_part job_place worker_place two_parts edit_place answer_place three_parts four_parts
returns-clause-trailing_stroke c = refl

pub returns-clause-no_stroke : goal.returns-clause-no_stroke
unfolding asked_with get post asked_of place_of parts_of is_utf8 chars encode is_chair_name is_source_name one_part job_place worker_place two_parts edit_place answer_place three_parts four_parts
returns-clause-no_stroke c = refl

pub returns-clause-empty_part : goal.returns-clause-empty_part
unfolding asked_with get post asked_of place_of parts_of is_utf8 chars encode is_chair_name is_source_name one_part job_place worker_place two_parts edit_place answer_place three_parts four_parts
returns-clause-empty_part c = refl

pub returns-clause-query : goal.returns-clause-query
unfolding asked_with get post asked_of place_of parts_of is_utf8 chars encode is_chair_name is_source_name one_part job_place worker_place two_parts edit_place answer_place three_parts four_parts
returns-clause-query c = refl

pub returns-clause-percent : goal.returns-clause-percent
unfolding asked_with get post asked_of place_of parts_of is_utf8 chars encode is_chair_name is_source_name one_part job_place worker_place two_parts edit_place answer_place three_parts four_parts
returns-clause-percent c = refl

pub returns-clause-worker : goal.returns-clause-worker
unfolding asked_with get post asked_of place_of parts_of is_utf8 chars encode is_chair_name is_source_name one_part job_place worker_place two_parts edit_place answer_place three_parts four_parts
returns-clause-worker c = refl
