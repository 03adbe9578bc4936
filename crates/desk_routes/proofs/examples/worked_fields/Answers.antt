-- What is asked computes where its parts are unfolded.
use lib.Utf8.{encode}
use Rattle.std.proofs.Common.{refl}
use Rattle.std.specs.Str.{chars, is_utf8}
use Rattle.desk_keeper.specs.Names.{is_chair_name, is_source_name}
use Rattle.desk_routes.specs.Asking.{asked_of}
use Rattle.desk_routes.specs.Examples.{asked_with, get, post}
use Rattle.desk_routes.specs.Targets.{place_of, parts_of, one_part, job_place, worker_place, two_parts, edit_place, answer_place, three_parts, four_parts}
use Rattle.desk_routes.proofs.examples.worked_fields.Goals as goal

pub returns-clause-no_chair : goal.returns-clause-no_chair
unfolding asked_with get post asked_of place_of parts_of is_utf8 chars encode is_chair_name is_source_name one_part job_place worker_place two_parts edit_place answer_place three_parts four_parts
returns-clause-no_chair c = refl

pub returns-clause-chair_twice : goal.returns-clause-chair_twice
unfolding asked_with get post asked_of place_of parts_of is_utf8 chars encode is_chair_name is_source_name one_part job_place worker_place two_parts edit_place answer_place three_parts four_parts
returns-clause-chair_twice c = refl

pub returns-clause-comma : goal.returns-clause-comma
unfolding asked_with get post asked_of place_of parts_of is_utf8 chars encode is_chair_name is_source_name one_part job_place worker_place two_parts edit_place answer_place three_parts four_parts
returns-clause-comma c = refl

pub returns-clause-chair_last : goal.returns-clause-chair_last
unfolding asked_with get post asked_of place_of parts_of is_utf8 chars encode is_chair_name is_source_name one_part job_place worker_place two_parts edit_place answer_place three_parts four_parts
returns-clause-chair_last c = refl

pub returns-clause-chair_first : goal.returns-clause-chair_first
unfolding asked_with get post asked_of place_of parts_of is_utf8 chars encode is_chair_name is_source_name one_part job_place worker_place two_parts edit_place answer_place three_parts four_parts
returns-clause-chair_first c = refl

pub returns-clause-no_number : goal.returns-clause-no_number
unfolding asked_with get post asked_of place_of parts_of is_utf8 chars encode is_chair_name is_source_name one_part job_place worker_place two_parts edit_place answer_place three_parts four_parts
returns-clause-no_number c = refl

pub returns-clause-number_twice : goal.returns-clause-number_twice
unfolding asked_with get post asked_of place_of parts_of is_utf8 chars encode is_chair_name is_source_name one_part job_place worker_place two_parts edit_place answer_place three_parts four_parts
returns-clause-number_twice c = refl

pub returns-clause-number_zero : goal.returns-clause-number_zero
unfolding asked_with get post asked_of place_of parts_of is_utf8 chars encode is_chair_name is_source_name one_part job_place worker_place two_parts edit_place answer_place three_parts four_parts
returns-clause-number_zero c = refl

pub returns-clause-no_base : goal.returns-clause-no_base
unfolding asked_with get post asked_of place_of parts_of is_utf8 chars encode is_chair_name is_source_name one_part job_place worker_place two_parts edit_place answer_place three_parts four_parts
returns-clause-no_base c = refl

pub returns-clause-base_twice : goal.returns-clause-base_twice
unfolding asked_with get post asked_of place_of parts_of is_utf8 chars encode is_chair_name is_source_name one_part job_place worker_place two_parts edit_place answer_place three_parts four_parts
returns-clause-base_twice c = refl

pub returns-clause-base_unread : goal.returns-clause-base_unread
unfolding asked_with get post asked_of place_of parts_of is_utf8 chars encode is_chair_name is_source_name one_part job_place worker_place two_parts edit_place answer_place three_parts four_parts
returns-clause-base_unread c = refl
