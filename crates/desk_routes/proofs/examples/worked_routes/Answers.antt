-- What is asked computes where its parts are unfolded.
use lib.Utf8.{encode}
use Rattle.std.proofs.Common.{refl}
use Rattle.std.specs.Str.{chars, is_utf8}
use Rattle.desk_keeper.specs.Names.{is_chair_name, is_source_name}
use Rattle.desk_routes.specs.Asking.{asked_of}
use Rattle.desk_routes.specs.Examples.{asked_with, get, post}
use Rattle.desk_routes.specs.Targets.{place_of, parts_of, one_part, job_place, worker_place, two_parts, edit_place, answer_place, three_parts, four_parts}
use Rattle.desk_routes.proofs.examples.worked_routes.Goals as goal

pub returns-clause-edit : goal.returns-clause-edit
unfolding asked_with get post asked_of place_of parts_of is_utf8 chars encode is_chair_name is_source_name one_part job_place worker_place two_parts edit_place answer_place three_parts four_parts
returns-clause-edit c = refl

pub returns-clause-values : goal.returns-clause-values
unfolding asked_with get post asked_of place_of parts_of is_utf8 chars encode is_chair_name is_source_name one_part job_place worker_place two_parts edit_place answer_place three_parts four_parts
returns-clause-values c = refl

pub returns-clause-submit : goal.returns-clause-submit
unfolding asked_with get post asked_of place_of parts_of is_utf8 chars encode is_chair_name is_source_name one_part job_place worker_place two_parts edit_place answer_place three_parts four_parts
returns-clause-submit c = refl

pub returns-clause-fair : goal.returns-clause-fair
unfolding asked_with get post asked_of place_of parts_of is_utf8 chars encode is_chair_name is_source_name one_part job_place worker_place two_parts edit_place answer_place three_parts four_parts
returns-clause-fair c = refl

pub returns-clause-publish : goal.returns-clause-publish
unfolding asked_with get post asked_of place_of parts_of is_utf8 chars encode is_chair_name is_source_name one_part job_place worker_place two_parts edit_place answer_place three_parts four_parts
returns-clause-publish c = refl

pub returns-clause-draw : goal.returns-clause-draw
unfolding asked_with get post asked_of place_of parts_of is_utf8 chars encode is_chair_name is_source_name one_part job_place worker_place two_parts edit_place answer_place three_parts four_parts
returns-clause-draw c = refl

pub returns-clause-edition : goal.returns-clause-edition
unfolding asked_with get post asked_of place_of parts_of is_utf8 chars encode is_chair_name is_source_name one_part job_place worker_place two_parts edit_place answer_place three_parts four_parts
returns-clause-edition c = refl

pub returns-clause-rules : goal.returns-clause-rules
unfolding asked_with get post asked_of place_of parts_of is_utf8 chars encode is_chair_name is_source_name one_part job_place worker_place two_parts edit_place answer_place three_parts four_parts
returns-clause-rules c = refl

pub returns-clause-job : goal.returns-clause-job
unfolding asked_with get post asked_of place_of parts_of is_utf8 chars encode is_chair_name is_source_name one_part job_place worker_place two_parts edit_place answer_place three_parts four_parts
returns-clause-job c = refl

pub returns-clause-answer : goal.returns-clause-answer
unfolding asked_with get post asked_of place_of parts_of is_utf8 chars encode is_chair_name is_source_name one_part job_place worker_place two_parts edit_place answer_place three_parts four_parts
returns-clause-answer c = refl

pub returns-clause-publication : goal.returns-clause-publication
unfolding asked_with get post asked_of place_of parts_of is_utf8 chars encode is_chair_name is_source_name one_part job_place worker_place two_parts edit_place answer_place three_parts four_parts
returns-clause-publication c = refl

pub returns-clause-ticket : goal.returns-clause-ticket
unfolding asked_with get post asked_of place_of parts_of is_utf8 chars encode is_chair_name is_source_name one_part job_place worker_place two_parts edit_place answer_place three_parts four_parts
returns-clause-ticket c = refl

pub returns-clause-take : goal.returns-clause-take
unfolding asked_with get post asked_of place_of parts_of is_utf8 chars encode is_chair_name is_source_name one_part job_place worker_place two_parts edit_place answer_place three_parts four_parts
returns-clause-take c = refl

pub returns-clause-finish : goal.returns-clause-finish
unfolding asked_with get post asked_of place_of parts_of is_utf8 chars encode is_chair_name is_source_name one_part job_place worker_place two_parts edit_place answer_place three_parts four_parts
returns-clause-finish c = refl

pub returns-clause-release : goal.returns-clause-release
unfolding asked_with get post asked_of place_of parts_of is_utf8 chars encode is_chair_name is_source_name one_part job_place worker_place two_parts edit_place answer_place three_parts four_parts
returns-clause-release c = refl
