-- The targets that the desk serves, by their parts between the strokes.
use Rattle.std.specs.Prelude.{ℕ, Bool, ◌==◌, List, [], ◌∷◌, length, codes, Option, None, Some, if◌then◌else◌}
use Rattle.std.specs.List.{slice_split}
use Rattle.std.specs.Option.{option_map}
use Rattle.std.specs.Str.{bytes_eq, is_utf8}
use Rattle.desk_keeper.specs.Reading.{◌>>=◌, needs, number_in, how_in, mode_in, table_in}
use Rattle.desk_keeper.specs.Rows.{are_edit_words}
use Rattle.desk_keeper.specs.declared.words.HowWords.{HowWords}
use Rattle.desk_keeper.specs.declared.words.TableWords.{TableWords}
use Rattle.match_rules.specs.declared.answer.Mode.{Mode}
use Rattle.desk_routes.specs.declared.places.Look.TheVariants as look
use Rattle.desk_routes.specs.declared.places.Place.{Place}
use Rattle.desk_routes.specs.declared.places.Place.TheVariants.{Edit, Submit, Publish, Draw, Look as LookAt, Take, Finish, Release}
use Rattle.desk_routes.specs.declared.places.Routes.{Routes}
use Rattle.desk_routes.specs.declared.places.Routes.TheVariants.{Chairs, ChairsAndWorker}

abbrev pub is_stroke : ℕ → Bool
is_stroke byte = byte == 47

-- the parts between the strokes: one more than there are strokes
unfoldable pub parts_of : List ℕ → List (List ℕ)
parts_of target = slice_split is_stroke target

-- ---- what the parts behind the first stroke are for

-- /edition, /rules
unfoldable pub one_part : List ℕ → Option Place
one_part word =
    if bytes_eq word (codes "edition") then Some (LookAt look.Edition)
    else (if bytes_eq word (codes "rules") then Some (LookAt look.Rules)
    else None)

-- /jobs/MODE
abbrev pub submit_at : Option Mode → Option Place → Option Place
submit_at None other = other
submit_at (Some mode) other = Some (Submit mode)

-- /jobs/MODE, /jobs/JOB
unfoldable pub job_place : List ℕ → Option Place
job_place word = submit_at (mode_in word) (option_map (λ job. LookAt (look.Job job)) (number_in word))

-- /worker/take, /worker/finish, /worker/release, where the worker is served
unfoldable pub worker_place : Routes → List ℕ → Option Place
worker_place Chairs word = None
worker_place ChairsAndWorker word =
    if bytes_eq word (codes "take") then Some Take
    else (if bytes_eq word (codes "finish") then Some Finish
    else (if bytes_eq word (codes "release") then Some Release
    else None))

-- those, and /publish/JOB, /draw/NUMBER, /publications/NUMBER
unfoldable pub two_parts : Routes → List ℕ → List ℕ → Option Place
two_parts routes first second =
    if bytes_eq first (codes "jobs") then job_place second
    else (if bytes_eq first (codes "publish") then option_map Publish (number_in second)
    else (if bytes_eq first (codes "draw") then option_map Draw (number_in second)
    else (if bytes_eq first (codes "publications") then option_map (λ number. LookAt (look.Publication number)) (number_in second)
    else (if bytes_eq first (codes "worker") then worker_place routes second
    else None))))

-- settings are replaced alone, and values are those of a source
abbrev pub edit_of : Option TableWords → Option HowWords → Option Place
edit_of words way = do
  table ← words
  how ← way
  right ← needs (are_edit_words table how)
  Some (Edit table how)

-- /edit/TABLE/HOW
unfoldable pub edit_place : List ℕ → List ℕ → Option Place
edit_place second third = edit_of (table_in second) (how_in third)

-- /jobs/JOB/answer
unfoldable pub answer_place : List ℕ → List ℕ → Option Place
answer_place second third = do
  answer ← needs (bytes_eq third (codes "answer"))
  job ← number_in second
  Some (LookAt (look.Answer job))

unfoldable pub three_parts : List ℕ → List ℕ → List ℕ → Option Place
three_parts first second third =
    if bytes_eq first (codes "edit") then edit_place second third
    else (if bytes_eq first (codes "jobs") then answer_place second third
    else None)

-- /publications/NUMBER/tickets/TICKET
unfoldable pub four_parts : List ℕ → List ℕ → List ℕ → List ℕ → Option Place
four_parts first second third fourth = do
  publications ← needs (bytes_eq first (codes "publications"))
  tickets ← needs (bytes_eq third (codes "tickets"))
  publication ← number_in second
  ticket ← number_in fourth
  Some (LookAt (look.Ticket publication ticket))

abbrev pub place_in : Routes → List (List ℕ) → Option Place
place_in routes [] = None
place_in routes (first ∷ []) = one_part first
place_in routes (first ∷ second ∷ []) = two_parts routes first second
place_in routes (first ∷ second ∷ third ∷ []) = three_parts first second third
place_in routes (first ∷ second ∷ third ∷ fourth ∷ []) = four_parts first second third fourth
place_in routes (first ∷ second ∷ third ∷ fourth ∷ fifth ∷ parts) = None

-- ---- the target

-- it begins with a stroke: its first part is empty
abbrev pub behind_stroke : Routes → List (List ℕ) → Option Place
behind_stroke routes [] = None
behind_stroke routes (first ∷ parts) = if length first == 0 then place_in routes parts else None

-- what a target is for: a text of parts between strokes, as it stands
unfoldable pub place_of : Routes → List ℕ → Option Place
place_of routes target = do
  text ← needs (is_utf8 target)
  behind_stroke routes (parts_of target)
