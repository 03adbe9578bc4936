-- What may be asked at the places of targets.
use Rattle.std.proofs.Common.{◌≡◌, ℕ, List, [], ◌∷◌, Bool, true, false, Option, None, Some, refl, length}
use Rattle.std.specs.Prelude.{◌==◌, codes, if◌then◌else◌, ⊤}
use Rattle.std.specs.Option.{option_map}
use Rattle.std.specs.Str.{bytes_eq, is_utf8}
use Rattle.match_rules.specs.declared.answer.Mode.{Mode}
use Rattle.desk_keeper.specs.Reading.{◌>>=◌, needs, number_in, how_in, mode_in, table_in}
use Rattle.desk_keeper.specs.Rows.{are_edit_words}
use Rattle.desk_keeper.specs.declared.words.HowWords.{HowWords}
use Rattle.desk_keeper.specs.declared.words.TableWords.{TableWords}
use Rattle.desk_routes.specs.declared.places.Look.TheVariants as look
use Rattle.desk_routes.specs.declared.places.Place.{Place}
use Rattle.desk_routes.specs.declared.places.Place.TheVariants.{Edit, Submit, Publish, Draw, Look, Take, Finish, Release}
use Rattle.desk_routes.specs.declared.places.Routes.{Routes}
use Rattle.desk_routes.specs.declared.places.Routes.TheVariants.{Chairs, ChairsAndWorker}
use Rattle.desk_routes.specs.Served.{ServeWorker}
use Rattle.desk_routes.specs.Targets.{answer_place, behind_stroke, edit_of, edit_place, four_parts, job_place, one_part, parts_of, place_in, place_of, submit_at, three_parts, two_parts, worker_place}

-- what may be asked at a place
abbrev pub IsServedAt : Routes → Place → Type 0
IsServedAt routes (Edit table how) = are_edit_words table how ≡ true
IsServedAt routes (Submit mode) = ⊤
IsServedAt routes (Publish job) = ⊤
IsServedAt routes (Draw publication) = ⊤
IsServedAt routes (Look what) = ⊤
IsServedAt routes Take = ServeWorker routes
IsServedAt routes Finish = ServeWorker routes
IsServedAt routes Release = ServeWorker routes

abbrev pub ServedSome : Routes → Option Place → Type 0
ServedSome routes None = ⊤
ServedSome routes (Some place) = IsServedAt routes place

either : (routes : Routes) (test : Bool) (left right : Option Place) → ServedSome routes left → ServedSome routes right → ServedSome routes (if test then left else right)
either routes true left right l r = l
either routes false left right l r = r

one_served : (routes : Routes) (word : List ℕ) → ServedSome routes (one_part word)
unfolding one_part
one_served routes word =
    either routes (bytes_eq word (codes "edition")) (Some (Look look.Edition)) _ tt (either routes (bytes_eq word (codes "rules")) (Some (Look look.Rules)) None tt tt)

submit_served : (routes : Routes) (mode : Option Mode) (other : Option Place) → ServedSome routes other → ServedSome routes (submit_at mode other)
submit_served routes None other is = is
submit_served routes (Some mode) other is = tt

mapped : (routes : Routes) (make : ℕ → Place) → ((n : ℕ) → IsServedAt routes (make n)) → (number : Option ℕ) → ServedSome routes (option_map make number)
mapped routes make is None = tt
mapped routes make is (Some n) = is n

job_served : (routes : Routes) (word : List ℕ) → ServedSome routes (job_place word)
unfolding job_place
job_served routes word = submit_served routes (mode_in word) _ (mapped routes (λ job. Look (look.Job job)) (λ n. tt) (number_in word))

worker_served : (routes : Routes) (word : List ℕ) → ServedSome routes (worker_place routes word)
unfolding worker_place
worker_served Chairs word = tt
worker_served ChairsAndWorker word =
    either ChairsAndWorker (bytes_eq word (codes "take")) (Some Take) _ tt
    (either ChairsAndWorker (bytes_eq word (codes "finish")) (Some Finish) _ tt
    (either ChairsAndWorker (bytes_eq word (codes "release")) (Some Release) None tt tt))

two_served : (routes : Routes) (first second : List ℕ) → ServedSome routes (two_parts routes first second)
unfolding two_parts
two_served routes first second =
    either routes (bytes_eq first (codes "jobs")) (job_place second) _ (job_served routes second)
    (either routes (bytes_eq first (codes "publish")) (option_map Publish (number_in second)) _ (mapped routes Publish (λ n. tt) (number_in second))
    (either routes (bytes_eq first (codes "draw")) (option_map Draw (number_in second)) _ (mapped routes Draw (λ n. tt) (number_in second))
    (either routes (bytes_eq first (codes "publications")) (option_map (λ number. Look (look.Publication number)) (number_in second)) _ (mapped routes (λ number. Look (look.Publication number)) (λ n. tt) (number_in second))
    (either routes (bytes_eq first (codes "worker")) (worker_place routes second) None (worker_served routes second) tt))))

words_served : (routes : Routes) (table : TableWords) (how : HowWords) (right : Bool) → are_edit_words table how ≡ right → ServedSome routes (edit_of (Some table) (Some how))
words_served routes table how true is = rw is is
words_served routes table how false is = rw is tt

edit_served : (routes : Routes) (table : Option TableWords) (how : Option HowWords) → ServedSome routes (edit_of table how)
edit_served routes None how = tt
edit_served routes (Some table) None = tt
edit_served routes (Some table) (Some how) = words_served routes table how (are_edit_words table how) refl

edits_served : (routes : Routes) (second third : List ℕ) → ServedSome routes (edit_place second third)
unfolding edit_place
edits_served routes second third = edit_served routes (table_in second) (how_in third)

bound : {A : Type 0} (routes : Routes) (found : Option A) (f : A → Option Place) → ((x : A) → ServedSome routes (f x)) → ServedSome routes (found >>= f)
bound routes None f is = tt
bound routes (Some x) f is = is x

answer_served : (routes : Routes) (second third : List ℕ) → ServedSome routes (answer_place second third)
unfolding answer_place
answer_served routes second third = bound routes (needs (bytes_eq third (codes "answer"))) _ (λ answer. bound routes (number_in second) _ (λ job. tt))

three_served : (routes : Routes) (first second third : List ℕ) → ServedSome routes (three_parts first second third)
unfolding three_parts
three_served routes first second third =
    either routes (bytes_eq first (codes "edit")) (edit_place second third) _ (edits_served routes second third)
    (either routes (bytes_eq first (codes "jobs")) (answer_place second third) None (answer_served routes second third) tt)

four_served : (routes : Routes) (first second third fourth : List ℕ) → ServedSome routes (four_parts first second third fourth)
unfolding four_parts
four_served routes first second third fourth =
    bound routes (needs (bytes_eq first (codes "publications"))) _ (λ publications. bound routes (needs (bytes_eq third (codes "tickets"))) _ (λ tickets.
    bound routes (number_in second) _ (λ publication. bound routes (number_in fourth) _ (λ ticket. tt))))

parts_served : (routes : Routes) (parts : List (List ℕ)) → ServedSome routes (place_in routes parts)
parts_served routes [] = tt
parts_served routes (first ∷ []) = one_served routes first
parts_served routes (first ∷ second ∷ []) = two_served routes first second
parts_served routes (first ∷ second ∷ third ∷ []) = three_served routes first second third
parts_served routes (first ∷ second ∷ third ∷ fourth ∷ []) = four_served routes first second third fourth
parts_served routes (first ∷ second ∷ third ∷ fourth ∷ fifth ∷ parts) = tt

behind_served : (routes : Routes) (parts : List (List ℕ)) → ServedSome routes (behind_stroke routes parts)
behind_served routes [] = tt
behind_served routes (first ∷ parts) = either routes (length first == 0) (place_in routes parts) None (parts_served routes parts) tt

pub place_served : (routes : Routes) (target : List ℕ) → ServedSome routes (place_of routes target)
unfolding place_of
place_served routes target = bound routes (needs (is_utf8 target)) _ (λ text. behind_served routes (parts_of target))
