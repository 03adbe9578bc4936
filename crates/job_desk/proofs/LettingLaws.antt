-- Where a bench lets go of its job, over the entries in the order of time.
use Rattle.std.proofs.Common.{◌≡◌, ◌+◌, ℕ, List, ap, drop, reverse}
use Rattle.std.proofs.lemmas.List.{reverse-reverse}
use Rattle.std.specs.List.{position}
use Rattle.std.specs.Option.{option_map}
use Rattle.desk_history.specs.declared.entries.Entry.{Entry}
use Rattle.job_desk.specs.Desks.{let_go, lets_go}

pub let_go_is : (entries : List Entry) (bench from : ℕ) → let_go (reverse entries) bench from ≡ option_map (λ place. from + place) (position (lets_go bench) (drop from entries))
let_go_is entries bench from = ap (λ (xs : List Entry). option_map (λ place. from + place) (position (lets_go bench) (drop from xs))) (reverse-reverse entries)
