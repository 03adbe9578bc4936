use Rattle.std.proofs.Common.{◌≡◌, ◌∙◌, ℕ, List, Option, Some, None, sym, ap, refl}
use Rattle.std.specs.Prelude.{map, codes, option_map}
use Rattle.std.specs.Borrow.{Bor}
use Rattle.clap.specs.Words.{all_of, found_of, rows_of}
use Rattle.clap.proofs.WalkLemmas.{raw_values-rows}
use Rattle.command_words.proofs.words.command_found.Goals as goal

abbrev words_in : Option (Bor (List (Bor (List ℕ)))) → Option (List (List ℕ))
words_in = option_map (λ words. map (λ word. word.now) words.now)

pub returns-in-Some : goal.returns-in-Some
returns-in-Some c =
    let is : all_of (codes "word") (rows_of (found_of c.args.matches.now)) ≡ words_in (Some c.in-Some.words) =
    sym (c.get_strs.ensures ∙ raw_values-rows (found_of c.args.matches.now) (codes "word")) ∙ ap words_in c.in-Some.is in
    rw is c.command_of_plain.ensures

pub returns-in-None : goal.returns-in-None
returns-in-None c =
    let is : all_of (codes "word") (rows_of (found_of c.args.matches.now)) ≡ words_in None =
    sym (c.get_strs.ensures ∙ raw_values-rows (found_of c.args.matches.now) (codes "word")) ∙ ap words_in c.in-None.is in
    rw is refl
