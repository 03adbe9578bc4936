use Rattle.std.proofs.Common.{◌≡◌, ◌∙◌, ℕ, true, List, [], ap}
use Rattle.std.specs.Prelude.{map, codes, unwrap_or}
use Rattle.std.specs.String.{string_bytes}
use Rattle.std.proofs.lemmas.Result.{IfOk-weaker, IfErr-weaker}
use Rattle.clap.specs.Words.{App, HasMatchesOf, all_of, app_of, found_of, is_simple, kind_of, matches_of, rows_of, takes}
use Rattle.clap.specs.declared.error.Error.{Error}
use Rattle.clap.specs.declared.error.kind.ErrorKind.TheVariants.{OutOfMemory}
use Rattle.clap.specs.declared.parser.matches.ArgMatches.{ArgMatches}
use Rattle.command_words.specs.Parsers.{words_app}
use Rattle.command_words.proofs.Walks.{all_found, words_of_rows, is_simple_parser, all_taken}
use Rattle.command_words.proofs.found.find_words.Goals as goal

pub returns-clause-found : goal.returns-clause-found
returns-clause-found c =
    let words : List (List ℕ) = map string_bytes c.args.words.now in
    let same : app_of c.in_ok-parser.parser ≡ words_app = c.in_ok-parser.ensures in
    IfOk-weaker c.try_get_matches_from.result (HasMatchesOf (app_of c.in_ok-parser.parser) words)
    (λ (m : ArgMatches). unwrap_or (all_of (codes "word") (rows_of (found_of m))) [] ≡ words)
    (λ m has.
    let is_simple_app : is_simple (app_of c.in_ok-parser.parser) ≡ true = ap is_simple same ∙ is_simple_parser in
    let rows_are = (has is_simple_app).0 ∙ ap (λ (a : App). matches_of a words) same ∙ all_found words c.requires in
    rw rows_are (words_of_rows words))
    c.try_get_matches_from.ensures.matches

pub returns-clause-memory : goal.returns-clause-memory
returns-clause-memory c =
    let words : List (List ℕ) = map string_bytes c.args.words.now in
    let same : app_of c.in_ok-parser.parser ≡ words_app = c.in_ok-parser.ensures in
    IfErr-weaker c.try_get_matches_from.result (λ (e : Error). takes (app_of c.in_ok-parser.parser) words ≡ true → kind_of e ≡ OutOfMemory)
    (λ (e : Error). kind_of e ≡ OutOfMemory)
    (λ e memory. memory (ap (λ (a : App). takes a words) same ∙ all_taken words c.requires))
    c.try_get_matches_from.ensures.passes
