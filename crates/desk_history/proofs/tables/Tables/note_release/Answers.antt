use Rattle.std.proofs.Common.{List, ℕ, Option, get_or, ◌<◌, None, ap, ◌∙◌, subst, length-set, sym}
use Rattle.desk_history.specs.declared.jobs.Job.{Job}
use Rattle.desk_history.specs.Outcomes.{Releases}
use Rattle.desk_history.specs.Histories.{changed, jobs, with_held}
use Rattle.desk_history.proofs.TableLaws.{bench_put}
use Rattle.desk_history.proofs.tables.Tables.note_release.Goals as goal

pub returns-clause-tables : goal.returns-clause-tables
returns-clause-tables c H are = record {
  venue = are.venue;
  rules = are.rules;
  edits = are.edits;
  commands = are.commands;
  bytes = are.bytes;
  jobs = c.release_held.ensures ∙ ap (λ (js : List Job). with_held js (get_or c.args.self.now.benches c.args.bench None) (changed Releases)) are.jobs ∙ ap (λ (h : Option ℕ). with_held (jobs H) h (changed Releases)) (are.benches c.args.bench c.requires);
  publications = are.publications;
  bench_count = length-set c.args.self.now.benches c.args.bench None ∙ are.bench_count;
  benches = λ at lt. bench_put H c.args.self.now.benches c.args.bench None (subst (λ n. c.args.bench < n) (sym are.bench_count) c.requires) at (are.benches at lt);
}
