use Rattle.std.proofs.Common.{List, ◌<◌, Some, ap, ◌∙◌, subst, length-set, sym}
use Rattle.desk_history.specs.declared.jobs.Job.{Job}
use Rattle.desk_history.specs.Outcomes.{Takes}
use Rattle.desk_history.specs.Histories.{changed, with_nth}
use Rattle.desk_history.proofs.TableLaws.{bench_put}
use Rattle.desk_history.proofs.tables.Tables.note_take.Goals as goal

pub returns : goal.returns
returns c H are = record {
  venue = are.venue;
  rules = are.rules;
  edits = are.edits;
  commands = are.commands;
  bytes = are.bytes;
  jobs = c.take.ensures ∙ ap (λ (js : List Job). with_nth js c.args.job (changed Takes)) are.jobs;
  publications = are.publications;
  bench_count = length-set c.args.self.now.benches c.args.bench (Some c.args.job) ∙ are.bench_count;
  benches = λ at lt. bench_put H c.args.self.now.benches c.args.bench (Some c.args.job) (subst (λ n. c.args.bench < n) (sym are.bench_count) c.requires) at (are.benches at lt);
}
