use Rattle.std.proofs.Common.{◌≡◌, ◌+◌, ap, ◌∙◌, sym, rules}
use Rattle.venue_rules.specs.VenueRules.{rules_of}
use Rattle.desk_history.specs.declared.tables.Tables.{Tables}
use Rattle.desk_history.specs.Histories.{edits, jobs, made_or, present}
use Rattle.desk_history.proofs.tables.Tables.note_edit.Goals as goal

pub returns : goal.returns
returns c H caller number base edit reply read more makes ruled are =
    let counted : c.count.new.self.edits ≡ edits H = ap (λ (t : Tables). t.edits) c.count.ensures ∙ are.edits in
    let listed : c.count.new.self.jobs.items ≡ jobs H = ap (λ (t : Tables). t.jobs.items) c.count.ensures ∙ are.jobs in
    record {
      venue = sym (ap (made_or (present H)) makes);
      rules = ap (λ v. rules_of (made_or (present H) v)) makes ∙ ruled;
      edits = ap (λ n. n + 1) counted;
      commands = ap (λ (t : Tables). t.commands) c.count.ensures ∙ ap (λ n. n + 1) are.commands;
      bytes = ap (λ (t : Tables). t.bytes) c.count.ensures ∙ cc (are.bytes, more);
      jobs = search (rules, counted, listed);
      publications = ap (λ (t : Tables). t.publications.items) c.count.ensures ∙ are.publications;
      bench_count = search (rules, are.bench_count, c.count.ensures);
      benches = search (rules, are.benches, c.count.ensures);
    }
