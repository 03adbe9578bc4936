use Rattle.std.proofs.Common.{string_bytes, rules}
use Rattle.std.proofs.lemmas.Map.Made.{filter_same_pairs}
use Rattle.score_spec.specs.Scores.{has_values}
use Rattle.score_spec.proofs.TextMaps.{entries-filter}
use Rattle.score_spec.proofs.scores.keep_tables.Goals as goal

pub returns : goal.returns
returns c =
    let kept = filter_same_pairs _ (λ e. has_values c.args.sources.now (string_bytes e.0)) _ (λ k v b w f t. search rules) c.tables.inside.map.entries c.retain.new.self.entries c.retain.ensures.filtered in
    rw (kept, ← c.tables.view_is) (entries-filter (has_values c.args.sources.now) c.tables.inside.map.entries)
