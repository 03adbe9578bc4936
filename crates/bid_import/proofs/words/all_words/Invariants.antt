use Rattle.std.proofs.Common.{◌≡◌}
use Rattle.toml.specs.View.{members_view}
use Rattle.bid_import.specs.Settings.{word_from, entries, each}
use Rattle.bid_import.proofs.Documents.{after}
use Rattle.bid_import.proofs.words.all_words.Given as goal

abbrev pub invariant-loop-key : goal.invariant-loop-key
invariant-loop-key l =
    (goal.iterator-loop-key).can_next l.key-iterator ×
    (goal.iterator-loop-key).is_finite l.key-iterator ×
    (each word_from (entries (members_view l.table.entries)) ≡ after word_from l.words.items (entries (members_view l.key-iterator)))
