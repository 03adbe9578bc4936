use Rattle.std.proofs.Common.{sym, ◌∙◌}
use Rattle.match_rules.specs.Id.{is_id, is_id_char}
use Rattle.match_rules.proofs.IdLaws.{is_name-length, is_name-chars}
use Rattle.match_rules.proofs.ids.is_id_text.Goals as goal

pub returns-then-not-has_id_length : goal.returns-then-not-has_id_length
unfolding is_id
returns-then-not-has_id_length c =
    is_name-length is_id_char c.args.text.now (sym c.has_id_length.ensures ∙ c.if-not-has_id_length.true)

pub returns : goal.returns
unfolding is_id
returns c =
    rw c.has_id_chars.ensures (is_name-chars is_id_char c.args.text.now (sym c.has_id_length.ensures ∙ c.if-not-has_id_length.false) c.utf8.text)
