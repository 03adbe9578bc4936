use Rattle.std.proofs.Common.{◌≡◌, ◌<◌, length, true≢false, is_eq, sym, ap, ◌∙◌}
use Rattle.roster.specs.Table.{id_cmp}
use Rattle.roster.proofs.Tables.{place-of-row, place-within, row-of-place}
use Rattle.roster.proofs.table.has_at.Goals as goal

pub returns-in-Some : goal.returns-in-Some
returns-in-Some g c =
    let key_of = g.R.Row.key in
    let id = c.args.id.now in
    let rows = c.args.rows.now in
    let row = c.in-Some.row.now in
    let at = c.in-Some.ensures.lookup in
    let same : c.is_eq.result ≡ is_eq (id_cmp (key_of row) id) = c.is_eq.ensures ∙ ap is_eq (c.cmp.ensures ∙ ap (λ k. id_cmp k id) c.key.ensures) in (
      λ found. place-of-row key_of id rows c.args.place row c.requires at.3.0 at.1 (sym same ∙ found),
      λ placed. same ∙ ap (λ r. is_eq (id_cmp (key_of r) id)) at.1 ∙ row-of-place key_of id rows c.args.place row placed,
    )

pub returns-in-None : goal.returns-in-None
returns-in-None g c = (
  λ found. absurd cc,
  λ placed. let within : c.args.place < length c.args.rows.now = place-within g.R.Row.key c.args.id.now c.args.rows.now c.args.place placed in absurd (true≢false (sym (c.in-None.ensures.lookup.2 within))),
)
