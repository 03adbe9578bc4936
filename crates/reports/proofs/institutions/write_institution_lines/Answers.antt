use Rattle.std.proofs.Common.{◌<◌, length, rules, arith, [], sym}
use Rattle.std.proofs.lemmas.List.{get_or-map}
use Rattle.std.specs.Prelude.{slice_index, slice_index_or, List, ℕ}
use denote.Ref.{Bor}
use Rattle.match_rules.specs.GroupTable.{texts}
use Rattle.text_lines.specs.Texts.{line_of}
use Rattle.reports.specs.Institutions.{institution_line}
use Rattle.reports.proofs.TextLaws.{texts_more, texts_fail, texts_all}
use Rattle.reports.proofs.institutions.write_institution_lines.Goals as goal

pub write_institution-requires : goal.write_institution-requires
write_institution-requires g c =
    let below : c.loop-i.i < length c.args.names.now = omega arith in
    let at = get_or-map (λ (r : Bor (List ℕ)). r.now) c.args.names.now c.loop-i.i (record { ref_ptr = (0, 0); now = [] }) [] below in
    rw at at (c.requires.names c.loop-i.i below)

pub returns-in_err-write_institution-clause-taken : goal.returns-in_err-write_institution-clause-taken
returns-in_err-write_institution-clause-taken g c =
    let below : c.loop-i.i < length c.args.names.now = omega arith in
    let name = get_or-map (λ (r : Bor (List ℕ)). r.now) c.args.names.now c.loop-i.i (record { ref_ptr = (0, 0); now = [] }) [] below in
    let adds = rw (sym name) at c.in_err-write_institution.ensures.taken in
    texts_fail (λ i. line_of (institution_line (slice_index_or (texts c.args.names.now) i []) (slice_index c.args.sums.now i))) (length c.args.names.now) c.loop-i.i _ _ _ _ _ below
    c.loop-i.invariant.front adds c.from_residual.ensures.0

pub loop-i-preserved : goal.loop-i-preserved
loop-i-preserved g c =
    let below : c.loop-i.i < length c.args.names.now = omega arith in
    let name = get_or-map (λ (r : Bor (List ℕ)). r.now) c.args.names.now c.loop-i.i (record { ref_ptr = (0, 0); now = [] }) [] below in
    let adds = rw (sym name) at c.in_ok-write_institution.ensures.taken in
    record {
      front = texts_more (λ i. line_of (institution_line (slice_index_or (texts c.args.names.now) i []) (slice_index c.args.sums.now i))) c.loop-i.i _ _ _ _ c.loop-i.invariant.front adds;
      later = search rules;
    }

pub returns-clause-taken : goal.returns-clause-taken
returns-clause-taken g c =
    texts_all (λ i. line_of (institution_line (slice_index_or (texts c.args.names.now) i []) (slice_index c.args.sums.now i))) (length c.args.names.now) c.loop-i.i _ _ _ (omega arith) c.loop-i.invariant.front
